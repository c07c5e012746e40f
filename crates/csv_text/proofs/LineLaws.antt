-- What the writers of a line leave: its fields side by side, and how many bytes they take.
use mathlib.Core.List.{List, [], ◌∷◌, ◌++◌, append_assoc}
use mathlib.Core.Path.{◌≡◌, ap, ◌∙◌}
use Prim.Native.Nat.{ℕ, ◌+◌, ◌≤◌}
use native.Mathlib.Omega.{arith}
use lib.ListN.{length, set, length-append}
use Rattle.terms.specs.Terms.{fix_at}
use Rattle.terms.specs.Values.{fix_of}
use Rattle.terms.specs.declared.Fix.{Fix as HeldFix}
use borrow.Rule.Slice.PartMut.{put_mid}
use Rattle.std.proofs.lemmas.List.{drop-drop}
use Rattle.lists.specs.Parts.{put}
use Rattle.lists.proofs.PartsLaws.{put_snoc, put_then}
use Rattle.csv_grammar.specs.Csv.{comma, carriage_return, line_feed, decimal, line_with, line_of}
use Rattle.csv_text.proofs.NumberLaws.{length-decimal-le}

-- ---- lengths

length-line_with : (r e n m : List ℕ) → length (line_with r e n m) ≡ length r + length e + length n + length m + 5
unfolding line_with
length-line_with r e n m = simp length-append (omega arith)

pub length-line_of : (r e n m : ℕ)
    → length (line_of (record { key = r; val = fix_at e n m })) ≡ length (decimal r) + length (decimal e) + length (decimal n) + length (decimal m) + 5
unfolding line_of
length-line_of r e n m = length-line_with (decimal r) (decimal e) (decimal n) (decimal m)

-- the sum of the digits is the line's length
pub line_takes : (r e n m : ℕ) {a b c d : ℕ} → a ≡ length (decimal r) → b ≡ length (decimal e) → c ≡ length (decimal n) → d ≡ length (decimal m)
    → a + b + c + d + 5 ≡ length (line_of (record { key = r; val = fix_at e n m }))
line_takes r e n m f g h k = omega (arith, length-line_of r e n m)

pub length-line_of-le : (r : ℕ) (f : HeldFix) → length (line_of (record { key = r; val = fix_of f })) ≤ 45
length-line_of-le r f =
    let p = f.place in
    omega (arith, length-line_of r p.east p.north f.minute, length-decimal-le r, length-decimal-le p.east, length-decimal-le p.north, length-decimal-le f.minute)

-- ---- writes in a row

-- bytes copied into a part of the buffer
pub copied : (xs : List ℕ) (at k : ℕ) {ys : List ℕ} (zs : List ℕ) → ys ≡ zs → k ≡ length zs → put_mid at k xs ys ≡ put xs at zs
unfolding put
copied xs at k zs e h = rw (e, h, drop-drop)

pub field_put : (xs : List ℕ) {ys : List ℕ} (at n : ℕ) {b : ℕ} → at + length (decimal n) + 1 ≤ length xs → ys ≡ put xs at (decimal n) → b ≡ at + length (decimal n)
    → set ys b comma ≡ put xs at (decimal n ++ (comma ∷ []))
field_put xs at n h e f = rw (e, f) (put_snoc xs at (decimal n) comma (omega arith))

length_field : (n : ℕ) → length (decimal n ++ (comma ∷ [])) ≡ length (decimal n) + 1
length_field n = length-append (decimal n) (comma ∷ [])

-- fields a, b and c, the minute and the end, side by side
line_parts : (r e n m : ℕ)
    → ((((decimal r ++ (comma ∷ [])) ++ (decimal e ++ (comma ∷ []))) ++ (decimal n ++ (comma ∷ []))) ++ decimal m) ++ (carriage_return ∷ line_feed ∷ [])
    ≡ line_of (record { key = r; val = fix_at e n m })
unfolding line_of line_with
line_parts r e n m = simp append_assoc

pub line_put : (xs : List ℕ) {p q s t u : List ℕ} (at r e n m : ℕ) {a b c d : ℕ} → at + length (line_of (record { key = r; val = fix_at e n m })) ≤ length xs
    → (p ≡ put xs at (decimal r ++ (comma ∷ []))) × (a ≡ at + length (decimal r) + 1)
    → (q ≡ put p a (decimal e ++ (comma ∷ []))) × (b ≡ a + length (decimal e) + 1)
    → (s ≡ put q b (decimal n ++ (comma ∷ []))) × (c ≡ b + length (decimal n) + 1)
    → (t ≡ put s c (decimal m)) × (d ≡ c + length (decimal m))
    → u ≡ put t d (carriage_return ∷ line_feed ∷ [])
    → u ≡ put xs at (line_of (record { key = r; val = fix_at e n m }))
line_put xs at r e n m h f g i j k =
    let l = length-line_of r e n m in
    let lr = length_field r in
    let le = length_field e in
    let ln = length_field n in
    let two = put_then xs at _ _ f.0 g.0 (omega arith) (omega arith) in
    let three = put_then xs at _ _ two i.0 (simp length-append (omega arith)) (omega arith) in
    let four = put_then xs at _ _ three j.0 (simp length-append (omega arith)) (omega arith) in
    put_then xs at _ _ four k (simp length-append (omega arith)) (omega arith) ∙ ap (put xs at) (line_parts r e n m)
