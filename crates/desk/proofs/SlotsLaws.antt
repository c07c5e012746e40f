-- Rows in an array whose unused slots hold one value: what a place opened or closed there and stores do to the rows.
use mathlib.Core.List.{List, [], ◌∷◌, ◌++◌, map}
use mathlib.Core.Path.{◌≡◌, refl, sym, ap, ap₂, ◌∙◌}
use Prim.Native.Nat.{ℕ, zero, suc, ◌+◌, ◌-◌, ◌≤◌, ◌<◌}
use native.Mathlib.Nat.{le_of_suc-le-suc, not-suc-le-zero}
use native.Mathlib.Numerals.{add-one}
use native.Mathlib.Omega.{arith}
use lib.ListN.{length, get_or, set, take, drop, replicate, replicate-append-replicate, length-map, length-append, length-take, length-drop, length-set, length-replicate, take-append-drop, get_or-append}
use lib.Seq.{drop-append-add, set-append_left, set_split, drop-set-lt, drop_at, drop-drop, take-set-le, take-suc-set, length-take-le}
use Rattle.lists.specs.Parts.{part, insert_at, remove_at}
use Rattle.lists.specs.Rows.{Row, Rows}
use Rattle.lists.proofs.MapLaws.{map-set, map-insert_at, map-remove_at}
use Rattle.lists.proofs.PartsLaws.{length-part, drop-put}
use Rattle.lists.proofs.ShiftLaws.{Opened, open_end, Closed, close_end}
use Rattle.desk.specs.Layout.{slotted}
use Rattle.desk.proofs.UniqueLaws.{take-slotted}

-- ---- lists

pub length-insert_at : {A : Type 0} (l : List A) (a : ℕ) (v : A) → length (insert_at l a v) ≡ length l + 1
unfolding insert_at
length-insert_at l a v = simp (length-append, length-take, length-drop) (omega arith)

pub length-remove_at : {A : Type 0} (l : List A) (a : ℕ) → a < length l → length (remove_at l a) ≡ length l - 1
unfolding remove_at
length-remove_at l a h = simp (length-append, length-take, length-drop) (omega arith)

-- past the place that was opened, or closed, nothing changes
pub open_rest : {A : Type 0} {xs ys : List A} {n : ℕ} (a : ℕ) (v : A) → Opened xs n a ys → drop (n + 1) (set ys a v) ≡ drop (n + 1) xs
open_rest {A} {xs} {ys} {n} a v d =
    let f = d.fits in
    let g = d.low in
    let l : length (part xs a (n - a)) ≡ n - a = length-part xs a (n - a) (omega arith) in
    let q : a + 1 + length (part xs a (n - a)) ≡ n + 1 = omega arith in
    drop-set-lt (n + 1) ys a v (omega arith) ∙ rw d.list (rw q at (drop-put xs (a + 1) (part xs a (n - a)) (omega arith)))

pub close_rest : {A : Type 0} {xs ys : List A} {a : ℕ} (i : ℕ) → Closed xs a i ys → drop i ys ≡ drop i xs
close_rest {A} {xs} {ys} {a} i d =
    let f = d.fits in
    let g = d.low in
    let l : length (part xs (a + 1) (i - a)) ≡ i - a = length-part xs (a + 1) (i - a) (omega arith) in
    let q : a + length (part xs (a + 1) (i - a)) ≡ i = omega arith in
    rw d.list (rw q at (drop-put xs a (part xs (a + 1) (i - a)) (omega arith)))

pub get_or_mapped : {A B : Type 0} (f : A → B) (l : List A) (i : ℕ) (d : A) (e : B) → i < length l → get_or (map f l) i e ≡ f (get_or l i d)
get_or_mapped f [] i d e h = absurd (not-suc-le-zero h)
get_or_mapped f (x ∷ xs) zero d e h = refl
get_or_mapped f (x ∷ xs) (suc i) d e h = get_or_mapped f xs i d e (le_of_suc-le-suc h)

-- ---- slots

module _ {A : Type 0} (size : ℕ) (z : A) where
  pub length-slotted : (l : List A) → length l ≤ size → length (slotted size z l) ≡ size
  unfolding slotted
  length-slotted l h = simp (length-append, length-replicate) (omega arith)

  pub get_or-slotted : (l : List A) (i : ℕ) (d : A) → i < length l → get_or (slotted size z l) i d ≡ get_or l i d
  unfolding slotted
  get_or-slotted l i d h = get_or-append l _ d i h

  pub set-slotted : (l : List A) (i : ℕ) (v : A) → i < length l → set (slotted size z l) i v ≡ slotted size z (set l i v)
  unfolding slotted
  set-slotted l i v h = rw length-set (set-append_left l _ i v h)

  -- the slots from k on, all unused
  Slots_rest : (l : List A) (k : ℕ) → length l ≤ k → k ≤ size → drop k (slotted size z l) ≡ replicate (size - k) z
  unfolding slotted
  Slots_rest l k g h =
      let m : ℕ = k - length l in
      let e : k ≡ length l + m = omega arith in
      let q : size - length l ≡ m + (size - k) = omega arith in
      ap (λ (i : ℕ). drop i (l ++ replicate (size - length l) z)) e
      ∙ drop-append-add l _ m
      ∙ ap (λ (i : ℕ). drop m (replicate i z)) q
      ∙ rw (← replicate-append-replicate m (size - k) z) (drop_at (replicate m z) _ m (length-replicate m z))

  -- a list is in slots if its first are it, and the others unused
  slotted_from : (xs l : List A) (k : ℕ) → length l ≡ k → take k xs ≡ l → drop k xs ≡ replicate (size - k) z → xs ≡ slotted size z l
  unfolding slotted
  slotted_from xs l k e t d = sym (take-append-drop k xs) ∙ ap₂ ◌++◌ t (d ∙ rw e)

  pub open_slotted : (l : List A) (a : ℕ) (v : A) {ys : List A} → length l < size → Opened (slotted size z l) (length l) a ys → set ys a v ≡ slotted size z (insert_at l a v)
  open_slotted l a v {ys} h o =
      slotted_from (set ys a v) (insert_at l a v) (length l + 1) (length-insert_at l a v)
      (open_end a v o ∙ ap (λ (x : List A). insert_at x a v) (take-slotted size z l))
      (open_rest a v o ∙ Slots_rest l (length l + 1) (omega arith) (omega arith))

  -- the slot after the list is cleared
  clear_slot : (xs l : List A) (k : ℕ) → k < length xs → k < size → length l ≡ k → take k xs ≡ l → drop (suc k) xs ≡ replicate (size - suc k) z → set xs k z ≡ slotted size z l
  clear_slot xs l k f h e t d =
      let q : size - k ≡ suc (size - suc k) = omega arith in
      slotted_from (set xs k z) l k e
      (take-set-le k xs k z (omega arith) ∙ t)
      (ap (drop k) (set_split xs k z f) ∙ drop_at (take k xs) _ k (length-take-le k xs (omega arith)) ∙ ap (λ (r : List A). z ∷ r) d ∙ rw q)

  pub close_slotted : (l : List A) (a : ℕ) {ys : List A} → length l ≤ size → a < length l → Closed (slotted size z l) a (length l - 1) ys → set ys (length l - 1) z ≡ slotted size z (remove_at l a)
  close_slotted l a {ys} h b c =
      let k : ℕ = length l - 1 in
      let e : suc k ≡ length l = omega arith in
      let s = length-slotted l h in
      let r : drop k ys ≡ drop k (slotted size z l) = close_rest k c in
      let n : length (drop k ys) ≡ size - k = rw r (length-drop k (slotted size z l) ∙ rw s) in
      let o = length-drop k ys in
      clear_slot ys (remove_at l a) k (omega arith) (omega arith) (length-remove_at l a b)
      (close_end (length l) c b ∙ ap (λ (x : List A). remove_at x a) (take-slotted size z l))
      (rw (← add-one k) (sym (drop-drop 1 k ys) ∙ ap (drop 1) r ∙ drop-drop 1 k (slotted size z l) ∙ Slots_rest l (k + 1) (omega arith) (omega arith)))

  pub push_slotted : (l : List A) (v : A) → length l < size → set (slotted size z l) (length l) v ≡ slotted size z (l ++ (v ∷ []))
  push_slotted l v h =
      let s = length-slotted l (omega arith) in
      slotted_from (set (slotted size z l) (length l) v) (l ++ (v ∷ [])) (suc (length l)) (simp length-append (omega arith))
      (take-suc-set (slotted size z l) (length l) v (omega arith) ∙ ap (λ (x : List A). x ++ (v ∷ [])) (take-slotted size z l))
      (drop-set-lt (suc (length l)) (slotted size z l) (length l) v (omega arith) ∙ Slots_rest l (suc (length l)) (omega arith) (omega arith))

  pub skip_slotted : (l : List A) → length l < size → set (slotted size z l) (length l) z ≡ slotted size z l
  skip_slotted l h =
      let s = length-slotted l (omega arith) in
      clear_slot (slotted size z l) l (length l) (omega arith) h refl (take-slotted size z l) (Slots_rest l (suc (length l)) (omega arith) (omega arith))

-- ---- rows in slots

-- the rows l, each as g lays it out, in so many slots
pub record Slots {A Val : Type 0} (size : ℕ) (z : A) (g : Row Val → A) (l : Rows Val) (n : ℕ) (xs : List A) : Type 0 where
  pub count : n ≡ length l
  pub list : xs ≡ slotted size z (map g l)

module _ {A Val : Type 0} {size : ℕ} {z : A} {g : Row Val → A} {l : Rows Val} {n : ℕ} {xs : List A} (s : Slots size z g l n xs) where
  pub Slots_get : (i : ℕ) (d : Row Val) → i < n → get_or xs i z ≡ g (get_or l i d)
  Slots_get i d h =
      let e = s.count in
      let m = length-map l g in
      rw s.list (get_or-slotted size z (map g l) i z (omega arith) ∙ get_or_mapped g l i d z (omega arith))

  pub Slots-set : (i : ℕ) (x : Row Val) → i < n → Slots size z g (set l i x) n (set xs i (g x))
  Slots-set i x h =
      let e = s.count in
      let m = length-map l g in
      record {
        count = rw length-set e;
        list = rw (s.list, map-set g l i x) (set-slotted size z (map g l) i (g x) (omega arith));
      }

  pub Slots_open : (a : ℕ) (x : Row Val) {ys : List A} → n < size → Opened xs n a ys → Slots size z g (insert_at l a x) (n + 1) (set ys a (g x))
  Slots_open a x {ys} h o =
      let e = s.count in
      let m : length (map g l) ≡ n = length-map l g ∙ sym e in
      record {
        count = rw (length-insert_at l a x, e);
        list = rw (map-insert_at g l a x) (open_slotted size z (map g l) a (g x) {ys = ys} (rw m h) (rw (m, ← s.list) o));
      }

  pub Slots_close : (a : ℕ) {ys : List A} → n ≤ size → a < n → Closed xs a (n - 1) ys → Slots size z g (remove_at l a) (n - 1) (set ys (n - 1) z)
  Slots_close a {ys} h b c =
      let e = s.count in
      let m : length (map g l) ≡ n = length-map l g ∙ sym e in
      record {
        count = rw (length-remove_at l a (rw (← e) b), e);
        list = rw (map-remove_at g l a) (rw m at (close_slotted size z (map g l) a {ys = ys} (rw m h) (rw m b) (rw (m, ← s.list) c)));
      }
