-- The loops of the test of the watches, and what the tests come to.
use mathlib.Core.Bool.{Bool, true, false, ◌&&◌}
use mathlib.Core.List.{List, [], ◌∷◌}
use Rattle.std.specs.Prelude.{None, Some}
use mathlib.Core.Path.{◌≡◌, refl, sym, ap, ap₂, ◌∙◌}
use Prim.Native.Nat.{ℕ, zero, suc, ◌+◌, ◌≤◌, ◌<◌}
use native.Mathlib.Omega.{arith}
use lib.Dec.{eqb}
use lib.ListN.{length, get_or, replicate, length-replicate, get_or-replicate}
use lib.Seq.{ext_get_or}
use borrow.Author.Tests.{eqb-true, eqb-false, eq-eqb}
use Rattle.std.specs.Cmp.Lexicographic.{pointwise, bytes_decides}
use Rattle.std.specs.Bool.{Decides}
use Rattle.std.proofs.lemmas.Slice.Eq.{slice_eq-Decides}
use Rattle.lists.specs.Tests.{all, either, Each}
use Rattle.lists.proofs.Cases.{by_cases, false-true}
use Rattle.lists.proofs.TestsLaws.{and_both, both_left, both_right, both_intro}
use Rattle.rules.specs.Grid.{Rect, is_reversed}
use Rattle.rules.specs.Store.{Store}
use Rattle.rules.specs.Watches.{max_watches, Watch, watch_at, latest_place, NotReversed}
use Rattle.desk.specs.declared.Watch.{Watch as DeskWatch}
use Rattle.desk.specs.Layout.{member_words, area_of, unset_watch, no_watch, watches_of}
use Rattle.desk.specs.Views.{area_in, watches_in}
use Rattle.desk.proofs.WatchesLaws.{area_laid, laid_at, length_in, watches_read, blank_watches}
use Rattle.sound_watches.specs.Sound.{WatchesSound}

-- ---- none is reversed, as far as w

abbrev pub Upright : List DeskWatch → ℕ → Type 0
Upright vs w = (v : ℕ) → v < w → is_reversed (area_in (get_or vs v no_watch)) ≡ false

pub Upright_start : (vs : List DeskWatch) → Upright vs 0
Upright_start vs v h = absurd (omega arith)

pub Upright_turn : (vs : List DeskWatch) (w : ℕ) {r : Bool} {a : Rect} → Upright vs w → r ≡ is_reversed a → a ≡ area_in (get_or vs w no_watch) → r ≡ false → Upright vs (w + 1)
Upright_turn vs w u e f t v h =
    by_cases (eqb v w)
    (λ z. ap (λ (n : ℕ). is_reversed (area_in (get_or vs n no_watch))) (eqb-true v w z) ∙ ap is_reversed (sym f) ∙ sym e ∙ t)
    (λ z. let n = eqb-false v w z in u v (omega arith))

pub reversed_then : (vs : List DeskWatch) (w : ℕ) {r : Bool} {a : Rect} → w < max_watches → r ≡ is_reversed a → a ≡ area_in (get_or vs w no_watch) → r ≡ true
    → (false ≡ true → Upright vs max_watches) × (Upright vs max_watches → false ≡ true)
reversed_then vs w h e f t = (λ z. false-true z, λ u. sym (u w h) ∙ ap is_reversed (sym f) ∙ sym e ∙ t)

pub Upright_end : (vs : List DeskWatch) (w : ℕ) → Upright vs w → max_watches ≤ w → (true ≡ true → Upright vs max_watches) × (Upright vs max_watches → true ≡ true)
Upright_end vs w u h = (λ _ v i. u v (omega arith), λ _. refl)

-- ---- one that is zero throughout

left : (x y : Bool) → (x && y) ≡ true → x ≡ true
left x y t = both_left x y (sym (and_both x y) ∙ t)

right : (x y : Bool) → (x && y) ≡ true → y ≡ true
right x y t = both_right x y (sym (and_both x y) ∙ t)

zeros : (xs : List ℕ) → all (λ x. eqb x 0) xs ≡ true → xs ≡ replicate (length xs) 0
unfolding all
zeros [] e = refl
zeros (x ∷ xs) e = ap₂ (λ (a : ℕ) (l : List ℕ). a ∷ l) (eqb-true x 0 (both_left (eqb x 0) (all (λ y. eqb y 0) xs) e)) (zeros xs (both_right (eqb x 0) (all (λ y. eqb y 0) xs) e))

pub zero_watch : (v : DeskWatch) {clear : Bool} → length v.members ≡ member_words → clear ≡ all (λ x. eqb x 0) v.members
    → (((((eqb v.set 0 && eqb v.west 0) && eqb v.east 0) && eqb v.south 0) && eqb v.north 0) && clear) ≡ true → v ≡ unset_watch
zero_watch v {clear} l c t =
    let u = left _ clear t in
    let a = left _ (eqb v.north 0) u in
    let b = left _ (eqb v.south 0) a in
    let d = left _ (eqb v.east 0) b in
    let s = eqb-true v.set 0 (left _ (eqb v.west 0) d) in
    let w = eqb-true v.west 0 (right (eqb v.set 0) _ d) in
    let e = eqb-true v.east 0 (right (eqb v.set 0 && eqb v.west 0) _ b) in
    let o = eqb-true v.south 0 (right ((eqb v.set 0 && eqb v.west 0) && eqb v.east 0) _ a) in
    let n = eqb-true v.north 0 (right (((eqb v.set 0 && eqb v.west 0) && eqb v.east 0) && eqb v.south 0) _ u) in
    let m = zeros v.members (sym c ∙ right ((((eqb v.set 0 && eqb v.west 0) && eqb v.east 0) && eqb v.south 0) && eqb v.north 0) clear t) ∙ ap (λ (k : ℕ). replicate k 0) l in
    λ i. record { set = s i; west = w i; east = e i; south = o i; north = n i; members = m i }

-- the first w of them
abbrev pub Unset : List DeskWatch → ℕ → Type 0
Unset vs w = (v : ℕ) → v < w → get_or vs v no_watch ≡ unset_watch

pub Unset_start : (vs : List DeskWatch) → Unset vs 0
Unset_start vs v h = absurd (omega arith)

pub Unset_turn : (vs : List DeskWatch) (w : ℕ) → Unset vs w → get_or vs w no_watch ≡ unset_watch → Unset vs (w + 1)
Unset_turn vs w u e v h =
    by_cases (eqb v w)
    (λ z. ap (λ (n : ℕ). get_or vs n no_watch) (eqb-true v w z) ∙ e)
    (λ z. let n = eqb-false v w z in u v (omega arith))

pub Unset_end : (vs : List DeskWatch) (w : ℕ) → length vs ≡ max_watches → Unset vs w → max_watches ≤ w → vs ≡ replicate max_watches unset_watch
Unset_end vs w l u h =
    ext_get_or no_watch vs (replicate max_watches unset_watch) (l ∙ sym (length-replicate {A = DeskWatch} max_watches unset_watch))
    (λ v i. u v (omega (arith, l)) ∙ sym (get_or-replicate max_watches v unset_watch no_watch (omega (arith, l))))

-- ---- the derived test of two

abbrev same : DeskWatch → DeskWatch → Bool
same a b = eqb a.set b.set && (eqb a.west b.west && (eqb a.east b.east && (eqb a.south b.south && (eqb a.north b.north && pointwise eqb a.members b.members))))

same_decides : (a b : DeskWatch) → Decides (same a b) (a ≡ b)
same_decides a b = (there, back)
  where
    join : {x y : Bool} → x ≡ true → y ≡ true → (x && y) ≡ true
    join {x} {y} t u = and_both x y ∙ both_intro t u

    there : same a b ≡ true → a ≡ b
    there t =
        let u = right (eqb a.set b.set) _ t in
        let v = right (eqb a.west b.west) _ u in
        let w = right (eqb a.east b.east) _ v in
        let x = right (eqb a.south b.south) _ w in
        let y = right (eqb a.north b.north) _ x in
        let s = eqb-true a.set b.set (left _ _ t) in
        let p = eqb-true a.west b.west (left _ _ u) in
        let q = eqb-true a.east b.east (left _ _ v) in
        let r = eqb-true a.south b.south (left _ _ w) in
        let n = eqb-true a.north b.north (left _ _ x) in
        let m = (bytes_decides a.members b.members).0 y in
        λ i. record { set = s i; west = p i; east = q i; south = r i; north = n i; members = m i }

    back : a ≡ b → same a b ≡ true
    back e =
        join (eq-eqb a.set b.set (ap (λ (x : DeskWatch). x.set) e)) (join (eq-eqb a.west b.west (ap (λ (x : DeskWatch). x.west) e))
        (join (eq-eqb a.east b.east (ap (λ (x : DeskWatch). x.east) e)) (join (eq-eqb a.south b.south (ap (λ (x : DeskWatch). x.south) e))
        (join (eq-eqb a.north b.north (ap (λ (x : DeskWatch). x.north) e)) ((bytes_decides a.members b.members).1 (ap (λ (x : DeskWatch). x.members) e))))))

pub watches_decide : (vs xs : List DeskWatch) (r : Bool) → r ≡ pointwise same vs xs → Decides r (vs ≡ xs)
watches_decide vs xs r e = slice_eq-Decides same_decides vs xs r e

-- ---- the tests put together

-- a watch is not reversed exactly if its rectangle is not, for one that is not set has the rectangle 0
not_reversed : (watch : Watch) → is_reversed (area_of watch) ≡ false → NotReversed watch
not_reversed None e = tt
not_reversed (Some rect) e = e

reversed_not : (watch : Watch) → NotReversed watch → is_reversed (area_of watch) ≡ false
unfolding either
reversed_not None e = refl
reversed_not (Some rect) e = e

Each_at : (l : List Watch) → ((v : ℕ) → v < length l → NotReversed (watch_at l v)) → Each NotReversed l
Each_at [] f = tt
Each_at (x ∷ l) f = (f 0 (omega arith), Each_at l (λ v h. f (suc v) (omega arith)))

at_Each : (l : List Watch) → Each NotReversed l → (v : ℕ) → v < length l → NotReversed (watch_at l v)
at_Each [] e v h = absurd (omega arith)
at_Each (x ∷ l) e zero h = e.0
at_Each (x ∷ l) e (suc v) h = at_Each l e.1 v (omega arith)

none_set : (n : ℕ) → Each NotReversed (replicate n None)
none_set zero = tt
none_set (suc n) = (tt, none_set n)

module _ (s : Store) (vs : List DeskWatch) (long : length vs ≡ max_watches) where
  abbrev there : List Watch
  there = watches_in vs

  sixteen : length there ≡ max_watches
  sixteen = length_in vs ∙ long

  -- the array is the one that its own rectangles call for
  right_there : vs ≡ watches_of (latest_place s) there → Upright vs max_watches → WatchesSound s vs
  right_there e u = record {
    watches = there;
    right = record {
      sixteen = sixteen;
      none_reversed = Each_at there (λ v h. not_reversed (watch_at there v)
          (ap is_reversed (sym (ap area_in (ap (λ (z : List DeskWatch). get_or z v no_watch) e ∙ laid_at (latest_place s) there v no_watch h) ∙ area_laid (latest_place s) (watch_at there v)))
          ∙ u v (omega (arith, sixteen))));
    };
    held = e;
  }

  -- and a sound one is
  sound_there : (k : WatchesSound s vs) → there ≡ k.watches
  sound_there k = ap watches_in k.held ∙ watches_read (latest_place s) k.watches

  sound_Upright : WatchesSound s vs → Upright vs max_watches
  sound_Upright k v h =
      let i : v < length k.watches = omega (arith, k.right.sixteen) in
      ap (λ (z : List DeskWatch). is_reversed (area_in (get_or z v no_watch))) k.held
      ∙ ap (λ (x : DeskWatch). is_reversed (area_in x)) (laid_at (latest_place s) k.watches v no_watch i) ∙ ap is_reversed (area_laid (latest_place s) (watch_at k.watches v))
      ∙ reversed_not (watch_at k.watches v) (at_Each k.watches k.right.none_reversed v i)

  -- no watch is set
  clear_sound : vs ≡ replicate max_watches unset_watch → WatchesSound s vs
  clear_sound e = record {
    watches = replicate max_watches None;
    right = record { sixteen = refl; none_reversed = none_set max_watches };
    held = e ∙ sym (blank_watches (latest_place s) max_watches);
  }

  pub clear_returns : {a : Bool} → (a ≡ true → vs ≡ replicate max_watches unset_watch) → a ≡ true → (true ≡ true → WatchesSound s vs) × (WatchesSound s vs → true ≡ true)
  clear_returns f t = (λ _. clear_sound (f t), λ _. refl)

  module _ {a : Bool} (up : (a ≡ true → Upright vs max_watches) × (Upright vs max_watches → a ≡ true)) where
    pub right_returns : a ≡ false → (false ≡ true → WatchesSound s vs) × (WatchesSound s vs → false ≡ true)
    right_returns t = (λ z. false-true z, λ k. sym t ∙ up.1 (sound_Upright k))

    pub Same_returns : {r : Bool} {laid : List DeskWatch} → a ≡ true → laid ≡ watches_of (latest_place s) there → r ≡ pointwise same vs laid
        → (r ≡ true → WatchesSound s vs) × (WatchesSound s vs → r ≡ true)
    Same_returns {r} {laid} t e f = let k = watches_decide vs laid r f in (λ z. right_there (k.0 z ∙ e) (up.0 t), λ y. k.1 (y.held ∙ ap (watches_of (latest_place s)) (sym (sound_there y)) ∙ sym e))
