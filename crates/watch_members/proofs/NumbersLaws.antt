-- Tables of the radios on, filled or changed from the first on, and the number that each radio has from its place.
use Rattle.std.proofs.Common.{◌≡◌, ℕ, ◌+◌, ◌-◌, ◌*◌, ◌<◌, ◌≤◌, Bool, false, eqb, List, length, get_or, set, replicate, sym, refl, ap, ◌∙◌, ap₂, arith, length-set, get_or-set_other, get_or-set_same, eqb-true}
use borrow.Author.Tests.{eqb-false}
use Rattle.terms.specs.Terms.{Place, max_on}
use Rattle.lists.specs.Tests.{one_if}
use Rattle.lists.proofs.BitsLaws.{bits-lt}
use Rattle.lists.proofs.Cases.{by_cases}
use Rattle.lists.proofs.SlotsLaws.{same_at}
use Rattle.rules.specs.Grid.{Rect, covers}
use Rattle.rules.specs.Watches.{max_watches}
use Rattle.desk.specs.declared.Watch.{Watch as DeskWatch}
use Rattle.desk.specs.Layout.{no_watch}
use Rattle.desk.specs.Views.{area_in}
use Rattle.watches.proofs.UpdateLaws.{bits_from, from_end, from_turn, from_start, bits_room}
use Rattle.watch_members.specs.Members.{Filled, place_at, Numbers, taken_in}

-- ---- filled from the first on

pub filled_none : {A : Type 0} {f : ℕ → A} {d : A} {xs : List A} → Filled f d 0 xs
filled_none = record { at = λ i h. absurd (omega arith) }

pub filled_turn : {A : Type 0} {f : ℕ → A} {d : A} {i : ℕ} {xs : List A} (v : A) → Filled f d i xs → i < length xs → v ≡ f i → Filled f d (i + 1) (set xs i v)
filled_turn {f = f} {d = d} {i} {xs} v t h e = record {
  at = λ j k. by_cases (eqb j i)
      (λ q. let z = eqb-true j i q in ap (λ (n : ℕ). get_or (set xs i v) n d) z ∙ get_or-set_same xs i v d h ∙ e ∙ ap f (sym z))
      (λ q. let z = eqb-false j i q in get_or-set_other xs i j v d z ∙ t.at j (omega (arith, z)));
}

pub filled_end : {A : Type 0} {f : ℕ → A} {d : A} {n i : ℕ} {xs : List A} → Filled f d i xs → n ≤ i → Filled f d n xs
filled_end t h = record { at = λ j k. t.at j (omega arith) }

pub none_Numbered : (n : ℕ) → Numbers (λ i. 0) n (replicate max_on 0)
none_Numbered n = record { at = λ i h. same_at 0 max_on i }

-- ---- changed from the first on

-- those from i on are as they were
pub record Changed (f : ℕ → ℕ) (before : List ℕ) (i : ℕ) (xs : List ℕ) : Type 0 where
  pub size : length xs ≡ max_on
  pub done : Numbers f i xs
  pub left : (j : ℕ) → i ≤ j → get_or xs j 0 ≡ get_or before j 0

pub Changed_start : (f : ℕ → ℕ) (xs : List ℕ) → length xs ≡ max_on → Changed f xs 0 xs
Changed_start f xs e = record { size = e; done = filled_none; left = λ j h. refl }

Changed_turn : {f : ℕ → ℕ} {before xs : List ℕ} {i : ℕ} (v : ℕ) → Changed f before i xs → i < max_on → v ≡ f i → Changed f before (i + 1) (set xs i v)
Changed_turn {xs = xs} {i = i} v t h e =
    let size = t.size in
    record {
      size = length-set xs i v ∙ t.size;
      done = filled_turn v t.done (omega arith) e;
      left = λ j k. get_or-set_other xs i j v 0 (λ z. absurd (omega arith)) ∙ t.left j (omega arith);
    }

pub Changed_room : {f : ℕ → ℕ} {before xs : List ℕ} {i n : ℕ} → Changed f before i xs → i < n → ((j : ℕ) → j < n → get_or before j 0 < 32768) → get_or xs i 0 < 32768
Changed_room {i = i} t h small = let e = t.left i (omega arith) in let s = small i h in omega arith

pub Changed_end : {f : ℕ → ℕ} {before xs : List ℕ} {n i : ℕ} → Changed f before i xs → n ≤ i → Numbers f n xs
Changed_end t h = filled_end t.done h

-- ---- one watch more

-- a radio's number and one bit below it
abbrev pub Shifted_by : Rect → List ℕ → List ℕ → List ℕ → ℕ → ℕ
Shifted_by rect easts norths numbers i = one_if (covers rect (place_at easts norths i)) + 2 * get_or numbers i 0

module _ (rect : Rect) (easts norths before : List ℕ) where
  -- the first i numbers have their bit
  abbrev pub Shifted : ℕ → List ℕ → Type 0
  Shifted i xs = Changed (Shifted_by rect easts norths before) before i xs

  pub shift_turn : {i : ℕ} {xs : List ℕ} {covered : Bool} {v : ℕ} → Shifted i xs → i < max_on → covered ≡ covers rect (place_at easts norths i) → v ≡ one_if covered + 2 * get_or xs i 0
      → Shifted (i + 1) (set xs i v)
  shift_turn {i = i} {v = v} t h c e = Changed_turn v t h (e ∙ ap₂ (λ (b : Bool) (n : ℕ). one_if b + 2 * n) c (t.left i (omega arith)))

-- ---- one watch more, that takes in nothing

abbrev pub doubled : List ℕ → ℕ → ℕ
doubled numbers i = 2 * get_or numbers i 0

pub double_turn : {before xs : List ℕ} {i v : ℕ} → Changed (doubled before) before i xs → i < max_on → v ≡ 2 * get_or xs i 0 → Changed (doubled before) before (i + 1) (set xs i v)
double_turn {i = i} {v = v} t h e = Changed_turn v t h (e ∙ ap (λ (n : ℕ). 2 * n) (t.left i (omega arith)))

pub none_Shifted : (rect : Rect) (easts norths before : List ℕ) {n : ℕ} {xs : List ℕ} → ((p : Place) → covers rect p ≡ false) → Numbers (doubled before) n xs → Numbers (Shifted_by rect easts norths before) n xs
none_Shifted rect easts norths before none t = record { at = λ i h. let z = ap one_if (none (place_at easts norths i)) in let e = t.at i h in omega arith }

-- ---- all watches, from the last down to w

abbrev pub taken_from : List DeskWatch → ℕ → Place → ℕ
taken_from vs w p = bits_from (λ v. covers (area_in (get_or vs v no_watch)) p) w

module _ (vs : List DeskWatch) (easts norths : List ℕ) where
  -- each radio's number has the bits from w on
  abbrev pub Numbered : ℕ → ℕ → List ℕ → Type 0
  Numbered n w xs = Numbers (λ i. taken_from vs w (place_at easts norths i)) n xs

  pub Numbered_start : {n : ℕ} {xs : List ℕ} → Numbers (λ i. 0) n xs → Numbered n max_watches xs
  Numbered_start t = record { at = λ i h. t.at i h ∙ from_end (λ v. covers (area_in (get_or vs v no_watch)) (place_at easts norths i)) }

  small : (w : ℕ) (p : Place) → 0 < w → taken_from vs w p < 32768
  unfolding bits_from
  small w p h = bits_room w _ h (bits-lt (max_watches - w) (λ j. covers (area_in (get_or vs (w + j) no_watch)) p))

  pub Numbered_room : {n w : ℕ} {xs : List ℕ} → Numbered n w xs → 0 < w → (i : ℕ) → i < n → get_or xs i 0 < 32768
  Numbered_room {w = w} t h i k = let e = t.at i k in let s = small w (place_at easts norths i) h in omega arith

  pub Numbered_turn : {n w : ℕ} {xs ys : List ℕ} {rect : Rect} → Numbered n w xs → 0 < w → w ≤ max_watches → rect ≡ area_in (get_or vs (w - 1) no_watch)
      → Numbers (Shifted_by rect easts norths xs) n ys → Numbered n (w - 1) ys
  Numbered_turn {w = w} t h k e u = record {
    at = λ i j. u.at i j ∙ ap₂ (λ (a : Rect) (v : ℕ). one_if (covers a (place_at easts norths i)) + 2 * v) e (t.at i j)
        ∙ from_turn (λ v. covers (area_in (get_or vs v no_watch)) (place_at easts norths i)) w h k;
  }

  pub Numbered_end : {n w : ℕ} {xs : List ℕ} → Numbered n w xs → w ≡ 0 → Numbers (λ i. taken_in vs (place_at easts norths i)) n xs
  Numbered_end t z = record { at = λ i h. t.at i h ∙ ap (λ (v : ℕ). taken_from vs v (place_at easts norths i)) z ∙ from_start (λ v. covers (area_in (get_or vs v no_watch)) (place_at easts norths i)) }
