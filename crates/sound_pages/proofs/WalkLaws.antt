-- What the walks need: a law for each turn, end or return. What is still to be tested, from the marks made, is the whole.
use mathlib.Core.Bool.{Bool, true, false}
use mathlib.Core.List.{List, ◌∷◌}
use mathlib.Core.Path.{◌≡◌, sym, ap, ◌∙◌}
use Prim.Native.Nat.{ℕ, suc, ◌+◌, ◌-◌, ◌*◌, ◌≤◌, ◌<◌}
use native.Mathlib.Numerals.{add-one}
use native.Mathlib.Omega.{arith}
use lib.Dec.{eqb}
use lib.ListN.{length, get_or, set, take, drop, replicate, drop_of_length-le}
use lib.Seq.{drop-cons}
use borrow.Author.Tests.{eq-eqb, ne_eqb, le-leb}
use Rattle.terms.specs.Terms.{pages, no_page, no_cell}
use Rattle.lists.specs.Tests.{both, all}
use Rattle.lists.specs.Words.{Bytes}
use Rattle.page.specs.Page.{page_bytes, kind_free, kind_further, next, entries}
use Rattle.page.specs.Buffer.{buffer_bytes, page_at}
use Rattle.rules.specs.Limits.{max_cells}
use Rattle.desk.specs.declared.Slot.{Slot}
use Rattle.desk.specs.Held.{Directory}
use Rattle.desk.specs.Layout.{no_slot}
use Rattle.sound_page.specs.PageTest.{is_page, last_radio, page_ok}
use Rattle.sound_page.proofs.CodeLaws.{both_no, both_next}
use Rattle.sound_pages.specs.PagesSound.{PagesSound}
use Rattle.sound_pages.specs.Walks.{Walk, no_marks, unmarked, passed, failed, chain_test, slot_test, slots_test, free_test, front_test, after_run, left_by, rest_test, pages_test}
use Rattle.std.specs.Prelude.{Option, None, Some}
use Rattle.sound_pages.proofs.MarksLaws.{unmarked_bounds}
use Rattle.sound_pages.proofs.ChainLaws.{chain_spent, chain_out, chain_bad, chain_last, chain_more, Free_spent, Free_last, Free_out, Free_bad, Free_more}
use Rattle.sound_pages.proofs.SoundLaws.{Slots_none, Slots_out, Slots_more, sound_few, test_sound, sound_test}

-- ---- an unmarked page is there

module _ (m : List Bool) (p : ℕ) {r : Bool} (test : r ≡ unmarked m p) (passed_it : r ≡ true) where
  pub unmarked_below : p < pages
  unmarked_below = (unmarked_bounds m p (sym test ∙ passed_it)).0

  pub unmarked_room : (b : List ℕ) → length b ≡ buffer_bytes → page_bytes * p + page_bytes ≤ length b
  unmarked_room b l = let h = unmarked_below in omega arith

  pub unmarked_following : p + 1 ≡ no_page → ⊥
  unmarked_following e = let h = unmarked_below in omega arith

-- ---- walk_chain

module _ (highest : ℕ) (b : List ℕ) (s : Slot) (i : ℕ) (m : List Bool) (k low p : ℕ) {t : Walk} where
  pub chain_tired : pages ≤ i → chain_test highest (pages - i) b s m k low p ≡ t → failed m ≡ t
  chain_tired h so = let q : pages - i ≡ 0 = omega arith in sym (chain_spent highest b s m k low p) ∙ rw q at so

  module _ (some : i < pages) (so : chain_test highest (pages - i) b s m k low p ≡ t) {r : Bool} (fresh : r ≡ unmarked m p) where
    again : chain_test highest (suc (pages - (i + 1))) b s m k low p ≡ t
    again = let q : suc (pages - (i + 1)) ≡ pages - i = omega arith in rw q so

    pub chain_met : r ≡ false → failed m ≡ t
    chain_met u = sym (chain_out highest (pages - (i + 1)) b s m k low p (sym fresh ∙ u)) ∙ again

    module _ (u : r ≡ true) {g : List ℕ} (page : g ≡ page_at b p) {j : ℕ} (named : j ≡ k) {v : Bool} (ok : v ≡ page_ok highest s j low g) where
      unmarked_so : unmarked m p ≡ true
      unmarked_so = sym fresh ∙ u

      ok_is : page_ok highest s k low (page_at b p) ≡ v
      ok_is = ap (page_ok highest s k low) (sym page) ∙ ap (λ (x : ℕ). page_ok highest s x low g) (sym named) ∙ sym ok

      pub chain_wrong : v ≡ false → failed m ≡ t
      chain_wrong x = sym (chain_bad highest (pages - (i + 1)) b s m k low p unmarked_so (ok_is ∙ x)) ∙ again

      module _ (x : v ≡ true) {n : ℕ} (following : n ≡ next g) where
        next_so : next (page_at b p) ≡ n
        next_so = ap next (sym page) ∙ sym following

        pub chain_ends : n ≡ no_page → passed (set m p true) ≡ t
        chain_ends y = sym (chain_last highest (pages - (i + 1)) b s m k low p unmarked_so (ok_is ∙ x) (eq-eqb _ _ (next_so ∙ y))) ∙ again

        pub chain_goes_on : (n ≡ no_page → ⊥) → {l : ℕ} → l ≡ last_radio low (entries g) → chain_test highest (pages - (i + 1)) b s (set m p true) kind_further l n ≡ t
        chain_goes_on y last =
            rw (last, page, ← next_so)
            (sym (chain_more highest (pages - (i + 1)) b s m k low p unmarked_so (ok_is ∙ x) (ne_eqb _ _ (λ z. y (sym next_so ∙ z)))) ∙ again)

-- ---- walk_run, walk_free

module _ (b : List ℕ) (fuel : ℕ) (m : List Bool) (p : ℕ) {t : Walk} where
  pub free_tired : fuel ≤ 0 → free_test fuel b m p ≡ t → record { ok = eqb p no_page; marks = m } ≡ t
  free_tired h so = let q : fuel ≡ 0 = omega arith in sym (Free_spent b m p) ∙ rw q at so

  module _ (some : 0 < fuel) (so : free_test fuel b m p ≡ t) where
    free_again : free_test (suc (fuel - 1)) b m p ≡ t
    free_again = let q : suc (fuel - 1) ≡ fuel = omega arith in rw q so

    pub free_ends : p ≡ no_page → passed m ≡ t
    free_ends e = sym (Free_last (fuel - 1) b m p (eq-eqb _ _ e)) ∙ free_again

    module _ (n : p ≡ no_page → ⊥) {r : Bool} (fresh : r ≡ unmarked m p) where
      pub free_met : r ≡ false → failed m ≡ t
      free_met u = sym (Free_out (fuel - 1) b m p (ne_eqb _ _ n) (sym fresh ∙ u)) ∙ free_again

      module _ (u : r ≡ true) {g : List ℕ} (page : g ≡ page_at b p) {v : Bool} (ok : v ≡ is_page kind_free no_cell g) where
        free_is : is_page kind_free no_cell (page_at b p) ≡ v
        free_is = ap (is_page kind_free no_cell) (sym page) ∙ sym ok

        pub free_wrong : v ≡ false → failed m ≡ t
        free_wrong x = sym (Free_bad (fuel - 1) b m p (ne_eqb _ _ n) (sym fresh ∙ u) (free_is ∙ x)) ∙ free_again

        pub free_goes_on : v ≡ true → {q : ℕ} → q ≡ next g → free_test (fuel - 1) b (set m p true) q ≡ t
        free_goes_on x following =
            ap (free_test (fuel - 1) b (set m p true)) (following ∙ ap next page)
            ∙ sym (Free_more (fuel - 1) b m p (ne_eqb _ _ n) (sym fresh ∙ u) (free_is ∙ x)) ∙ free_again

        pub free_runs_on : v ≡ true → {q k : ℕ} → q ≡ next g → q ≡ k → free_test (fuel - 1) b (set m p true) k ≡ t
        free_runs_on x following e = free_goes_on x (sym e ∙ following)

module _ (b : List ℕ) (fuel : ℕ) (m : List Bool) (p : ℕ) (m' : List Bool) {r : Option (ℕ × ℕ)} (run : after_run b m' r ≡ free_test fuel b m p) {t : Walk} (so : free_test fuel b m p ≡ t) where
  pub run_broken : r ≡ None → failed m' ≡ t
  run_broken e = sym (ap (after_run b m') e) ∙ run ∙ so

  pub run_on : {q left : ℕ} → r ≡ Some (q, left) → free_test left b m' q ≡ t
  run_on e = sym (ap (after_run b m') e) ∙ run ∙ so

pub run_less : {r : Option (ℕ × ℕ)} {q left : ℕ} (fuel : ℕ) → left_by r < fuel → r ≡ Some (q, left) → left < fuel
run_less fuel h e = omega (arith, ap left_by e)

-- ---- walk_slots

module _ (highest : ℕ) (b : List ℕ) (ss : List Slot) (m : List Bool) (i : ℕ) {t : Walk} (so : slots_test highest b m (drop i ss) ≡ t) where
  pub slots_end : length ss ≤ i → passed m ≡ t
  slots_end h = sym (Slots_none highest b m) ∙ rw (drop_of_length-le ss {i = i} h) at so

  module _ (below : i < length ss) {r : Bool} {m' : List Bool} (walk : record { ok = r; marks = m' } ≡ slot_test highest b m (get_or ss i no_slot)) where
    slots_open : slots_test highest b m (get_or ss i no_slot ∷ drop (i + 1) ss) ≡ t
    slots_open = rw (drop-cons ss i no_slot below, ← add-one i) at so

    pub slots_fail : r ≡ false → failed m' ≡ t
    slots_fail e =
        ap (λ (x : Walk). failed x.marks) walk
        ∙ sym (Slots_out highest b m (get_or ss i no_slot) (drop (i + 1) ss) (sym (ap (λ (x : Walk). x.ok) walk) ∙ e)) ∙ slots_open

    pub slots_turn : r ≡ true → slots_test highest b m' (drop (i + 1) ss) ≡ t
    slots_turn e =
        ap (λ (x : Walk). slots_test highest b x.marks (drop (i + 1) ss)) walk
        ∙ sym (Slots_more highest b m (get_or ss i no_slot) (drop (i + 1) ss) (sym (ap (λ (x : Walk). x.ok) walk) ∙ e)) ∙ slots_open

-- ---- the free chain, after the walk over the directory

module _ (b : List ℕ) (free : ℕ) (r : Bool) (m : List Bool) where
  rest_failed : r ≡ false → false ≡ rest_test b free (record { ok = r; marks = m })
  unfolding rest_test
  rest_failed e = both_no _ e

  module _ (good : r ≡ true) {f : Bool} {k : List Bool} (walk : record { ok = f; marks = k } ≡ front_test b m free) where
    rest_is : both f (all (λ x. x) k) ≡ rest_test b free (record { ok = r; marks = m })
    unfolding rest_test
    rest_is = ap (λ (x : Walk). both x.ok (all (λ y. y) x.marks)) walk ∙ both_next _ good

    rest_no_chain : f ≡ false → false ≡ rest_test b free (record { ok = r; marks = m })
    rest_no_chain e = both_no _ e ∙ rest_is

    rest_all : f ≡ true → {v : Bool} → v ≡ all (λ x. x) k → v ≡ rest_test b free (record { ok = r; marks = m })
    rest_all e g = g ∙ both_next _ e ∙ rest_is

-- ---- pages_sound

abbrev Says : ℕ → List ℕ → Directory → ℕ → Bool → Type 0
Says highest b d free r = (r ≡ true → PagesSound highest b d free) × (PagesSound highest b d free → r ≡ true)

-- the test has failed, and there are no such cells
Says_no : {highest : ℕ} {b : List ℕ} {d : Directory} {free : ℕ} → (PagesSound highest b d free → ⊥) → Says highest b d free false
Says_no n = ((λ t. let z : ◌≡◌ {A = ℕ} 0 1 = cc in absurd (omega arith)), (λ s. absurd (n s)))

pub sound_short : (highest : ℕ) (b : List ℕ) (d : Directory) (free : ℕ) → (length b ≡ buffer_bytes → ⊥) → Says highest b d free false
sound_short highest b d free n = Says_no (λ s. n s.size)

module _ (highest : ℕ) (b : List ℕ) (d : Directory) (free : ℕ) (sized : length d.slots ≡ max_cells) where
  slots : length d.slots ≡ max_cells
  slots = sized

  pub sound_many : max_cells < d.n → Says highest b d free false
  sound_many h = Says_no (λ s. omega (arith, sound_few highest b d free slots s))

  module _ (small : Bytes b) (whole : length b ≡ buffer_bytes) (few : d.n ≤ max_cells) {r : Bool} {m : List Bool} (walk : record { ok = r; marks = m } ≡ slots_test highest b (replicate pages false) (take d.n d.slots)) where
    sound_walked : {v : Bool} → v ≡ rest_test b free (record { ok = r; marks = m }) → Says highest b d free v
    unfolding pages_test no_marks
    sound_walked e =
        let g =
        e ∙ ap (rest_test b free) walk
        ∙ both_next _ (le-leb d.n max_cells few) ∙ both_next _ (eq-eqb (length b) buffer_bytes whole) in
        ((λ t. test_sound highest b d free small slots (sym g ∙ t)), (λ s. g ∙ sound_test highest b d free small slots s))

    pub sound_no_cells : r ≡ false → Says highest b d free false
    sound_no_cells e = sound_walked (rest_failed b free r m e)

    module _ (good : r ≡ true) {f : Bool} {k : List Bool} (rest : record { ok = f; marks = k } ≡ front_test b m free) where
      pub sound_no_chain : f ≡ false → Says highest b d free false
      sound_no_chain e = sound_walked (rest_no_chain b free r m good rest e)

      pub sound_all : f ≡ true → {v : Bool} → v ≡ all (λ x. x) k → Says highest b d free v
      sound_all e g = sound_walked (rest_all b free r m good rest e g)
