-- The radios on, as they stand in their array: each once, and each with a latest place, which the table by radio has.
use Rattle.std.proofs.Common.{◌≡◌, ℕ, zero, suc, ◌<◌, ◌≤◌, true, eqb, List, [], ◌∷◌, map, length, get_or, take, sym, refl, ap, ◌∙◌, subst, ap₂, le_of_suc-le-suc, not-suc-le-zero, arith, length-take, get_or-take, eq-eqb, eqb-true}
use Rattle.std.specs.Prelude.{None, Some}
use lib.ListN.{length-map, get_or-map}
use Rattle.terms.specs.Terms.{max_radio, max_on}
use Rattle.lists.specs.Rows.{Rows, Rising, UpTo, find}
use Rattle.lists.specs.Tests.{is_some}
use Rattle.lists.proofs.Cases.{by_cases, is_some-false}
use Rattle.lists.proofs.SearchLaws.{Rising_order}
use Rattle.rules.specs.Carry.{is_on, latest}
use Rattle.rules.specs.Plain.{place_of}
use Rattle.rules.specs.Watches.{latest_place}
use Rattle.rules.proofs.WatchesLaws.{latest_on}
use Rattle.desk.specs.Held.{Ledger, ledger_on, on_with}
use Rattle.desk.specs.Sound.{SoundLedger}
use Rattle.desk.specs.Views.{radio_row, radios_of}
use Rattle.waiting.proofs.OnLaws.{radios_laid}
use Rattle.range.proofs.ListLaws.{on_radios}
use Rattle.range.proofs.StoreLaws.{on_is, range_asks}
use Rattle.latest_places.specs.Latest.{place_by}
use Rattle.watch_members.specs.Members.{OnColumn, PlacesOn, OnceOn, OnlyOn}

-- ---- numbers as rows

found_at : (l : List ℕ) (i : ℕ) → i < length l → is_some (find (map radio_row l) (get_or l i 0)) ≡ true
unfolding find
found_at [] i h = absurd (not-suc-le-zero h)
found_at (x ∷ l) zero h = rw (eq-eqb x x refl)
found_at (x ∷ l) (suc i) h = by_cases (eqb (get_or l i 0) x) (λ t. rw t) (λ t. rw t (found_at l i (le_of_suc-le-suc h)))

not_found : (l : List ℕ) (r : ℕ) → ((i : ℕ) → i < length l → get_or l i 0 ≡ r → ⊥) → find (map radio_row l) r ≡ None
unfolding find
not_found [] r n = refl
not_found (x ∷ l) r n = by_cases (eqb r x) (λ t. absurd (n 0 (omega arith) (sym (eqb-true r x t)))) (λ t. rw t (not_found l r (λ i h. n (suc i) (omega arith))))

module _ (radios : List ℕ) (n : ℕ) (size : length radios ≡ max_on) (few : n ≤ max_on) where
  used : length (take n radios) ≡ n
  used = rw length-take (omega arith)

  on_found : (i : ℕ) → i < n → is_some (find (radios_of (on_with n radios)) (get_or radios i 0)) ≡ true
  unfolding radios_of
  on_found i h = ap (λ (r : ℕ). is_some (find (map radio_row (take n radios)) r)) (sym (get_or-take n radios i 0 h)) ∙ found_at (take n radios) i (omega (arith, used))

  on_absent : (r : ℕ) → ((i : ℕ) → i < n → get_or radios i 0 ≡ r → ⊥) → find (radios_of (on_with n radios)) r ≡ None
  unfolding radios_of
  on_absent r m = not_found (take n radios) r (λ i h e. let k : i < n = omega (arith, used) in m i k (sym (get_or-take n radios i 0 k) ∙ e))

  key_at : (i : ℕ) → i < n → (get_or (radios_of (on_with n radios)) i (radio_row 0)).key ≡ get_or radios i 0
  unfolding radios_of
  key_at i h = ap (λ x. x.key) (get_or-map radio_row (take n radios) i 0) ∙ get_or-take n radios i 0 h

  on_order : Rising 0 (radios_of (on_with n radios)) → (i j : ℕ) → i < n → j < i → get_or radios i 0 ≡ get_or radios j 0 → ⊥
  on_order rising i j h k e =
      let long : length (radios_of (on_with n radios)) ≡ n = unfold radios_of in (length-map (take n radios) radio_row ∙ used) in
      let less = Rising_order 0 (radios_of (on_with n radios)) j i (radio_row 0) rising k (omega arith) in
      omega (arith, key_at i h, key_at j (omega arith))

-- ---- of a sound ledger

module _ (ledger : Ledger) (b : List ℕ) (s : SoundLedger ledger b) where
  abbrev n : ℕ
  n = ledger.parts.on

  rows_on : radios_of (ledger_on ledger) ≡ s.store.on
  rows_on = radios_laid (on_is s.store b ledger s.well s.laid s.held)

  size_on : length ledger.on ≡ max_on
  size_on = (range_asks s.store b ledger s.well s.laid s.held).1

  pub few_on : n ≤ max_on
  few_on = (range_asks s.store b ledger s.well s.laid s.held).2

  pub small_on : UpTo max_radio (radios_of (ledger_on ledger))
  small_on = (range_asks s.store b ledger s.well s.laid s.held).3

  pub once_on : OnceOn n ledger.on
  once_on = record {
    small = λ i h. on_radios ledger.on n i size_on few_on h small_on;
    once = on_order ledger.on n size_on few_on (subst (λ (l : Rows (Unit {0})). Rising 0 l) (sym rows_on) s.well.rising_on);
  }

  is_on_lem : (i : ℕ) → i < n → is_on s.store (get_or ledger.on i 0) ≡ true
  unfolding is_on
  is_on_lem i h = ap (λ (l : Rows (Unit {0})). is_some (find l (get_or ledger.on i 0))) (sym rows_on) ∙ on_found ledger.on n size_on few_on i h

  pub only_on : OnlyOn (latest_place s.store) n ledger.on
  unfolding is_on
  only_on r m =
      ap place_of (is_some-false (latest s.store r)
      (latest_on s.store s.well r ∙ ap (λ (l : Rows (Unit {0})). is_some (find l r)) (sym rows_on) ∙ ap is_some (on_absent ledger.on n size_on few_on r m)))

  pub places_found : (easts norths : List ℕ) {dense_easts dense_norths : List ℕ} → ((r : ℕ) → is_on s.store r ≡ true → latest_place s.store r ≡ Some (place_by easts norths r))
      → OnColumn easts ledger.on n dense_easts → OnColumn norths ledger.on n dense_norths → PlacesOn (latest_place s.store) ledger.on n dense_easts dense_norths
  places_found easts norths told a c = record {
    at = λ i h. told (get_or ledger.on i 0) (is_on_lem i h) ∙ ap₂ (λ (x y : ℕ). Some (record { east = x; north = y })) (sym (a.at i h)) (sym (c.at i h));
  }
