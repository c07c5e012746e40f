-- The table by radio: tests of edges, what an entry or a report puts into it, and what the loops that lay rows over it keep.
use mathlib.Core.Path.{◌≡◌, refl, sym, ap, ap₂, ◌∙◌, fun_ext}
use mathlib.Core.Bool.{Bool, true, false, ◌&&◌}
use mathlib.Core.List.{List, [], ◌∷◌, ◌++◌}
use Rattle.std.specs.Prelude.{Option, None, Some, option_map}
use Prim.Native.Nat.{ℕ, suc, ◌+◌, ◌-◌, ◌*◌, ◌≤◌, ◌<◌}
use native.Mathlib.Omega.{arith}
use lib.Dec.{eqb, leb}
use lib.ListN.{length, get_or, set, take}
use lib.Seq.{get_or-set_same, get_or-set_other, take-suc}
use borrow.Author.Tests.{eqb-true, eqb-false}
use Rattle.terms.specs.Terms.{Place, Fix, fix_at, max_radio}
use Rattle.terms.specs.declared.Place.{Place as HeldPlace}
use Rattle.terms.specs.Values.{place_of}
use Rattle.lists.specs.Rows.{Row, Rows, UpTo}
use Rattle.lists.specs.Words.{wide}
use Rattle.lists.specs.Tests.{Each}
use Rattle.lists.proofs.Cases.{by_cases}
use Rattle.lists.proofs.SlotsLaws.{mapped_turn, mapped_end, Each_mapped}
use Rattle.lists.proofs.TestsLaws.{both_tell, Each-get_or}
use Rattle.entries.specs.declared.Entry.{Entry}
use Rattle.entries.specs.Entries.{row_of}
use Rattle.page.specs.Buffer.{entries_from}
use Rattle.rules.specs.Limits.{full_memory, kept_minutes}
use Rattle.rules.specs.Grid.{covers}
use Rattle.rules.specs.Sweep.{stale}
use Rattle.rules.specs.Plain.{put_at}
use Rattle.rules.specs.Store.{Report as StoreReport, Line as StoreLine}
use Rattle.desk.specs.declared.Slot.{Slot}
use Rattle.desk.specs.declared.Report.{Report}
use Rattle.desk.specs.declared.Rectangle.{Rectangle}
use Rattle.desk.specs.Held.{Waiting}
use Rattle.desk.specs.Layout.{report_fields, no_slot, no_report}
use Rattle.desk.specs.Views.{every_report, edges_of, rect_of}
use Rattle.desk.proofs.ReportsLaws.{length_every}
use Rattle.memo_index.specs.Index.{table_size}
use Rattle.waiting.specs.Waiting.{reports_of, row_of as report_row}
use Rattle.range_places.specs.declared.Search.{Search}
use Rattle.range_places.specs.Places.{Sought, sought, sought_of, is_sought, Places, no_places, places_in, over, seen, row_over, entries_over, reports_over, touches, slot_over, places_of}
use Rattle.range_places.specs.Told.{entries_told, over-append}

-- ---- what is looked for

pub search_made : (area : Rectangle) (minute : ℕ) {since : ℕ} → since ≡ minute - kept_minutes → sought_of (record { area = area; since = since }) ≡ sought (rect_of area) minute
search_made area minute e = λ i. record { rect = rect_of area; since = e i }

module _ (s : Search) (p : HeldPlace) (minute : ℕ) {a : Bool} (told : a ≡ covers (rect_of s.area) (record { east = p.east; north = p.north })) where
  sought_told : (a && leb s.since minute) ≡ is_sought (sought_of s) (fix_at p.east p.north minute)
  sought_told = both_tell _ _ told refl

  pub seen_in : (a && leb s.since minute) ≡ true → Some (place_of p) ≡ seen (sought_of s) (Some (fix_at p.east p.north minute))
  seen_in e = rw (sym sought_told ∙ e) refl

  pub seen_out : (a && leb s.since minute) ≡ false → None ≡ seen (sought_of s) (Some (fix_at p.east p.north minute))
  seen_out e = rw (sym sought_told ∙ e) refl

-- ---- one over the other

module _ {A : Type 0} (step : A → Places → Places) where
  pub over_last : (l : List A) (x : A) (f : Places) → over step (l ++ (x ∷ [])) f ≡ step x (over step l f)
  over_last l x f = over-append step l (x ∷ []) f ∙ unfold over in refl

  pub over_none : (f : Places) → f ≡ over step [] f
  unfolding over
  over_none f = refl

  -- a loop that lays one more over the table
  pub over_turn : (t t' : List (Option HeldPlace)) (f : Places) (l l' : List A) (x : A) → l' ≡ l ++ (x ∷ []) → places_in t ≡ over step l f → places_in t' ≡ step x (places_in t) → places_in t' ≡ over step l' f
  over_turn t t' f l l' x e h k = k ∙ ap (step x) h ∙ sym (over_last l x f) ∙ ap (λ (m : List A). over step m f) (sym e)

-- ---- a place in the table

-- the radio has this place, or none, whatever it had; every other keeps what it has
pub held_place : (t : List (Option HeldPlace)) (r : ℕ) (o : Option HeldPlace) → length t ≡ table_size → r ≤ max_radio → places_in (set t r o) ≡ put_at r (option_map place_of o) (places_in t)
unfolding places_in
held_place t r o size radio = fun_ext (λ q. by_cases (eqb q r)
    (λ e. rw (e, eqb-true q r e, get_or-set_same t r o None (omega (arith, size))))
    (λ e. rw (e, get_or-set_other t r q o None (eqb-false q r e))))

-- ---- an entry

module _ (old : Row Fix → Bool) (look : Sought) (e : Entry) {r : Bool} (told : r ≡ old (row_of e)) (t : List (Option HeldPlace)) where
  pub entry_stale : r ≡ true → entries_told old look t (row_of e ∷ []) t
  unfolding entries_over over
  entry_stale s = rw (← told, s) refl

  pub entry_held : (o : Option HeldPlace) → r ≡ false → option_map place_of o ≡ seen look (Some (row_of e).val) → length t ≡ table_size → e.radio ≤ max_radio
      → entries_told old look t (row_of e ∷ []) (set t e.radio o)
  unfolding entries_over over
  entry_held o s tells size radio = rw (← told, s) (held_place t e.radio o size radio ∙ ap (λ (x : Option Place). put_at e.radio x (places_in t)) tells)

-- ---- the cells of the directory

module _ (old : Row Fix → Bool) (b : List ℕ) (look : Sought) (s : Slot) {r : Bool} (told : r ≡ touches look.rect (edges_of s)) where
  pub slot_touched : (t t' : List (Option HeldPlace)) → r ≡ true → entries_told old look t (entries_from b s.first) t' → places_in t' ≡ slot_over old b look s (places_in t)
  unfolding slot_over
  slot_touched t t' e h = rw (← told, e) h

  pub slot_skipped : (f : Places) → r ≡ false → f ≡ slot_over old b look s f
  unfolding slot_over
  slot_skipped f e = rw (← told, e) refl

pub cells_start : (old : Row Fix → Bool) (b : List ℕ) (look : Sought) (f : Places) → f ≡ over (slot_over old b look) [] f
cells_start old b look = over_none (slot_over old b look)

pub cells_turn : (old : Row Fix → Bool) (b : List ℕ) (look : Sought) (cells : List Slot) (i : ℕ) (t t' : List (Option HeldPlace)) (f : Places) → i < length cells
    → places_in t ≡ over (slot_over old b look) (take i cells) f → places_in t' ≡ slot_over old b look (get_or cells i no_slot) (places_in t)
    → places_in t' ≡ over (slot_over old b look) (take (i + 1) cells) f
cells_turn old b look cells i t t' f more h k =
    let e : i + 1 ≡ suc i = omega arith in
    over_turn (slot_over old b look) t t' f _ _ (get_or cells i no_slot) (ap (λ (n : ℕ). take n cells) e ∙ take-suc cells i no_slot more) h k

-- the cell at a place
pub cell_radios : (b : List ℕ) (cells : List Slot) (i : ℕ) → Each (λ s. UpTo max_radio (entries_from b s.first)) cells → i < length cells → UpTo max_radio (entries_from b (get_or cells i no_slot).first)
cell_radios b cells i e more = Each-get_or (λ s. UpTo max_radio (entries_from b s.first)) cells i no_slot e more

-- ---- the waiting reports

module _ (look : Sought) (w : Waiting) where
  module _ (size : length w.words ≡ report_fields * full_memory) (few : w.n ≤ full_memory) (i : ℕ) (more : i < w.n) {report : Report} (read : report ≡ get_or (every_report w.words) i no_report) where
    amid : w.n ≤ length (every_report w.words)
    amid = let l = length_every w.words full_memory size in omega arith

    pub reports_radios : UpTo max_radio (reports_of w) → report.radio ≤ max_radio
    unfolding reports_of
    reports_radios e = rw read (Each_mapped (every_report w.words) w.n i no_report amid more (λ x. x.key ≤ max_radio) report_row e)

    pub reports_turn : (f : Places) (t : List (Option HeldPlace)) (o : Option HeldPlace) {minute : ℕ} → length t ≡ table_size → report.radio ≤ max_radio → minute ≡ wide report.low report.high
        → option_map place_of o ≡ seen look (Some (fix_at report.east report.north minute)) → places_in t ≡ reports_over look (take i (reports_of w)) f
        → places_in (set t report.radio o) ≡ reports_over look (take (i + 1) (reports_of w)) f
    unfolding reports_of reports_over
    reports_turn f t o long radio late told h =
        over_turn _ t _ f _ _ (report_row report) (rw read (mapped_turn (every_report w.words) w.n i no_report amid more report_row)) h
        (held_place t report.radio o long radio ∙ ap (λ (x : Option Place). put_at report.radio x (places_in t)) (told ∙ ap (λ (m : ℕ). seen look (Some (fix_at report.east report.north m))) late))

  pub reports_start : (f : Places) → f ≡ reports_over look (take 0 (reports_of w)) f
  unfolding reports_over
  reports_start f = over_none _ f

  pub reports_end : (i : ℕ) (f : Places) → w.n ≤ i → reports_over look (take i (reports_of w)) f ≡ reports_over look (reports_of w) f
  unfolding reports_of reports_over
  reports_end i f k = ap (λ (l : Rows StoreReport). over (row_over look (λ w. w.fix)) l f) (mapped_end (every_report w.words) w.n i k report_row)

-- ---- all of them

pub all_held : (b : List ℕ) (look : Sought) (slots : List Slot) (memo : Rows StoreLine) (reports : Rows StoreReport) {old : Row Fix → Bool} {f₀ f₁ f₂ : Places} → old ≡ stale memo
    → f₀ ≡ no_places → f₁ ≡ over (slot_over old b look) slots f₀ → f₂ ≡ reports_over look reports f₁
    → f₂ ≡ places_of b look slots memo reports
unfolding places_of
all_held b look slots memo reports told h₀ h₁ h₂ = h₂ ∙ ap (reports_over look reports) (h₁ ∙ ap₂ (λ (x : Row Fix → Bool) (f : Places). over (slot_over x b look) slots f) told h₀)
