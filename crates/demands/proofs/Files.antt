-- A file that is read is a run of sign-ons from a fresh store, so it begins a list of calls; and a file that was written is read back.
use mathlib.Core.Bool.{false}
use mathlib.Core.List.{List, [], ◌∷◌}
use Rattle.std.specs.Prelude.{Option, None, Some}
use mathlib.Core.Path.{◌≡◌, refl, sym, ap, ap₂, ◌∙◌, subst, fun_ext}
use Prim.Native.Nat.{ℕ, ◌≤◌}
use native.Mathlib.Nat.{zero-add}
use native.Mathlib.Omega.{arith}
use lib.Dec.{eqb, ltb}
use lib.ListN.{length, take}
use borrow.Author.Tests.{eqb-true, eqb-false}
use Rattle.terms.specs.Terms.{Fix, max_radio, max_on}
use Rattle.lists.specs.Parts.{put}
use Rattle.lists.specs.Rows.{Row, Rising, find}
use Rattle.lists.specs.Tests.{Each, is_some}
use Rattle.lists.proofs.Cases.{by_cases, false-true}
use Rattle.lists.proofs.PartsLaws.{take-put}
use Rattle.lists.proofs.RowsLaws.{Rising_above}
use Rattle.lists.proofs.TestsLaws.{Each_zip, Each_every}
use Rattle.csv_grammar.specs.Csv.{Listed, File, lines, bad, file_read, file_of, Fits}
use Rattle.csv_grammar.specs.Order.{in_order}
use Rattle.csv_grammar.proofs.OrderLaws.{Each-in_order}
use Rattle.csv_grammar.proofs.RangeLaws.{read_Fits}
use Rattle.page.specs.Buffer.{buffer_bytes}
use Rattle.rules.specs.Grid.{Cuts}
use Rattle.rules.specs.Store.{Store}
use Rattle.rules.specs.Carry.{is_on, latest}
use Rattle.rules.specs.Told.{told_file}
use Rattle.rules.specs.Everyone.{everyone}
use Rattle.rules.specs.Plain.{Plain, plain_fresh, plain_step}
use Rattle.rules.specs.WellFormed.{WellFormed}
use Rattle.rules.specs.Watches.{Watched, RightWatches, fresh_watched}
use Rattle.rules.specs.Calls.{hands, sets, clears, writes, carry_record, carry_call}
use Rattle.rules.proofs.LinkLaws.{latest_same}
use Rattle.rules.proofs.StepLaws.{step_well}
use Rattle.rules.proofs.WatchesLaws.{latest_on}
use Rattle.desk.specs.declared.Desk.{Desk}
use Rattle.desk.specs.Layout.{ledger_of, desk_of, pages_of}
use Rattle.desk.specs.Call.{After, carried, laid_out}
use Rattle.desk.specs.Making.{Found, Made}
use Rattle.desk.specs.Sound.{Sound}
use Rattle.desk.proofs.CallLaws.{answers_Sound}
use Rattle.desk.proofs.PagesLaws.{Laid_pages}
use Rattle.desk.proofs.FreshLaws.{fresh_pages_lem, fresh_well, fresh_right}
use Rattle.spreadsheet.specs.Read.{sign_on_of, Read, sign_ons, signed_all, read_lines, read_file, plain_sign_ons, plain_lines, plain_read}
use Rattle.spreadsheet.specs.Call.{laid_out as laid, Reads}
use Rattle.spreadsheet.proofs.BackLaws.{HasFix, back_made, back_latest}
use Rattle.spreadsheet.proofs.EveryoneLaws.{Rising-rows_of, find-rows_of, Each-rows_of, length-rows_of}
use Rattle.spreadsheet.proofs.NarrowLaws.{Narrow, NarrowIf, step_Narrow, well_Narrow}
use Rattle.spreadsheet.proofs.SignOnLaws.{sign_on_Bytes}
use Rattle.spreadsheet.proofs.RunLaws.{read_cases, made_all, stopped_not_0}
use Rattle.demands.specs.Same.{Fed, calls_of}
use Rattle.demands.specs.Trace.{Trace, begun, called, desk_cuts}
use Rattle.demands.specs.Files.{fed_lines, ReadList, ReadBegins, Latest, NoneAtOrigin, CameBack, ComesBack, RoundTrip, RoundTripOfCalls}
use Rattle.demands.proofs.Demands.{beside, sound as beside_sound}
use Rattle.demands.proofs.KeptLaws.{desk_cuts_lem}

-- ---- a run of sign-ons is a list of calls

-- a list that leaves this desk and these pages, fed these calls
record FedSo (d : Desk) (b : List ℕ) (x : Plain) (fed : List Fed) : Type 0 where
  list : Trace d b x
  calls : calls_of list ≡ fed

abbrev Run : Watched → Plain → List Fed → Type 0
Run w x fed = FedSo (desk_of w) (pages_of w.store) x fed

module _ (w : Watched) (well : WellFormed w.store) (right : RightWatches w.watches) (x : Plain) (fed : List Fed) (k : Run w x fed) (l : Listed) (fits : Fits l.row) where
  abbrev bytes : List ℕ
  bytes = sign_on_of l.row

  abbrev sound : Sound (desk_of w) (pages_of w.store)
  sound = record { watched = w; well = well; right = right; held = refl; laid = Laid_pages w.store well.once }

  cuts : desk_cuts (desk_of w) ≡ w.store.cuts
  cuts = desk_cuts_lem w.store w.watches

  one_more : Run (carry_record bytes w []).watched (plain_step w.store.cuts bytes x) (record { call = hands bytes; buffer = [] } ∷ fed)
  unfolding laid_out carry_call
  one_more =
      subst (λ (c : Cuts). Run (carry_record bytes w []).watched (plain_step c bytes x) (record { call = hands bytes; buffer = [] } ∷ fed)) cuts (record {
        list = called k.list (hands bytes) [] (laid_out (carry_call (hands bytes) w [])) (sign_on_Bytes l.row fits) (carried sound refl);
        calls = ap (λ (cs : List Fed). record { call = hands bytes; buffer = [] } ∷ cs) k.calls;
      })

record_well : (w : Watched) (l : Listed) → Fits l.row → WellFormed w.store → WellFormed (carry_record (sign_on_of l.row) w []).watched.store
unfolding carry_record
record_well w l fits well = step_well w.store (sign_on_of l.row) [] (sign_on_Bytes l.row fits) well

record_right : (w : Watched) (bytes : List ℕ) → RightWatches w.watches → RightWatches (carry_record bytes w []).watched.watches
unfolding carry_record
record_right w bytes right = right

runs : (ls : List Listed) → Each (λ l. Fits l.row) ls → (w : Watched) → WellFormed w.store → RightWatches w.watches → (x : Plain) (fed : List Fed) → Run w x fed
    → Run (signed_all ls w) (plain_sign_ons ls w x) (fed_lines ls fed)
unfolding signed_all plain_sign_ons
runs [] fit w well right x fed k = k
runs (l ∷ ls) fit w well right x fed k =
    runs ls fit.1 (carry_record (sign_on_of l.row) w []).watched (record_well w l fit.0 well) (record_right w (sign_on_of l.row) right)
    (plain_step w.store.cuts (sign_on_of l.row) x) (record { call = hands (sign_on_of l.row); buffer = [] } ∷ fed) (one_more w well right x fed k l fit.0)

fresh_Run : Run fresh_watched plain_fresh []
unfolding fresh_watched
fresh_Run = subst (λ (b : List ℕ). FedSo (desk_of fresh_watched) b plain_fresh []) (sym fresh_pages_lem) (record { list = begun; calls = refl })

fresh_well' : WellFormed fresh_watched.store
unfolding fresh_watched
fresh_well' = fresh_well

fresh_right' : RightWatches fresh_watched.watches
unfolding fresh_watched
fresh_right' = fresh_right

-- the lines of a file that is read, where these are its lines
lines_Run : (ls : List Listed) → Each (λ l. Fits l.row) ls → Run (signed_all (in_order ls) fresh_watched) (plain_sign_ons (in_order ls) fresh_watched plain_fresh) (fed_lines (in_order ls) [])
lines_Run ls fit = runs (in_order ls) (Each-in_order (λ l. Fits l.row) ls fit) fresh_watched fresh_well' fresh_right' plain_fresh [] fresh_Run

-- ---- a file that is read begins a list

-- what a file comes to, by its lines
from_lines : (file : List ℕ) (f : File) → file_read file ≡ f → (y : Made) (x : Found) → y ≡ laid (read_lines f) x → y.answer.number ≡ 0 → ReadList file y.desk y.pages
unfolding plain_read
from_lines file (bad n) e y x q zero = absurd (omega (arith, ap (λ (z : Made). z.answer.number) q))
from_lines file (lines ls) e y x q zero = read_cases (sign_ons (in_order ls) fresh_watched)
    (λ v m.
    let k = lines_Run ls (read_Fits file ls e) in
    let w = made_all (in_order ls) fresh_watched v m in
    let q' = q ∙ ap (λ (r : Read). laid r x) m in
    let d : desk_of (signed_all (in_order ls) fresh_watched) ≡ y.desk = ap desk_of w ∙ sym (ap (λ (z : Made). z.desk) q') in
    let b : pages_of (signed_all (in_order ls) fresh_watched).store ≡ y.pages = ap (λ (z : Watched). pages_of z.store) w ∙ sym (ap (λ (z : Made). z.pages) q') in
    let p : plain_sign_ons (in_order ls) fresh_watched plain_fresh ≡ plain_lines (file_read file) = ap plain_lines (sym e) in
    let t = subst (λ (n : List ℕ). FedSo y.desk n (plain_lines (file_read file)) (fed_lines (in_order ls) [])) b
    (subst (λ (n : Desk). FedSo n (pages_of (signed_all (in_order ls) fresh_watched).store) (plain_lines (file_read file)) (fed_lines (in_order ls) [])) d
    (subst (λ (n : Plain). FedSo (desk_of (signed_all (in_order ls) fresh_watched)) (pages_of (signed_all (in_order ls) fresh_watched).store) n (fed_lines (in_order ls) [])) p k)) in
    record { taken = ls; read = e; list = t.list; sign_on_calls = t.calls })
    (λ number line m. absurd (stopped_not_0 (in_order ls) fresh_watched number line m (sym (ap (λ (z : Made). z.answer.number) (q ∙ ap (λ (r : Read). laid r x) m)) ∙ zero)))

pub read_begins : ReadBegins
unfolding read_file
read_begins file x y r zero =
    by_cases (eqb (length x.pages) buffer_bytes)
    (λ t. from_lines file (file_read file) refl y x (r.read (eqb-true (length x.pages) buffer_bytes t)) zero)
    (λ t. absurd (omega (arith, ap (λ (z : Made). z.answer.number) (r.size (eqb-false (length x.pages) buffer_bytes t)))))

-- ---- a file that was written is read back

-- all that is told fits into a line
trace_Narrow : {d : Desk} {b : List ℕ} {x : Plain} → Trace d b x → (q : ℕ) → NarrowIf (x.latest q)
trace_Narrow begun q = unfold plain_fresh in tt
trace_Narrow (called {d} {b} {x} t (hands told) buffer y small a) q = step_Narrow (desk_cuts d) x (λ p. trace_Narrow t p) told small q
trace_Narrow (called t (sets w rect) buffer y small a) q = trace_Narrow t q
trace_Narrow (called t (clears w) buffer y small a) q = trace_Narrow t q
trace_Narrow (called t writes buffer y small a) q = trace_Narrow t q

-- what an accepted writing counts is the file
take_file : (file buffer : List ℕ) → (told_file file buffer).number ≡ 0 → take (told_file file buffer).count (told_file file buffer).buffer ≡ file
unfolding told_file
take_file file buffer =
    by_cases (ltb (length buffer) (length file))
    (λ t. rw t (λ e. absurd (omega (arith, e))))
    (λ t. rw t (λ e. ap (λ (n : ℕ). take n (put buffer 0 file)) (sym (zero-add (length file))) ∙ take-put buffer 0 file (omega arith)))

module _ (s : Store) (w : WellFormed s) (narrow : (r : ℕ) (f : Fix) → latest s r ≡ Some f → Narrow f) (fixed : NoneAtOrigin (latest s)) where
  rows_fit : Each Fits (everyone s)
  unfolding everyone
  rows_fit = Each-rows_of Fits (latest s) s.on (Each_zip (λ r. r.key ≤ max_radio) (λ r. 1 ≤ r.key) _ s.on fit w.radios_on (Rising_above 0 s.on w.rising_on))
    where
      fit : (r : Row (Unit {0})) → r.key ≤ max_radio → 1 ≤ r.key → (f : Fix) → latest s r.key ≡ Some f → Fits (record { key = r.key; val = f })
      fit r most least f e = let n = narrow r.key f e in record { radio_least = least; radio = most; east = n.east; north = n.north; minute = n.minute }

  rows_fixed : Each HasFix (everyone s)
  unfolding everyone
  rows_fixed = Each-rows_of HasFix (latest s) s.on (Each_every _ s.on (λ r. fixed r.key))

  rows_rise : Rising 0 (everyone s)
  unfolding everyone
  rows_rise = Rising-rows_of (latest s) 0 s.on w.rising_on

  rows_few : length (everyone s) ≤ max_on
  unfolding everyone
  rows_few = omega (arith, length-rows_of (latest s) s.on, w.few_on)

  rows_found : (r : ℕ) → find (everyone s) r ≡ latest s r
  unfolding everyone is_on
  rows_found r =
      find-rows_of (latest s) 0 r s.on w.rising_on ∙ by_cases (is_some (find s.on r))
      (λ u. rw u)
      (λ u. rw u (sym (none_of (latest s r) (latest_on s w r ∙ u))))
    where
      none_of : (o : Option Fix) → is_some o ≡ false → o ≡ None
      none_of None e = refl
      none_of (Some f) e = false-true (sym e)

  -- read into a desk and pages in whatever condition
  came_back : (file : List ℕ) → file ≡ file_of (everyone s) → (u : Found) (z : Made) → length u.pages ≡ buffer_bytes → Reads file u z → CameBack (latest s) file z
  came_back file e u z size reads = record {
    accepted = ap (λ (m : Made). m.answer) (reads.read size ∙ ap (λ (r : Read). laid r u) (ap read_file e ∙ back_made (everyone s) rows_rise rows_fit rows_fixed rows_few));
    same = λ r. ap (λ (f : List ℕ). (plain_read f).latest r) e ∙ back_latest (everyone s) rows_rise rows_fit rows_fixed rows_few r ∙ rows_found r;
  }

-- a store that is sound, with what is told in its fields
comes_back : (d : Desk) (b : List ℕ) (s : Sound d b) → ((r : ℕ) (f : Fix) → latest s.watched.store r ≡ Some f → Narrow f) → NoneAtOrigin (latest s.watched.store)
    → ComesBack d b (latest s.watched.store)
unfolding laid_out carry_call
comes_back d b s narrow fixed buffer y a zero u z size reads =
    let c = answers_Sound a s in
    let file = file_of (everyone s.watched.store) in
    let told : (told_file file buffer).number ≡ 0 = sym (ap (λ (m : After). m.number) c) ∙ zero in
    came_back s.watched.store s.well narrow fixed (take y.count y.buffer)
    (ap₂ (λ (n : ℕ) (l : List ℕ). take n l) (ap (λ (m : After). m.count) c) (ap (λ (m : After). m.buffer) c) ∙ take_file file buffer told) u z size reads

-- the highest minute stands in the desk
highest_in : (d : Desk) (b : List ℕ) (s : Sound d b) → d.parts.highest ≡ s.watched.store.highest
unfolding desk_of ledger_of
highest_in d b s = ap (λ (x : Desk). x.parts.highest) s.held

pub round_trip : RoundTrip
round_trip d b s high = comes_back d b s (well_Narrow s.watched.store s.well (omega (arith, high, highest_in d b s)))

pub round_trip_of_calls : RoundTripOfCalls
round_trip_of_calls d b x t fixed =
    let k = beside t in
    let e = fun_ext (latest_same k.store x k.link) in
    subst (λ (l : Latest). ComesBack d b l) e
    (comes_back d b (beside_sound k) (λ r f h. subst NarrowIf (sym (latest_same k.store x k.link r) ∙ h) (trace_Narrow t r)) (subst NoneAtOrigin (sym e) fixed))
