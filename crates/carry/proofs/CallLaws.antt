-- From what the parts of a call leave to what the call answers.
use mathlib.Core.Bool.{Bool, cond}
use mathlib.Core.List.{List}
use Rattle.std.specs.Prelude.{Option, None, Some}
use mathlib.Core.Path.{◌≡◌, refl, sym, ap, ap₂, ◌∙◌, subst}
use Prim.Native.Nat.{ℕ, ◌≤◌}
use lib.ListN.{length}
use borrow.Author.Tests.{eq-eqb}
use Rattle.terms.specs.Terms.{Place, Fix, max_radio, max_on}
use Rattle.lists.specs.Rows.{Rising}
use Rattle.lists.specs.Words.{Bytes}
use Rattle.rules.specs.Grid.{Rect}
use Rattle.rules.specs.Store.{Store}
use Rattle.rules.specs.Records.{Request, sign_on, report, sign_off, range, request_of, refusal, radio_field}
use Rattle.rules.specs.Carry.{Outcome, is_on, on_count, carried_out, carry}
use Rattle.rules.specs.Told.{told_list}
use Rattle.rules.specs.Plain.{put_at}
use Rattle.rules.specs.Watches.{max_watches, Watch, latest_place, gained, lost}
use Rattle.rules.specs.Calls.{Result, hands, carry_record, carry_call}
use Rattle.rules.specs.WellFormed.{WellFormed, chains, PagesOnce}
use Rattle.rules.proofs.StepLaws.{step_well}
use Rattle.rules.proofs.WatchesLaws.{named, names_radio, given, record_moves, none_gained}
use Rattle.desk.specs.declared.Answer.{Answer}
use Rattle.desk.specs.declared.Watch.{Watch as DeskWatch}
use Rattle.desk.specs.declared.Desk.{Desk}
use Rattle.desk.specs.declared.Parts.{Parts}
use Rattle.desk.specs.Layout.{on_of, watches_of, desk_of}
use Rattle.desk.specs.Held.{Ledger, ledger_grid, ledger_waiting, ledger_memo, ledger_on, desk_ledger, desk_with}
use Rattle.desk.specs.Views.{radios_of, rect_of}
use Rattle.desk.specs.Sound.{SoundLedger, Sound}
use Rattle.desk.specs.Call.{Before, After, left, laid_out, CarriedOut}
use Rattle.desk.specs.Laid.{LaidLedger}
use Rattle.desk.proofs.PagesLaws.{pages_Laid}
use Rattle.desk.proofs.UniqueLaws.{Sound_ledger, desk_watches}
use Rattle.waiting.specs.On.{WholeOn}
use Rattle.waiting.proofs.OnLaws.{WholeOn_laid}
use Rattle.records.specs.Asked.{on_in, Checked, asks, fails, checked}
use Rattle.records.proofs.AskedLaws.{on_few, on_rises, refused_carry, taken, taken_carry, asks_on, asks-report, asks_off}
use Rattle.desk.specs.declared.Rectangle.{Rectangle}
use Rattle.range_places.specs.Places.{sought}
use Rattle.range.specs.Range.{found_in}
use Rattle.range.proofs.StoreLaws.{range_gives}
use Rattle.effects.specs.Effects.{BeforeSignOn, BeforeReport, BeforeSignOff, AfterRequest}
use Rattle.effects.proofs.EffectLaws.{on_held, highest_held, desk_Laid, Laid_desk}
use Rattle.watches.specs.declared.Moved.{Moved}
use Rattle.watches.specs.Watches.{AfterUpdate}
use Rattle.desk.specs.declared.Slot.{Slot}
use Rattle.desk.specs.declared.Line.{Line}

well_once : (s : Store) → WellFormed s → PagesOnce s
unfolding chains
well_once s w = w.once

-- ---- a result, laid out

-- the desk of a ledger and watches
abbrev desk_from : Ledger → List DeskWatch → Desk
desk_from d vs = desk_with d.parts d.cells d.waiting d.memo d.on vs

-- a result whose store is laid out in ledger and pages, its members in the watches
laid_out_lem : {d : Ledger} {b : List ℕ} {vs : List DeskWatch} (o : Result) → WellFormed o.watched.store → LaidLedger o.watched.store d b → vs ≡ watches_of (latest_place o.watched.store) o.watched.watches
    → record { number = o.number; count = o.count; gained = o.gained; lost = o.lost; desk = desk_from d vs; pages = b; buffer = o.buffer } ≡ laid_out o
unfolding laid_out desk_of
laid_out_lem {d = d} {b = b} {vs = vs} o w x e =
    let l = Laid_desk o.watched.store x in
    let p = pages_Laid o.watched.store (well_once o.watched.store w) b l.1 in
    let h = l.0 in
    λ i. record { number = o.number; count = o.count; gained = o.gained; lost = o.lost; desk = desk_from (h i) (e i); pages = p i; buffer = o.buffer }

module _ (desk : Desk) {b : List ℕ} (x : Sound desk b) where
  abbrev ledger : Ledger
  ledger = desk_ledger desk

  abbrev s : Store
  s = x.watched.store

  abbrev l : List Watch
  l = x.watched.watches

  abbrev y : SoundLedger ledger b
  y = Sound_ledger x

  -- the watches as they are found
  watches_held : desk.watches ≡ watches_of (latest_place s) l
  watches_held = ap (λ (d : Desk). d.watches) x.held ∙ desk_watches x.watched

  abbrev on_laid : ledger_on ledger ≡ on_of s.on
  on_laid = on_held s y.held

  abbrev highest_laid : ledger.parts.highest ≡ s.highest
  highest_laid = highest_held s y.held

  -- what the check of the record asks
  pub record_asks : ((ledger_on ledger).n ≤ max_on) × WholeOn (ledger_on ledger) × Rising 0 (radios_of (ledger_on ledger))
  record_asks = (on_few s (ledger_on ledger) on_laid x.well, WholeOn_laid (ledger_on ledger) s.on on_laid, on_rises s (ledger_on ledger) on_laid x.well)

  module _ (bytes buffer : List ℕ) (small : Bytes bytes) {k : Checked} (told : k ≡ checked (refusal ledger.parts.highest (on_in (ledger_on ledger)) (length (radios_of (ledger_on ledger))) bytes) (request_of bytes)) where
    abbrev before : Before
    before = record { desk = desk; pages = b; call = hands bytes; buffer = buffer }

    -- the result of a record whose outcome is o
    abbrev result_of : Outcome → Result
    result_of o = record {
      number = o.number;
      count = o.count;
      gained = gained l (latest_place s (radio_field bytes)) (latest_place o.store (radio_field bytes));
      lost = lost l (latest_place s (radio_field bytes)) (latest_place o.store (radio_field bytes));
      buffer = o.buffer;
      watched = record { store = o.store; watches = l };
    }

    by_outcome : (o : Outcome) → carry s bytes buffer ≡ o → result_of o ≡ carry_call (hands bytes) x.watched buffer
    unfolding carry_call carry_record
    by_outcome o c = ap result_of (sym c)

    -- a record that leaves the store as it is
    stays : (n count : ℕ) (after : List ℕ) → carry s bytes buffer ≡ record { number = n; count = count; buffer = after; store = s }
        → CarriedOut before x (record { number = n; count = count; gained = 0; lost = 0; desk = desk; pages = b; buffer = after })
    stays n count after c =
        let o : Outcome = record { number = n; count = count; buffer = after; store = s } in
        let z : Path ℕ 0 (gained l (latest_place s (radio_field bytes)) (latest_place s (radio_field bytes))) = sym (none_gained l (latest_place s (radio_field bytes))) in
        (λ i. record { number = n; count = count; gained = z i; lost = z i; desk = desk; pages = b; buffer = after })
        ∙ laid_out_lem (result_of o) x.well (desk_Laid s y.held x.laid) watches_held ∙ ap laid_out (by_outcome o c)

    -- ---- turned down under 3 to 10

    refused_answers : (n : ℕ) → k ≡ fails n → CarriedOut before x (record { number = n; count = 0; gained = 0; lost = 0; desk = desk; pages = b; buffer = buffer })
    refused_answers n e = stays n 0 buffer (refused_carry s (ledger_on ledger) bytes on_laid highest_laid told e buffer)

    -- ---- carried out: a sign-on, report or sign-off of radio r

    module _ (q : Request) (r : ℕ) (e : k ≡ asks q) (n : named q ≡ Some r) where
      abbrev told_is : (refusal s.highest (is_on s) (on_count s) bytes ≡ 0) × (request_of bytes ≡ q)
      told_is = taken s (ledger_on ledger) bytes on_laid highest_laid told q e

      own_radio : radio_field bytes ≡ r
      own_radio = names_radio bytes r (ap named told_is.1 ∙ n)

      places_moved : (o : Outcome) → carry s bytes buffer ≡ o → latest_place o.store ≡ put_at r (given q) (latest_place s)
      places_moved o c =
          ap (λ (z : Outcome). latest_place z.store) (sym c) ∙ record_moves s bytes buffer small x.well told_is.0 r (ap named told_is.1 ∙ n)
          ∙ ap (λ (z : Request). put_at r (given z) (latest_place s)) told_is.1

      place_now : (o : Outcome) → carry s bytes buffer ≡ o → latest_place o.store (radio_field bytes) ≡ given q
      place_now o c =
          ap (latest_place o.store) own_radio ∙ ap (λ (f : ℕ → Option Place). f r) (places_moved o c)
          ∙ ap (λ (t : Bool). cond t (given q) (latest_place s r)) (eq-eqb r r refl)

      moved_answers : {d : Ledger} {b' : List ℕ} {vs' : List DeskWatch} {m : Moved} (st : Store) → carried_out q s buffer ≡ record { number = 0; count = 0; buffer = buffer; store = st }
          → LaidLedger st d b' → AfterUpdate (latest_place s) l r (given q) vs' m
          → CarriedOut before x (record { number = 0; count = 0; gained = m.gained; lost = m.lost; desk = desk_from d vs'; pages = b'; buffer = buffer })
      moved_answers {d = d} {b' = b'} {vs' = vs'} {m = m} st g h u =
          let o : Outcome = record { number = 0; count = 0; buffer = buffer; store = st } in
          let c : carry s bytes buffer ≡ o = taken_carry s (ledger_on ledger) bytes on_laid highest_laid told q e buffer ∙ g in
          let was = ap (latest_place s) (sym own_radio) in
          let is = sym (place_now o c) in
          let gains = u.gains ∙ ap₂ (λ (a z : Option Place). gained l a z) was is in
          let losses = u.losses ∙ ap₂ (λ (a z : Option Place). lost l a z) was is in
          (λ i. record { number = 0; count = 0; gained = gains i; lost = losses i; desk = desk_from d vs'; pages = b'; buffer = buffer })
          ∙ laid_out_lem (result_of o) (subst (λ (z : Outcome). WellFormed z.store) c (step_well s bytes buffer small x.well)) h
          (u.words ∙ ap (λ (f : ℕ → Option Place). watches_of f l) (sym (places_moved o c)))
          ∙ ap laid_out (by_outcome o c)

    -- ---- what a sign-on, a report and a sign-off ask

    module _ (r : ℕ) (f : Fix) where
      pub on_asked : k ≡ asks (sign_on r f) → BeforeSignOn ledger r f b
      on_asked e = record { sound = y; signs = asks_on s (ledger_on ledger) bytes on_laid highest_laid told small r f e }

      pub report_asked : k ≡ asks (report r f) → BeforeReport ledger r f b
      report_asked e = record { sound = y; reports = asks-report s (ledger_on ledger) bytes on_laid highest_laid told small r f e }

    pub off_asked : (r minute : ℕ) → k ≡ asks (sign_off r minute) → BeforeSignOff ledger r minute b
    off_asked r minute e = record { sound = y; signs = asks_off s (ledger_on ledger) bytes on_laid highest_laid told small r minute e }

    -- and that their radio is one, which the update of the watches asks
    pub on_Updates : (r : ℕ) (f : Fix) → k ≡ asks (sign_on r f) → r ≤ max_radio
    on_Updates r f e = (asks_on s (ledger_on ledger) bytes on_laid highest_laid told small r f e).last

    pub report_Updates : (r : ℕ) (f : Fix) → k ≡ asks (report r f) → r ≤ max_radio
    report_Updates r f e = (asks-report s (ledger_on ledger) bytes on_laid highest_laid told small r f e).last

    pub off_Updates : (r minute : ℕ) → k ≡ asks (sign_off r minute) → r ≤ max_radio
    off_Updates r minute e = (asks_off s (ledger_on ledger) bytes on_laid highest_laid told small r minute e).last

    -- ---- the same, in the words of the calls

    by_answer : {a c : Answer} {d : Desk} {b' after : List ℕ} → a ≡ c → CarriedOut before x (left c d b' after) → CarriedOut before x (left a d b' after)
    by_answer {d = d} {b' = b'} {after = after} e = subst (λ (z : Answer). CarriedOut before x (left z d b' after)) (sym e)

    pub refused_returns : (n : ℕ) {a : Answer} → k ≡ fails n → a ≡ record { number = n; count = 0; gained = 0; lost = 0 } → CarriedOut before x (left a desk b buffer)
    refused_returns n e g = by_answer g (refused_answers n e)

    -- what the update of the watches gives for those that are held
    abbrev Updates : List DeskWatch → ℕ → Option Place → List DeskWatch → Moved → Type 0
    Updates vs r p vs' m = (places : ℕ → Option Place) (z : List Watch) → length z ≡ max_watches → vs ≡ watches_of places z → AfterUpdate places z r p vs' m

    updated : {vs : List DeskWatch} (r : ℕ) (p : Option Place) {vs' : List DeskWatch} {m : Moved} → vs ≡ desk.watches → Updates vs r p vs' m → AfterUpdate (latest_place s) l r p vs' m
    updated r p e u = u (latest_place s) l x.right.sixteen (e ∙ watches_held)

    abbrev accepts : Moved → Answer
    accepts m = record { number = 0; count = 0; gained = m.gained; lost = m.lost }

    -- the desk once its ledger is d's, and the watches are those brought up to date
    abbrev watching : Desk → List DeskWatch → Desk
    watching d vs' = desk_from (desk_ledger d) vs'

    module _ (d : Desk) (same : d.watches ≡ desk.watches) {b' : List ℕ} {vs' : List DeskWatch} {m : Moved} {a : Answer} (g : a ≡ accepts m) where
      pub on_returns : (r : ℕ) (f : Fix) → k ≡ asks (sign_on r f) → ((z : BeforeSignOn ledger r f b) → AfterRequest z.sound.store (sign_on r f) (desk_ledger d) b') → Updates d.watches r (Some f.place) vs' m
          → CarriedOut before x (left a (watching d vs') b' buffer)
      unfolding on_asked carried_out
      on_returns r f e h u = by_answer g (moved_answers (sign_on r f) r e refl {m = m} _ refl (h (on_asked r f e)) (updated r (Some f.place) same u))

      pub report_returns : (r : ℕ) (f : Fix) → k ≡ asks (report r f) → ((z : BeforeReport ledger r f b) → AfterRequest z.sound.store (report r f) (desk_ledger d) b') → Updates d.watches r (Some f.place) vs' m
          → CarriedOut before x (left a (watching d vs') b' buffer)
      unfolding report_asked carried_out
      report_returns r f e h u = by_answer g (moved_answers (report r f) r e refl {m = m} _ refl (h (report_asked r f e)) (updated r (Some f.place) same u))

      pub off_returns : (r minute : ℕ) → k ≡ asks (sign_off r minute) → ((z : BeforeSignOff ledger r minute b) → AfterRequest z.sound.store (sign_off r minute) (desk_ledger d) b') → Updates d.watches r None vs' m
          → CarriedOut before x (left a (watching d vs') b' buffer)
      unfolding off_asked carried_out
      off_returns r minute e h u = by_answer g (moved_answers (sign_off r minute) r e refl {m = m} _ refl (h (off_asked r minute e)) (updated r None same u))

    pub range_returns : (rect : Rect) (minute : ℕ) (a : Answer) {after : List ℕ} → k ≡ asks (range rect minute)
        → record { number = a.number; count = a.count; buffer = after } ≡ told_list (found_in b (sought rect minute) (ledger_grid ledger).cells (ledger_waiting ledger) (ledger_memo ledger) (ledger_on ledger)) buffer
        → (a.gained ≡ 0) × (a.lost ≡ 0) → CarriedOut before x (left a desk b after)
    unfolding carried_out
    range_returns rect minute a {after = after} e h none =
        let none₁ = none.0 in
        let none₂ = none.1 in
        (λ i. record { number = a.number; count = a.count; gained = none₁ i; lost = none₂ i; desk = desk; pages = b; buffer = after })
        ∙ stays a.number a.count after (taken_carry s (ledger_on ledger) bytes on_laid highest_laid told (range rect minute) e buffer ∙ sym (range_gives s b ledger y.well y.laid y.held rect minute buffer h))
