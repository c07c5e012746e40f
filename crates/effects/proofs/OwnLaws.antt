-- A record's own effect on a sound store, and what it leaves once all that follows is done.
use mathlib.Core.Bool.{true, false, cond}
use mathlib.Core.List.{List}
use Rattle.std.specs.Prelude.{Option, None, Some}
use mathlib.Core.Path.{◌≡◌, refl, sym, subst}
use Prim.Native.Nat.{ℕ, ◌+◌, ◌≤◌, ◌<◌}
use native.Mathlib.Omega.{arith}
use lib.ListN.{length}
use Rattle.terms.specs.Terms.{Place, Fix}
use Rattle.lists.specs.Rows.{find, alter, insert}
use Rattle.rules.specs.Limits.{full_memory, full_box, sweep_every}
use Rattle.rules.specs.Grid.{Box, same_box, box_of}
use Rattle.rules.specs.Store.{Report, Store, with_highest}
use Rattle.rules.specs.Sweep.{tick}
use Rattle.rules.specs.Flush.{raised}
use Rattle.rules.specs.Records.{sign_on, report, sign_off}
use Rattle.rules.specs.Carry.{was_new, signed_on, reported, signed_off, waiting_in, after_report, carried_out, is_on, on_count}
use Rattle.rules.proofs.WellLaws.{later_well}
use Rattle.rules.proofs.StepLaws.{put_few, put_boxes, put_Bounded, on_Core, report_Core, off_done as off_roomy}
use Rattle.rules.specs.WellFormed.{WellFormed}
use Rattle.rules.specs.Midway.{MidCall}
use Rattle.desk.specs.Held.{Memo, On, Waiting, ledger_grid, ledger_waiting, ledger_memo, ledger_on, Ledger}
use Rattle.desk.specs.Layout.{waiting_of, memo_of, on_of, ledger_holding}
use Rattle.desk.specs.Views.{radios_of}
use Rattle.desk.specs.Laid.{LaidLedger}
use Rattle.memo.specs.Memo.{lines_of}
use Rattle.waiting.specs.Waiting.{reports_of}
use Rattle.own_effect.proofs.StoreLaws.{on_gives, report_gives, off_gives, on_Laid, report_Laid, off_Laid}
use Rattle.records.specs.Asked.{SignsOn, Reports}
use Rattle.effects.specs.Effects.{BeforeFlushLedger, BeforeTallyLedger, BeforeSignOn, BeforeReport, BeforeSignOff, AfterRequest}
use Rattle.effects.proofs.EffectLaws.{desk_Laid}

-- ---- the store then

-- after a sign-on or a report: one more waits, in the memory cell of its place
pub record Put (s : Store) (p : Place) : Type 0 where
  pub early : s.tally < sweep_every
  pub mid : MidCall s (s.tally + 1)
  pub few : length s.waiting ≤ full_memory
  pub others_few : (n : Box) → same_box n (box_of s.cuts p) ≡ false → waiting_in s.cuts s.waiting n < full_box

on_Put : (s : Store) (w : WellFormed s) (r : ℕ) (f : Fix) → SignsOn s r f → Put (signed_on r f (with_highest f.minute s)) f.place
unfolding signed_on
on_Put s w r f x =
    let s' = with_highest f.minute s in
    let w' = later_well s w f.minute x.late in
    let g : Option Report → Option Report = λ _. Some (record { fix = f; new = true }) in
    record {
      early = w.tallied;
      mid = record {
        core = on_Core s' w' r f x.first x.last x.placed (unfold is_on in x.off) (unfold on_count in x.room) (omega arith);
        bounded = put_Bounded s' w' r x.first g f true refl;
      };
      few = put_few s' w' r x.first g f true refl;
      others_few = put_boxes s' w' r x.first g f true refl;
    }

report_Put : (s : Store) (w : WellFormed s) (r : ℕ) (f : Fix) → Reports s r f → Put (reported r f (with_highest f.minute s)) f.place
unfolding reported
report_Put s w r f x =
    let s' = with_highest f.minute s in
    let w' = later_well s w f.minute x.late in
    let g : Option Report → Option Report = λ o. Some (record { fix = f; new = was_new o }) in
    let b = was_new (find s.waiting r) in
    record {
      early = w.tallied;
      mid = record {
        core = report_Core s' w' r f x.first x.last x.placed (unfold is_on in x.on) (omega arith);
        bounded = put_Bounded s' w' r x.first g f b refl;
      };
      few = put_few s' w' r x.first g f b refl;
      others_few = put_boxes s' w' r x.first g f b refl;
    }

Put_effect : {desk : Ledger} {p : Place} {b : List ℕ} (s : Store) → Put s p → LaidLedger s desk b → BeforeFlushLedger desk p b
Put_effect s x h = record {
  before = record { store = s; early = x.early; mid = x.mid; few = x.few; laid = h.in_waiting };
  others_few = x.others_few;
  on_is = h.on_is;
  tally_is = h.tally_is;
  highest_is = h.highest_is;
}

-- ---- sign-on

module _ {desk : Ledger} {r : ℕ} {f : Fix} {b : List ℕ} (x : BeforeSignOn desk r f b) where
  abbrev s : Store
  s = x.sound.store

  module _ {waiting : Waiting} {on : On}
      (own : (waiting ≡ waiting_of (insert r (record { fix = f; new = true }) (reports_of (ledger_waiting desk)))) × (on ≡ on_of (insert r tt (radios_of (ledger_on desk))))) where
    abbrev signed : Ledger
    signed = ledger_holding (ledger_grid desk) waiting (ledger_memo desk) on desk.parts.tally f.minute

    on_effect : BeforeFlushLedger signed f.place b
    unfolding Put_effect
    on_effect =
        Put_effect (signed_on r f (with_highest f.minute s)) (on_Put s x.sound.well r f x.signs)
        (desk_Laid (signed_on r f (with_highest f.minute s)) (on_gives s desk x.sound.held r f own) (on_Laid s b x.sound.laid r f))

    on_carries : {d : Ledger} {b' : List ℕ} → ((y : BeforeFlushLedger signed f.place b) → LaidLedger (tick (after_report f.place y.before.store)) d b') → AfterRequest s (sign_on r f) d b'
    unfolding on_effect Put_effect carried_out
    on_carries l = l on_effect

    -- a desk with that ledger
    module _ {d₁ : Ledger} (is : d₁ ≡ signed) where
      pub on_follows : BeforeFlushLedger d₁ f.place b
      on_follows = subst (λ (z : Ledger). BeforeFlushLedger z f.place b) (sym is) on_effect

      pub on_done : {d : Ledger} {b' : List ℕ} → ((y : BeforeFlushLedger d₁ f.place b) → LaidLedger (tick (after_report f.place y.before.store)) d b') → AfterRequest s (sign_on r f) d b'
      on_done {d} {b'} l = on_carries (subst (λ (z : Ledger). (y : BeforeFlushLedger z f.place b) → LaidLedger (tick (after_report f.place y.before.store)) d b') is l)

-- ---- report

module _ {desk : Ledger} {r : ℕ} {f : Fix} {b : List ℕ} (x : BeforeReport desk r f b) where
  module _ {waiting : Waiting} (own : waiting ≡ waiting_of (alter (λ w. Some (record { fix = f; new = was_new w })) r (reports_of (ledger_waiting desk)))) where
    abbrev told : Ledger
    told = ledger_holding (ledger_grid desk) waiting (ledger_memo desk) (ledger_on desk) desk.parts.tally f.minute

    report_effect : BeforeFlushLedger told f.place b
    unfolding Put_effect
    report_effect =
        Put_effect (reported r f (with_highest f.minute x.sound.store)) (report_Put x.sound.store x.sound.well r f x.reports)
        (desk_Laid (reported r f (with_highest f.minute x.sound.store)) (report_gives x.sound.store desk x.sound.held r f own) (report_Laid x.sound.store b x.sound.laid r f))

    report_carries : {d : Ledger} {b' : List ℕ} → ((y : BeforeFlushLedger told f.place b) → LaidLedger (tick (after_report f.place y.before.store)) d b') → AfterRequest x.sound.store (report r f) d b'
    unfolding report_effect Put_effect carried_out
    report_carries l = l report_effect

    module _ {d₁ : Ledger} (is : d₁ ≡ told) where
      pub report_follows : BeforeFlushLedger d₁ f.place b
      report_follows = subst (λ (z : Ledger). BeforeFlushLedger z f.place b) (sym is) report_effect

      pub report_done : {d : Ledger} {b' : List ℕ} → ((y : BeforeFlushLedger d₁ f.place b) → LaidLedger (tick (after_report f.place y.before.store)) d b') → AfterRequest x.sound.store (report r f) d b'
      report_done {d} {b'} l = report_carries (subst (λ (z : Ledger). (y : BeforeFlushLedger z f.place b) → LaidLedger (tick (after_report f.place y.before.store)) d b') is l)

-- ---- sign-off

module _ {desk : Ledger} {r minute : ℕ} {b : List ℕ} (x : BeforeSignOff desk r minute b) where
  module _ {waiting : Waiting} {memo : Memo} {on : On}
      (own : (waiting ≡ waiting_of (alter (λ _. None) r (reports_of (ledger_waiting desk))))
      × (memo ≡ memo_of (cond (was_new (find (reports_of (ledger_waiting desk)) r)) (lines_of (ledger_memo desk)) (alter (raised None) r (lines_of (ledger_memo desk)))))
      × (on ≡ on_of (alter (λ _. None) r (radios_of (ledger_on desk))))) where
    abbrev signed_off_ledger : Ledger
    signed_off_ledger = ledger_holding (ledger_grid desk) waiting memo on desk.parts.tally minute

    early : (signed_off r (with_highest minute x.sound.store)).tally < sweep_every
    unfolding signed_off
    early = x.sound.well.tallied

    off_tallies : BeforeTallyLedger signed_off_ledger b
    off_tallies =
        let s = x.sound.store in
        let s' = with_highest minute s in
        let h : LaidLedger (signed_off r s') signed_off_ledger b = desk_Laid (signed_off r s') (off_gives s desk x.sound.held r minute own) (off_Laid s b x.sound.laid r minute) in
        record {
          before = record {
            store = signed_off r s';
            early = early;
            roomy = off_roomy s' (later_well s x.sound.well minute x.signs.late) r x.signs.first x.signs.last (unfold is_on in x.signs.on);
            laid = h.in_waiting.in_memo;
            tally_is = h.tally_is;
          };
          waiting_is = h.in_waiting.waiting_is;
          on_is = h.on_is;
          highest_is = h.highest_is;
        }

    off_carries : {d : Ledger} {b' : List ℕ} → ((y : BeforeTallyLedger signed_off_ledger b) → LaidLedger (tick y.before.store) d b') → AfterRequest x.sound.store (sign_off r minute) d b'
    unfolding off_tallies carried_out
    off_carries l = l off_tallies

    module _ {d₁ : Ledger} (is : d₁ ≡ signed_off_ledger) where
      pub off_follows : BeforeTallyLedger d₁ b
      off_follows = subst (λ (z : Ledger). BeforeTallyLedger z b) (sym is) off_tallies

      pub off_done : {d : Ledger} {b' : List ℕ} → ((y : BeforeTallyLedger d₁ b) → LaidLedger (tick y.before.store) d b') → AfterRequest x.sound.store (sign_off r minute) d b'
      off_done {d} {b'} l = off_carries (subst (λ (z : Ledger). (y : BeforeTallyLedger z b) → LaidLedger (tick y.before.store) d b') is l)
