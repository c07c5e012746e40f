-- A sign-on, a report and a sign-off on a sound store: what each finds and leaves (01, "How a record is carried out").
use Rattle.std.specs.Prelude.{false, List, [], ◌≡◌, ℕ, ◌<◌}
use Rattle.terms.specs.Terms.{Place, Fix}
use Rattle.rules.specs.Limits.{full_box}
use Rattle.rules.specs.Grid.{Box, same_box, box_of}
use Rattle.rules.specs.Store.{Store}
use Rattle.rules.specs.Records.{Request}
use Rattle.rules.specs.Carry.{waiting_in, carried_out}
use Rattle.desk.specs.Held.{Ledger, ledger_grid, ledger_waiting, ledger_memo, ledger_on}
use Rattle.desk.specs.Layout.{waiting_of, on_of}
use Rattle.desk.specs.Laid.{LaidLedger}
use Rattle.desk.specs.Sound.{SoundLedger}
use Rattle.records.specs.Asked.{SignsOn, Reports, SignsOff}
use Rattle.tally.specs.Tally.{BeforeTally}
use Rattle.flush.specs.Flush.{BeforeFlush}

-- the whole ledger before the flush that a report at p makes due: no memory cell but that of p is full
pub record BeforeFlushLedger (ledger : Ledger) (p : Place) (bytes : List ℕ) : Type 0 where
  pub before : BeforeFlush (ledger_grid ledger) (ledger_waiting ledger) (ledger_memo ledger) bytes
  pub others_few : (n : Box) → same_box n (box_of before.store.cuts p) ≡ false → waiting_in before.store.cuts before.store.waiting n < full_box
  pub on_is : ledger_on ledger ≡ on_of before.store.on
  pub tally_is : ledger.parts.tally ≡ before.store.tally
  pub highest_is : ledger.parts.highest ≡ before.store.highest

-- the whole ledger before the tally
pub record BeforeTallyLedger (ledger : Ledger) (bytes : List ℕ) : Type 0 where
  pub before : BeforeTally (ledger_grid ledger) (ledger_memo ledger) ledger.parts.tally bytes
  pub waiting_is : ledger_waiting ledger ≡ waiting_of before.store.waiting
  pub on_is : ledger_on ledger ≡ on_of before.store.on
  pub highest_is : ledger.parts.highest ≡ before.store.highest

-- ---- a record on a sound store, once the checks have passed it

pub record BeforeSignOn (ledger : Ledger) (r : ℕ) (f : Fix) (bytes : List ℕ) : Type 0 where
  pub sound : SoundLedger ledger bytes
  pub signs : SignsOn sound.store r f

pub record BeforeReport (ledger : Ledger) (r : ℕ) (f : Fix) (bytes : List ℕ) : Type 0 where
  pub sound : SoundLedger ledger bytes
  pub reports : Reports sound.store r f

pub record BeforeSignOff (ledger : Ledger) (r minute : ℕ) (bytes : List ℕ) : Type 0 where
  pub sound : SoundLedger ledger bytes
  pub signs : SignsOff sound.store r minute

-- the request is carried out
abbrev pub AfterRequest : Store → Request → Ledger → List ℕ → Type 0
AfterRequest s q ledger bytes = LaidLedger (carried_out q s []).store ledger bytes
