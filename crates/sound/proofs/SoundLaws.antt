-- What the three tests come to, one after the other: the contract of the whole.
use mathlib.Core.Bool.{Bool, true, false}
use mathlib.Core.List.{List}
use mathlib.Core.Path.{◌≡◌, sym, ap, ◌∙◌}
use Prim.Native.Nat.{ℕ}
use Rattle.lists.specs.Rows.{Rows}
use Rattle.lists.proofs.Cases.{false-true}
use Rattle.desk.specs.Held.{Ledger, ledger_grid, desk_with, desk_ledger}
use Rattle.desk.specs.declared.Desk.{Desk}
use Rattle.desk.specs.Layout.{watches_of, desk_of}
use Rattle.desk.specs.Sound.{SoundLedger, Sound}
use Rattle.desk.proofs.UniqueLaws.{unique, Sound_ledger, desk_watches}
use Rattle.rules.specs.Store.{Store}
use Rattle.rules.specs.Watches.{latest_place}
use Rattle.sound_watches.specs.Sound.{WatchesSound}
use Rattle.sound_desk.specs.Sound.{desk_sound, shown, Shaped}
use Rattle.sound_pages.specs.PagesSound.{PagesSound}
use Rattle.sound_pages.proofs.StoreLaws.{desk_pages}
use Rattle.terms.specs.Terms.{Fix}
use Rattle.sound_entries.specs.Entries.{rows_read}
use Rattle.sound_radios.specs.Entries.{entries_test}
use Rattle.sound_radios.proofs.ReadLaws.{rows_read_lem}
use Rattle.sound.proofs.StoreLaws.{radios_sound, sound_radios, sound_desk}

-- a test that is false where sound desks pass
unsound : (d : Ledger) (b : List ℕ) (r : Bool) → r ≡ false → (SoundLedger d b → r ≡ true) → (false ≡ true → SoundLedger d b) × (SoundLedger d b → false ≡ true)
unsound d b r f h = (λ e. false-true e, λ y. sym f ∙ h y)

pub desk_passed : {a : Bool} (d : Ledger) → a ≡ desk_sound d → a ≡ true → desk_sound d ≡ true
desk_passed {a} d e f = sym e ∙ f

module _ (d : Ledger) (b : List ℕ) where
  pub desk_unsound : {a : Bool} → a ≡ desk_sound d → a ≡ false → (false ≡ true → SoundLedger d b) × (SoundLedger d b → false ≡ true)
  desk_unsound {a} e f = unsound d b a f (λ y. e ∙ sound_desk d b y)

  module _ {p : Bool} (says : (p ≡ true → PagesSound d.parts.highest b (ledger_grid d).cells (ledger_grid d).free) × (PagesSound d.parts.highest b (ledger_grid d).cells (ledger_grid d).free → p ≡ true)) where
    pub pages_unsound : p ≡ false → (false ≡ true → SoundLedger d b) × (SoundLedger d b → false ≡ true)
    pages_unsound f = unsound d b p f (λ y. says.1 (desk_pages d b y))

    module _ (passed : p ≡ true) where
      -- what the radios' test may rely on
      pub pages_passed : PagesSound d.parts.highest b (ledger_grid d).cells (ledger_grid d).free
      pages_passed = says.0 passed

      -- the pages' entries are those of the cells
      pub radios_say : {a r : Bool} → Shaped d → a ≡ desk_sound d → a ≡ true
          → r ≡ entries_test (shown d).memo (shown d).waiting (shown d).on d.parts.tally (rows_read b (ledger_grid d).cells)
          → (r ≡ true → SoundLedger d b) × (SoundLedger d b → r ≡ true)
      radios_say {a} shape e f q =
          let desk = sym e ∙ f in
          let rows = q ∙ ap (λ (l : List (Rows Fix)). entries_test (shown d).memo (shown d).waiting (shown d).on d.parts.tally l) (rows_read_lem pages_passed) in
          (λ t. radios_sound d b shape desk pages_passed (sym rows ∙ t), λ y. rows ∙ sound_radios d b shape desk pages_passed y)

-- ---- the watches beside the ledger

-- the ledger's test passed
pub ledger_passed : {l : Ledger} {b : List ℕ} (t : Bool) → (t ≡ true → SoundLedger l b) → t ≡ true → SoundLedger l b
ledger_passed t f e = f e

module _ (d : Desk) (b : List ℕ) where
  -- a ledger that is not sound
  pub ledger_unsound : {a : Bool} → (SoundLedger (desk_ledger d) b → a ≡ true) → a ≡ false → (false ≡ true → Sound d b) × (Sound d b → false ≡ true)
  ledger_unsound {a} h f = (λ e. false-true e, λ y. sym f ∙ h (Sound_ledger y))

  -- a sound one: all is in the watches
  module _ (s : SoundLedger (desk_ledger d) b) where
    desk_Sound : WatchesSound s.store d.watches → Sound d b
    unfolding desk_of
    desk_Sound k = record {
      watched = record { store = s.store; watches = k.watches };
      well = s.well;
      right = k.right;
      held = held;
      laid = s.laid;
    }
      where
        held : d ≡ desk_of (record { store = s.store; watches = k.watches })
        held = let l = s.held in let w = k.held in λ i. desk_with (l i).parts (l i).cells (l i).waiting (l i).memo (l i).on (w i)

    Sound-watches : Sound d b → WatchesSound s.store d.watches
    Sound-watches y =
        let e = unique (desk_ledger d) b (Sound_ledger y) s in
        record {
          watches = y.watched.watches;
          right = y.right;
          held = ap (λ (x : Desk). x.watches) y.held ∙ desk_watches y.watched ∙ ap (λ (z : Store). watches_of (latest_place z) y.watched.watches) e;
        }

    pub watches_say : {r : Bool} → ((z : SoundLedger (desk_ledger d) b) → (r ≡ true → WatchesSound z.store d.watches) × (WatchesSound z.store d.watches → r ≡ true))
        → (r ≡ true → Sound d b) × (Sound d b → r ≡ true)
    watches_say f = (λ t. desk_Sound ((f s).0 t), λ y. (f s).1 (Sound-watches y))
