-- What follows a record's own effect, in the words of the calls: the flush that is due, and the tally.
use mathlib.Core.Path.{◌≡◌, refl, sym, ap, ◌∙◌, subst}
use mathlib.Core.List.{List, [], ◌∷◌}
use Prim.Native.Nat.{ℕ, ◌+◌}
use lib.Dec.{ltb}
use Rattle.terms.specs.Terms.{Place}
use Rattle.lists.proofs.Cases.{by_cases, option_cases}
use Rattle.rules.specs.Store.{Cell, Store}
use Rattle.rules.specs.Limits.{sweep_every}
use Rattle.rules.specs.Grid.{Box}
use Rattle.rules.specs.Sweep.{sweep_front, counted, tick}
use Rattle.rules.specs.Cut.{Cut}
use Rattle.rules.specs.Flush.{Flushed, flushed_into, grown, split_at, joined_with, reshaped}
use Rattle.rules.specs.Carry.{flush_due, after_report}
use Rattle.rules.proofs.CutLaws.{flush_cases, reshaped_cases}
use Rattle.desk.specs.Held.{Grid, Memo, Waiting, ledger_grid, ledger_waiting, ledger_memo, ledger_on, Ledger}
use Rattle.desk.specs.Layout.{grid_of, waiting_of, memo_of, on_of, ledger_holding, ledger_of, Laid}
use Rattle.desk.specs.Laid.{LaidWaiting, LaidLedger}
use Rattle.tally.specs.Tally.{BeforeTally, AfterTally}
use Rattle.flush.specs.Flush.{BeforeFlush}
use Rattle.flush.proofs.AfterLaws.{after_tallied}
use Rattle.effects.specs.Effects.{BeforeTallyLedger, BeforeFlushLedger}

-- ---- a desk by its parts

module _ {desk : Ledger} (s : Store) (held : desk ≡ ledger_of s) where
  pub grid_held : ledger_grid desk ≡ grid_of s
  unfolding ledger_of
  grid_held = ap (λ (d : Ledger). ledger_grid d) held

  pub waiting_held : ledger_waiting desk ≡ waiting_of s.waiting
  unfolding ledger_of
  waiting_held = ap (λ (d : Ledger). ledger_waiting d) held

  pub memo_held : ledger_memo desk ≡ memo_of s.memo
  unfolding ledger_of
  memo_held = ap (λ (d : Ledger). ledger_memo d) held

  pub on_held : ledger_on desk ≡ on_of s.on
  unfolding ledger_of
  on_held = ap (λ (d : Ledger). ledger_on d) held

  pub tally_held : desk.parts.tally ≡ s.tally
  unfolding ledger_of
  tally_held = ap (λ (d : Ledger). d.parts.tally) held

  pub highest_held : desk.parts.highest ≡ s.highest
  unfolding ledger_of
  highest_held = ap (λ (d : Ledger). d.parts.highest) held

-- the same as one equation
pub desk_Laid : {desk : Ledger} {b : List ℕ} (s : Store) → desk ≡ ledger_of s → Laid s b → LaidLedger s desk b
desk_Laid s held laid = record {
  in_waiting = record { in_memo = record { in_grid = record { grid_is = grid_held s held; laid = laid }; memo_is = memo_held s held }; waiting_is = waiting_held s held };
  on_is = on_held s held;
  tally_is = tally_held s held;
  highest_is = highest_held s held;
}

pub Laid_desk : {desk : Ledger} {b : List ℕ} (s : Store) → LaidLedger s desk b → (desk ≡ ledger_of s) × Laid s b
unfolding ledger_of
Laid_desk s x =
    let w = x.in_waiting in
    let m = w.in_memo in
    (λ i. ledger_holding (m.in_grid.grid_is i) (w.waiting_is i) (m.memo_is i) (x.on_is i) (x.tally_is i) (x.highest_is i), m.in_grid.laid)

-- ---- the tally

-- a tick leaves what waits and who is on
tick_leaves : {A : Type 0} (part : Store → A) (s : Store) → ((c : Cell) (cs : List Cell) → part (sweep_front (c ∷ cs) s) ≡ part s) → part (counted s) ≡ part s → part (tick s) ≡ part s
unfolding tick sweep_front
tick_leaves part s front count =
    by_cases (ltb (s.tally + 1) sweep_every) (λ t. rw t count) (λ t. rw t (front_leaves s.cells))
  where
    front_leaves : (l : List Cell) → part (sweep_front l s) ≡ part s
    front_leaves [] = unfold sweep_front in refl
    front_leaves (c ∷ cs) = front c cs

tick-waiting : (s : Store) → (tick s).waiting ≡ s.waiting
unfolding sweep_front
tick-waiting s = tick_leaves (λ t. t.waiting) s (λ c cs. refl) refl

tick-on : (s : Store) → (tick s).on ≡ s.on
unfolding sweep_front
tick-on s = tick_leaves (λ t. t.on) s (λ c cs. refl) refl

tick-highest : (s : Store) → (tick s).highest ≡ s.highest
unfolding sweep_front
tick-highest s = tick_leaves (λ t. t.highest) s (λ c cs. refl) refl

module _ {desk : Ledger} {b : List ℕ} (x : BeforeTallyLedger desk b) where
  pub tally_returns : {g : Grid} {m : Memo} {t : ℕ} {b' : List ℕ} → ((y : BeforeTally (ledger_grid desk) (ledger_memo desk) desk.parts.tally b) → AfterTally y.store g m t b')
      → LaidLedger (tick x.before.store) (ledger_holding g (ledger_waiting desk) m (ledger_on desk) t desk.parts.highest) b'
  tally_returns l =
      let t = l x.before in
      let s = x.before.store in
      record {
        in_waiting = record { in_memo = t.laid; waiting_is = x.waiting_is ∙ ap waiting_of (sym (tick-waiting s)) };
        on_is = x.on_is ∙ ap on_of (sym (tick-on s));
        tally_is = t.tally_is;
        highest_is = x.highest_is ∙ sym (tick-highest s);
      }

-- ---- the flush

-- a flush leaves who is on, and the highest minute
reshaped_leaves : {A : Type 0} (part : Store → A) (f : Flushed) → part (grown f) ≡ part f.store → ((c : Cut) → part (split_at c f) ≡ part f.store)
    → ((n : Cell) → part (joined_with f n) ≡ part f.store) → part (reshaped f) ≡ part f.store
reshaped_leaves part f whole split join = reshaped_cases (λ x. part x ≡ part f.store) f whole (λ c _ _ _. split c) (λ n _ _. join n)

after_leaves : {A : Type 0} (part : Store → A) (p : Place) (s : Store) → ((m : Box) (d : Cell) → part (reshaped (flushed_into m s d)) ≡ part s) → part (after_report p s) ≡ part s
unfolding after_report
after_leaves part p s flushed = option_cases (flush_due s p) (λ e. rw e) (λ m e. rw e (flush_cases (λ t. part t ≡ part s) m s (λ n. refl) (λ d n. flushed m d)))

pub after_on : (p : Place) (s : Store) → (after_report p s).on ≡ s.on
after_on p s = after_leaves (λ t. t.on) p s (λ m d. unfold grown split_at joined_with flushed_into in reshaped_leaves (λ t. t.on) (flushed_into m s d) refl (λ c. refl) (λ n. refl))

pub after_highest : (p : Place) (s : Store) → (after_report p s).highest ≡ s.highest
after_highest p s =
    after_leaves (λ t. t.highest) p s (λ m d. unfold grown split_at joined_with flushed_into in reshaped_leaves (λ t. t.highest) (flushed_into m s d) refl (λ c. refl) (λ n. refl))

module _ {desk : Ledger} {p : Place} {b : List ℕ} (x : BeforeFlushLedger desk p b) where
  abbrev store : Store
  store = x.before.store

  module _ {g : Grid} {w : Waiting} {m : Memo} {b' : List ℕ} (l : (y : BeforeFlush (ledger_grid desk) (ledger_waiting desk) (ledger_memo desk) b) → LaidWaiting (after_report p y.store) g w m b') where
    abbrev after : LaidWaiting (after_report p store) g w m b'
    after = l x.before

    -- what is tallied then
    abbrev flushed_tallies : BeforeTallyLedger (ledger_holding g w m (ledger_on desk) desk.parts.tally desk.parts.highest) b'
    flushed_tallies = record {
      before = after_tallied x.before p desk.parts.tally x.others_few after x.tally_is;
      waiting_is = after.waiting_is;
      on_is = x.on_is ∙ ap on_of (sym (after_on p store));
      highest_is = x.highest_is ∙ sym (after_highest p store);
    }

    flush_returns : {r : Ledger} {b'' : List ℕ}
        → ((y : BeforeTallyLedger (ledger_holding g w m (ledger_on desk) desk.parts.tally desk.parts.highest) b') → LaidLedger (tick y.before.store) r b'')
        → LaidLedger (tick (after_report p store)) r b''
    flush_returns k = k flushed_tallies

    -- a desk with that ledger
    module _ {d₁ : Ledger} (is : d₁ ≡ ledger_holding g w m (ledger_on desk) desk.parts.tally desk.parts.highest) where
      pub flush_follows : BeforeTallyLedger d₁ b'
      flush_follows = subst (λ (z : Ledger). BeforeTallyLedger z b') (sym is) flushed_tallies

      pub flush_done : {r : Ledger} {b'' : List ℕ} → ((y : BeforeTallyLedger d₁ b') → LaidLedger (tick y.before.store) r b'') → LaidLedger (tick (after_report p store)) r b''
      flush_done {r} {b''} k = flush_returns (subst (λ (z : Ledger). (y : BeforeTallyLedger z b') → LaidLedger (tick y.before.store) r b'') is k)
