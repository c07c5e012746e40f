-- Demands 2 and 3 hold of every list of calls: beside each list goes a well-formed store that desk and pages lay out, and that is linked to the plain rule.
use mathlib.Core.Bool.{true, false, not, cond}
use mathlib.Core.List.{List}
use Rattle.std.specs.Prelude.{None, Some}
use mathlib.Core.Path.{◌≡◌, refl, sym, ap, ◌∙◌, subst}
use Prim.Native.Nat.{ℕ}
use native.Mathlib.Omega.{arith}
use lib.Dec.{eqb, leb, ltb}
use lib.ListN.{length, set, replicate}
use borrow.Author.Tests.{eqb-true}
use Rattle.terms.specs.Terms.{Fix}
use Rattle.lists.specs.Rows.{Rows}
use Rattle.lists.specs.Tests.{either, is_some}
use Rattle.lists.specs.Words.{Bytes}
use Rattle.lists.proofs.Cases.{by_cases}
use Rattle.csv_grammar.specs.Csv.{file_of}
use Rattle.rules.specs.Everyone.{everyone, plain_everyone}
use Rattle.rules.specs.Grid.{Rect, is_reversed}
use Rattle.rules.specs.Store.{Store, fresh}
use Rattle.rules.specs.Carry.{carry}
use Rattle.rules.specs.Plain.{Plain, plain_fresh, plain_step}
use Rattle.rules.specs.Told.{Told, told_file}
use Rattle.rules.specs.Watches.{max_watches, Watch, watch_at, Watched, RightWatches, fresh_watched}
use Rattle.rules.specs.Calls.{Call, hands, sets, clears, writes, carry_record, filed, set_refusal, clear_refusal, numbered, watch_call, carry_call, plain_call}
use Rattle.rules.specs.WellFormed.{WellFormed}
use Rattle.rules.proofs.LinkLaws.{Link, fresh-Link}
use Rattle.rules.proofs.PlainLaws.{step_Link}
use Rattle.rules.proofs.StepLaws.{step_well}
use Rattle.rules.proofs.ToldLaws.{told_same, told_not_2, told_zero}
use Rattle.rules.proofs.WatchesLaws.{right_set}
use Rattle.rules.proofs.WellLaws.{well_Core}
use Rattle.desk.specs.declared.Desk.{Desk}
use Rattle.desk.specs.Layout.{Laid, fresh_pages}
use Rattle.desk.specs.Sound.{Sound}
use Rattle.desk.specs.Call.{After, handed, Answers, laid_out}
use Rattle.desk.proofs.CallLaws.{answers_Sound}
use Rattle.desk.proofs.PagesLaws.{Laid_pages}
use Rattle.desk.proofs.FreshLaws.{fresh-Laid, fresh_well, fresh_right}
use Rattle.spreadsheet.proofs.EveryoneLaws.{everyone_same}
use Rattle.demands.specs.Trace.{InBytes, Trace, begun, called, fresh_desk, desk_cuts, watches_then, watches_set, EveryState, Step, EveryCall}
use Rattle.demands.specs.Demands.{told_call, AsTold, Demand2, Kept, HadSpace, NotRefused, Demand3}
use Rattle.demands.proofs.KeptLaws.{desk_at, kept, desk_cuts_lem}

-- ---- the store beside a list of calls

pub record Beside (d : Desk) (b : List ℕ) (x : Plain) (l : List Watch) : Type 0 where
  pub store : Store
  pub well : WellFormed store
  pub right : RightWatches l
  pub held : d ≡ desk_at store l
  pub laid : Laid store b
  pub link : Link store x

abbrev pub watched : {d : Desk} {b : List ℕ} {x : Plain} {l : List Watch} → Beside d b x l → Watched
watched {l = l} k = record { store = k.store; watches = l }

abbrev pub sound : {d : Desk} {b : List ℕ} {x : Plain} {l : List Watch} → Beside d b x l → Sound d b
sound k = record { watched = watched k; well = k.well; right = k.right; held = k.held; laid = k.laid }

unfoldable pub begins : Beside fresh_desk fresh_pages plain_fresh (replicate max_watches None)
unfolding fresh_watched
begins = record { store = fresh; well = fresh_well; right = fresh_right; held = refl; laid = fresh-Laid; link = fresh-Link }

-- ---- what a call answers and leaves, as the rules say of the store beside it

-- a record
unfoldable pub outcome : {d : Desk} {b : List ℕ} {x : Plain} {l : List Watch} (k : Beside d b x l) (bytes buffer : List ℕ) {y : After}
    → y ≡ laid_out (carry_record bytes (watched k) buffer) → Bytes bytes
    → Beside y.desk y.pages (plain_step (desk_cuts d) bytes x) l
unfolding laid_out carry_record
outcome {d} {b} {x} {l} k bytes buffer {y} e small =
    let s = (carry k.store bytes buffer).store in
    let w = step_well k.store bytes buffer small k.well in
    let cuts : desk_cuts d ≡ k.store.cuts = ap desk_cuts k.held ∙ desk_cuts_lem k.store l in
    record {
      store = s;
      well = w;
      right = k.right;
      held = ap (λ (z : After). z.desk) e;
      laid = subst (λ (n : List ℕ). Laid s n) (sym (ap (λ (z : After). z.pages) e)) (Laid_pages s w.once);
      link = rw cuts (step_Link k.store x bytes buffer small k.well k.link);
    }

-- a file that is written changes neither store nor watches
unfoldable pub wrote : {d : Desk} {b : List ℕ} {x : Plain} {l : List Watch} (k : Beside d b x l) (t : Told) {y : After} → y ≡ laid_out (filed t (watched k)) → Beside y.desk y.pages x l
unfolding laid_out
wrote k t {y} e = record {
  store = k.store;
  well = k.well;
  right = k.right;
  held = ap (λ (a : After). a.desk) e;
  laid = subst (λ (n : List ℕ). Laid k.store n) (sym (ap (λ (a : After). a.pages) e)) (Laid_pages k.store k.well.once);
  link = k.link;
}

-- a call that changes the watches, or nothing
unfoldable pub rewatched : {d : Desk} {b : List ℕ} {x : Plain} {l : List Watch} (k : Beside d b x l) (z : List Watch) (number : ℕ) (buffer : List ℕ) → RightWatches z → {y : After}
    → y ≡ laid_out (numbered number (record { store = k.store; watches = z }) buffer) → Beside y.desk y.pages x z
unfolding laid_out
rewatched k z number buffer right {y} e = record {
  store = k.store;
  well = k.well;
  right = right;
  held = ap (λ (a : After). a.desk) e;
  laid = subst (λ (n : List ℕ). Laid k.store n) (sym (ap (λ (a : After). a.pages) e)) (Laid_pages k.store k.well.once);
  link = k.link;
}

-- a rectangle that is set is not reversed
upright : (w : ℕ) (rect : Rect) → eqb (set_refusal w rect) 0 ≡ true → is_reversed rect ≡ false
upright w rect e =
    let z = eqb-true (set_refusal w rect) 0 e in
    by_cases (leb max_watches w) (λ t. absurd (omega (arith, rw t at z))) (λ t. let z₁ = rw t at z in by_cases (is_reversed rect) (λ u. absurd (omega (arith, rw u at z₁))) (λ u. u))

pub right_then : (call : Call) {l : List Watch} → RightWatches l → RightWatches (watches_then call l)
right_then (hands bytes) h = h
right_then (sets w rect) {l} h =
    by_cases (eqb (set_refusal w rect) 0) (λ t. rw t (right_set l w (Some rect) (upright w rect t) h)) (λ t. rw t h)
right_then (clears w) {l} h = by_cases (eqb (clear_refusal w l) 0) (λ t. rw t (right_set l w None tt h)) (λ t. rw t h)
right_then writes h = h

-- under number 0 the watches are changed, under any other all stays
pub watched_then : (s : Store) (l : List Watch) (number w : ℕ) (watch : Watch) (buffer : List ℕ)
    → watch_call number w watch (record { store = s; watches = l }) buffer ≡ numbered number (record { store = s; watches = cond (eqb number 0) (set l w watch) l }) buffer
unfolding watch_call
watched_then s l number w watch buffer = by_cases (eqb number 0) (λ t. rw t (ap (λ (n : ℕ). numbered n (record { store = s; watches = set l w watch }) buffer) (sym (eqb-true number 0 t)))) (λ t. rw t)

-- any call
unfoldable pub follows : {d : Desk} {b : List ℕ} {x : Plain} {l : List Watch} (k : Beside d b x l) (call : Call) (buffer : List ℕ) {y : After}
    → y ≡ laid_out (carry_call call (watched k) buffer) → InBytes call → Beside y.desk y.pages (plain_call (desk_cuts d) call x) (watches_then call l)
unfolding carry_call
follows k (hands bytes) buffer e small = outcome k bytes buffer e small
follows {l = l} k (sets w rect) buffer e small =
    rewatched k (watches_then (sets w rect) l) (set_refusal w rect) buffer (right_then (sets w rect) k.right) (e ∙ ap laid_out (watched_then k.store l (set_refusal w rect) w (Some rect) buffer))
follows {l = l} k (clears w) buffer e small =
    rewatched k (watches_then (clears w) l) (clear_refusal w l) buffer (right_then (clears w) k.right) (e ∙ ap laid_out (watched_then k.store l (clear_refusal w l) w None buffer))
follows k writes buffer e small = wrote k (told_file (file_of (everyone k.store)) buffer) e

pub beside : {d : Desk} {b : List ℕ} {x : Plain} (t : Trace d b x) → Beside d b x (watches_set t)
unfolding watches_set
beside begun = begins
beside (called t call buffer y small a) = let k = beside t in follows k call buffer (answers_Sound a (sound k)) small

state : {d : Desk} {b : List ℕ} {x : Plain} {l : List Watch} → Beside d b x l → Kept d b x
state {d} {b} {x} {l} k = rw k.held (kept k.store l x b k.well k.laid k.link)

-- ---- each call is answered as the plain rule says

module _ {d : Desk} {b : List ℕ} {x : Plain} {l : List Watch} (k : Beside d b x l) where
  abbrev step : Call → List ℕ → After → Step
  step call buffer y = record { desk = d; plain = x; watches = l; call = call; buffer = buffer; after = y }

  watch_told : (number w : ℕ) (watch : Watch) (buffer : List ℕ) {y : After} → y ≡ laid_out (watch_call number w watch (watched k) buffer)
      → (y.number ≡ number) × (y.count ≡ 0) × (y.buffer ≡ buffer)
  unfolding laid_out
  watch_told number w watch buffer e =
      let c = e ∙ ap laid_out (watched_then k.store l number w watch buffer) in
      (ap (λ (z : After). z.number) c, ap (λ (z : After). z.count) c, ap (λ (z : After). z.buffer) c)

  as_told : (call : Call) (buffer : List ℕ) {y : After} → Answers (handed d b call buffer) y → AsTold (step call buffer y)
  unfolding laid_out carry_call carry_record
  as_told (hands bytes) buffer a =
      let c = answers_Sound a (sound k) in
      let t = told_same k.store x bytes buffer (well_Core k.store k.well).signed k.link in
      record {
        number = ap (λ (z : After). z.number) c ∙ t.0;
        count = ap (λ (z : After). z.count) c ∙ t.1;
        buffer = ap (λ (z : After). z.buffer) c ∙ t.2;
      }
  as_told (sets w rect) buffer a = let t = watch_told (set_refusal w rect) w (Some rect) buffer (answers_Sound a (sound k)) in record { number = t.0; count = t.1; buffer = t.2 }
  as_told (clears w) buffer a = let t = watch_told (clear_refusal w l) w None buffer (answers_Sound a (sound k)) in record { number = t.0; count = t.1; buffer = t.2 }
  as_told writes buffer a =
      let c = answers_Sound a (sound k) in
      let t = ap (λ (r : Rows Fix). told_file (file_of r) buffer) (everyone_same k.store x k.link (well_Core k.store k.well).signed) in
      record {
        number = ap (λ (z : After). z.number) c ∙ ap (λ (z : Told). z.number) t;
        count = ap (λ (z : After). z.count) c ∙ ap (λ (z : Told). z.count) t;
        buffer = ap (λ (z : After). z.buffer) c ∙ ap (λ (z : Told). z.buffer) t;
      }

every_told : {d : Desk} {b : List ℕ} {x : Plain} (t : Trace d b x) → EveryCall AsTold t
every_told begun = tt
every_told (called t call buffer y small a) = (every_told t, as_told (beside t) call buffer a)

pub demand2 : Demand2
demand2 d b x t = every_told t

-- ---- what holds of desk and pages, and of each call

every_Kept : {d : Desk} {b : List ℕ} {x : Plain} (t : Trace d b x) → EveryState (λ d b x l. Kept d b x) t
every_Kept begun = state begins
every_Kept (called t call buffer y small a) = (every_Kept t, state (beside (called t call buffer y small a)))

set_not_2 : (w : ℕ) (rect : Rect) → set_refusal w rect ≡ 2 → ⊥
set_not_2 w rect e = by_cases (leb max_watches w) (λ t. absurd (omega (arith, rw t at e))) (λ t. let e₁ = rw t at e in by_cases (is_reversed rect) (λ u. absurd (omega (arith, rw u at e₁))) (λ u. absurd (omega (arith, rw u at e₁))))

clear_not_2 : (w : ℕ) (l : List Watch) → clear_refusal w l ≡ 2 → ⊥
clear_not_2 w l e = by_cases (either (leb max_watches w) (not (is_some (watch_at l w)))) (λ t. absurd (omega (arith, rw t at e))) (λ t. absurd (omega (arith, rw t at e)))

file_not_2 : (file room : List ℕ) → (told_file file room).number ≡ 2 → ⊥
unfolding told_file
file_not_2 file room = by_cases (ltb (length room) (length file)) (λ t. rw t (λ e. omega arith)) (λ t. rw t (λ e. omega arith))

-- number 2 is no refusal of a record's, a watch's or a file's, nor is 11 one of a sign-on or report
told_sound : (x : Plain) (l : List Watch) (call : Call) (room : List ℕ) → (told_call x l call room).number ≡ 2 → ⊥
told_sound x l (hands bytes) room e = told_not_2 x bytes room e
told_sound x l (sets w rect) room e = set_not_2 w rect e
told_sound x l (clears w) room e = clear_not_2 w l e
told_sound x l writes room e = file_not_2 (file_of (plain_everyone x)) room e

told_space : (x : Plain) (l : List Watch) (call : Call) (room : List ℕ) {number : ℕ} → number ≡ (told_call x l call room).number → HadSpace x call number
told_space x l (hands bytes) room t = λ q e. t ∙ told_zero x bytes room q e
told_space x l (sets w rect) room t = tt
told_space x l (clears w) room t = tt
told_space x l writes room t = tt

not_refused : (c : Step) → AsTold c → NotRefused c
not_refused c t = record {
  found_sound = λ e. told_sound c.plain c.watches c.call c.buffer (sym t.number ∙ e);
  had_space = told_space c.plain c.watches c.call c.buffer t.number;
}

every_call : {d : Desk} {b : List ℕ} {x : Plain} (t : Trace d b x) → EveryCall NotRefused t
every_call begun = tt
every_call (called t call buffer y small a) = (every_call t, not_refused (record { desk = _; plain = _; watches = _; call = call; buffer = buffer; after = y }) (as_told (beside t) call buffer a))

pub demand3 : Demand3
demand3 d b x t = record { states = every_Kept t; calls = every_call t }
