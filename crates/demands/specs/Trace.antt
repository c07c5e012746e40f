-- Lists of calls from a fresh store, the plain rule beside them (01, "The plain rule": "Each call gets desk and pages as the last one returned or left
-- them, with record bytes and answer buffer of its own."). The calls that set and clear a watch (02, Job 5) or write a file (Job 6) are among them.
use Rattle.std.specs.Prelude.{cond, List, ℕ, eqb, take, set, replicate, None, Some}
use Rattle.lists.specs.Words.{Bytes}
use Rattle.rules.specs.Grid.{Cuts}
use Rattle.rules.specs.Plain.{Plain, plain_fresh}
use Rattle.rules.specs.Watches.{max_watches, Watch, fresh_watched}
use Rattle.rules.specs.Calls.{Call, hands, sets, clears, writes, set_refusal, clear_refusal, plain_call}
use Rattle.desk.specs.declared.Desk.{Desk}
use Rattle.desk.specs.Layout.{desk_of, fresh_pages}
use Rattle.desk.specs.Call.{After, handed, Answers}

-- "A fresh store has no cut, one cell (0) on page 0, and pages 1 to 127 free in that order."
abbrev pub fresh_desk : Desk
fresh_desk = desk_of fresh_watched

-- the cuts that a call finds in the desk
unfoldable pub desk_cuts : Desk → Cuts
desk_cuts d = record {
  easts = take d.parts.frame.easts.n d.parts.frame.easts.at;
  norths = take d.parts.frame.norths.n d.parts.frame.norths.at;
}

-- a record is handed in as bytes
abbrev pub InBytes : Call → Type 0
InBytes (hands bytes) = Bytes bytes
InBytes (sets w rect) = Unit {0}
InBytes (clears w) = Unit {0}
InBytes writes = Unit {0}

-- a list of calls: the desk and the pages that it leaves, and where the plain rule stands
pub data Trace : Desk → List ℕ → Plain → Type 0 where
  begun : Trace fresh_desk fresh_pages plain_fresh
  called : {d : Desk} {b : List ℕ} {x : Plain} (before : Trace d b x) (call : Call) (buffer : List ℕ) (y : After)
      → InBytes call
      → Answers (handed d b call buffer) y
      → Trace y.desk y.pages (plain_call (desk_cuts d) call x)

-- the watches that are set: "none in a fresh store", "setting again meaning replaced"
abbrev pub watches_then : Call → List Watch → List Watch
watches_then (hands bytes) l = l
watches_then (sets w rect) l = cond (eqb (set_refusal w rect) 0) (set l w (Some rect)) l
watches_then (clears w) l = cond (eqb (clear_refusal w l) 0) (set l w None) l
watches_then writes l = l

unfoldable pub watches_set : {d : Desk} {b : List ℕ} {x : Plain} → Trace d b x → List Watch
watches_set begun = replicate max_watches None
watches_set (called before call buffer y small a) = watches_then call (watches_set before)

-- a fact of the fresh store and of what each call leaves
abbrev pub EveryState : (Desk → List ℕ → Plain → List Watch → Type 0) → {d : Desk} {b : List ℕ} {x : Plain} → Trace d b x → Type 0
EveryState P begun = P fresh_desk fresh_pages plain_fresh (watches_set begun)
EveryState P (called {d} {b} {x} before call buffer y small a) =
    EveryState P before × P y.desk y.pages (plain_call (desk_cuts d) call x) (watches_then call (watches_set before))

-- where a call finds the desk, the plain rule and the watches, what it is handed, and what it answers and leaves
pub record Step : Type 0 where
  pub desk : Desk
  pub plain : Plain
  pub watches : List Watch
  pub call : Call
  pub buffer : List ℕ
  pub after : After

-- a fact of each call
abbrev pub EveryCall : (Step → Type 0) → {d : Desk} {b : List ℕ} {x : Plain} → Trace d b x → Type 0
EveryCall P begun = Unit {0}
EveryCall P (called {d} {b} {x} before call buffer y small a) =
    EveryCall P before × P (record { desk = d; plain = x; watches = watches_set before; call = call; buffer = buffer; after = y })
