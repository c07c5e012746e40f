-- Two desks fed the same calls (02, Job 7): "Two desks fed the same journal show different cell maps, and officers comparing screens think one is broken."
use Rattle.std.specs.Prelude.{List, [], ◌∷◌, ◌≡◌, ℕ}
use Rattle.rules.specs.Plain.{Plain}
use Rattle.rules.specs.Calls.{Call}
use Rattle.desk.specs.declared.Desk.{Desk}
use Rattle.desk.specs.Call.{After}
use Rattle.demands.specs.Trace.{Trace, begun, called}

-- what a desk is fed: a call, and the answer buffer
pub record Fed : Type 0 where
  pub call : Call
  pub buffer : List ℕ

-- the calls of a list, the last first
abbrev pub calls_of : {d : Desk} {b : List ℕ} {x : Plain} → Trace d b x → List Fed
calls_of begun = []
calls_of (called before call buffer y small a) = record { call = call; buffer = buffer } ∷ calls_of before

-- what each of them answered, and what desk, pages and answer buffer then held
abbrev pub answers_of : {d : Desk} {b : List ℕ} {x : Plain} → Trace d b x → List After
answers_of begun = []
answers_of (called before call buffer y small a) = y ∷ answers_of before

-- two lists with the same answers at every call, which leave the same desk and the same pages, to the byte
pub record Alike {d e : Desk} {b c : List ℕ} {x z : Plain} (t : Trace d b x) (u : Trace e c z) : Type 0 where
  pub answers : answers_of t ≡ answers_of u
  pub desk : d ≡ e
  pub pages : b ≡ c

abbrev pub SameDesks : Type 0
SameDesks = (d e : Desk) (b c : List ℕ) (x z : Plain) (t : Trace d b x) (u : Trace e c z) → calls_of t ≡ calls_of u → Alike t u
