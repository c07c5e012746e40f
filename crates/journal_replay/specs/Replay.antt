-- A journal carried from a fresh store (01, "The journal printer"): a list of calls whose records are the journal's, and what they answer, in bytes.
use Rattle.std.specs.Prelude.{cond, List, [], ◌++◌, ◌≡◌, ℕ, ◌+◌, ◌*◌, ◌<◌, ◌≤◌, eqb, length, take, drop, Result, Ok, Err}
use Rattle.terms.specs.Terms.{field_bytes}
use Rattle.terms.specs.declared.Refusal.{Refusal}
use Rattle.terms.specs.Refusals.{number_of}
use Rattle.lists.specs.Words.{le}
use Rattle.page.specs.Buffer.{buffer_bytes}
use Rattle.rules.specs.Records.{length_field}
use Rattle.rules.specs.Carry.{list_bytes}
use Rattle.rules.specs.Plain.{Plain}
use Rattle.rules.specs.Calls.{hands, sets, clears, writes}
use Rattle.desk.specs.declared.Desk.{Desk}
use Rattle.desk.specs.Call.{After}
use Rattle.demands.specs.Trace.{Trace, begun, called}
use Rattle.journal_replay.specs.declared.Run.{Run}

-- ---- the records

-- what a call leaves of the journal: "After printing number 3 it ends; after any other it goes on by the length."
unfoldable pub left_by : List ℕ → ℕ → List ℕ
left_by bytes number = cond (eqb number 3) [] (drop (length_field bytes) bytes)

-- the calls are the journal's records, and no others: each is handed what the one before it left, some byte of it, and the last one leaves `left`
abbrev pub Leaves : List ℕ → {d : Desk} {b : List ℕ} {x : Plain} → Trace d b x → List ℕ → Type 0
Leaves journal begun left = left ≡ journal
Leaves journal (called before (hands bytes) buffer y small a) left = Leaves journal before bytes × (0 < length bytes) × (left ≡ left_by bytes y.number)
Leaves journal (called before (sets w rect) buffer y small a) left = ⊥
Leaves journal (called before (clears w) buffer y small a) left = ⊥
Leaves journal (called before writes buffer y small a) left = ⊥

-- ---- the answers

-- "The answer carries the number and ..": number and count
abbrev pub answer_bytes : ℕ
answer_bytes = 4

-- "An accepted range writes 6 × n bytes"
unfoldable pub listed_bytes : ℕ → ℕ → ℕ
listed_bytes number count = cond (eqb number 0) (list_bytes * count) 0

-- number, count and what is listed
unfoldable pub reply : After → List ℕ
reply y = le field_bytes y.number ++ (le field_bytes y.count ++ take (listed_bytes y.number y.count) y.buffer)

unfoldable pub replies : {d : Desk} {b : List ℕ} {x : Plain} → Trace d b x → List ℕ
replies begun = []
replies (called before call buffer y small a) = replies before ++ reply y

-- ---- the run

-- desk and pages are what a list of calls leaves whose records are the journal's first `read` bytes, and whose answers are the first `written` bytes of out
pub record Running (journal : List ℕ) (desk : Desk) (pages : List ℕ) (read : ℕ) (out : List ℕ) (written : ℕ) : Type 0 where
  pub plain : Plain
  pub calls : Trace desk pages plain
  pub records : Leaves journal calls (drop read journal)
  pub answers : take written out ≡ replies calls
  pub within : read ≤ length journal
  pub room : written ≤ length out

-- what the journal is carried on, and the room for the answers
pub record Found : Type 0 where
  pub desk : Desk
  pub pages : List ℕ
  pub out : List ℕ

abbrev pub handed : Desk → List ℕ → List ℕ → Found
handed desk pages out = record { desk = desk; pages = pages; out = out }

-- the number that making a fresh store answers, what is then held, and how far journal and room are used
pub record Held : Type 0 where
  pub number : ℕ
  pub desk : Desk
  pub pages : List ℕ
  pub read : ℕ
  pub written : ℕ
  pub out : List ℕ

abbrev pub left : ℕ → Desk → List ℕ → ℕ → ℕ → List ℕ → Held
left number desk pages read written out = record { number = number; desk = desk; pages = pages; read = read; written = written; out = out }

-- with what the code answers: a run that is refused has read and written nothing
abbrev pub replayed : Result Run Refusal → Desk → List ℕ → List ℕ → Held
replayed (Ok run) desk pages out = left 0 desk pages run.read run.written out
replayed (Err refusal) desk pages out = left (number_of refusal) desk pages 0 0 out

pub record Replays (journal : List ℕ) (x : Found) (y : Held) : Type 0 where
  -- 1: "The page buffer isn't 25,600 bytes.", which Job 3 makes 41,984
  pub size : (length x.pages ≡ buffer_bytes → ⊥) → y ≡ record { number = 1; desk = x.desk; pages = x.pages; read = 0; written = 0; out = x.out }
  -- else a run from the fresh store
  pub accepted : length x.pages ≡ buffer_bytes → y.number ≡ 0
  pub run : length x.pages ≡ buffer_bytes → Running journal y.desk y.pages y.read y.out y.written
  -- that goes on to the journal's end while there is room for an answer
  pub whole : length x.pages ≡ buffer_bytes → y.written + answer_bytes ≤ length x.out → y.read ≡ length journal
  -- and writes nothing but the answers
  pub kept : drop y.written y.out ≡ drop y.written x.out
