-- The printer's run (01, "The journal printer"): what was read, what of it is still at hand, and the calls between; what is printed; and why it ends. What
-- was read is the bytes that reads have put into the window, one after the other. Nothing is said of these at standard input, nor of what is written at
-- standard output; where the reader's bytes are known, as those of a slice, they are what was read, and where the writer's are, they are what is printed.
use Rattle.std.specs.Prelude.{Bool, true, false, cond, List, [], ◌++◌, ◌≡◌, ℕ, zero, suc, ◌+◌, ◌*◌, ◌/◌, ◌<◌, eqb, leb, min, length, take, codes, decimal, Option, Some, None, Result, Ok, Err}
use Rattle.std.specs.Io.KnownBytes.{Consumes, Appends, IsAtEnd}
use Rattle.terms.specs.Terms.{field_bytes, max_on}
use Rattle.lists.specs.Words.{Bytes, word}
use Rattle.rules.specs.Records.{length_field, kind_field, kind_range}
use Rattle.rules.specs.Carry.{list_bytes}
use Rattle.rules.specs.Plain.{Plain}
use Rattle.rules.specs.Calls.{hands, sets, clears, writes}
use Rattle.desk.specs.declared.Answer.{Answer}
use Rattle.desk.specs.declared.Desk.{Desk}
use Rattle.desk.specs.Call.{After, handed, left, Answers}
use Rattle.demands.specs.Trace.{Trace, begun, called}
use Rattle.journal_replay.specs.Replay.{left_by}
use Rattle.journal_input.specs.Input.{WholeRecord}
use Rattle.journal_printer.specs.declared.Ending.{Ending}
use Rattle.journal_printer.specs.declared.Ending.TheVariants as ending
use Rattle.journal_printer.specs.declared.Failure.{Failure}
use Rattle.journal_printer.specs.declared.Failure.TheVariants as failure

-- "Its answer buffer takes 512 radios."
abbrev pub list_room : ℕ
list_room = list_bytes * max_on

-- ---- the calls

-- what the last call answered, 0 before the first
unfoldable pub last_number : {d : Desk} {b : List ℕ} {x : Plain} → Trace d b x → ℕ
last_number begun = 0
last_number (called before call buffer y small a) = y.number

unfoldable pub call_count : {d : Desk} {b : List ℕ} {x : Plain} → Trace d b x → ℕ
call_count begun = 0
call_count (called before call buffer y small a) = call_count before + 1

-- what the last read said of the input: more may come, it has ended, or it could not be read
pub data Source : Type 0 where
  Open : Source
  Ended : Source
  Failed : Source

-- what a call is handed: a whole record, or all that is left of an input that has ended
abbrev pub Handed : Source → List ℕ → Type 0
Handed Open bytes = WholeRecord bytes
Handed Ended bytes = Unit {0}
Handed Failed bytes = ⊥

-- the calls are the records of what was read, each once and in their order, and leave `hand` of it; the last read said `told` of the input
pub data Reads : (d : Desk) (b : List ℕ) (x : Plain) → Trace d b x → List ℕ → List ℕ → Source → Type 0 where
  nothing : Reads _ _ _ begun [] [] Open
  -- what is read comes after what is at hand
  more : {d : Desk} {b : List ℕ} {x : Plain} {calls : Trace d b x} {read hand : List ℕ} {before : Source} → Reads _ _ _ calls read hand before
      → (bytes : List ℕ) (told : Source) → Reads _ _ _ calls (read ++ bytes) (hand ++ bytes) told
  -- a call is handed all that is at hand, some byte, and goes on by the record's length; after number 3 there is none
  onward : {d : Desk} {b : List ℕ} {x : Plain} {calls : Trace d b x} {read hand : List ℕ} {told : Source} → Reads _ _ _ calls read hand told
      → 0 < length hand → Handed told hand → (last_number calls ≡ 3 → ⊥)
      → (buffer : List ℕ) (y : After) (small : Bytes hand) (a : Answers (handed d b (hands hand) buffer) y)
      → Reads _ _ _ (called calls (hands hand) buffer y small a) read (left_by hand y.number) told

-- the bytes of a call's record: after number 3 nothing is left of what it was handed
unfoldable pub record_by : List ℕ → ℕ → List ℕ
record_by bytes number = cond (eqb number 3) bytes (take (length_field bytes) bytes)

-- the records of the calls, one after the other
unfoldable pub records_of : {d : Desk} {b : List ℕ} {x : Plain} → Trace d b x → List ℕ
records_of begun = []
records_of (called before (hands bytes) buffer y small a) = records_of before ++ record_by bytes y.number
records_of (called before (sets w rect) buffer y small a) = records_of before
records_of (called before (clears w) buffer y small a) = records_of before
records_of (called before writes buffer y small a) = records_of before

-- desk and pages are what these calls leave; what was read was the next of the reader's bytes, where these are known
pub record Printed (known known' : Option (List ℕ)) (desk : Desk) (pages hand : List ℕ) : Type 0 where
  pub plain : Plain
  pub calls : Trace desk pages plain
  pub read : List ℕ
  pub told : Source
  pub records : Reads _ _ _ calls read hand told
  pub consumed : Consumes known known' read

-- ---- what is printed: "for record i from 1: `i ok`, `i refused r`, or `i found n` and then n lines `radio east north`"

-- a record whose kind is that of a range
abbrev pub asks_list : List ℕ → Bool
asks_list bytes = cond (leb 4 (length bytes)) (eqb (kind_field bytes) kind_range) false

-- `radio east north`, of the entry at a place of the answer buffer
abbrev pub entry_text : List ℕ → ℕ → List ℕ
entry_text list at =
    decimal (word field_bytes list at) ++ codes " " ++ decimal (word field_bytes list (at + 2)) ++ codes " " ++ decimal (word field_bytes list (at + 4)) ++ codes "\n"

-- the lines of its first n entries
abbrev pub entries_text : List ℕ → ℕ → List ℕ
entries_text list zero = []
entries_text list (suc n) = entries_text list n ++ entry_text list (list_bytes * n)

-- the lines of record i: the answer buffer is never read past its end
abbrev pub answer_text : ℕ → Bool → ℕ → ℕ → List ℕ → List ℕ
answer_text i range number count list =
    cond (eqb number 0)
    (cond range
    (decimal i ++ codes " found " ++ decimal count ++ codes "\n" ++ entries_text list (min count (length list / list_bytes)))
    (decimal i ++ codes " ok\n"))
    (decimal i ++ codes " refused " ++ decimal number ++ codes "\n")

-- of each call in its turn
unfoldable pub printed : {d : Desk} {b : List ℕ} {x : Plain} → Trace d b x → List ℕ
printed begun = []
printed (called before (hands bytes) buffer y small a) =
    printed before ++ answer_text (call_count before + 1) (asks_list bytes) y.number y.count y.buffer
printed (called before (sets w rect) buffer y small a) = printed before
printed (called before (clears w) buffer y small a) = printed before
printed (called before writes buffer y small a) = printed before

-- record i comes next, and all answers before it are written
pub record Going (i : ℕ) (known known' held held' : Option (List ℕ)) (desk : Desk) (pages hand : List ℕ) : Type 0 where
  pub run : Printed known known' desk pages hand
  pub counted : call_count run.calls + 1 ≡ i
  pub unended : last_number run.calls ≡ 3 → ⊥
  pub written : Appends held held' (printed run.calls)

-- ---- why it ends

-- whether a record may follow, and why none does
pub data Stage : Type 0 where
  GoesOn : Stage
  InputEnded : Stage
  NumberThree : Stage
  CannotRead : Stage
  CannotWrite : Stage
  CountEnded : Stage

abbrev pub goes_on : Stage → Bool
goes_on GoesOn = true
goes_on InputEnded = false
goes_on NumberThree = false
goes_on CannotRead = false
goes_on CannotWrite = false
goes_on CountEnded = false

-- records are counted from 1 in 64 bits: 2^64 - 2 are printed
abbrev pub most_records : ℕ
most_records = 18446744073709551614

-- what each stage says of the run
abbrev pub Means : Stage → {known known' : Option (List ℕ)} {desk : Desk} {pages hand : List ℕ} → Printed known known' desk pages hand → Type 0
Means GoesOn p = last_number p.calls ≡ 3 → ⊥
-- "the printer stops silently at the end of its input": a read said so, and nothing is at hand
Means InputEnded {known' = known'} {hand = hand} p = (p.told ≡ Ended) × (hand ≡ []) × (last_number p.calls ≡ 3 → ⊥) × IsAtEnd known'
-- "After printing number 3 it ends"
Means NumberThree p = last_number p.calls ≡ 3
-- a read failed, and no call was made since
Means CannotRead p = (p.told ≡ Failed) × (last_number p.calls ≡ 3 → ⊥)
-- a write of the last answer failed
Means CannotWrite p = 0 < call_count p.calls
Means CountEnded p = (call_count p.calls ≡ most_records) × (last_number p.calls ≡ 3 → ⊥)

-- the run from a fresh store to its end: where no write failed, all answers are written
pub record Ran (stage : Stage) (known known' held held' : Option (List ℕ)) (desk : Desk) (pages : List ℕ) : Type 0 where
  pub hand : List ℕ
  pub run : Printed known known' desk pages hand
  pub over : goes_on stage ≡ false
  pub why : Means stage run
  pub written : (stage ≡ CannotWrite → ⊥) → Appends held held' (printed run.calls)

-- ---- one record more

-- what the printer holds between two records: desk, pages, the bytes at hand, the answer buffer
pub record Holds : Type 0 where
  pub desk : Desk
  pub pages : List ℕ
  pub hand : List ℕ
  pub list : List ℕ

abbrev pub holds : Desk → List ℕ → List ℕ → List ℕ → Holds
holds desk pages hand list = record { desk = desk; pages = pages; hand = hand; list = list }

-- after a call whose answer was printed or could not be: "After printing number 3 it ends; after any other it goes on"
abbrev pub stage_after : ℕ → Bool → Stage
stage_after number true = cond (eqb number 3) NumberThree GoesOn
stage_after number false = CannotWrite

-- a call that is handed all that is at hand: what it answers, and what it leaves at hand
pub record Carries (x : Holds) (stage : Stage) (y : Holds) : Type 0 where
  pub answer : Answer
  pub small : Bytes x.hand
  pub answers : Answers (handed x.desk x.pages (hands x.hand) x.list) (left answer y.desk y.pages y.list)
  pub rest : y.hand ≡ left_by x.hand answer.number
  pub written : Bool
  pub after : stage ≡ stage_after answer.number written

-- with what a read says of the input: it cannot be read; or it has ended, and nothing is at hand; or one call is handed all that is at hand
pub record Turn (x : Holds) (told : Source) (stage : Stage) (y : Holds) : Type 0 where
  pub unread : told ≡ Failed → (y ≡ x) × (stage ≡ CannotRead)
  pub stops : told ≡ Ended → x.hand ≡ [] → (y ≡ x) × (stage ≡ InputEnded)
  pub carries : (told ≡ Failed → ⊥) → 0 < length x.hand → Carries x stage y

-- `more` is read until a whole record is at hand or a read says that no more come; then the turn
pub record Turns (x : Holds) (stage : Stage) (y : Holds) : Type 0 where
  pub more : List ℕ
  pub told : Source
  pub whole : told ≡ Open → WholeRecord (x.hand ++ more)
  pub turn : Turn (holds x.desk x.pages (x.hand ++ more) x.list) told stage y

-- ---- what the code answers

abbrev pub ended_by : Ending → Stage
ended_by ending.InputEnded = InputEnded
ended_by ending.NumberThree = NumberThree
ended_by ending.CountEnded = CountEnded

abbrev pub failed_by : Failure → Stage
failed_by (failure.Read e) = CannotRead
failed_by (failure.Write e) = CannotWrite

-- at the end of a run
abbrev pub stage_of : Result Ending Failure → Stage
stage_of (Ok e) = ended_by e
stage_of (Err f) = failed_by f

-- after a record
abbrev pub after_turn : Result (Option Ending) Failure → Stage
after_turn (Ok None) = GoesOn
after_turn (Ok (Some e)) = ended_by e
after_turn (Err f) = failed_by f

-- after record i: the next one comes, or none does
abbrev pub Turned : Result (Option Ending) Failure → (i : ℕ) (known known' held held' : Option (List ℕ)) (desk : Desk) (pages hand : List ℕ) → Type 0
Turned (Ok None) i known known' held held' desk pages hand = Going (i + 1) known known' held held' desk pages hand
Turned (Ok (Some e)) i known known' held held' desk pages hand = Ran (ended_by e) known known' held held' desk pages
Turned (Err f) i known known' held held' desk pages hand = Ran (failed_by f) known known' held held' desk pages
