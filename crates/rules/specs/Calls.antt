-- The calls on a sound store: a record, and those that 02 adds, which set and clear a watch (Job 5) and write a file (Job 6). What each answers and leaves.
use Rattle.std.specs.Prelude.{not, cond, List, ℕ, eqb, leb, set, None, Some}
use Rattle.lists.specs.Tests.{either, is_some}
use Rattle.csv_grammar.specs.Csv.{file_of}
use Rattle.rules.specs.Grid.{Rect, Cuts, is_reversed}
use Rattle.rules.specs.Records.{radio_field}
use Rattle.rules.specs.Carry.{carry}
use Rattle.rules.specs.Plain.{Plain, plain_step}
use Rattle.rules.specs.Told.{Told, told_file}
use Rattle.rules.specs.Everyone.{everyone}
use Rattle.rules.specs.Watches.{max_watches, Watch, watch_at, Watched, latest_place, gained, lost}

pub data Call : Type 0 where
  -- a record's bytes at hand
  hands : List ℕ → Call
  -- "set and cleared by calls that aren't records, setting again meaning replaced"
  sets : ℕ → Rect → Call
  clears : ℕ → Call
  -- "Write all radios on as comma-separated lines"
  writes : Call

-- what is answered, and what answer buffer and store then hold. "these, and whatever later requests add to the answer, are 0 where nothing else is said"
pub record Result : Type 0 where
  pub number : ℕ
  pub count : ℕ
  pub gained : ℕ
  pub lost : ℕ
  pub buffer : List ℕ
  pub watched : Watched

-- ---- a record

-- "every accepted sign-on, report or sign-off brings them up to date and answers with two 16-bit numbers": members follow from the latest places, and a call
-- that carries out no such record changes no latest place, so that both are 0
unfoldable pub carry_record : List ℕ → Watched → List ℕ → Result
carry_record bytes x buffer = record {
  number = (carry x.store bytes buffer).number;
  count = (carry x.store bytes buffer).count;
  gained = gained x.watches (latest_place x.store (radio_field bytes)) (latest_place (carry x.store bytes buffer).store (radio_field bytes));
  lost = lost x.watches (latest_place x.store (radio_field bytes)) (latest_place (carry x.store bytes buffer).store (radio_field bytes));
  buffer = (carry x.store bytes buffer).buffer;
  watched = record { store = (carry x.store bytes buffer).store; watches = x.watches };
}

-- ---- a watch

-- a number, and 0 for all else
abbrev pub numbered : ℕ → Watched → List ℕ → Result
numbered number x buffer = record { number = number; count = 0; gained = 0; lost = 0; buffer = buffer; watched = x }

-- the watch under a number becomes this one
abbrev pub with_watch : ℕ → Watch → Watched → Watched
with_watch w watch x = record { store = x.store; watches = set x.watches w watch }

-- 14: "a watch number above 15, or clearing one not set", "with number 7 following for the rectangle"
abbrev pub set_refusal : ℕ → Rect → ℕ
set_refusal w rect = cond (leb max_watches w) 14 (cond (is_reversed rect) 7 0)

abbrev pub clear_refusal : ℕ → List Watch → ℕ
clear_refusal w watches = cond (either (leb max_watches w) (not (is_some (watch_at watches w)))) 14 0

-- under number 0 the watch is changed, under any other all stays
unfoldable pub watch_call : ℕ → ℕ → Watch → Watched → List ℕ → Result
watch_call number w watch x buffer = cond (eqb number 0) (numbered 0 (with_watch w watch x) buffer) (numbered number x buffer)

-- ---- a file

-- "Number 11 comes with the bytes needed if the written file doesn't fit"; else it stands at the buffer's start
abbrev pub filed : Told → Watched → Result
filed t x = record { number = t.number; count = t.count; gained = 0; lost = 0; buffer = t.buffer; watched = x }

-- ---- the whole

unfoldable pub carry_call : Call → Watched → List ℕ → Result
carry_call (hands bytes) x buffer = carry_record bytes x buffer
carry_call (sets w rect) x buffer = watch_call (set_refusal w rect) w (Some rect) x buffer
carry_call (clears w) x buffer = watch_call (clear_refusal w x.watches) w None x buffer
carry_call writes x buffer = filed (told_file (file_of (everyone x.store)) buffer) x

-- the plain rule knows no watch and no file, and stays where it is
abbrev pub plain_call : Cuts → Call → Plain → Plain
plain_call cuts (hands bytes) x = plain_step cuts bytes x
plain_call cuts (sets w rect) x = x
plain_call cuts (clears w) x = x
plain_call cuts writes x = x
