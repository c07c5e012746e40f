-- The input (01, "The journal printer": "It reads records from standard input"): what is at hand of it, and that reading keeps what is at hand. Of the bytes
-- that a read puts into the window nothing is said at standard input; where the reader's bytes are known, as those of a slice, they are the next of them.
use Rattle.std.specs.Prelude.{List, Option, ◌++◌, ◌≡◌, ℕ, ◌-◌, ◌≤◌, length, take, drop}
use Rattle.std.specs.Io.KnownBytes.{Consumes}
use Rattle.rules.specs.Records.{length_field}
use Rattle.journal_input.specs.declared.Hand.{Hand}

-- more than the greatest length of a record: a window of so many bytes takes each whole, and a byte besides
abbrev pub window_bytes : ℕ
window_bytes = 65536

-- the window's bytes from `at` up to `end`
abbrev pub at_hand : List ℕ → Hand → List ℕ
at_hand window hand = take (hand.end - hand.at) (drop hand.at window)

-- the hand lies in the window, which takes each record
pub record InWindow (hand : Hand) (window : List ℕ) : Type 0 where
  pub order : hand.at ≤ hand.end
  pub within : hand.end ≤ length window
  pub room : window_bytes ≤ length window

-- what was at hand is kept, and what was read since comes after it: the next bytes of the reader, where these are known
pub record Brings (known known' : Option (List ℕ)) (before after : List ℕ) : Type 0 where
  pub more : List ℕ
  pub appended : after ≡ before ++ more
  pub consumed : Consumes known known' more

-- "A record is its length in bytes, its kind, its body": length and kind, and as many bytes as the length says
abbrev pub WholeRecord : List ℕ → Type 0
WholeRecord bytes = (4 ≤ length bytes) × (length_field bytes ≤ length bytes)
