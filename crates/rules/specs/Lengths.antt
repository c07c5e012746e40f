-- Record lengths as a list of cases (02, Job 4): what the cases give, of every kind.
use Rattle.std.specs.Prelude.{◌≢◌, ℕ, Option, None, Some}
use Rattle.rules.specs.Records.{length_of}

-- the record table, a kind with its length: "14, 14, 10 and 16 and none for any other kind"
pub data InTable : ℕ → Option ℕ → Type 0 where
  sign_on_row : InTable 1 (Some 14)
  report_row : InTable 2 (Some 14)
  sign_off_row : InTable 3 (Some 10)
  range_row : InTable 4 (Some 16)
  no_row : (kind : ℕ) → kind ≢ 1 → kind ≢ 2 → kind ≢ 3 → kind ≢ 4 → InTable kind None

-- the cases give what stands in the table
abbrev pub EveryKind : Type 0
EveryKind = (kind : ℕ) → InTable kind (length_of kind)
