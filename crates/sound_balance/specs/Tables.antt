-- What is due and what is found of each radio, in one table by radio: a number for each.
use Rattle.std.specs.Prelude.{ℕ, ◌+◌, ◌-◌, ◌*◌, ◌%◌, min, Bool, not, List, [], ◌∷◌, ◌==◌, nat_eq, slice_index, slice_set}
use Rattle.lists.specs.Rows.{Row, Rows}
use Rattle.lists.specs.Tests.{one_if, either}
use Rattle.rules.specs.Store.{Report, Line}
use Rattle.memo_index.specs.Index.{table_size}
use Rattle.sound_clauses.specs.Loops.{all_to}

-- the least number that 16 bits do not hold: numbers by radio go round there
abbrev pub field_end : ℕ
field_end = 65536

module _ {Val : Type 0} where
  -- each row adds its weight at its key, in 16 bits
  unfoldable pub added : (Row Val → ℕ) → List ℕ → Rows Val → List ℕ
  added w t [] = t
  added w t (x ∷ xs) = added w (slice_set t x.key ((slice_index t x.key + w x) % field_end)) xs

  -- each row puts its number at its key
  unfoldable pub written : (Row Val → ℕ) → List ℕ → Rows Val → List ℕ
  written v t [] = t
  written v t (x ∷ xs) = written v (slice_set t x.key (v x)) xs

-- each radio's number is 0 again: what is due is found, and no more
unfoldable pub all_settled : List ℕ → Bool
all_settled t = all_to table_size (λ q. nat_eq (slice_index t q) 0)

-- ---- what is found of a radio, less what is due: two counts in one number

-- what counts in the high half; no count of a sound store reaches it
abbrev pub half : ℕ
half = 256

-- of a waiting report marked new: in the low half
abbrev pub mark_new : Row Report → ℕ
mark_new w = one_if w.val.new

-- of a waiting report, before any is added: it is marked new, or its radio is on, for then 1 is taken off in the low half
abbrev pub belongs_by : List ℕ → Row Report → Bool
belongs_by t w = either w.val.new (not (slice_index t w.key % half == 0))

-- of a line: its missed count, or as much of it as the high half holds, is taken off there
abbrev pub missed_off : Row Line → ℕ
missed_off l = (field_end - half * min l.val.missed (half - 1)) % field_end

-- of a radio on: 1 is taken off
abbrev pub one_off : Row (Unit {0}) → ℕ
one_off x = field_end - 1
