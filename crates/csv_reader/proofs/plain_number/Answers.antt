use borrow.Author.Rules.{rules}
use Rattle.csv_reader.proofs.EndLaws.{got_none, got_inside, got_byte}
use Rattle.csv_reader.proofs.NumberLaws.{plain_past, plain_other, plain_there}
use Rattle.csv_reader.proofs.plain_number.Goals as goal

pub returns-in_err-get : goal.returns-in_err-get
returns-in_err-get c = rw c.from_residual.ensures (plain_past _ _ (got_none _ _ c.in_err-get.ensures.lookup.0))

pub returns-then-not-is_ascii_digit : goal.returns-then-not-is_ascii_digit
returns-then-not-is_ascii_digit c =
    let l = c.in_ok-get.ensures.lookup in plain_other _ _ (got_inside _ _ l.0) (got_byte _ _ l.0 l.1) c.is_ascii_digit.ensures.value (search rules)

pub returns : goal.returns
returns c = let l = c.in_ok-get.ensures.lookup in plain_there _ _ (got_inside _ _ l.0) (got_byte _ _ l.0 l.1) c.is_ascii_digit.ensures.value (search rules) _ c.digits_at.ensures
