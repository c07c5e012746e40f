use borrow.Author.Rules.{rules}
use Rattle.csv_grammar.specs.Csv.{plain_number, quoted_number, number}
use Rattle.csv_reader.proofs.NumberLaws.{valued_or_else}
use Rattle.csv_reader.proofs.number_at.Goals as goal

pub returns : goal.returns
unfolding number
returns c = valued_or_else (plain_number _) (quoted_number _) c.plain_number.result c.plain_number.ensures c.or_else.ensures (search rules)
