use borrow.Author.Rules.{rules}
use Rattle.csv_grammar.specs.Csv.{after_name}
use Rattle.csv_reader.specs.Reading.{after_quoted}
use Rattle.csv_reader.proofs.EndLaws.{ends_or_else}
use Rattle.csv_reader.proofs.name_end.Goals as goal

pub returns : goal.returns
unfolding after_name after_quoted
returns c = ends_or_else c.bytes_end.result c.bytes_end.ensures c.or_else.ensures (search rules)
