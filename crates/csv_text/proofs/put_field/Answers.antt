use borrow.Author.Rules.{rules}
use Rattle.csv_text.proofs.LineLaws.{field_put}
use Rattle.csv_text.proofs.put_field.Goals as goal

pub returns : goal.returns
returns c = (search field_put, search rules)
