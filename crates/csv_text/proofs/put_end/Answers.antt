use mathlib.Core.List.{[], ◌∷◌}
use mathlib.Core.Path.{refl}
use native.Mathlib.Omega.{arith}
use Rattle.csv_grammar.specs.Csv.{carriage_return, line_feed}
use Rattle.csv_text.proofs.LineLaws.{copied}
use Rattle.csv_text.proofs.put_end.Goals as goal

pub returns : goal.returns
returns c = (copied c.args.buffer.now c.args.at _ (carriage_return ∷ line_feed ∷ []) c.copy_from_slice.ensures.after (omega arith), refl)
