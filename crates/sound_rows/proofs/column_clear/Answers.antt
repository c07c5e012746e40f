use mathlib.Core.Path.{refl}
use Rattle.sound_rows.proofs.ColumnsLaws.{column_clears}
use Rattle.sound_rows.proofs.column_clear.Goals as goal

pub returns : goal.returns
returns c = column_clears _ _ _ c.column.ensures.0 _ (λ x. refl) c.is_unused.ensures
