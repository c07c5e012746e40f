use mathlib.Core.Path.{refl}
use Rattle.sound_directory.proofs.CutsLaws.{row_long, row_unclear, row_rise}
use borrow.Author.Rules.{rules}
use Rattle.sound_directory.proofs.row_sound.Goals as goal

pub returns-then-slots-n : goal.returns-then-slots-n
returns-then-slots-n c = search row_long

pub returns-then-not-is_unused : goal.returns-then-not-is_unused
returns-then-not-is_unused c = row_unclear _ _ _ _ (search rules) refl _ (λ x. refl) c.is_unused.ensures (search rules)

pub returns : goal.returns
returns c = row_rise _ _ _ _ (search rules) refl _ (λ x. refl) c.is_unused.ensures (search rules) c.rises.ensures
