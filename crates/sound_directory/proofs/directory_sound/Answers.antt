use mathlib.Core.Path.{refl}
use Rattle.sound_directory.proofs.DirectoryLaws.{directory_long, directory_unclear, directory_names}
use borrow.Author.Rules.{rules}
use Rattle.sound_directory.proofs.directory_sound.Goals as goal

pub returns-then-n-gt-MAX_CELLS : goal.returns-then-n-gt-MAX_CELLS
returns-then-n-gt-MAX_CELLS c = search directory_long

pub returns-then-not-cells_unused : goal.returns-then-not-cells_unused
returns-then-not-cells_unused c = directory_unclear _ (search rules) _ (λ x. refl) c.cells_unused.ensures (search rules)

pub returns : goal.returns
returns c = directory_names _ (search rules) _ (λ x. refl) c.cells_unused.ensures (search rules) (search rules) c.names_sound.ensures
