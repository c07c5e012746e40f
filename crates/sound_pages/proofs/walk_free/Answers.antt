use mathlib.Core.Path.{refl}
use Rattle.sound_pages.specs.Walks.{front_test}
use borrow.Author.Rules.{rules}
use Rattle.sound_pages.proofs.WalkLaws.{free_tired, free_ends, run_broken, run_less, run_on}
use Rattle.sound_pages.proofs.walk_free.Goals as goal

pub loop-fuel-init : goal.loop-fuel-init
unfolding front_test
loop-fuel-init c = refl

pub returns-then-p : goal.returns-then-p
returns-then-p c = search free_ends

pub walk_run-requires : goal.walk_run-requires
walk_run-requires c = (search rules, search rules, search rules)

pub returns-in_default : goal.returns-in_default
returns-in_default c = search run_broken

pub loop-fuel-smaller : goal.loop-fuel-smaller
loop-fuel-smaller c = search run_less

pub loop-fuel-preserved : goal.loop-fuel-preserved
loop-fuel-preserved c = search run_on

pub returns : goal.returns
returns c = search free_tired
