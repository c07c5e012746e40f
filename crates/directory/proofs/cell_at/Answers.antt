use borrow.Author.Rules.{rules}
use Rattle.std.proofs.lemmas.Iterator.{YieldsList-from_slice}
use Rattle.std.proofs.lemmas.Iterator.Search.{position_from_yields_List}
use Rattle.terms.specs.Values.{place_of}
use Rattle.rules.specs.Grid.{inside}
use Rattle.desk.specs.Views.{edges_of}
use Rattle.directory.proofs.CellLaws.{found_place}
use Rattle.directory.proofs.cell_at.Goals as goal

pub returns : goal.returns
returns c =
    found_place (place_of c.args.place) c.args.cells.now
    (position_from_yields_List (λ s. inside (edges_of s) (place_of c.args.place)) _ _ c.position.result c.position.ensures.ran (YieldsList-from_slice _ c.iter.ensures.rest) (λ x b q k. search rules))
