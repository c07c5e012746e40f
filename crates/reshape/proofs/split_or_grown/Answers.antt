use mathlib.Core.Path.{refl, ap}
use native.Mathlib.Omega.{arith}
use borrow.Author.Rules.{rules}
use lib.ListN.{length, length-map}
use Rattle.entries.specs.Entries.{row_of}
use Rattle.cell_last.proofs.MidwayLaws.{midway_loose}
use Rattle.reshape.proofs.WholeLaws.{cuts_few, full_returns, uncut_returns, splits, split_returns}
use Rattle.reshape.proofs.split_or_grown.Goals as goal

pub settled_last-desk-requires : goal.settled_last-desk-requires
settled_last-desk-requires c = (c.requires.0, midway_loose c.requires.2)

pub returns-then-frame-ge-MAX_CELLS-clause-laid : goal.returns-then-frame-ge-MAX_CELLS-clause-laid
returns-then-frame-ge-MAX_CELLS-clause-laid c = λ x. search (full_returns x)

pub chosen_cut-requires : goal.chosen_cut-requires
chosen_cut-requires c =
    let q = cuts_few c.requires.2 in
    (omega (arith, length-map c.as_slice.result.now row_of, ap length c.as_slice.ensures.rows, c.as_slice.ensures.fits), q.0, q.1)

pub settled_last-desk-requires-in_default : goal.settled_last-desk-requires-in_default
settled_last-desk-requires-in_default c = (c.requires.0, midway_loose c.requires.2)

pub returns-in_default-clause-laid : goal.returns-in_default-clause-laid
returns-in_default-clause-laid c = λ x.
    let said = rw c.as_slice.ensures.rows at c.chosen_cut.ensures in
    uncut_returns x c.requires.1 (search rules) refl said c.in_default.is c.settled_last-desk-in_default.ensures

pub split-desk-requires : goal.split-desk-requires
split-desk-requires c =
    let said = rw c.as_slice.ensures.rows at c.chosen_cut.ensures in
    (c.requires.0, splits c.requires.2 c.requires.1 (search rules) refl said _ c.in-Some.is)

pub returns-clause-laid : goal.returns-clause-laid
returns-clause-laid c = λ x.
    let said = rw c.as_slice.ensures.rows at c.chosen_cut.ensures in
    split_returns x c.requires.1 (search rules) refl said _ c.in-Some.is c.split-desk.ensures
