-- A split under way, and the pages that it leaves.
use Rattle.std.specs.Prelude.{Bool, true, false, cond, List, ◌≡◌, ℕ, ◌<◌, length, Some}
use Rattle.terms.specs.Terms.{Fix, no_page}
use Rattle.lists.specs.Chains.{chain_head}
use Rattle.lists.specs.Rows.{Rows}
use Rattle.rules.specs.Limits.{max_cells}
use Rattle.rules.specs.Grid.{Axis, eastward, northward}
use Rattle.rules.specs.Store.{settled, free_after}
use Rattle.rules.specs.Cut.{Cut, chosen_cut}
use Rattle.rules.specs.Flush.{Flushed, add_cut, unused_number, low_cell, high_cell, split_at}
use Rattle.desk.specs.declared.CutList.{CutList}
use Rattle.desk.specs.declared.Frame.{Frame}
use Rattle.desk.specs.Held.{Grid, Memo}
use Rattle.desk.specs.Layout.{cut_list_of, Laid}
use Rattle.desk.specs.Views.{cuts_in}
use Rattle.directory.specs.Cuts.{CutReady}
use Rattle.cell_last.specs.Frames.{with_easts, with_norths}
use Rattle.cell_last.specs.Settling.{BeforeReshape}
use Rattle.cell_split.specs.declared.Sides.{Sides}

abbrev is_east : Axis → Bool
is_east eastward = true
is_east northward = false

-- the cuts of one direction
abbrev pub list_on : Axis → Frame → CutList
list_on eastward frame = frame.easts
list_on northward frame = frame.norths

-- the cut may be made in its direction
abbrev pub Cuttable : Frame → Cut → Type 0
Cuttable frame cut = CutReady (list_on cut.axis frame) cut.at

-- the frame with the cut among those of its direction
unfoldable pub cut_frame : Frame → Cut → Frame
cut_frame g c =
    with_easts (cond (is_east c.axis) (cut_list_of (add_cut c.at (cuts_in g.easts))) g.easts)
    (with_norths (cond (is_east c.axis) g.norths (cut_list_of (add_cut c.at (cuts_in g.norths)))) g)

-- d is to be split at the cut that the rules choose
pub record BeforeSplit (grid : Grid) (at : ℕ) (chain : List ℕ) (rows : Rows Fix) (cut : Cut) (bytes : List ℕ) : Type 0 where
  pub memo : Memo
  pub midway : BeforeReshape grid at chain rows memo bytes
  pub few : length midway.flushed.store.cells < max_cells
  pub chosen : chosen_cut midway.flushed.store.cuts midway.flushed.cell.edges midway.flushed.cell.entries ≡ Some cut

-- the pages lay out the split store's: where its two sides begin, and its free chain
pub record AfterSides (f : Flushed) (cut : Cut) (sides : Sides) (bytes : List ℕ) : Type 0 where
  pub low : sides.low ≡ chain_head no_page (settled f.store.free (low_cell cut f.cell)).chain
  pub high :
      sides.high
      ≡ chain_head no_page (settled (free_after f.store.free (low_cell cut f.cell)) (high_cell cut (unused_number f.store.cells) f.cell)).chain
  pub free : sides.free ≡ chain_head no_page (split_at cut f).free
  pub laid : Laid (split_at cut f) bytes
