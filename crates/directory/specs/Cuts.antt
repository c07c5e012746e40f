-- The cuts of one direction in the desk's array, and a memory cell's corner (01, "What the desk holds").
use Rattle.std.specs.Prelude.{true, ◌≡◌, ℕ, ◌≤◌, ◌<◌, ltb, length}
use Rattle.lists.specs.Sums.{count}
use Rattle.lists.specs.Tests.{either}
use Rattle.rules.specs.Limits.{max_cuts}
use Rattle.rules.specs.WellFormed.{RisingCuts}
use Rattle.desk.specs.declared.CutList.{CutList}
use Rattle.desk.specs.Layout.{cut_list_of}
use Rattle.desk.specs.Views.{cuts_in}

-- unused slots are zero
abbrev pub WholeCuts : CutList → Type 0
WholeCuts c = c ≡ cut_list_of (cuts_in c)

-- a cut that may be made: "cuts are rising, from 1 to 65,535", and it "is valid if it exists already or its direction has fewer than 15 cuts"
pub record CutReady (c : CutList) (at : ℕ) : Type 0 where
  pub whole : WholeCuts c
  pub few : c.n ≤ max_cuts
  pub rising : RisingCuts 0 (cuts_in c)
  pub above : 0 < at
  pub valid : either (ltb 0 (count at (cuts_in c))) (ltb (length (cuts_in c)) max_cuts) ≡ true
