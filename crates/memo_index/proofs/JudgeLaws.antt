-- An entry judged by a line: the line that the table names for its radio.
use mathlib.Core.Path.{◌≡◌}
use mathlib.Core.Bool.{Bool, false, not}
use mathlib.Core.List.{List}
use mathlib.Core.Logic.{◌≢◌}
use Prim.Native.Nat.{ℕ, suc, ◌-◌, ◌<◌}
use native.Mathlib.Omega.{arith}
use lib.ListN.{get_or}
use Rattle.rules.specs.Sweep.{is_at, stale_by}
use Rattle.entries.specs.declared.Entry.{Entry}
use Rattle.entries.specs.Entries.{row_of, place_of, fix_of}
use Rattle.desk.specs.declared.Line.{Line}
use Rattle.desk.specs.Layout.{line_slots, no_line}
use Rattle.desk.specs.Views.{last_of}
use Rattle.memo_index.specs.Index.{Named, line_named, judged}

module _ (words : List Line) (lines : List ℕ) (e : Entry) {k : ℕ} (at : k ≡ e.radio) where
  judged_at : judged words lines (row_of e) ≡ stale_by (line_named words (get_or lines k 0)) (fix_of e)
  unfolding judged
  judged_at = rw at

  pub judge_no_line : get_or lines k 0 ≡ 0 → false ≡ judged words lines (row_of e)
  judge_no_line t = rw (judged_at, t)

  module _ (line : get_or lines k 0 ≢ 0) where
    pub judge_slot : Named words lines → get_or lines k 0 - 1 < line_slots
    judge_slot n = omega (arith, n.place k)

    pub judge_in : {i : ℕ} {r : Bool} → i ≡ get_or lines k 0 - 1 → r ≡ not (is_at (last_of (get_or words i no_line)) (place_of e)) → r ≡ judged words lines (row_of e)
    judge_in {i} place q =
        let z : get_or lines k 0 ≡ suc i = omega arith in
        rw (judged_at, z) q
