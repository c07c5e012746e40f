use mathlib.Core.List.{List, ◌++◌}
use mathlib.Core.Path.{refl, ap}
use Prim.Native.Nat.{ℕ}
use lib.ListN.{drop}
use Rattle.lists.specs.Parts.{put}
use Rattle.csv_grammar.specs.Csv.{header_line, line_with}
use borrow.Author.Rules.{rules}
use Rattle.csv_text.proofs.put_header.Goals as goal

pub slice_bounds-copy_from_slice-end : goal.slice_bounds-copy_from_slice-end
unfolding header_line line_with
slice_bounds-copy_from_slice-end c = search rules

pub slice_bounds-copy_from_slice-end-2 : goal.slice_bounds-copy_from_slice-end-2
unfolding header_line line_with
slice_bounds-copy_from_slice-end-2 c = search rules

pub copy_from_slice-requires : goal.copy_from_slice-requires
unfolding header_line line_with
copy_from_slice-requires c = search rules

pub returns : goal.returns
unfolding header_line line_with put
returns c = (ap (λ (ys : List ℕ). ys ++ drop 25 c.args.buffer.now) c.copy_from_slice.ensures.after, refl)
