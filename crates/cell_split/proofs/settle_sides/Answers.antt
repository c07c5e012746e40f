use mathlib.Core.List.{[]}
use mathlib.Core.Path.{refl, ◌∙◌}
use native.Mathlib.Omega.{arith}
use Rattle.cell_split.proofs.SidesLaws.{low_settles, high_settles, high_size, sides_return}
use Rattle.cell_split.proofs.settle_sides.Goals as goal

pub settle-low-requires : goal.settle-low-requires
settle-low-requires c =
    let is_low = c.as_slice-2.ensures.rows ∙ (rw c.as_slice.ensures.rows at c.parted.ensures.low) in
    let q = low_settles c.requires.2 _ is_low in
    (c.requires.2.midway.laid.in_grid.laid.size, rw c.as_slice-2.ensures.rows c.as_slice-2.ensures.fits, c.requires.0, q.0, q.1, q.2)

pub settle-high-requires : goal.settle-high-requires
settle-high-requires c =
    let is_low = c.as_slice-2.ensures.rows ∙ (rw c.as_slice.ensures.rows at c.parted.ensures.low) in
    let is_high = c.as_slice-3.ensures.rows ∙ (rw c.as_slice.ensures.rows at c.parted.ensures.high) in
    let q = high_settles c.requires.2 refl _ is_low c.settle-low.ensures.0 c.settle-low.ensures.1 [] _ refl is_high in
    (high_size c.requires.2 refl _ is_low c.settle-low.ensures.0 c.settle-low.ensures.1, rw c.as_slice-3.ensures.rows c.as_slice-3.ensures.fits, omega arith, tt, q.1, q.2)

pub returns : goal.returns
returns c = λ x.
    let is_low = c.as_slice-2.ensures.rows ∙ (rw c.as_slice.ensures.rows at c.parted.ensures.low) in
    let is_high = c.as_slice-3.ensures.rows ∙ (rw c.as_slice.ensures.rows at c.parted.ensures.high) in
    sides_return x refl _ is_low c.settle-low.ensures.0 c.settle-low.ensures.1 [] _ c.requires.1 refl is_high c.settle-high.ensures.0 c.settle-high.ensures.1
