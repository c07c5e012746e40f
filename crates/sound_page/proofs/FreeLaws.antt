-- A free page: it has room for no entry, so that the zero bytes are all that is left to test.
use mathlib.Core.Bool.{true}
use mathlib.Core.List.{List}
use mathlib.Core.Path.{◌≡◌, sym, ap, ◌∙◌}
use Prim.Native.Nat.{ℕ, ◌+◌, ◌*◌}
use native.Mathlib.Omega.{arith}
use lib.Dec.{eqb}
use lib.ListN.{length, drop}
use borrow.Author.Tests.{eqb-true, eq-eqb}
use Rattle.terms.specs.Terms.{no_cell}
use Rattle.lists.specs.Parts.{tab}
use Rattle.lists.specs.Tests.{is_some}
use Rattle.lists.proofs.TestsLaws.{both_left, both_right, both-true, true-both}
use Rattle.page.specs.Page.{page_bytes, head_bytes, entry_bytes, kind_free, room_of, used, kind, cell, count, entries}
use Rattle.page_layout.specs.Layout.{kind_fits, climb, top, laid_out}
use Rattle.page_layout.proofs.LayoutLaws.{climb_none}
use Rattle.page_layout.proofs.TestLaws.{fits_numbered}
use Rattle.sound_page.specs.PageTest.{is_page}

fits_free : (k n : ℕ) → k ≡ kind_free → eqb n 0 ≡ kind_fits k n
fits_free k n e = fits_numbered kind_free n ∙ ap (λ (x : ℕ). kind_fits x n) (sym e)

-- of kind free it has room for no entry
pub free_used : (b : List ℕ) → is_page kind_free no_cell b ≡ true → used b ≡ head_bytes
unfolding is_page laid_out
free_used b t =
    let f = eqb-true (kind b) kind_free (both_left _ _ (both_right _ _ t)) in
    let u = both_right _ _ (both_left _ _ t) in
    let n = eqb-true (count b) 0 (fits_free (kind b) (count b) f ∙ both_left _ _ (both_right _ _ u)) in
    omega (arith, eqb-true (used b) (head_bytes + entry_bytes * count b) (both_left _ _ u))

no_entry : (b : List ℕ) → used b ≡ head_bytes → count b ≡ 0
unfolding count
no_entry b e = ap room_of e

no_climb : (b : List ℕ) → used b ≡ head_bytes → is_some (climb 0 (entries b)) ≡ true
unfolding entries tab
no_climb b e = rw (no_entry b e, climb_none 0)

-- with no entry the zero bytes are all that is left to test
pub free_zeros : (b : List ℕ) → length b ≡ page_bytes → used b ≡ head_bytes → kind b ≡ kind_free → cell b ≡ no_cell → eqb (top (drop head_bytes b)) 0 ≡ is_page kind_free no_cell b
unfolding is_page laid_out
free_zeros b l u k c =
    rw (
      no_climb b u,
      no_entry b u,
      eq-eqb (length b) page_bytes l,
      eq-eqb (used b) head_bytes u,
      ← fits_free (kind b) 0 k,
      eq-eqb (kind b) kind_free k,
      eq-eqb (cell b) no_cell c,
    ) (simp (true-both, both-true))
