-- Pages of the buffer: the page written is read back, other pages keep every byte.
use mathlib.Core.List.{List}
use mathlib.Core.Logic.{◌≢◌}
use mathlib.Core.Path.{◌≡◌}
use Prim.Native.Nat.{ℕ, ◌+◌, ◌*◌, ◌≤◌}
use native.Mathlib.Decide.{dec_lt}
use native.Mathlib.Omega.{arith}
use lib.ListN.{length}
use Rattle.lists.proofs.PartsLaws.{length-put, part-put, part-put_before, part-put_after, length-part}
use Rattle.page.specs.Page.{page_bytes}
use Rattle.page.specs.Buffer.{page_at, put_page}

pub length-page_at : (b : List ℕ) (p : ℕ) → page_bytes * p + page_bytes ≤ length b → length (page_at b p) ≡ page_bytes
unfolding page_at
length-page_at b p h = length-part b (page_bytes * p) page_bytes h

module _ (b : List ℕ) (p : ℕ) (v : List ℕ) (in_Buffer : page_bytes * p + page_bytes ≤ length b) (whole : length v ≡ page_bytes) where
  pub length-put_page : length (put_page b p v) ≡ length b
  unfolding put_page
  length-put_page = length-put b (page_bytes * p) v (omega arith)

  pub page_at_same : page_at (put_page b p v) p ≡ v
  unfolding put_page page_at
  page_at_same = rw whole at (part-put b (page_bytes * p) v (omega arith))

  pub page_at_other : (q : ℕ) → q ≢ p → page_at (put_page b p v) q ≡ page_at b q
  unfolding put_page page_at
  page_at_other q n =
      elim (dec_lt q p) [
        | yes h ↦ part-put_before b (page_bytes * p) v (page_bytes * q) page_bytes (omega arith) (omega arith)
        | no h ↦ part-put_after b (page_bytes * p) v (page_bytes * q) page_bytes (omega arith) (omega arith)
      ]
