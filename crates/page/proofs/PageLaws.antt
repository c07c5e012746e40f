-- What a page's bytes say is what was written.
use mathlib.Core.List.{List, [], ◌∷◌, ◌++◌, append_assoc, append-nil}
use mathlib.Core.Path.{◌≡◌, refl, sym, ◌∙◌}
use Prim.Native.Nat.{ℕ, zero, suc, ◌+◌, ◌-◌, ◌*◌, ◌≤◌, ◌<◌}
use native.Mathlib.Nat.{add_assoc, add-zero, zero-add, not-suc-le-zero, le_of_suc-le-suc}
use native.Mathlib.Omega.{arith}
use lib.ListN.{length, get_or, length-append, length-replicate, replicate}
use Rattle.terms.specs.Terms.{Fix, field_bytes, minute_bytes, page_entries}
use Rattle.lists.specs.Rows.{Row, Rows}
use Rattle.lists.specs.Words.{le, word}
use Rattle.lists.proofs.PartsLaws.{tab_of, length-tab}
use Rattle.lists.proofs.WordsLaws.{length-le, word-append, word-append-le, word-le}
use Rattle.page.specs.Page.{page_bytes, head_bytes, entry_bytes, entry_of, entries_of, head_of, page_of, used, kind, next, cell, count, entry_at, entries}
use Rattle.entries.specs.Entries.{no_row}

-- ---- lengths

pub length-entry_of : (e : Row Fix) → length (entry_of e) ≡ entry_bytes
unfolding entry_of
length-entry_of e = simp (length-append, length-le)

pub length-entries_of : (es : Rows Fix) → length (entries_of es) ≡ entry_bytes * length es
unfolding entries_of
length-entries_of [] = refl
length-entries_of (e ∷ es) = simp (length-append, length-entry_of, length-entries_of es) (omega arith)

pub length-head_of : (u k n c : ℕ) → length (head_of u k n c) ≡ head_bytes
unfolding head_of
length-head_of u k n c = simp (length-append, length-le)

pub length-page_of : (k n c : ℕ) (es : Rows Fix) → length es ≤ page_entries → length (page_of k n c es) ≡ page_bytes
unfolding page_of
length-page_of k n c es h = simp (length-append, length-head_of, length-entries_of, length-replicate) (omega arith)

pub entries_of_snoc : (es : Rows Fix) (e : Row Fix) → entries_of (es ++ (e ∷ [])) ≡ entries_of es ++ entry_of e
unfolding entries_of
entries_of_snoc [] e = append-nil (entry_of e)
entries_of_snoc (x ∷ es) e = rw (entries_of_snoc es e, append_assoc)

-- ---- the header

-- a field behind others
field_behind : (v : ℕ) (r : List ℕ) (at : ℕ) → word field_bytes (le field_bytes v ++ r) (2 + at) ≡ word field_bytes r at
field_behind v r at = word-append field_bytes (le field_bytes v) r 2 at (length-le field_bytes v)

pub head_fields : (u k n c : ℕ) (r : List ℕ) → (used (head_of u k n c ++ r) ≡ u) × (kind (head_of u k n c ++ r) ≡ k) × (next (head_of u k n c ++ r) ≡ n) × (cell (head_of u k n c ++ r) ≡ c)
unfolding head_of used kind next cell
head_fields u k n c r =
    simp append_assoc (
      word-le 2 u _ (omega arith),
      field_behind u _ 0 ∙ word-le 2 k _ (omega arith),
      field_behind u _ 2 ∙ field_behind k _ 0 ∙ word-le 2 n _ (omega arith),
      field_behind u _ 4 ∙ field_behind k _ 2 ∙ field_behind n _ 0 ∙ word-le 2 c _ (omega arith),
    )

pub page_fields : (k n c : ℕ) (es : Rows Fix)
    → (used (page_of k n c es) ≡ head_bytes + entry_bytes * length es) × (kind (page_of k n c es) ≡ k) × (next (page_of k n c es) ≡ n) × (cell (page_of k n c es) ≡ c)
unfolding page_of
page_fields k n c es = head_fields (head_bytes + entry_bytes * length es) k n c (entries_of es ++ replicate (page_bytes - head_bytes - entry_bytes * length es) 0)

-- ---- the entries

pub count-le : (b : List ℕ) → count b ≤ page_entries
unfolding count
count-le b = omega arith

pub length-entries : (b : List ℕ) → length (entries b) ≡ count b
unfolding entries
length-entries b = length-tab (count b) (entry_at b)

entry_fields : (e : Row Fix) → (word field_bytes (entry_of e) 0 ≡ e.key) × (word field_bytes (entry_of e) 2 ≡ e.val.place.east) × (word field_bytes (entry_of e) 4 ≡ e.val.place.north)
    × (word minute_bytes (entry_of e) 6 ≡ e.val.minute)
unfolding entry_of le word
entry_fields e = (omega arith, omega arith, omega arith, omega arith)

-- a field of an entry, of any width, stands at ten times its index
module _ (width : ℕ) where
  entries_field : (es : Rows Fix) (z : List ℕ) (i k : ℕ) → i < length es → k + width ≤ entry_bytes
      → word width (entries_of es ++ z) (entry_bytes * i + k) ≡ word width (entry_of (get_or es i no_row)) k
  unfolding entries_of
  entries_field [] z i k h b = absurd (not-suc-le-zero h)
  entries_field (e ∷ es) z zero k h b =
      let l : length (entry_of e) ≡ entry_bytes = length-entry_of e in
      rw (append_assoc, zero-add) (word-append-le width (entry_of e) _ k (omega arith))
  entries_field (e ∷ es) z (suc i) k h b =
      let q : entry_bytes * suc i + k ≡ entry_bytes + (entry_bytes * i + k) = omega arith in
      rw (append_assoc, q) (word-append width (entry_of e) _ entry_bytes (entry_bytes * i + k) (length-entry_of e) ∙ entries_field es z i k (le_of_suc-le-suc h) b)

  page_field : (k n c : ℕ) (es : Rows Fix) (i j : ℕ) → i < length es → j + width ≤ entry_bytes
      → word width (page_of k n c es) (head_bytes + entry_bytes * i + j) ≡ word width (entry_of (get_or es i no_row)) j
  unfolding page_of
  page_field k n c es i j h b =
      rw add_assoc (word-append width (head_of _ k n c) _ head_bytes _ (length-head_of _ k n c) ∙ entries_field es _ i j h b)

pub entry_at-page_of : (k n c : ℕ) (es : Rows Fix) (i : ℕ) → i < length es → entry_at (page_of k n c es) i ≡ get_or es i no_row
unfolding entry_at
entry_at-page_of k n c es i h =
    let w = entry_fields (get_or es i no_row) in
    let r = rw add-zero at (page_field field_bytes k n c es i 0 h (omega arith)) ∙ w.0 in
    let e = page_field field_bytes k n c es i 2 h (omega arith) ∙ w.1 in
    let o = page_field field_bytes k n c es i 4 h (omega arith) ∙ w.2 in
    let m = page_field minute_bytes k n c es i 6 h (omega arith) ∙ w.3 in
    λ x. record { key = r x; val = record { place = record { east = e x; north = o x }; minute = m x } }

pub count-page_of : (k n c : ℕ) (es : Rows Fix) → length es ≤ page_entries → count (page_of k n c es) ≡ length es
unfolding count
count-page_of k n c es h = rw (page_fields k n c es).0 (omega arith)

pub entries-page_of : (k n c : ℕ) (es : Rows Fix) → length es ≤ page_entries → entries (page_of k n c es) ≡ es
unfolding entries
entries-page_of k n c es h =
    rw (count-page_of k n c es h) (sym (tab_of es (length es) no_row _ refl (λ i b. sym (entry_at-page_of k n c es i b))))
