-- What the writers leave: a header, an entry, a page's entries one after the other, and the part of the buffer that was lent to them.
use mathlib.Core.List.{List, [], ◌∷◌, ◌++◌, map-append, append_assoc}
use mathlib.Core.Path.{◌≡◌, refl, sym, ap, ◌∙◌}
use Prim.Native.Nat.{ℕ, ◌+◌, ◌-◌, ◌*◌, ◌≤◌, ◌<◌}
use native.Mathlib.Omega.{arith}
use native.Mathlib.Numerals.{add-one}
use lib.ListN.{length, get_or, take, drop, replicate, length-append, length-replicate, length-map, length-take, length-drop}
use lib.Seq.{take-suc, take_all, length-take-le}
use Rattle.terms.specs.Terms.{field_bytes, minute_bytes, page_entries, no_cell}
use Rattle.lists.specs.Parts.{put}
use Rattle.lists.specs.Words.{le}
use Rattle.lists.proofs.PartsLaws.{length-put, put-nil, put_then, put_whole, lent}
use Rattle.entries.specs.Entries.{row_of, no_entry, rows_of}
use Rattle.entries.specs.declared.Entry.{Entry}
use Rattle.page.specs.Page.{page_bytes, head_bytes, entry_bytes, kind_free, entry_of, entries_of, head_of, page_of, free_page_of}
use Rattle.page.specs.Buffer.{put_page}
use Rattle.page.proofs.PageLaws.{length-head_of, length-entries_of, length-page_of, entries_of_snoc}

-- ---- fields in a row

pub put_entry : (p : List ℕ) {q r s t : List ℕ} (at : ℕ) (e : Entry) → at + entry_bytes ≤ length p
    → q ≡ put p at (le field_bytes e.radio) → r ≡ put q (at + 2) (le field_bytes e.east) → s ≡ put r (at + 4) (le field_bytes e.north)
    → t ≡ put s (at + 6) (le minute_bytes e.minute) → t ≡ put p at (entry_of (row_of e))
unfolding entry_of le
put_entry p at e h f g k m =
    put_then p at _ _ (put_then p at _ _ (put_then p at _ _ f g (omega arith) (omega arith)) k (omega arith) (omega arith)) m (omega arith) (omega arith)

pub put_head : (p : List ℕ) {q r s t : List ℕ} (u k n c : ℕ) → head_bytes ≤ length p
    → q ≡ put p 0 (le field_bytes u) → r ≡ put q 2 (le field_bytes k) → s ≡ put r 4 (le field_bytes n) → t ≡ put s 6 (le field_bytes c)
    → t ≡ put p 0 (head_of u k n c)
unfolding head_of le
put_head p u k n c h f g i j =
    put_then p 0 _ _ (put_then p 0 _ _ (put_then p 0 _ _ f g refl (omega arith)) i refl (omega arith)) j refl (omega arith)

-- zeros from a place on
pub cleared : (page : List ℕ) (from : ℕ) {zeros : List ℕ} → from ≤ length page → zeros ≡ replicate (length (take (length page - from) (drop from page))) 0
    → take from page ++ (zeros ++ drop (length page - from) (drop from page)) ≡ put page from (replicate (length page - from) 0)
cleared page from h e =
    let n : length (take (length page - from) (drop from page)) ≡ length page - from = simp (length-take, length-drop) (omega arith) in
    rw (e, n) (lent page (replicate (length page - from) 0) from (length page - from) (simp length-replicate refl))

-- ---- the loop that writes a page's entries

-- the first i of the entries stand in q, and nothing else of p is changed
pub record Writing (entries : List Entry) (p : List ℕ) (i : ℕ) (q : List ℕ) : Type 0 where
  pub few : length entries ≤ page_entries
  pub size : length p ≡ page_bytes
  pub list : q ≡ put p head_bytes (entries_of (rows_of (take i entries)))

-- how many bytes the first entries take
lengths : (entries : List Entry) (i : ℕ) → i ≤ length entries → length (entries_of (rows_of (take i entries))) ≡ entry_bytes * i
lengths entries i h = length-entries_of (rows_of (take i entries)) ∙ rw (length-map (take i entries) row_of, length-take-le i entries h)

pub Writing_start : (entries : List Entry) (p : List ℕ) → length entries ≤ page_entries → length p ≡ page_bytes → Writing entries p 0 p
unfolding entries_of
Writing_start entries p few size = record { few = few; size = size; list = sym (put-nil p head_bytes) }

module _ {entries : List Entry} {p : List ℕ} {i : ℕ} {q r : List ℕ} (w : Writing entries p i q) where
  pub Writing_turn : (e : Entry) → i < length entries → e ≡ get_or entries i no_entry → r ≡ put q (head_bytes + entry_bytes * i) (entry_of (row_of e)) → Writing entries p (i + 1) r
  Writing_turn e more here wrote =
      let few = w.few in
      let size = w.size in
      let m = lengths entries i (omega arith) in
      let next : rows_of (take (i + 1) entries) ≡ rows_of (take i entries) ++ (row_of e ∷ [])
      = ap rows_of (ap (λ (k : ℕ). take k entries) (add-one i) ∙ take-suc entries i no_entry more ∙ ap (λ (x : Entry). take i entries ++ (x ∷ [])) (sym here)) ∙ map-append row_of (take i entries) (e ∷ []) in
      record { few = few; size = size; list = put_then p head_bytes _ _ w.list wrote (omega arith) (omega arith) ∙ rw (next, entries_of_snoc) }

  pub Writing_end : (p₀ : List ℕ) (k x c : ℕ) → length entries ≤ i → i ≤ length entries
      → length p₀ ≡ page_bytes → length q ≡ page_bytes → p ≡ put p₀ 0 (head_of (head_bytes + entry_bytes * length entries) k x c)
      → r ≡ put q (head_bytes + entry_bytes * length entries) (replicate (length q - (head_bytes + entry_bytes * length entries)) 0)
      → r ≡ page_of k x c (rows_of entries)
  unfolding page_of
  Writing_end p₀ k x c all passed size q_size head tail =
      let few = w.few in
      let o : i ≡ length entries = omega arith in
      let n = length entries in
      let rows = length-map entries row_of in
      let whole : rows_of (take i entries) ≡ rows_of entries = ap rows_of (ap (λ (j : ℕ). take j entries) o ∙ take_all n entries (omega arith)) in
      let y : length (entries_of (rows_of entries)) ≡ entry_bytes * n = length-entries_of (rows_of entries) ∙ rw rows in
      let a = length-head_of (head_bytes + entry_bytes * n) k x c in
      let z = put_then p₀ 0 _ _ head (rw whole at w.list) (omega arith) (omega arith) in
      let v = put_then p₀ 0 _ _ z tail (simp length-append (omega arith)) (omega arith) in
      let d : length q - (head_bytes + entry_bytes * n) ≡ page_bytes - head_bytes - entry_bytes * n = omega arith in
      v ∙ rw (d, rows, ← append_assoc) (put_whole p₀ _ (simp (length-append, length-replicate) (omega arith)))

-- a page without entries
pub free_end : (p₀ : List ℕ) {p q : List ℕ} {kind : ℕ} (next : ℕ) → length p₀ ≡ page_bytes → kind ≡ kind_free → p ≡ put p₀ 0 (head_of head_bytes kind next no_cell)
    → q ≡ put p head_bytes (replicate (length p - head_bytes) 0) → q ≡ free_page_of next
unfolding free_page_of page_of entries_of
free_end p₀ {p} next s k e' f =
    let e : p ≡ put p₀ 0 (head_of head_bytes kind_free next no_cell) = rw k at e' in
    let a = length-head_of head_bytes kind_free next no_cell in
    let l : length p ≡ page_bytes = rw e (length-put p₀ 0 _ (omega arith) ∙ s) in
    let d : length p - head_bytes ≡ page_bytes - head_bytes = omega arith in
    put_then p₀ 0 _ _ e f (omega arith) (omega arith) ∙ rw d (put_whole p₀ _ (simp length-append (omega arith)))

-- ---- the part of the buffer that was lent to a writer

lent_page : (b : List ℕ) (p : ℕ) (v : List ℕ) → length v ≡ page_bytes
    → take (page_bytes * p) b ++ (v ++ drop (page_bytes * p + page_bytes - page_bytes * p) (drop (page_bytes * p) b)) ≡ put_page b p v
unfolding put_page
lent_page b p v h = lent b v (page_bytes * p) (page_bytes * p + page_bytes - page_bytes * p) (omega arith)

pub lent_entries : (b : List ℕ) {v : List ℕ} (p k x c : ℕ) (entries : List Entry) → length entries ≤ page_entries → v ≡ page_of k x c (rows_of entries)
    → take (page_bytes * p) b ++ (v ++ drop (page_bytes * p + page_bytes - page_bytes * p) (drop (page_bytes * p) b)) ≡ put_page b p (page_of k x c (rows_of entries))
lent_entries b p k x c entries few e = rw e (lent_page b p _ (length-page_of k x c (rows_of entries) (rw (length-map entries row_of) few)))

pub lent_free : (b : List ℕ) {v : List ℕ} (p next : ℕ) → v ≡ free_page_of next
    → take (page_bytes * p) b ++ (v ++ drop (page_bytes * p + page_bytes - page_bytes * p) (drop (page_bytes * p) b)) ≡ put_page b p (free_page_of next)
lent_free b p next e = rw e (lent_page b p _ (unfold free_page_of in length-page_of kind_free next no_cell [] (omega arith)))
