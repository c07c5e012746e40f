-- The pages of a fresh store as they are written, one after the other; and the two ways in which making one ends.
use mathlib.Core.Bool.{cond}
use mathlib.Core.List.{List, [], ◌∷◌, ◌++◌, append_assoc, append-nil}
use mathlib.Core.Path.{◌≡◌, refl, sym, ap, ◌∙◌}
use Prim.Native.Nat.{ℕ, ◌+◌, ◌-◌, ◌*◌, ◌<◌, ◌≤◌}
use native.Mathlib.Omega.{arith}
use lib.Dec.{eqb}
use lib.ListN.{length, drop}
use lib.Seq.{drop_at}
use Rattle.terms.specs.Terms.{pages, no_page, no_cell}
use Rattle.lists.specs.Parts.{put, tab}
use Rattle.lists.specs.Sums.{concat}
use Rattle.lists.proofs.PartsLaws.{tab_suc, length_pieces, put-nil, put_then, put_whole}
use Rattle.page.specs.Page.{page_bytes, kind_free, kind_first, page_of, free_page_of}
use Rattle.page.specs.Buffer.{buffer_bytes, put_page}
use Rattle.page.proofs.PageLaws.{length-page_of}
use Rattle.rules.specs.Store.{fresh}
use Rattle.rules.specs.Watches.{fresh_watched}
use Rattle.desk.specs.declared.Answer.{Answer}
use Rattle.desk.specs.declared.Desk.{Desk}
use Rattle.desk.specs.Layout.{desk_of, pages_of, fresh_pages}
use Rattle.desk.proofs.FreshLaws.{fresh-Laid, fresh_pages_lem}
use Rattle.desk.specs.Making.{Found, made, numbered}
use Rattle.fresh.specs.Begin.{Begins}

-- ---- the pages

concat_last : {A : Type 0} (ls : List (List A)) (l : List A) → concat (ls ++ (l ∷ [])) ≡ concat ls ++ l
unfolding concat
concat_last [] l = append-nil l
concat_last (k ∷ ls) l = rw (concat_last ls l, append_assoc)

-- page i + 1 of a fresh store, and the first i of these
free_page : ℕ → List ℕ
free_page i = free_page_of (cond (eqb (i + 2) pages) no_page (i + 2))

pub free_pages : ℕ → List ℕ
free_pages i = concat (tab i free_page)

length_free : (i : ℕ) → length (free_pages i) ≡ page_bytes * i
unfolding free_pages free_page free_page_of
length_free i = length_pieces page_bytes i free_page (λ k. length-page_of kind_free _ no_cell [] (omega arith))

free_next : (i : ℕ) → free_pages (i + 1) ≡ free_pages i ++ free_page i
unfolding free_pages
free_next i = ap concat (tab_suc i free_page) ∙ concat_last (tab i free_page) (free_page i)

fresh_free : fresh_pages ≡ page_of kind_first no_page 0 [] ++ free_pages (pages - 1)
unfolding fresh_pages concat free_pages free_page
fresh_free = refl

length_first : length (page_of kind_first no_page 0 []) ≡ page_bytes
length_first = length-page_of kind_first no_page 0 [] (omega arith)

free_all : drop page_bytes fresh_pages ≡ free_pages (pages - 1)
free_all = ap (drop page_bytes) fresh_free ∙ drop_at (page_of kind_first no_page 0 []) (free_pages (pages - 1)) page_bytes length_first

-- the free pages below p are written in b, and nothing else of it is changed
pub freed : List ℕ → ℕ → List ℕ
freed b p = put b page_bytes (free_pages (p - 1))

pub freed_start : (b : List ℕ) → b ≡ freed b 1
unfolding freed free_pages tab concat
freed_start b = sym (put-nil b page_bytes)

pub freed_turn : (b : List ℕ) {p : ℕ} {c d : List ℕ} {next : ℕ} → length b ≡ buffer_bytes → c ≡ freed b p → 1 ≤ p → p < pages → next ≡ cond (eqb (p + 1) pages) no_page (p + 1) → d ≡ put_page c p (free_page_of next)
    → d ≡ freed b (p + 1)
unfolding freed put_page free_page
freed_turn b {p} {c} {next = next} s l g h n e =
    let i : ℕ = p - 1 in
    let q : p ≡ i + 1 = omega arith in
    let k : p + 1 ≡ i + 2 = omega arith in
    let f : free_page_of next ≡ free_page i = ap free_page_of (n ∙ ap (λ (z : ℕ). cond (eqb z pages) no_page z) k) in
    put_then b page_bytes (free_pages i) (free_page i) l (e ∙ ap (put c (page_bytes * p)) f) (omega (arith, length_free i)) (omega arith)
    ∙ ap (put b page_bytes) (sym (free_next i))
    ∙ ap (λ (z : ℕ). put b page_bytes (free_pages z)) (sym (let z : p + 1 - 1 ≡ i + 1 = omega arith in z))

pub freed_end : (b : List ℕ) {p : ℕ} {c : List ℕ} → c ≡ freed b p → pages ≤ p → p ≤ pages → c ≡ put b page_bytes (drop page_bytes fresh_pages)
unfolding freed
freed_end b {p} e g h = let z : pages ≡ p = omega (arith, g, h) in e ∙ ap (λ (n : ℕ). put b page_bytes (free_pages (n - 1))) (sym z) ∙ ap (put b page_bytes) (sym free_all)

-- page 0, then the free pages
pub all_written : (b : List ℕ) {c d : List ℕ} {kind : ℕ} → length b ≡ buffer_bytes → kind ≡ kind_first → c ≡ put_page b 0 (page_of kind no_page 0 [])
    → d ≡ put c page_bytes (drop page_bytes fresh_pages) → d ≡ pages_of fresh
unfolding put_page
all_written b {c} l k₁ e₁ f =
    let e : c ≡ put_page b 0 (page_of kind_first no_page 0 []) = e₁ ∙ ap (λ (k : ℕ). put_page b 0 (page_of k no_page 0 [])) k₁ in
    let k = length_first in
    put_then b 0 (page_of kind_first no_page 0 []) (free_pages (pages - 1)) e (f ∙ ap (put c page_bytes) free_all) (omega arith) (omega arith)
    ∙ ap (put b 0) (sym fresh_free)
    ∙ put_whole b fresh_pages (fresh-Laid.size ∙ sym l)
    ∙ sym fresh_pages_lem

-- ---- the two ends

pub Begins_refused : (x : Found) {a : Answer} → (length x.pages ≡ buffer_bytes → ⊥) → a ≡ numbered 1 → Begins x (made a x.desk x.pages)
Begins_refused x n e = record { size = λ _. ap (λ (z : Answer). made z x.desk x.pages) e; begun = λ l. absurd (n l) }

pub Begins-made : (x : Found) {a : Answer} {d : Desk} {p : List ℕ} → length x.pages ≡ buffer_bytes → a ≡ numbered 0 → d ≡ desk_of fresh_watched → p ≡ pages_of fresh → Begins x (made a d p)
Begins-made x l g e f = record { size = λ n. absurd (n l); begun = λ _. cc }
