-- The loops of settling: pages taken by next page, pages given up, and a cell's pages written, each from the last to the first.
use mathlib.Core.Bool.{true}
use mathlib.Core.List.{List, [], ◌∷◌, ◌++◌, append_assoc}
use mathlib.Core.Logic.{◌≢◌}
use mathlib.Core.Path.{◌≡◌, sym, ap, ap₂, ◌∙◌}
use Prim.Native.Nat.{ℕ, zero, suc, ◌+◌, ◌-◌, ◌*◌, ◌≤◌, ◌<◌, min, max}
use native.Mathlib.Nat.{not-suc-le-zero, le_of_suc-le-suc}
use native.Mathlib.Numerals.{add-one}
use native.Mathlib.Omega.{arith}
use lib.Dec.{leb}
use lib.ListN.{length-map, length, get_or, take, drop, set, length-set, length-take, length-drop, drop_of_length-le}
use lib.Seq.{drop-cons, get_or-take, take-take, take-suc-set, take-append-le, length-take-le, take_all, drop-drop}
use borrow.Author.Tests.{leb-true, leb-false, eq-eqb, ne_eqb}
use Rattle.terms.specs.Terms.{Fix, max_on, pages, page_entries, no_page}
use Rattle.lists.specs.Chains.{chain_head, Linked, settled_chain}
use Rattle.lists.specs.Rows.{Rows}
use Rattle.lists.specs.Tests.{Each}
use Rattle.lists.proofs.Cases.{by_cases}
use Rattle.std.proofs.lemmas.List.{take-map, drop-map}
use Rattle.lists.proofs.TestsLaws.{Each-get_or}
use Rattle.entries.specs.declared.Entry.{Entry}
use Rattle.entries.specs.Entries.{row_of, rows_of}
use Rattle.page.specs.Page.{kind_first, kind_further, page_of, free_page_of, next}
use Rattle.page.specs.Buffer.{page_at, put_page, there, chain_from, at_none, end_from}
use Rattle.page.proofs.ChainLaws.{following, ended_Chained}
use Rattle.rules.specs.Store.{pages_for}
use Rattle.desk.specs.Layout.{leaves}
use Rattle.settle.specs.Settle.{written, kind_at, given_leaves}

-- ---- lists

module _ {A : Type 0} where
  drop_before : (l : List A) (i : ℕ) (d : A) → 0 < i → i ≤ length l → drop (i - 1) l ≡ get_or l (i - 1) d ∷ drop i l
  drop_before l i d h k = let e : suc (i - 1) ≡ i = omega arith in drop-cons l (i - 1) d (omega arith) ∙ ap (λ m. get_or l (i - 1) d ∷ drop m l) e

-- the page after a page of a chain
Linked_next : (end : ℕ) (f : ℕ → ℕ) (l : List ℕ) (i d : ℕ) → Linked end f l → i < length l → f (get_or l i d) ≡ chain_head end (drop (suc i) l)
Linked_next end f [] i d k h = absurd (not-suc-le-zero h)
Linked_next end f (p ∷ l) zero d k h = k.1
Linked_next end f (p ∷ l) (suc i) d k h = Linked_next end f l i d k.2 (le_of_suc-le-suc h)

-- ---- pages given up

abbrev pub Below : List ℕ → Type 0
Below = Each (λ p. p < pages)

-- of the first n pages those from number i on are free, the last of them leading on to `free`
pub record Giving (b ps : List ℕ) (n free need : ℕ) (c : List ℕ) (front i : ℕ) : Type 0 where
  pub size : length (take n ps) ≡ n
  pub below : Below (take n ps)
  pub low : min need n ≤ i
  pub high : i ≤ n
  pub bytes : c ≡ written b (given_leaves free (drop i (take n ps)))
  pub first : front ≡ chain_head free (drop i (take n ps))

pub Giving_start : (b ps : List ℕ) (n free need : ℕ) → length ps ≡ pages → n ≤ pages → Below (take n ps) → Giving b ps n free need b free n
unfolding written given_leaves
Giving_start b ps n free need s h w =
    let l = length-take-le n ps (omega arith) in
    let e : drop n (take n ps) ≡ [] = drop_of_length-le (take n ps) {i = n} (omega arith) in
    record { size = l; below = w; low = omega arith; high = omega arith; bytes = rw e; first = rw e }

module _ {b ps : List ℕ} {n free need : ℕ} {c : List ℕ} {front i : ℕ} (g : Giving b ps n free need c front i) where
  Giving_page : need < i → get_or (take n ps) (i - 1) 0 ≡ get_or ps (i - 1) 0
  Giving_page more = get_or-take n ps (i - 1) 0 (omega (arith, g.high))

  pub Giving_below : need < i → get_or ps (i - 1) 0 < pages
  Giving_below more = rw (← Giving_page more) (Each-get_or _ (take n ps) (i - 1) 0 g.below (omega (arith, g.high, g.size)))

  pub Giving_turn : {c' : List ℕ} → need < i → c' ≡ put_page c (get_or ps (i - 1) 0) (free_page_of front) → Giving b ps n free need c' (get_or ps (i - 1) 0) (i - 1)
  unfolding written given_leaves
  Giving_turn more e =
      let d : drop (i - 1) (take n ps) ≡ get_or ps (i - 1) 0 ∷ drop i (take n ps) =
      drop_before (take n ps) i 0 (omega arith) (omega (arith, g.high, g.size)) ∙ ap (λ p. p ∷ drop i (take n ps)) (Giving_page more) in
      record {
        size = g.size;
        below = g.below;
        low = omega (arith, g.low);
        high = omega (arith, g.high);
        bytes = rw d (e ∙ rw (g.bytes, g.first));
        first = rw d;
      }

  Giving_left : i ≤ need → drop i (take n ps) ≡ drop need (take n ps)
  Giving_left h =
      by_cases (leb need n)
      (λ t. let e : i ≡ need = omega (arith, leb-true need n t, g.low) in rw e)
      (λ t. let k = leb-false need n t in
      drop_of_length-le (take n ps) {i = i} (omega (arith, g.low, g.size)) ∙ sym (drop_of_length-le (take n ps) {i = need} (omega (arith, g.size))))

  pub Giving_end : i ≤ need → (c ≡ written b (given_leaves free (drop need (take n ps)))) × (front ≡ chain_head free (drop need (take n ps)))
  Giving_end h = rw (← Giving_left h) (g.bytes, g.first)

-- ---- a cell's pages written

pub kind_first_lem : (k : ℕ) → k ≡ 0 → kind_first ≡ kind_at k
kind_first_lem k e = rw (eq-eqb k 0 e)

pub kind_further_lem : (k : ℕ) → k ≢ 0 → kind_further ≡ kind_at k
kind_further_lem k n = rw (ne_eqb k 0 n)

-- the first n pages, which these rows need, hold them from number k on
pub record Writing (b ps : List ℕ) (n cell : ℕ) (rows : Rows Fix) (c : List ℕ) (next k : ℕ) : Type 0 where
  pub size : length (take n ps) ≡ n
  pub below : Below (take n ps)
  pub need : n ≡ pages_for (length rows)
  pub high : k ≤ n
  pub bytes : c ≡ written b (leaves (kind_at k) cell (drop k (take n ps)) (drop (page_entries * k) rows))
  pub first : next ≡ chain_head no_page (drop k (take n ps))

pub Writing_few : (e : ℕ) {n : ℕ} → e ≤ max_on → n ≡ pages_for e → n ≤ pages
unfolding pages_for
Writing_few e h m = omega arith

pub Writing_start : (b ps : List ℕ) (n cell : ℕ) (rows : Rows Fix) → length ps ≡ pages → length rows ≤ max_on → n ≡ pages_for (length rows) → Below (take n ps)
    → Writing b ps n cell rows b no_page n
unfolding written leaves
Writing_start b ps n cell rows s h m w =
    let l = length-take-le n ps (omega (arith, Writing_few (length rows) h m)) in
    let z : drop n (take n ps) ≡ [] = drop_of_length-le (take n ps) {i = n} (omega arith) in
    record { size = l; below = w; need = m; high = omega arith; bytes = rw z; first = rw z }

-- the rows of one page: those of the entries from there on, as many as there are and the page holds
part_page : (rows : Rows Fix) (from : ℕ) → take (min (length rows) (from + page_entries) - from) (drop from rows) ≡ take page_entries (drop from rows)
part_page rows from =
    by_cases (leb (from + page_entries) (length rows))
    (λ t. let m : min (length rows) (from + page_entries) - from ≡ page_entries = omega (arith, leb-true (from + page_entries) (length rows) t) in rw m)
    (λ t. let k = leb-false (from + page_entries) (length rows) t in
    take_all (min (length rows) (from + page_entries) - from) (drop from rows) (rw length-drop (omega arith)) ∙ sym (take_all page_entries (drop from rows) (rw length-drop (omega arith))))

page_rows : (es : List Entry) (from end : ℕ) → end ≡ min (length es) (from + page_entries)
    → rows_of (take (end - from) (drop from es)) ≡ take page_entries (drop from (rows_of es))
page_rows es from end e =
    sym (take-map row_of (end - from) (drop from es)) ∙ ap (take (end - from)) (sym (drop-map row_of from es))
    ∙ rw (e, ← length-map es row_of) (part_page (rows_of es) from)

module _ {b ps : List ℕ} {n cell : ℕ} (es : List Entry) {c : List ℕ} {next k : ℕ} (g : Writing b ps n cell (rows_of es) c next k) where
  abbrev rows : Rows Fix
  rows = rows_of es

  Writing_page : 0 < k → get_or (take n ps) (k - 1) 0 ≡ get_or ps (k - 1) 0
  Writing_page more = get_or-take n ps (k - 1) 0 (omega (arith, g.high))

  pub Writing_below : 0 < k → get_or ps (k - 1) 0 < pages
  Writing_below more = rw (← Writing_page more) (Each-get_or _ (take n ps) (k - 1) 0 g.below (omega (arith, g.high, g.size)))

  -- its page begins with one of the entries, if there is any
  pub Writing_from : 0 < k → page_entries * (k - 1) ≤ length es
  unfolding pages_for
  Writing_from more = omega (arith, g.high, g.need, length-map es row_of)

  -- and has no more than a page holds
  pub Writing_held : {end : ℕ} → 0 < k → end ≡ min (length es) (page_entries * (k - 1) + page_entries)
      → length (take (end - page_entries * (k - 1)) (drop (page_entries * (k - 1)) es)) ≤ page_entries
  Writing_held more e = rw length-take (omega arith)

  pub Writing_turn : {c' : List ℕ} {kind end : ℕ} → 0 < k → kind ≡ kind_at (k - 1) → end ≡ min (length es) (page_entries * (k - 1) + page_entries)
      → c' ≡ put_page c (get_or ps (k - 1) 0) (page_of kind next cell (rows_of (take (end - page_entries * (k - 1)) (drop (page_entries * (k - 1)) es))))
      → Writing b ps n cell (rows_of es) c' (get_or ps (k - 1) 0) (k - 1)
  unfolding written leaves
  Writing_turn {end = end} more t q w =
      let d : drop (k - 1) (take n ps) ≡ get_or ps (k - 1) 0 ∷ drop k (take n ps) =
      drop_before (take n ps) k 0 (omega arith) (omega (arith, g.high, g.size)) ∙ ap (λ p. p ∷ drop k (take n ps)) (Writing_page more) in
      let s : page_entries * (k - 1) + page_entries ≡ page_entries * k = omega arith in
      let f : drop page_entries (drop (page_entries * (k - 1)) rows) ≡ drop (page_entries * k) rows =
      drop-drop page_entries (page_entries * (k - 1)) rows ∙ ap (λ i. drop i rows) s in
      let o : kind_at k ≡ kind_further = sym (kind_further_lem k (λ z. omega arith)) in
      record {
        size = g.size;
        below = g.below;
        need = g.need;
        high = omega (arith, g.high);
        bytes = rw (d, f) (w ∙ rw (t, page_rows es (page_entries * (k - 1)) end q, g.bytes, g.first, o));
        first = rw d;
      }

  pub Writing_end : k ≤ 0 → c ≡ written b (leaves kind_first cell (take n ps) rows)
  Writing_end h = let z : k ≡ 0 = omega arith in rw z at g.bytes

-- ---- pages taken

-- the chain's n₀ pages with those taken from f, the free chain, and what follows them there
pub record Growing (b ps₀ f : List ℕ) (n₀ need : ℕ) (ps : List ℕ) (front n : ℕ) : Type 0 where
  pub size : length ps ≡ pages
  pub chain : length (take n₀ ps₀) ≡ n₀
  pub linked : Linked no_page (following b) f
  pub all_there : Each (λ p. there b p ≡ true) f
  pub enough : need ≤ n₀ + length f
  pub few : need ≤ pages
  pub low : n₀ ≤ n
  pub high : n ≤ max n₀ need
  pub list : take n ps ++ drop (n - n₀) f ≡ take n₀ ps₀ ++ f
  pub first : front ≡ chain_head no_page (drop (n - n₀) f)

pub Growing_start : (b ps : List ℕ) (free n need : ℕ) → length ps ≡ pages → n ≤ pages → need ≤ pages → end_from pages b free ≡ at_none → need ≤ length (take n ps) + length (chain_from pages b free)
    → Growing b ps (chain_from pages b free) n need ps free n
Growing_start b ps free n need s h k e m =
    let c = ended_Chained b pages free e in
    let l = length-take-le n ps (omega arith) in
    let z : n - n ≡ 0 = omega arith in
    record {
      size = s;
      chain = l;
      linked = c.linked;
      all_there = c.all_there;
      enough = omega arith;
      few = k;
      low = omega arith;
      high = omega arith;
      list = rw z;
      first = rw z (sym c.first);
    }

module _ {b ps₀ f : List ℕ} {n₀ need : ℕ} {ps : List ℕ} {front n : ℕ} (g : Growing b ps₀ f n₀ need ps front n) where
  Growing_next : n < need → drop (n - n₀) f ≡ front ∷ drop (n + 1 - n₀) f
  Growing_next more =
      let s : suc (n - n₀) ≡ n + 1 - n₀ = omega (arith, g.low) in
      let d : drop (n - n₀) f ≡ get_or f (n - n₀) 0 ∷ drop (suc (n - n₀)) f = drop-cons f (n - n₀) 0 (omega (arith, g.low, g.enough)) in
      d ∙ ap₂ ◌∷◌ (sym (g.first ∙ ap (chain_head no_page) d)) (ap (λ i. drop i f) s)

  Growing_front : n < need → front ≡ get_or f (n - n₀) 0
  Growing_front more = g.first ∙ ap (chain_head no_page) (drop-cons f (n - n₀) 0 (omega (arith, g.low, g.enough)))

  pub Growing_there : n < need → there b front ≡ true
  Growing_there more = rw (Growing_front more) (Each-get_or _ f (n - n₀) 0 g.all_there (omega (arith, g.low, g.enough)))

  pub Growing_turn : {q : ℕ} → n < need → q ≡ next (page_at b front) → Growing b ps₀ f n₀ need (set ps n front) q (n + 1)
  Growing_turn more e =
      let s : suc (n - n₀) ≡ n + 1 - n₀ = omega (arith, g.low) in
      let m : take (n + 1) (set ps n front) ≡ take n ps ++ (front ∷ []) = rw add-one (take-suc-set ps n front (omega (arith, g.size, g.few))) in
      record {
        size = length-set ps n front ∙ g.size;
        chain = g.chain;
        linked = g.linked;
        all_there = g.all_there;
        enough = g.enough;
        few = g.few;
        low = omega (arith, g.low);
        high = omega (arith, g.high);
        list = rw m (append_assoc (take n ps) (front ∷ []) (drop (n + 1 - n₀) f) ∙ ap (λ l. take n ps ++ l) (sym (Growing_next more)) ∙ g.list);
        first = e ∙ ap (λ p. following b p) (Growing_front more) ∙ Linked_next no_page (following b) f (n - n₀) 0 g.linked (omega (arith, g.low, g.enough)) ∙ ap (λ i. chain_head no_page (drop i f)) s;
      }

  pub Growing_end : need ≤ n → (take need ps ≡ settled_chain need (take n₀ ps₀) f) × (front ≡ chain_head no_page (drop (need - length (take n₀ ps₀)) f))
  unfolding settled_chain
  Growing_end h =
      let z : n - n₀ ≡ need - length (take n₀ ps₀) = omega (arith, g.low, g.high, g.chain) in
      let l : need ≤ length (take n ps) = rw length-take (omega (arith, g.size, g.few)) in
      (sym (take-take need n ps h) ∙ sym (take-append-le need (take n ps) (drop (n - n₀) f) l) ∙ ap (take need) g.list, g.first ∙ ap (λ i. chain_head no_page (drop i f)) z)
