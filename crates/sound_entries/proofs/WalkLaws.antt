-- The walk over the pages: entry by entry, page by page, cell by cell, what is added and what is stale.
use mathlib.Core.Path.{◌≡◌, refl, sym, ap, ◌∙◌, subst}
use mathlib.Core.Bool.{Bool, true, false}
use mathlib.Core.List.{List, [], ◌∷◌, ◌++◌, append_assoc, append-nil, map}
use Prim.Native.Nat.{ℕ, zero, suc, ◌+◌, ◌-◌, ◌*◌, ◌%◌, ◌≤◌, ◌<◌}
use native.Mathlib.Omega.{arith}
use native.Mathlib.Numerals.{add-one}
use borrow.Author.Tests.{eqb-true, eqb-false}
use lib.Dec.{eqb}
use lib.ListN.{length, get_or, set, take, drop, drop_of_length-le, length-set}
use lib.Seq.{drop-cons, take-suc-set}
use Rattle.terms.specs.Terms.{Fix, max_radio, pages, page_entries, no_page}
use Rattle.lists.specs.Parts.{tab}
use Rattle.lists.specs.Rows.{Row, Rows, UpTo}
use Rattle.lists.specs.Sums.{concat}
use Rattle.lists.specs.Tests.{one_if}
use Rattle.lists.proofs.PartsLaws.{length-tab, get_or-tab}
use Rattle.lists.proofs.Cases.{by_cases}
use Rattle.lists.proofs.SumsLaws.{sum-nil, sum-cons, sum-append, sum-le, length-sum}
use Rattle.lists.proofs.SlotsLaws.{passed_true}
use Rattle.lists.proofs.TestsLaws.{one_if-le, Each_split}
use Rattle.entries.specs.declared.Entry.{Entry}
use Rattle.entries.specs.Entries.{row_of, no_row}
use Rattle.page.specs.Page.{page_bytes, next, count, entry_at, entries}
use Rattle.page.specs.Buffer.{page_at, there, chain_from, entries_on, entries_from}
use Rattle.page.proofs.PageLaws.{count-le}
use Rattle.page.proofs.ChainLaws.{there_bounds, chain_ended, chain_not_there, chain_there, chain_out}
use Rattle.rules.specs.Limits.{max_cells}
use Rattle.desk.specs.declared.Slot.{Slot}
use Rattle.desk.specs.Held.{Directory}
use Rattle.desk.specs.Layout.{no_slot}
use Rattle.desk.specs.Views.{slots_in}
use Rattle.sound_balance.specs.Tables.{field_end, added}
use Rattle.sound_balance.proofs.TableLaws.{row_next, row_none, added_one, Adding, Adding_start, Adding_end, Adding_key, Adding_turn}
use Rattle.sound_entries.specs.Entries.{rows_read, weight, weigh, stale_sum}

-- ---- one entry after the other

added-append : {Val : Type 0} (w : Row Val → ℕ) (t : List ℕ) (a b : Rows Val) → added w t (a ++ b) ≡ added w (added w t a) b
unfolding added
added-append w t [] b = refl
added-append w t (x ∷ a) b = added-append w (added_one w t x) a b

pub stale_nil : (old : Row Fix → Bool) → stale_sum old [] ≡ 0
unfolding stale_sum
stale_nil old = sum-nil (λ e. one_if (old e))

pub stale_cons : (old : Row Fix → Bool) (e : Row Fix) (es : Rows Fix) → stale_sum old (e ∷ es) ≡ one_if (old e) + stale_sum old es
unfolding stale_sum
stale_cons old e es = sum-cons (λ x. one_if (old x)) e es

pub stale_append : (old : Row Fix → Bool) (a b : Rows Fix) → stale_sum old (a ++ b) ≡ stale_sum old a + stale_sum old b
unfolding stale_sum
stale_append old a b = sum-append (λ x. one_if (old x)) a b

pub stale_le : (old : Row Fix → Bool) (es : Rows Fix) → stale_sum old es ≤ length es
unfolding stale_sum
stale_le old es = omega (arith, sum-le (λ e. one_if (old e)) (λ _. 1) es (λ e. one_if-le (old e)), length-sum es)

-- the entries before i are added, and sum of them are stale: with the rest it is the whole
pub record Tallying (old : Row Fix → Bool) (t₀ : List ℕ) (es : Rows Fix) (i : ℕ) (t : List ℕ) (sum : ℕ) : Type 0 where
  pub adding : Adding (weigh old) t₀ es i t
  pub stale : sum + stale_sum old (drop i es) ≡ stale_sum old es

pub tally_start : (old : Row Fix → Bool) {t : List ℕ} {es : Rows Fix} → UpTo max_radio es → Tallying old t es 0 t 0
tally_start old u = record { adding = Adding_start (weigh old) u; stale = omega arith }

-- ---- the entries of a page

module _ {old : Row Fix → Bool} {t₀ : List ℕ} (v : List ℕ) {i : ℕ} {t : List ℕ} {sum : ℕ} (a : Tallying old t₀ (entries v) i t sum) {n : ℕ} (many : n ≡ count v) where
  pub page_end : n ≤ i → (t ≡ added (weigh old) t₀ (entries v)) × (sum ≡ stale_sum old (entries v)) × (sum ≤ page_entries)
  unfolding entries
  page_end h =
      let z : drop i (tab (count v) (entry_at v)) ≡ [] = drop_of_length-le (tab (count v) (entry_at v)) {i = i} (omega (arith, length-tab (count v) (entry_at v))) in
      let e : sum ≡ stale_sum old (tab (count v) (entry_at v)) = omega (arith, a.stale, ap (stale_sum old) z, stale_nil old) in
      (Adding_end a.adding z, e, omega (arith, e, stale_le old (tab (count v) (entry_at v)), length-tab (count v) (entry_at v), count-le v))

  module _ (more : i < n) (e : Entry) (read : row_of e ≡ entry_at v i) where
    opened : drop i (entries v) ≡ row_of e ∷ drop (i + 1) (entries v)
    unfolding entries
    opened =
        let l = length-tab (count v) (entry_at v) in
        rw (add-one i, read) (drop-cons (tab (count v) (entry_at v)) i no_row (omega arith) ∙ rw (get_or-tab (count v) (entry_at v) i no_row (omega arith)))

    pub page_radio : e.radio ≤ max_radio
    page_radio = Adding_key a.adding opened

    pub page_turn : {s : Bool} {k w m b : ℕ} → k ≡ e.radio → s ≡ old (row_of e) → w ≡ weight s → m ≡ one_if s → b ≡ (get_or t k 0 + w) % field_end
        → Tallying old t₀ (entries v) (i + 1) (set t k b) (sum + m)
    page_turn {s} {k} {w} at said weighs adds q =
        let z : w ≡ weigh old (row_of e) = weighs ∙ ap weight said in
        record {
          adding = Adding_turn a.adding opened at (q ∙ ap (λ (n : ℕ). (get_or t k 0 + n) % field_end) z);
          stale = omega (arith, a.stale, adds, ap one_if said, ap (stale_sum old) opened, stale_cons old (row_of e) (drop (i + 1) (entries v)));
        }

-- ---- the pages of a chain

on_cons : (b : List ℕ) (p : ℕ) (ps : List ℕ) → entries_on b (p ∷ ps) ≡ entries (page_at b p) ++ entries_on b ps
unfolding entries_on concat
on_cons b p ps = refl

on_none : (b : List ℕ) → entries_on b [] ≡ []
unfolding entries_on concat
on_none b = refl

chain_gone : (b : List ℕ) (p fuel : ℕ) → there b p ≡ false → chain_from fuel b p ≡ []
chain_gone b p zero t = (chain_out b p).0
chain_gone b p (suc fuel) t = by_cases (eqb p no_page) (λ e. (chain_ended b p (suc fuel) (eqb-true p no_page e)).0) (λ e. (chain_not_there b p fuel (eqb-false p no_page e) t).0)

pub page_asks : (b : List ℕ) (p : ℕ) {k : ℕ} {r : Bool} → k ≡ p → r ≡ there b p → r ≡ true → (k < pages) × (page_bytes * k + page_bytes ≤ length b)
page_asks b p e t f = rw e (there_bounds b p (passed_true t f))

-- the entries read are added, and sum of them are stale: with those of the rest of the chain it is the whole
pub record Chaining (old : Row Fix → Bool) (b : List ℕ) (first : ℕ) (t₀ t : List ℕ) (sum p i : ℕ) : Type 0 where
  pub radios : UpTo max_radio (entries_on b (chain_from (pages - i) b p))
  pub same : added (weigh old) t (entries_on b (chain_from (pages - i) b p)) ≡ added (weigh old) t₀ (entries_from b first)
  pub stale : sum + stale_sum old (entries_on b (chain_from (pages - i) b p)) ≡ stale_sum old (entries_from b first)

pub Chaining_start : (old : Row Fix → Bool) (b : List ℕ) {first : ℕ} {t : List ℕ} → UpTo max_radio (entries_from b first) → Chaining old b first t t 0 first 0
unfolding entries_from
Chaining_start old b u = record { radios = u; same = refl; stale = omega arith }

module _ {old : Row Fix → Bool} {b : List ℕ} {first : ℕ} {t₀ t : List ℕ} {sum p i : ℕ} (a : Chaining old b first t₀ t sum p i) where
  stops : chain_from (pages - i) b p ≡ [] → (t ≡ added (weigh old) t₀ (entries_from b first)) × (sum ≡ stale_sum old (entries_from b first))
  unfolding added
  stops e =
      let z : entries_on b (chain_from (pages - i) b p) ≡ [] = ap (entries_on b) e ∙ on_none b in
      (ap (added (weigh old) t) (sym z) ∙ a.same, omega (arith, a.stale, ap (stale_sum old) z, stale_nil old))

  pub Chaining_gone : {r : Bool} → r ≡ there b p → r ≡ false → (t ≡ added (weigh old) t₀ (entries_from b first)) × (sum ≡ stale_sum old (entries_from b first))
  Chaining_gone {r} e f = stops (chain_gone b p (pages - i) (sym e ∙ f))

  pub Chaining_out : pages ≤ i → (t ≡ added (weigh old) t₀ (entries_from b first)) × (sum ≡ stale_sum old (entries_from b first))
  Chaining_out h = let z : pages - i ≡ 0 = omega arith in stops (rw z (chain_out b p).0)

  module _ (more : i < pages) {r : Bool} (e : r ≡ there b p) (f : r ≡ true) {k : ℕ} (at : k ≡ p) {v : List ℕ} (page : v ≡ page_at b k) where
    after : entries_on b (chain_from (pages - i) b p) ≡ entries v ++ entries_on b (chain_from (pages - (i + 1)) b (next (page_at b p)))
    after =
        let z : pages - i ≡ suc (pages - (i + 1)) = omega arith in
        ap (λ (n : ℕ). entries_on b (chain_from n b p)) z ∙ ap (entries_on b) (chain_there b p (pages - (i + 1)) (passed_true e f)).0
        ∙ on_cons b p (chain_from (pages - (i + 1)) b (next (page_at b p))) ∙ ap (λ (y : List ℕ). entries y ++ entries_on b (chain_from (pages - (i + 1)) b (next (page_at b p)))) (sym (page ∙ ap (page_at b) at))

    radios_both : UpTo max_radio (entries v) × UpTo max_radio (entries_on b (chain_from (pages - (i + 1)) b (next (page_at b p))))
    radios_both = Each_split (λ x. x.key ≤ max_radio) (entries v) (entries_on b (chain_from (pages - (i + 1)) b (next (page_at b p)))) (subst (λ (es : Rows Fix). UpTo max_radio es) after a.radios)

    pub Chaining_radios : UpTo max_radio (entries v)
    Chaining_radios = radios_both.0

    module _ {s : ℕ} (said : s ≡ stale_sum old (entries v)) where
      both_stale : sum + s + stale_sum old (entries_on b (chain_from (pages - (i + 1)) b (next (page_at b p)))) ≡ stale_sum old (entries_from b first)
      both_stale = omega (arith, a.stale, ap (stale_sum old) after, stale_append old (entries v) (entries_on b (chain_from (pages - (i + 1)) b (next (page_at b p)))))

      pub Chaining_turn : {u : List ℕ} {q : ℕ} → u ≡ added (weigh old) t (entries v) → q ≡ next (page_at b p) → Chaining old b first t₀ u (sum + s) q (i + 1)
      Chaining_turn {u} {q} g h =
          let rest = entries_on b (chain_from (pages - (i + 1)) b (next (page_at b p))) in
          let c : Chaining old b first t₀ (added (weigh old) t (entries v)) (sum + s) (next (page_at b p)) (i + 1) = record {
            radios = radios_both.1;
            same = sym (added-append (weigh old) t (entries v) rest) ∙ ap (added (weigh old) t) (sym after) ∙ a.same;
            stale = both_stale;
          } in
          rw (g, h) c

-- ---- the cells, in the order of the round

concat_none : {A : Type 0} → concat {A = A} [] ≡ []
unfolding concat
concat_none = refl

concat-cons : {A : Type 0} (l : List A) (ls : List (List A)) → concat (l ∷ ls) ≡ l ++ concat ls
unfolding concat
concat-cons l ls = refl

-- the entries of the cells before i are added, and the stale ones of each counted: with the rest it is the whole
pub record Cells (old : Row Fix → Bool) (b : List ℕ) (d : Directory) (t₀ t counts : List ℕ) (i : ℕ) : Type 0 where
  pub radios : UpTo max_radio (concat (drop i (rows_read b d)))
  pub same : added (weigh old) t (concat (drop i (rows_read b d))) ≡ added (weigh old) t₀ (concat (rows_read b d))
  pub counted : take i counts ++ map (stale_sum old) (drop i (rows_read b d)) ≡ map (stale_sum old) (rows_read b d)
  pub size : length counts ≡ max_cells

pub Cells_start : (old : Row Fix → Bool) (b : List ℕ) (d : Directory) {t counts : List ℕ} → UpTo max_radio (concat (rows_read b d)) → length counts ≡ max_cells → Cells old b d t t counts 0
Cells_start old b d u l = record { radios = u; same = refl; counted = refl; size = l }

module _ {old : Row Fix → Bool} {b : List ℕ} (d : Directory) {t₀ t counts : List ℕ} {i : ℕ} (a : Cells old b d t₀ t counts i) where
  pub Cells_end : i ≤ d.n → d.n ≤ i → (t ≡ added (weigh old) t₀ (concat (rows_read b d))) × (take d.n counts ≡ map (stale_sum old) (rows_read b d))
  unfolding rows_read slots_in added
  Cells_end h k =
      let e = row_none (λ s. entries_from b s.first) d.slots d.n i k in
      let z : i ≡ d.n = omega arith in
      let m : take i counts ++ map (stale_sum old) [] ≡ map (stale_sum old) (rows_read b d) = ap (λ (l : List (Rows Fix)). take i counts ++ map (stale_sum old) l) (sym e) ∙ a.counted in (
        ap (added (weigh old) t) (sym (ap concat e ∙ concat_none)) ∙ a.same,
        ap (λ (n : ℕ). take n counts) (sym z) ∙ sym (append-nil (take i counts)) ∙ m,
      )

  module _ (slots : length d.slots ≡ max_cells) (few : d.n ≤ max_cells) (more : i < d.n) (x : Slot) (read : x ≡ get_or d.slots i no_slot) where
    abbrev here : Rows Fix
    here = entries_from b x.first

    rows_next : drop i (rows_read b d) ≡ here ∷ drop (i + 1) (rows_read b d)
    unfolding rows_read slots_in
    rows_next =
        row_next (λ s. entries_from b s.first) d.slots d.n i no_slot (let l = slots in omega arith) more
        ∙ ap (λ (s : Slot). entries_from b s.first ∷ drop (i + 1) (rows_read b d)) (sym read)

    all_next : concat (drop i (rows_read b d)) ≡ here ++ concat (drop (i + 1) (rows_read b d))
    all_next = ap concat rows_next ∙ concat-cons here (drop (i + 1) (rows_read b d))

    radios_here : UpTo max_radio here × UpTo max_radio (concat (drop (i + 1) (rows_read b d)))
    radios_here = Each_split (λ x. x.key ≤ max_radio) here (concat (drop (i + 1) (rows_read b d))) (subst (λ (es : Rows Fix). UpTo max_radio es) all_next a.radios)

    pub Cells_radios : UpTo max_radio (entries_from b x.first)
    Cells_radios = radios_here.0

    pub Cells_turn : {u : List ℕ} {s : ℕ} → u ≡ added (weigh old) t (entries_from b x.first) → s ≡ stale_sum old (entries_from b x.first) → Cells old b d t₀ u (set counts i s) (i + 1)
    Cells_turn {u} {s} g h =
        let rest = drop (i + 1) (rows_read b d) in
        let f = stale_sum old in
        let l = a.size in
        let cut : take (i + 1) (set counts i s) ≡ take i counts ++ (s ∷ []) = rw add-one (take-suc-set counts i s (omega arith)) in
        rw g
        (record {
          radios = radios_here.1;
          same = sym (added-append (weigh old) t here (concat rest)) ∙ ap (added (weigh old) t) (sym all_next) ∙ a.same;
          counted =
              ap (λ (z : List ℕ). z ++ map f rest) cut
              ∙ append_assoc (take i counts) (s ∷ []) (map f rest)
              ∙ ap (λ (n : ℕ). take i counts ++ (n ∷ map f rest)) h
              ∙ ap (λ (z : List (Rows Fix)). take i counts ++ map f z) (sym rows_next)
              ∙ a.counted;
          size = length-set counts i s ∙ l;
        })
