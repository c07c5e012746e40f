-- A walk that passes has followed a chain laid out as it must be, and the walk of such a chain passes.
use mathlib.Core.Bool.{Bool, true, false}
use mathlib.Core.List.{List, [], ◌∷◌, ◌++◌}
use mathlib.Core.Path.{◌≡◌, refl, sym, ap, ap₂, ◌∙◌}
use Prim.Native.Nat.{ℕ, zero, suc, ◌+◌, ◌-◌, ◌/◌, ◌≤◌, ◌<◌, max}
use native.Mathlib.Nat.{le_of_suc-le-suc, not-suc-le-zero}
use native.Mathlib.Omega.{arith}
use lib.Dec.{eqb}
use lib.ListN.{length, set, take, drop, length-append, length-set, length-drop, length-take, take-append-drop}
use lib.Seq.{take_all, drop_at, take_at}
use borrow.Author.Tests.{eqb-true, eqb-false, eq-eqb, ne_eqb, lt-ltb}
use Rattle.terms.specs.Terms.{Fix, max_radio, pages, page_entries, no_page, no_cell}
use Rattle.lists.specs.Chains.{chain_head}
use Rattle.lists.specs.Rows.{Rows, Rising, UpTo}
use Rattle.lists.specs.Sums.{count}
use Rattle.lists.specs.Tests.{one_if, both, either, Each}
use Rattle.lists.specs.Words.{Bytes}
use Rattle.lists.proofs.Cases.{by_cases}
use Rattle.lists.proofs.TestsLaws.{either_left, either_right, Each-append, Each_split}
use Rattle.page.specs.Page.{kind_free, kind_first, kind_further, page_of, free_page_of, next, entries}
use Rattle.page.specs.Buffer.{buffer_bytes, page_at}
use Rattle.page_layout.specs.Layout.{kind_fits}
use Rattle.page.proofs.PageLaws.{page_fields, entries-page_of}
use Rattle.desk.specs.declared.Slot.{Slot}
use Rattle.desk.specs.Layout.{At, leaves, free_leaves}
use Rattle.sound_page.specs.PageTest.{is_page, last_radio, belongs, page_ok}
use Rattle.sound_pages.specs.Walks.{Walk, unmarked, passed, failed, chain_test, free_test}
use Rattle.sound_pages.proofs.MarksLaws.{Marked, Room, Passes, unmarked_bounds, mark_none, mark_cons, Room-unmarked, Room_rest}
use Rattle.sound_pages.proofs.PageLaws.{CellPage, Bytes_page, free_right, free_left, next_free, cell_right, cell_left, Rising_join, Rising_split}

pub failed_not {ℓ} : {P : Type ℓ} (m : List Bool) → (failed m).ok ≡ true → P
failed_not m h = let z : ◌≡◌ {A = ℕ} 0 1 = cc in absurd (omega arith)

-- ---- the free chain: one step

pub Free_spent : (b : List ℕ) (m : List Bool) (p : ℕ) → free_test 0 b m p ≡ record { ok = eqb p no_page; marks = m }
unfolding free_test
Free_spent b m p = refl

module _ (fuel : ℕ) (b : List ℕ) (m : List Bool) (p : ℕ) where
  pub Free_last : eqb p no_page ≡ true → free_test (suc fuel) b m p ≡ passed m
  unfolding free_test
  Free_last t = rw t

  module _ (t : eqb p no_page ≡ false) where
    pub Free_out : unmarked m p ≡ false → free_test (suc fuel) b m p ≡ failed m
    unfolding free_test
    Free_out u = rw (t, u)

    module _ (u : unmarked m p ≡ true) where
      pub Free_bad : is_page kind_free no_cell (page_at b p) ≡ false → free_test (suc fuel) b m p ≡ failed m
      unfolding free_test
      Free_bad v = rw (t, u, v)

      pub Free_more : is_page kind_free no_cell (page_at b p) ≡ true → free_test (suc fuel) b m p ≡ free_test fuel b (set m p true) (next (page_at b p))
      unfolding free_test
      Free_more v = rw (t, u, v)

-- ---- the free chain: what passes

pub record Free (b : List ℕ) (m : List Bool) (p : ℕ) (w : Walk) : Type 0 where
  pub chain : List ℕ
  pub front : p ≡ chain_head no_page chain
  pub laid : Each (At b) (free_leaves chain)
  pub marked : Marked m (λ q. count q chain) w.marks

Free_end : (b : List ℕ) (m : List Bool) (p : ℕ) (w : Walk) → length m ≡ pages → eqb p no_page ≡ true → w.marks ≡ m → Free b m p w
unfolding free_leaves
Free_end b m p w l t e = record { chain = []; front = eqb-true p no_page t; laid = tt; marked = rw e (mark_none m l) }

module _ (b : List ℕ) (small : Bytes b) (whole : length b ≡ buffer_bytes) where
  Free_step : (m : List Bool) (p : ℕ) (w : Walk) → length m ≡ pages → unmarked m p ≡ true → is_page kind_free no_cell (page_at b p) ≡ true
      → Free b (set m p true) (next (page_at b p)) w → Free b m p w
  unfolding free_leaves
  Free_step m p w l u v r =
      let e = free_right (page_at b p) (Bytes_page b p small whole (unmarked_bounds m p u).0) v in
      record {
        chain = p ∷ r.chain;
        front = refl;
        laid = (e ∙ ap free_page_of r.front, r.laid);
        marked = mark_cons m p r.chain l u r.marked;
      }

  pub Free_passed : (fuel : ℕ) (m : List Bool) (p : ℕ) → length m ≡ pages → (free_test fuel b m p).ok ≡ true → Free b m p (free_test fuel b m p)
  Free_passed zero m p l = rw (Free_spent b m p) (λ h. Free_end b m p _ l h refl)
  Free_passed (suc fuel) m p l =
      by_cases (eqb p no_page)
      (λ t. rw (Free_last fuel b m p t) (λ h. Free_end b m p _ l t refl))
      (λ t. by_cases (unmarked m p)
      (λ u. by_cases (is_page kind_free no_cell (page_at b p))
      (λ v. rw (Free_more fuel b m p t u v) (λ h. Free_step m p _ l u v (Free_passed fuel (set m p true) _ (length-set m p true ∙ l) h)))
      (λ v. rw (Free_bad fuel b m p t u v) (λ h. failed_not m h)))
      (λ u. rw (Free_out fuel b m p t u) (λ h. failed_not m h)))

-- a free chain passes
pub Free_Passes : (b : List ℕ) (fuel : ℕ) (m : List Bool) (ps : List ℕ) → length m ≡ pages → length ps ≤ fuel → Room m (λ q. count q ps) → Each (At b) (free_leaves ps)
    → Passes m (λ q. count q ps) (free_test fuel b m (chain_head no_page ps))
unfolding free_leaves
Free_Passes b zero m [] l h r a = rw (Free_spent b m no_page) (record { good = refl; marked = mark_none m l })
Free_Passes b (suc fuel) m [] l h r a = rw (Free_last fuel b m no_page refl) (record { good = refl; marked = mark_none m l })
Free_Passes b zero m (p ∷ ps) l h r a = absurd (not-suc-le-zero h)
Free_Passes b (suc fuel) m (p ∷ ps) l h r a =
    let u = Room-unmarked m p ps r in
    let k = (unmarked_bounds m p u).0 in
    let v : is_page kind_free no_cell (page_at b p) ≡ true = rw a.0 (free_left (chain_head no_page ps)) in
    let x : next (page_at b p) ≡ chain_head no_page ps = rw a.0 (next_free (chain_head no_page ps)) in
    let t = Free_Passes b fuel (set m p true) ps (length-set m p true ∙ l) (le_of_suc-le-suc h) (Room_rest m p ps l r) a.1 in
    rw (Free_more fuel b m p (ne_eqb p no_page (omega arith)) u v, x) (record { good = t.good; marked = mark_cons m p ps l u t.marked })

-- ---- the chain of a cell: one step

pub chain_spent : (highest : ℕ) (b : List ℕ) (s : Slot) (m : List Bool) (k low p : ℕ) → chain_test highest 0 b s m k low p ≡ failed m
unfolding chain_test
chain_spent highest b s m k low p = refl

module _ (highest fuel : ℕ) (b : List ℕ) (s : Slot) (m : List Bool) (k low p : ℕ) where
  pub chain_out : unmarked m p ≡ false → chain_test highest (suc fuel) b s m k low p ≡ failed m
  unfolding chain_test
  chain_out t = rw t

  module _ (t : unmarked m p ≡ true) where
    pub chain_bad : page_ok highest s k low (page_at b p) ≡ false → chain_test highest (suc fuel) b s m k low p ≡ failed m
    unfolding chain_test
    chain_bad u = rw (t, u)

    module _ (u : page_ok highest s k low (page_at b p) ≡ true) where
      pub chain_last : eqb (next (page_at b p)) no_page ≡ true → chain_test highest (suc fuel) b s m k low p ≡ passed (set m p true)
      unfolding chain_test
      chain_last v = rw (t, u, v)

      pub chain_more : eqb (next (page_at b p)) no_page ≡ false
          → chain_test highest (suc fuel) b s m k low p ≡ chain_test highest fuel b s (set m p true) kind_further (last_radio low (entries (page_at b p))) (next (page_at b p))
      unfolding chain_test
      chain_more v = rw (t, u, v)

-- ---- the chain of a cell: what passes

-- pages for e entries; a chain that starts with a further page has none for none
unfoldable pub need : ℕ → ℕ → ℕ
need k e = max (one_if (eqb k kind_first)) ((e + (page_entries - 1)) / page_entries)

pub record Chain (highest : ℕ) (b : List ℕ) (s : Slot) (m : List Bool) (k low p : ℕ) (w : Walk) : Type 0 where
  pub more : List ℕ
  pub rows : Rows Fix
  pub laid : Each (At b) (leaves k s.number (p ∷ more) rows)
  pub paged : suc (length more) ≡ need k (length rows)
  pub rising : Rising low rows
  pub radios : UpTo max_radio rows
  pub belong : Each (λ e. belongs highest s e ≡ true) rows
  pub marked : Marked m (λ q. count q (p ∷ more)) w.marks

need_last : (k n : ℕ) → kind_first ≤ k → k ≤ kind_further → (k ≡ kind_further → 1 ≤ n) → n ≤ page_entries → 1 ≡ need k n
unfolding need
need_last k n a b f h =
    by_cases (eqb k kind_first)
    (λ t. rw t (omega arith))
    (λ t. rw t (omega (arith, f (omega (arith, eqb-false k kind_first t)))))

need_more : (k e : ℕ) → suc (need kind_further e) ≡ need k (page_entries + e)
unfolding need
need_more k e = by_cases (eqb k kind_first) (λ t. rw t (omega arith)) (λ t. rw t (omega arith))

module _ (highest : ℕ) (b : List ℕ) (small : Bytes b) (whole : length b ≡ buffer_bytes) (s : Slot) where
  module _ (m : List Bool) (k low p : ℕ) (size : length m ≡ pages) (kinds : kind_first ≤ k) (t : unmarked m p ≡ true) (c : CellPage highest s k low (page_at b p)) where
    Chain_end : next (page_at b p) ≡ no_page → Chain highest b s m k low p (passed (set m p true))
    unfolding leaves
    Chain_end e =
        let g = c.page in
        record {
          more = [];
          rows = entries (page_at b p);
          laid = (g.bytes ∙ ap₂ (λ (x : ℕ) (es : Rows Fix). page_of k x s.number es) e (sym (take_all page_entries (entries (page_at b p)) g.few)), tt);
          paged = need_last k _ kinds g.known g.further g.few;
          rising = c.rising;
          radios = g.radios;
          belong = c.belong;
          marked = mark_cons m p [] size t (mark_none (set m p true) (length-set m p true ∙ size));
        }

    Chain_step : (w : Walk) → eqb (next (page_at b p)) no_page ≡ false
        → Chain highest b s (set m p true) kind_further (last_radio low (entries (page_at b p))) (next (page_at b p)) w → Chain highest b s m k low p w
    unfolding leaves
    Chain_step w v r =
        let g = c.page in
        let xs = entries (page_at b p) in
        let n : length xs ≡ page_entries = c.full (eqb-false _ _ v) in
        record {
          more = next (page_at b p) ∷ r.more;
          rows = xs ++ r.rows;
          laid = (g.bytes ∙ ap (page_of k (next (page_at b p)) s.number) (sym (take_at xs r.rows page_entries n)), rw (drop_at xs r.rows page_entries n) r.laid);
          paged = ap suc r.paged ∙ need_more k (length r.rows) ∙ rw (length-append, n);
          rising = Rising_join low xs r.rows c.rising r.rising;
          radios = Each-append (λ e. e.key ≤ max_radio) xs r.rows g.radios r.radios;
          belong = Each-append (λ e. belongs highest s e ≡ true) xs r.rows c.belong r.belong;
          marked = mark_cons m p _ size t r.marked;
        }

  pub Chain_passed : (fuel : ℕ) (m : List Bool) (k low p : ℕ) → length m ≡ pages → kind_first ≤ k → (chain_test highest fuel b s m k low p).ok ≡ true → Chain highest b s m k low p (chain_test highest fuel b s m k low p)
  Chain_passed zero m k low p l f = rw (chain_spent highest b s m k low p) (λ h. failed_not m h)
  Chain_passed (suc fuel) m k low p l f =
      by_cases (unmarked m p)
      (λ t. by_cases (page_ok highest s k low (page_at b p))
      (λ u. let c = cell_right highest s k low (page_at b p) (Bytes_page b p small whole (unmarked_bounds m p t).0) u in
      by_cases (eqb (next (page_at b p)) no_page)
      (λ v. rw (chain_last highest fuel b s m k low p t u v) (λ h. Chain_end m k low p l f t c (eqb-true _ _ v)))
      (λ v. rw (chain_more highest fuel b s m k low p t u v)
      (λ h. Chain_step m k low p l f t c _ v (Chain_passed fuel (set m p true) kind_further _ _ (length-set m p true ∙ l) (omega arith) h))))
      (λ u. rw (chain_bad highest fuel b s m k low p t u) (λ h. failed_not m h)))
      (λ t. rw (chain_out highest fuel b s m k low p t) (λ h. failed_not m h))

-- ---- the chain of a cell: a chain passes

chain_fits : (k n : ℕ) → kind_first ≤ k → k ≤ kind_further → (k ≡ kind_further → 1 ≤ n) → kind_fits k n ≡ true
unfolding kind_fits both either
chain_fits k n a b f =
    by_cases (eqb k kind_first)
    (λ t. let e : k ≡ kind_first = eqb-true k kind_first t in rw e)
    (λ t. let e : k ≡ kind_further = omega (arith, eqb-false k kind_first t) in rw (e, lt-ltb 0 n (f e)))

need_one : (k e : ℕ) → kind_first ≤ k → k ≤ kind_further → 1 ≡ need k e → (e ≤ page_entries) × (kind_fits k e ≡ true)
unfolding need
need_one k e a b h = (omega arith, chain_fits k e a b (λ z. omega (arith, ap one_if (ne_eqb k kind_first (omega arith)))))

need_two : (k e n : ℕ) → suc (suc n) ≡ need k e → (page_entries < e) × (suc n ≡ need kind_further (e - page_entries))
unfolding need
need_two k e n h =
    by_cases (eqb k kind_first)
    (λ t. let g = rw t at h in (omega arith, omega arith))
    (λ t. let g = rw t at h in (omega arith, omega arith))

module _ (highest : ℕ) (b : List ℕ) (s : Slot) where
  pass_last : (fuel : ℕ) (m : List Bool) (k low p : ℕ) (es : Rows Fix) → length m ≡ pages → Room m (λ q. count q (p ∷ [])) → length es ≤ page_entries → kind_fits k (length es) ≡ true
      → page_at b p ≡ page_of k no_page s.number es → Rising low es → UpTo max_radio es → Each (λ e. belongs highest s e ≡ true) es
      → Passes m (λ q. count q (p ∷ [])) (chain_test highest (suc fuel) b s m k low p)
  pass_last fuel m k low p es l r few fits a up to i =
      let t = Room-unmarked m p [] r in
      let u : page_ok highest s k low (page_at b p) ≡ true = rw a (cell_left highest s k low no_page es few fits (either_left _ refl) up to i) in
      let x : next (page_at b p) ≡ no_page = rw a (page_fields k no_page s.number es).2 in
      rw (chain_last highest fuel b s m k low p t u (eq-eqb _ _ x)) (record { good = refl; marked = mark_cons m p [] l t (mark_none (set m p true) (length-set m p true ∙ l)) })

  abbrev Left : ℕ → Type 0
  Left fuel =
      (m : List Bool) (k low p : ℕ) (ps : List ℕ) (es : Rows Fix) → length m ≡ pages → length ps < fuel → Room m (λ q. count q (p ∷ ps)) → Each (At b) (leaves k s.number (p ∷ ps) es)
      → kind_first ≤ k → k ≤ kind_further → suc (length ps) ≡ need k (length es) → Rising low es → UpTo max_radio es → Each (λ e. belongs highest s e ≡ true) es
      → Passes m (λ q. count q (p ∷ ps)) (chain_test highest fuel b s m k low p)

  -- a full page, and the rest of the chain
  pass_more : (fuel : ℕ) → Left fuel → (m : List Bool) (k low p q : ℕ) (ps : List ℕ) (xs ys : Rows Fix) → length m ≡ pages → suc (length ps) < suc fuel
      → Room m (λ u. count u (p ∷ q ∷ ps)) → kind_first ≤ k → k ≤ kind_further → length xs ≡ page_entries → page_at b p ≡ page_of k q s.number xs
      → Each (At b) (leaves kind_further s.number (q ∷ ps) ys) → suc (length ps) ≡ need kind_further (length ys)
      → Rising low (xs ++ ys) → UpTo max_radio (xs ++ ys) → Each (λ e. belongs highest s e ≡ true) (xs ++ ys)
      → Passes m (λ u. count u (p ∷ q ∷ ps)) (chain_test highest (suc fuel) b s m k low p)
  pass_more fuel ih m k low p q ps xs ys l h r f g n a rest o up to i =
      let t = Room-unmarked m p (q ∷ ps) r in
      let r' = Room_rest m p (q ∷ ps) l r in
      let y = (unmarked_bounds (set m p true) q (Room-unmarked (set m p true) q ps r')).0 in
      let sp = Rising_split low xs ys up in
      let tp = Each_split (λ e. e.key ≤ max_radio) xs ys to in
      let ip = Each_split (λ e. belongs highest s e ≡ true) xs ys i in
      let few : length xs ≤ page_entries = omega arith in
      let u : page_ok highest s k low (page_at b p) ≡ true =
      rw a (cell_left highest s k low q xs few (chain_fits k (length xs) f g (λ z. omega arith)) (either_right _ (eq-eqb (length xs) page_entries n)) sp.0 tp.0 ip.0) in
      let x : next (page_at b p) ≡ q = rw a (page_fields k q s.number xs).2 in
      let e : entries (page_at b p) ≡ xs = rw a (entries-page_of k q s.number xs few) in
      let z = ih (set m p true) kind_further (last_radio low xs) q ps ys (length-set m p true ∙ l) (omega arith) r' rest (omega arith) (omega arith) o sp.1 tp.1 ip.1 in
      rw (chain_more highest fuel b s m k low p t u (ne_eqb (next (page_at b p)) no_page (omega arith)), e, x) (record { good = z.good; marked = mark_cons m p (q ∷ ps) l t z.marked })

  Left-suc : (fuel : ℕ) → Left fuel → Left (suc fuel)
  unfolding leaves
  Left-suc fuel ih m k low p [] es l h r a f g n up to i =
      let o = need_one k (length es) f g n in
      pass_last fuel m k low p es l r o.0 o.1 (a.0 ∙ ap (page_of k no_page s.number) (take_all page_entries es o.0)) up to i
  Left-suc fuel ih m k low p (q ∷ qs) es l h r a f g n up to i =
      let o = need_two k (length es) (length qs) n in
      let lt : length (take page_entries es) ≡ page_entries = rw length-take (omega arith) in
      let ld : length (drop page_entries es) ≡ length es - page_entries = length-drop page_entries es in
      let c = take-append-drop page_entries es in
      pass_more fuel ih m k low p q qs (take page_entries es) (drop page_entries es) l h r f g lt a.0 a.1 (rw ld o.1) (rw c up) (rw c to) (rw c i)

  pub chain_Passes : (fuel : ℕ) → Left fuel
  chain_Passes zero = λ m k low p ps es l h r a f g n up to i. absurd (not-suc-le-zero h)
  chain_Passes (suc fuel) = Left-suc fuel (chain_Passes fuel)
