-- A run of entries, page after page: what one run reaches is where the next begins, so that one run after another is one run of both.
use mathlib.Core.Path.{◌≡◌, refl, sym, ap, ◌∙◌, subst}
use mathlib.Core.Bool.{Bool, true, false, not}
use mathlib.Core.List.{List, [], ◌∷◌, ◌++◌, append_assoc, append-nil, map, map-append}
use Prim.Native.Nat.{ℕ, zero, suc, ◌+◌, ◌-◌, ◌≤◌, ◌<◌}
use native.Mathlib.Omega.{arith}
use native.Mathlib.Numerals.{add-one}
use lib.ListN.{length, length-append, get_or, set, take, drop, take-append-drop}
use lib.Seq.{take-suc, take_all}
use Rattle.terms.specs.Terms.{Fix, max_on}
use Rattle.lists.specs.Parts.{tab}
use Rattle.lists.specs.Rows.{Row, Rows, Rising, rank}
use Rattle.lists.specs.Sums.{filter, concat}
use Rattle.lists.specs.Tests.{Each}
use Rattle.lists.proofs.PartsLaws.{tab_suc}
use Rattle.lists.proofs.RowsLaws.{Rising_less, Rising_above}
use Rattle.lists.proofs.SumsLaws.{filter-append}
use Rattle.lists.proofs.TestsLaws.{Each_map, Each_split, Each_every}
use Rattle.entries.specs.declared.Entry.{Entry}
use Rattle.entries.specs.Entries.{row_of}
use Rattle.page.specs.Page.{count, entry_at, entries}
use Rattle.page.specs.Buffer.{page_at, entries_on}
use Rattle.rules.specs.Store.{Line}
use Rattle.rules.specs.Sweep.{stale, swept_entries}
use Rattle.sweep.specs.Sweep.{State, state_of, begun, judged, walked, Ready}
use Rattle.sweep.proofs.LinesLaws.{rank_rises}

-- ---- lists

module _ {A : Type 0} where
  concat-append : (a b : List (List A)) → concat (a ++ b) ≡ concat a ++ concat b
  unfolding concat
  concat-append [] b = refl
  concat-append (x ∷ a) b = ap (λ (l : List A). x ++ l) (concat-append a b) ∙ sym (append_assoc x (concat a) (concat b))

  tab_front : (n k : ℕ) (f : ℕ → A) → tab (n + k) f ≡ tab n f ++ tab k (λ i. f (n + i))
  unfolding tab
  tab_front n zero f = let e : n + 0 ≡ n = omega arith in ap (λ (j : ℕ). tab j f) e ∙ sym (append-nil (tab n f))
  tab_front n (suc k) f =
      let g : ℕ → A = λ i. f (n + i) in
      let e : n + suc k ≡ n + k + 1 = omega arith in
      let u : suc k ≡ k + 1 = omega arith in
      ap (λ (j : ℕ). tab j f) e ∙ tab_suc (n + k) f ∙ ap (λ (l : List A). l ++ (f (n + k) ∷ [])) (tab_front n k f) ∙ append_assoc (tab n f) (tab k g) (f (n + k) ∷ [])
      ∙ ap (λ (l : List A). tab n f ++ l) (sym (tab_suc k g)) ∙ ap (λ (j : ℕ). tab n f ++ tab j g) (sym u)

module _ {Val : Type 0} where
  Rising_front : (b : ℕ) (es later : Rows Val) → Rising b (es ++ later) → Rising b es
  Rising_front b [] later a = tt
  Rising_front b (e ∷ es) later a = (a.0, Rising_front e.key es later a.1)

  Rising_rest : (b : ℕ) (es later : Rows Val) → Rising b (es ++ later) → Rising 0 later
  Rising_rest b [] later a = Rising_less 0 b later (omega arith) a
  Rising_rest b (e ∷ es) later a = Rising_rest e.key es later a.1

-- ---- one run of entries after another

module _ (l : Rows Line) where
  swept_append : (a b : Rows Fix) → swept_entries l (a ++ b) ≡ swept_entries l a ++ swept_entries l b
  unfolding swept_entries
  swept_append a b = filter-append (λ e. not (stale l e)) a b

  walked-append : (s : State) (a b : Rows Fix) → walked l s (a ++ b) ≡ walked l (walked l s a) b
  unfolding walked
  walked-append s [] b = refl
  walked-append s (e ∷ a) b = walked-append (judged l s e) a b

  walked_one : (s : State) (e : Row Fix) → walked l s (e ∷ []) ≡ judged l s e
  unfolding walked
  walked_one s e = refl

  walked_none : (s : State) → s ≡ walked l s []
  unfolding walked
  walked_none s = refl

  walked-stay : (s : State) (es : Rows Fix) → (walked l s es).stay ≡ s.stay ++ swept_entries l es
  unfolding walked
  walked-stay s [] = unfold swept_entries filter in sym (append-nil s.stay)
  walked-stay s (e ∷ es) =
      walked-stay (judged l s e) es
      ∙ append_assoc s.stay (swept_entries l (e ∷ [])) (swept_entries l es)
      ∙ ap (λ (x : Rows Fix). s.stay ++ x) (sym (swept_append (e ∷ []) es))

  -- no entry that follows needs a line that was passed
  walked_ahead : (b : ℕ) (s : State) (es later : Rows Fix) → Rising b (es ++ later) → Each (λ e. s.passed ≤ rank e.key l) later → Each (λ e. (walked l s es).passed ≤ rank e.key l) later
  unfolding walked
  walked_ahead b s [] later a h = h
  walked_ahead b s (e ∷ es) later a h =
      walked_ahead e.key (judged l s e) es later a.1
      (Each_map _ _ later (λ x k. rank_rises e.key x.key l (omega arith)) (Each_split _ es later (Rising_above e.key (es ++ later) a.1)).1)

module _ {l : Rows Line} {s : State} (es later : Rows Fix) (ready : Ready l s (es ++ later)) where
  parts : length (swept_entries l (es ++ later)) ≡ length (swept_entries l es) + length (swept_entries l later)
  parts = ap length (swept_append l es later) ∙ length-append (swept_entries l es) (swept_entries l later)

  Ready_front : Ready l s es
  Ready_front = record {
    rising = Rising_front 0 es later ready.rising;
    ahead = (Each_split _ es later ready.ahead).0;
    room = omega (arith, ready.room, parts);
  }

  Ready_then : Ready l (walked l s es) later
  Ready_then = record {
    rising = Rising_rest 0 es later ready.rising;
    ahead = walked_ahead l 0 s es later ready.rising (Each_split _ es later ready.ahead).1;
    room = omega (arith, ready.room, parts, ap length (walked-stay l s es), length-append s.stay (swept_entries l es));
  }

-- ---- one entry

module _ (l : Rows Line) (x : Row Fix) where
  one_goes : stale l x ≡ true → swept_entries l (x ∷ []) ≡ []
  unfolding swept_entries filter
  one_goes t = rw t

  one_stays : stale l x ≡ false → swept_entries l (x ∷ []) ≡ x ∷ []
  unfolding swept_entries filter
  one_stays t = rw t

-- ---- the entries of a page

pub page_start : (l : Rows Line) (s : State) (v : List ℕ) → s ≡ walked l s (tab 0 (entry_at v))
unfolding tab
page_start l s v = walked_none l s

module _ {l : Rows Line} {s t : State} (b v : List ℕ) (p : ℕ) {n i : ℕ} (ready : Ready l s (entries (page_at b p))) (here : v ≡ page_at b p) (many : n ≡ count v)
    (done : t ≡ walked l s (tab i (entry_at v))) where
  pub page_end : i ≤ n → n ≤ i → t ≡ walked l s (entries (page_at b p))
  unfolding entries
  page_end h k =
      let z : i ≡ count v = omega arith in
      done ∙ ap (λ (j : ℕ). walked l s (tab j (entry_at v))) z ∙ ap (λ (w : List ℕ). walked l s (entries w)) here

  module _ (more : i < n) {e : Entry} (read : row_of e ≡ entry_at v i) where
    front : Ready l s (tab i (entry_at v) ++ (row_of e ∷ []))
    unfolding entries
    front =
        let f : ℕ → Row Fix = entry_at v in
        let k : ℕ = n - (i + 1) in
        let z : count v ≡ i + 1 + k = omega arith in
        let whole : Ready l s (tab (i + 1 + k) f) = subst (λ (j : ℕ). Ready l s (tab j f)) z (subst (λ (w : List ℕ). Ready l s (entries w)) (sym here) ready) in
        let part : Ready l s (tab (i + 1) f) = Ready_front (tab (i + 1) f) (tab k (λ j. f (i + 1 + j))) (subst (λ (x : Rows Fix). Ready l s x) (tab_front (i + 1) k f) whole) in
        subst (λ (x : Row Fix). Ready l s (tab i f ++ (x ∷ []))) (sym read) (subst (λ (x : Rows Fix). Ready l s x) (tab_suc i f) part)

    next : Ready l t (row_of e ∷ [])
    next = subst (λ (x : State). Ready l x (row_of e ∷ [])) (sym done) (Ready_then (tab i (entry_at v)) (row_of e ∷ []) front)

    pub page_ahead : t.passed ≤ rank e.radio l
    page_ahead = next.ahead.0

    page_then : judged l t (row_of e) ≡ walked l s (tab (i + 1) (entry_at v))
    page_then =
        ap (λ (x : State). judged l x (row_of e)) done ∙ sym (walked_one l (walked l s (tab i (entry_at v))) (row_of e)) ∙ sym (walked-append l s (tab i (entry_at v)) (row_of e ∷ []))
        ∙ ap (walked l s) (ap (λ (x : Row Fix). tab i (entry_at v) ++ (x ∷ [])) read ∙ sym (tab_suc i (entry_at v)))

module _ {l : Rows Line} {s : State} {at : ℕ} {stay : Rows Fix} {marks : List Bool} (b v : List ℕ) (p : ℕ) {n i : ℕ} (ready : Ready l s (entries (page_at b p)))
    (here : v ≡ page_at b p) (many : n ≡ count v) (done : state_of at stay marks ≡ walked l s (tab i (entry_at v))) (more : i < n)
    {e : Entry} {g : Bool} (read : row_of e ≡ entry_at v i) (judge : g ≡ stale l (row_of e)) where
  then_ready : Ready l (state_of at stay marks) (row_of e ∷ [])
  then_ready = next b v p ready here many done more read

  -- an entry that stays is put behind the others
  module _ (stays : g ≡ false) where
    it_stays : swept_entries l (row_of e ∷ []) ≡ row_of e ∷ []
    it_stays = one_stays l (row_of e) (sym judge ∙ stays)

    pub stay_room : length stay < max_on
    stay_room = omega (arith, then_ready.room, ap length it_stays)

    pub page_stays : {next : ℕ} {after : Rows Fix} → next ≡ rank e.radio l → after ≡ stay ++ (row_of e ∷ []) → state_of next after (set marks next g) ≡ walked l s (tab (i + 1) (entry_at v))
    page_stays q put = rw (q, put, judge, ← it_stays) (page_then b v p ready here many done more read)

  pub page_goes : {next : ℕ} → next ≡ rank e.radio l → g ≡ true → state_of next stay (set marks next g) ≡ walked l s (tab (i + 1) (entry_at v))
  page_goes q goes =
      let none : stay ++ swept_entries l (row_of e ∷ []) ≡ stay = ap (λ (x : Rows Fix). stay ++ x) (one_goes l (row_of e) (sym judge ∙ goes)) ∙ append-nil stay in
      rw (q, judge, ← none) (page_then b v p ready here many done more read)

-- ---- the pages of a chain

entries_on-append : (b xs ys : List ℕ) → entries_on b (xs ++ ys) ≡ entries_on b xs ++ entries_on b ys
unfolding entries_on
entries_on-append b xs ys = ap concat (map-append (λ p. entries (page_at b p)) xs ys) ∙ concat-append (map (λ p. entries (page_at b p)) xs) (map (λ p. entries (page_at b p)) ys)

entries_on_one : (b : List ℕ) (p : ℕ) → entries_on b (p ∷ []) ≡ entries (page_at b p)
unfolding entries_on concat
entries_on_one b p = append-nil (entries (page_at b p))

pub chain_begins : (l : Rows Line) (marks : List Bool) (es : Rows Fix) → Rising 0 es → length (swept_entries l es) ≤ max_on → Ready l (begun marks) es
chain_begins l marks es a r = record { rising = a; ahead = Each_every _ es (λ e. omega arith); room = omega (arith, r) }

pub chain_start : (l : Rows Line) (s : State) (b ps : List ℕ) → s ≡ walked l s (entries_on b (take 0 ps))
unfolding entries_on concat
chain_start l s b ps = walked_none l s

module _ (b ps : List ℕ) {i : ℕ} (more : i < length ps) where
  abbrev here : ℕ
  here = get_or ps i 0

  one_more : entries_on b (take (i + 1) ps) ≡ entries_on b (take i ps) ++ entries (page_at b here)
  one_more =
      ap (entries_on b) (rw add-one (take-suc ps i 0 more))
      ∙ entries_on-append b (take i ps) (here ∷ [])
      ∙ ap (λ (l : Rows Fix). entries_on b (take i ps) ++ l) (entries_on_one b here)

  rest : entries_on b ps ≡ entries_on b (take (i + 1) ps) ++ entries_on b (drop (i + 1) ps)
  rest = ap (entries_on b) (sym (take-append-drop (i + 1) ps)) ∙ entries_on-append b (take (i + 1) ps) (drop (i + 1) ps)

  module _ {l : Rows Line} {s t : State} (ready : Ready l s (entries_on b ps)) (done : t ≡ walked l s (entries_on b (take i ps))) where
    next_page : Ready l s (entries_on b (take i ps) ++ entries (page_at b here))
    next_page =
        subst (λ (x : Rows Fix). Ready l s x) one_more
        (Ready_front (entries_on b (take (i + 1) ps)) (entries_on b (drop (i + 1) ps)) (subst (λ (x : Rows Fix). Ready l s x) rest ready))

    pub chain_Ready : Ready l t (entries (page_at b here))
    chain_Ready = subst (λ (x : State). Ready l x (entries (page_at b here))) (sym done) (Ready_then (entries_on b (take i ps)) (entries (page_at b here)) next_page)

    pub chain_turn : {u : State} → u ≡ walked l t (entries (page_at b here)) → u ≡ walked l s (entries_on b (take (i + 1) ps))
    chain_turn g =
        g ∙ ap (λ (x : State). walked l x (entries (page_at b here))) done ∙ sym (walked-append l s (entries_on b (take i ps)) (entries (page_at b here)))
        ∙ ap (walked l s) (sym one_more)

-- the whole chain, from nothing
module _ (l : Rows Line) (b ps : List ℕ) (marks₀ : List Bool) {i : ℕ} {t : State} (done : t ≡ walked l (begun marks₀) (entries_on b (take i ps))) where
  pub chain_end : length ps ≤ i → (t.stay ≡ swept_entries l (entries_on b ps)) × (t.marks ≡ (walked l (begun marks₀) (entries_on b ps)).marks)
  chain_end high =
      let all_done : t ≡ walked l (begun marks₀) (entries_on b ps) = done ∙ ap (λ (qs : List ℕ). walked l (begun marks₀) (entries_on b qs)) (take_all i ps high) in
      (ap (λ (x : State). x.stay) all_done ∙ walked-stay l (begun marks₀) (entries_on b ps), ap (λ (x : State). x.marks) all_done)
