-- An old entry is off the pages by the end of the 1,024th record: the cell that holds it is the same, entry by entry, in every state in which it is stale, and
-- each record brings it nearer to its sweep. It stands at place 63 of the round at the most, and 16 × 64 = 1,024.
use mathlib.Core.Bool.{Bool, true, false, not, cond}
use mathlib.Core.List.{List, [], ◌∷◌}
use Rattle.std.specs.Prelude.{Option, None, Some}
use mathlib.Core.Path.{◌≡◌, refl, sym, ap, ◌∙◌, subst}
use Prim.Native.Nat.{ℕ, ◌+◌, ◌*◌, ◌≤◌, ◌<◌}
use native.Mathlib.Omega.{arith}
use lib.Dec.{eqb}
use lib.ListN.{length}
use borrow.Author.Tests.{eqb-true, eq-eqb, ne_eqb}
use Rattle.terms.specs.Terms.{Place, Fix}
use Rattle.lists.specs.Among.{Among}
use Rattle.lists.specs.Rows.{Rising, find, count_found}
use Rattle.lists.specs.Sums.{sum_by}
use Rattle.lists.specs.Tests.{one_if, both, either}
use Rattle.lists.specs.Words.{Bytes}
use Rattle.lists.proofs.AmongLaws.{Among_head, Among_tail, Each-Among, sum-Among}
use Rattle.lists.proofs.Cases.{by_cases, option_cases, false-true}
use Rattle.lists.proofs.RowsLaws.{sum_at_key, Each-find}
use Rattle.lists.proofs.SumsLaws.{sum_const}
use Rattle.lists.proofs.TestsLaws.{both_left, both_right}
use Rattle.rules.specs.Limits.{sweep_every}
use Rattle.rules.specs.Grid.{same_place, inside}
use Rattle.rules.specs.Store.{Store, Cell, missed_of, fresh}
use Rattle.rules.specs.Sweep.{is_at, stale_by}
use Rattle.rules.specs.Records.{request_of}
use Rattle.rules.specs.Carry.{carry}
use Rattle.rules.specs.Plain.{Plain, plain_step}
use Rattle.rules.specs.Watches.{Watch}
use Rattle.rules.specs.Calls.{Call, hands, sets, clears, writes, carry_record, carry_call, plain_call}
use Rattle.rules.specs.WellFormed.{count_if, stale_of, WellFormed}
use Rattle.rules.specs.Parts.{Rowed, Clean}
use Rattle.rules.specs.Lasting.{is_counted, lasting_records}
use Rattle.rules.proofs.BooksLaws.{find-Clean}
use Rattle.rules.proofs.LastingLaws.{place_below, within_round, step_nearer, step_same, plain_same}
use Rattle.rules.proofs.LinkLaws.{Link}
use Rattle.rules.proofs.PlaceLaws.{same_place-true}
use Rattle.rules.proofs.WellLaws.{well_Core}
use Rattle.desk.specs.declared.Desk.{Desk}
use Rattle.desk.specs.Call.{After, Answers, handed, laid_out}
use Rattle.desk.proofs.CallLaws.{answers_Sound}
use Rattle.demands.specs.Trace.{InBytes, Trace, begun, called, desk_cuts, watches_set}
use Rattle.demands.specs.Lasting.{is_entry, entries_at, is_record, records_since, Lasting, LastingLess, OneEntry}
use Rattle.demands.proofs.KeptLaws.{pages-sum, stale_flushed}
use Rattle.demands.proofs.Demands.{Beside, watched, sound, begins, outcome, rewatched, wrote, follows}

sum-le-Among : {A : Type 0} (f g : A → ℕ) (l : List A) → ((x : A) → Among l x → f x ≤ g x) → sum_by f l ≤ sum_by g l
unfolding sum_by
sum-le-Among f g [] h = omega arith
sum-le-Among f g (x ∷ xs) h = omega (arith, h x (Among_head x xs), sum-le-Among f g xs (λ y a. h y (Among_tail x a)))

-- ---- how the records are counted

-- once it is stale, the count goes on from where it was, or from 0
since_called : {d : Desk} {b : List ℕ} {x : Plain} (t : Trace d b x) (call : Call) (buffer : List ℕ) (y : After) (small : InBytes call)
    (a : Answers (handed d b call buffer) y) (r : ℕ) (p : Place) → is_at ((plain_call (desk_cuts d) call x).flushed r) p ≡ false
    → records_since r p (called t call buffer y small a) ≤ cond (is_at (x.flushed r) p) 0 (records_since r p t + one_if (is_record call y))
unfolding records_since either
since_called {x = x} t call buffer y small a r p stale =
    let n = records_since r p t + one_if (is_record call y) in
    by_cases (is_at (x.flushed r) p)
    (λ u. rw u (omega arith))
    (λ u. rw u (omega (arith, ap (λ (z : Bool). cond z 0 n) stale)))

-- and there is none while it is not
live_none : {d : Desk} {b : List ℕ} {x : Plain} (t : Trace d b x) (r : ℕ) (p : Place) → is_at (x.flushed r) p ≡ true → records_since r p t ≡ 0
unfolding records_since either
live_none begun r p e = refl
live_none (called {d} {b} {x} t call buffer y small a) r p e =
    let n = records_since r p t + one_if (is_record call y) in
    by_cases (is_at (x.flushed r) p)
    (λ u. rw u (omega arith))
    (λ u. rw u (omega (arith, ap (λ (z : Bool). cond z 0 n) e)))

-- ---- a stale entry is one by the memo

module _ (s : Store) (x : Plain) (w : WellFormed s) (k : Link s x) {c : Cell} (a : Among s.cells c) (r : ℕ) (f : Fix)
    (held : find c.entries r ≡ Some f) (stale : is_at (x.flushed r) f.place ≡ false) where
  -- it is one of those that the missed count counts, so its radio has a memo line; and a line's place is the last place flushed
  counted : 1 ≤ missed_of (find s.memo r)
  unfolding stale_of
  counted = omega (
    arith,
    stale_flushed s x w k r,
    sum-Among (λ c. count_if (λ g. not (is_at (x.flushed r) g.place)) (find c.entries r)) a,
    ap (count_if (λ g. not (is_at (x.flushed r) g.place))) held,
    ap (λ z. one_if (not z)) stale,
  )

  judged : stale_by (find s.memo r) f ≡ true
  judged =
      option_cases (find s.memo r)
      (λ e. absurd (omega (arith, counted, ap missed_of e)))
      (λ l e. rw (e, k.lines r l e, stale) refl)

  not_Clean : Clean s.memo c → ⊥
  not_Clean clean =
      false-true (sym (find-Clean s.memo c (Each-Among Rowed (well_Core s w).books.cells_rowed a) clean r f held) ∙ judged)

-- ---- the cell that holds it

-- a cell's entry of radio r is at p
abbrev HeldAt : Cell → ℕ → Place → Type 0
HeldAt c r p = (f : Fix) × (find c.entries r ≡ Some f) × (f.place ≡ p)

-- it became stale n records ago, and at place k of the round it is swept with the (16 × (k + 1) − c)-th from here: less than 1,024 together
abbrev Soon : Store → Plain → ℕ → Place → ℕ → Type 0
Soon s x r p n = (c : Cell) (a : Among s.cells c) → HeldAt c r p → is_at (x.flushed r) p ≡ false
    → sweep_every * length a.before + sweep_every + n < lasting_records + s.tally

-- a record: what counts as one brings the cell nearer, and anything else leaves store and plain rule as they were
module _ {d : Desk} {b : List ℕ} {x : Plain} {l : List Watch} (k : Beside d b x l) (bytes buffer : List ℕ) {y : After} (e : y ≡ laid_out (carry_record bytes (watched k) buffer))
    (small : Bytes bytes) (r : ℕ) (p : Place) (n : ℕ) (h : Soon k.store x r p n) where
  abbrev then : Beside y.desk y.pages (plain_step (desk_cuts d) bytes x) l
  then = outcome k bytes buffer e small

  abbrev live : Bool
  live = is_at (x.flushed r) p

  record_told : is_record (hands bytes) y ≡ both (eqb (carry k.store bytes buffer).number 0) (is_counted (request_of bytes))
  unfolding is_record laid_out carry_record
  record_told = ap (λ (z : After). both (eqb z.number 0) (is_counted (request_of bytes))) e

  Soon_record : is_record (hands bytes) y ≡ true → Soon then.store (plain_step (desk_cuts d) bytes x) r p (cond live 0 (n + 1))
  unfolding outcome
  Soon_record t c now held stale =
      let told = sym record_told ∙ t in
      let s = k.store in
      let zero = eqb-true (carry s bytes buffer).number 0 (both_left _ _ told) in
      let old = not_Clean then.store (plain_step (desk_cuts d) bytes x) then.well then.link now r held.0 held.1 (rw held.2 stale) in
      let j = step_nearer s bytes buffer small k.well zero (both_right _ _ told) c now old in
      by_cases live
      (λ u. rw u (omega (arith, j.sooner, within_round j.was k.well.few_cells)))
      (λ u. rw u (omega (arith, j.sooner, h c j.was held u)))

  Soon_other : is_record (hands bytes) y ≡ false → Soon then.store (plain_step (desk_cuts d) bytes x) r p (cond live 0 (n + 0))
  unfolding outcome
  Soon_other t =
      let told = sym record_told ∙ t in
      let plain = plain_same k.store bytes buffer told x (desk_cuts d) k.link (well_Core k.store k.well).signed in
      rw (step_same k.store bytes buffer told, plain)
      (λ c now held stale. rw stale (omega (arith, h c now held stale)))

  Soon_called : Soon then.store (plain_step (desk_cuts d) bytes x) r p (cond live 0 (n + one_if (is_record (hands bytes) y)))
  Soon_called =
      by_cases (is_record (hands bytes) y)
      (λ u. rw u (Soon_record u))
      (λ u. rw u (Soon_other u))

-- ---- over the whole list

record Aged {d : Desk} {b : List ℕ} {x : Plain} (t : Trace d b x) : Type 0 where
  beside : Beside d b x (watches_set t)
  soon : (r : ℕ) (p : Place) → Soon beside.store x r p (records_since r p t)

Aged-begun : Aged begun
unfolding begins fresh records_since watches_set
Aged-begun = record { beside = begins; soon = λ r p c a held stale. omega (arith, place_below a) }

module _ {d : Desk} {b : List ℕ} {x : Plain} (t : Trace d b x) (k : Aged t) where
  -- a call that leaves the store and the plain rule as they were
  Soon_same : (call : Call) (buffer : List ℕ) (y : After) (small : InBytes call) (a : Answers (handed d b call buffer) y) (r : ℕ) (p : Place)
      → plain_call (desk_cuts d) call x ≡ x → is_record call y ≡ false → Soon k.beside.store x r p (records_since r p (called t call buffer y small a))
  Soon_same call buffer y small a r p plain other c now held stale = omega (
    arith,
    since_called t call buffer y small a r p (rw plain stale),
    ap (λ (z : Bool). cond z 0 (records_since r p t + one_if (is_record call y))) stale,
    ap one_if other,
    k.soon r p c now held stale,
  )

  Aged-called : (call : Call) (buffer : List ℕ) (y : After) (small : InBytes call) (a : Answers (handed d b call buffer) y) → Aged (called t call buffer y small a)
  unfolding watches_set follows rewatched wrote is_record carry_call
  Aged-called (hands bytes) buffer y small a =
      let e = answers_Sound a (sound k.beside) in
      record {
        beside = outcome k.beside bytes buffer e small;
        soon = λ r p c now held stale. omega (
          arith,
          since_called t (hands bytes) buffer y small a r p stale,
          Soon_called k.beside bytes buffer e small r p (records_since r p t) (k.soon r p) c now held stale,
        );
      }
  Aged-called (sets w rect) buffer y small a = record {
    beside = follows k.beside (sets w rect) buffer (answers_Sound a (sound k.beside)) small;
    soon = λ r p. Soon_same (sets w rect) buffer y small a r p refl refl;
  }
  Aged-called (clears w) buffer y small a = record {
    beside = follows k.beside (clears w) buffer (answers_Sound a (sound k.beside)) small;
    soon = λ r p. Soon_same (clears w) buffer y small a r p refl refl;
  }
  Aged-called writes buffer y small a = record {
    beside = follows k.beside writes buffer (answers_Sound a (sound k.beside)) small;
    soon = λ r p. Soon_same writes buffer y small a r p refl refl;
  }

aged : {d : Desk} {b : List ℕ} {x : Plain} (t : Trace d b x) → Aged t
aged begun = Aged-begun
aged (called t call buffer y small a) = Aged-called t (aged t) call buffer y small a

-- ---- the entries on the pages

module _ (r : ℕ) (p : Place) where
  abbrev entries_in : Cell → ℕ
  entries_in c = sum_by (λ e. one_if (is_entry r p e)) c.entries

  count_entry : (o : Option Fix) → count_found (λ k v. one_if (is_entry r p (record { key = k; val = v }))) r o ≡ count_if (λ f. same_place p f.place) o
  unfolding is_entry both
  count_entry None = refl
  count_entry (Some f) = rw (eq-eqb r r refl)

  entries_in_lem : (c : Cell) → Rising 0 c.entries → entries_in c ≡ count_if (λ f. same_place p f.place) (find c.entries r)
  unfolding is_entry both
  entries_in_lem c a =
      sum_at_key (λ e. one_if (is_entry r p e)) 0 r c.entries (λ e n. rw (ne_eqb r e.key (λ q. n (sym q)))) a ∙ count_entry (find c.entries r)

  -- a cell has one, which is its entry of the radio, or none
  held_or_none {ℓ} : {P : Type ℓ} (c : Cell) → Rising 0 c.entries → (entries_in c ≡ 0 → P) → (entries_in c ≡ 1 → HeldAt c r p → P) → P
  held_or_none c a f g =
      option_cases (find c.entries r)
      (λ e. f (entries_in_lem c a ∙ ap (count_if at_p) e))
      (λ v e. by_cases (at_p v)
      (λ t. g (entries_in_lem c a ∙ ap (count_if at_p) e ∙ ap one_if t) (v, e, sym (same_place-true p v.place t)))
      (λ t. f (entries_in_lem c a ∙ ap (count_if at_p) e ∙ ap one_if t)))
    where
      at_p : Fix → Bool
      at_p f = same_place p f.place

  module _ {d : Desk} {b : List ℕ} {x : Plain} {l : List Watch} (k : Beside d b x l) where
    abbrev cells : List Cell
    cells = k.store.cells

    on_pages : entries_at b r p ≡ sum_by entries_in cells
    unfolding entries_at
    on_pages = pages-sum k.store k.well b k.laid (λ e. one_if (is_entry r p e))

    rows : {c : Cell} → Among cells c → Rowed c
    rows a = Each-Among Rowed (well_Core k.store k.well).books.cells_rowed a

    none_held : ((c : Cell) → Among cells c → HeldAt c r p → ⊥) → entries_at b r p ≡ 0
    none_held h =
        omega (
          arith,
          on_pages,
          sum_const 0 cells,
          sum-le-Among entries_in (λ _. 0) cells (λ c a. held_or_none c (rows a).rising (λ z. omega arith) (λ _ e. absurd (h c a e))),
        )

    -- a place lies in one cell
    one_held : entries_at b r p ≤ 1
    one_held =
        omega (
          arith,
          on_pages,
          (well_Core k.store k.well).books.apart p,
          sum-le-Among entries_in (λ c. one_if (inside c.edges p)) cells (λ c a. held_or_none c (rows a).rising (λ z. omega arith)
              (λ o h. omega (
                arith,
                o,
                ap one_if (subst (λ (q : Place). inside c.edges q ≡ true) h.2
                    (Each-find (λ _ (f : Fix). inside c.edges f.place ≡ true) r h.0 c.entries (rows a).placed h.1)),
              ))),
        )

-- ---- the theorems

pub lasting_less : LastingLess
lasting_less d b x t r p late =
    let k = aged t in
    by_cases (is_at (x.flushed r) p)
    (λ u. absurd (omega (arith, late, live_none t r p u)))
    (λ u. none_held r p k.beside (λ c a e. omega (arith, late, k.soon r p c a e u, k.beside.well.tallied)))

pub lasting : Lasting
lasting d b x t r p late = lasting_less d b x t r p (omega (arith, late))

pub one_entry : OneEntry
one_entry d b x t r p = one_held r p (aged t).beside
