-- An accepted record brings each cell with a stale entry a record nearer to its sweep: a flush, a split or a join puts clean cells at the end of the round and
-- takes others out of it, so all the rest keep their place or come forward; the 16th record sweeps the front, and all others come forward by one place.
use mathlib.Core.Bool.{Bool, true, false}
use mathlib.Core.List.{List, [], ◌∷◌, ◌++◌}
use Rattle.std.specs.Prelude.{Option, Some}
use mathlib.Core.Path.{◌≡◌, refl, sym, ap, ◌∙◌, subst}
use Prim.Native.Nat.{ℕ, ◌+◌, ◌*◌, ◌≤◌, ◌<◌}
use native.Mathlib.Omega.{arith}
use lib.Dec.{eqb, ltb}
use lib.ListN.{length, length-append}
use borrow.Author.Tests.{eqb-true, eqb-false, eq-eqb}
use Rattle.terms.specs.Terms.{Place, Fix}
use Rattle.lists.specs.Among.{Among}
use Rattle.lists.specs.Rows.{Rows, find, alter, insert}
use Rattle.lists.specs.Tests.{Each, both}
use Rattle.lists.specs.Words.{Bytes}
use Rattle.lists.proofs.AmongLaws.{Among_head, Among_tail, Each-Among}
use Rattle.lists.proofs.Cases.{by_cases, list_cases, option_cases, false-true}
use Rattle.lists.proofs.TestsLaws.{both_second}
use Rattle.rules.specs.Limits.{max_cells, full_memory, sweep_every}
use Rattle.rules.specs.Grid.{Cuts, Box, corner_of}
use Rattle.rules.specs.Store.{Report, Line, Cell, Store, with_waiting, with_on, settled, free_after, with_highest}
use Rattle.rules.specs.Sweep.{swept, swept_memo, sweep_front, tick}
use Rattle.rules.specs.Cut.{Cut}
use Rattle.rules.specs.Flush.{Flushed, flushed_into, grown, low_cell, high_cell, unused_number, split_at, neighbour, joined, joined_with, reshaped, cell_of_box}
use Rattle.rules.specs.Records.{Request, sign_on, report, sign_off, range, request_of, refusal}
use Rattle.rules.specs.Carry.{is_on, on_count, was_new, signed_on, reported, signed_off, flush_due, after_report, found, carried_out, carry}
use Rattle.rules.specs.Plain.{Plain, plain_done, plain_refusal, plain_step}
use Rattle.rules.specs.WellFormed.{stale_in, WellFormed}
use Rattle.rules.specs.Parts.{Books, Clean, Bounded, Signed, Core, marks, on_set}
use Rattle.rules.specs.Midway.{MidFlush}
use Rattle.rules.specs.Lasting.{is_counted, lasting_records, Nearer, OldComeNearer}
use Rattle.rules.proofs.WellLaws.{later_well}
use Rattle.rules.proofs.RecordLaws.{Accepted, on_passed, report_passed, off_passed, range_passed, accepted}
use Rattle.rules.proofs.BooksLaws.{Clean-swept, stale_sweep}
use Rattle.rules.proofs.TilingLaws.{cell_at_split, some_cell}
use Rattle.rules.proofs.CutLaws.{reshaped_cases, flush_cases}
use Rattle.rules.proofs.NeighbourLaws.{neighbour-Near}
use Rattle.rules.proofs.RoundLaws.{stale_settled, stale_split}
use Rattle.rules.proofs.FlushLaws.{waiting_flushed, ready, others-left, Clean-whole}
use Rattle.rules.proofs.LinkLaws.{Link, refusal_same}
use Rattle.rules.proofs.StepLaws.{report_done, put_few, put_boxes, put_Bounded, on_Core, report_Core, off_Core, after_tally, answered-store}

-- ---- an element's place in a list

module _ {A : Type 0} where
  -- it stands at place n or later
  record Later (l : List A) (x : A) (n : ℕ) : Type 0 where
    at : Among l x
    late : n ≤ length at.before

  pub place_below : {l : List A} {x : A} (a : Among l x) → length a.before < length l
  place_below {x = x} a = omega (arith, ap length a.split, length-append a.before (x ∷ a.after))

  -- in front of the ends, if it is none of these
  Later_ends : (P : A → Type 0) (l ends : List A) {x : A} (before after : List A) → l ++ ends ≡ before ++ (x ∷ after) → Each P ends → (P x → ⊥)
      → Later l x (length before)
  Later_ends P [] ends before after e h n = absurd (n (Each-Among P h (record { before = before; after = after; split = e })))
  Later_ends P (y ∷ l) ends {x} [] after e h n = let z : y ≡ x = cc in rw (← z) (record { at = Among_head y l; late = omega arith })
  Later_ends P (y ∷ l) ends {x} (z ∷ before) after e h n =
      let t : l ++ ends ≡ before ++ (x ∷ after) = cc in
      let k = Later_ends P l ends before after t h n in
      record { at = Among_tail y k.at; late = omega (arith, k.late) }

  -- one more in the list sends none forward
  Later_one : (d : A) (xs ys : List A) {x : A} (before after : List A) → xs ++ ys ≡ before ++ (x ∷ after) → Later (xs ++ (d ∷ ys)) x (length before)
  Later_one d [] ys before after e = record { at = Among_tail d (record { before = before; after = after; split = e }); late = omega arith }
  Later_one d (y ∷ xs) ys {x} [] after e = let z : y ≡ x = cc in rw (← z) (record { at = Among_head y (xs ++ (d ∷ ys)); late = omega arith })
  Later_one d (y ∷ xs) ys {x} (z ∷ before) after e =
      let t : xs ++ ys ≡ before ++ (x ∷ after) = cc in
      let k = Later_one d xs ys before after t in
      record { at = Among_tail y k.at; late = omega (arith, k.late) }

  Later_middle : (d : A) (xs ys : List A) {x : A} {n : ℕ} → Later (xs ++ ys) x n → Later (xs ++ (d ∷ ys)) x n
  Later_middle d xs ys k =
      let j = Later_one d xs ys k.at.before k.at.after k.at.split in
      record { at = j.at; late = omega (arith, k.late, j.late) }

-- 16 × 64 = 1,024: what the tally's sweep takes to come to the last of all cells
pub within_round : {cells : List Cell} {c : Cell} (a : Among cells c) → length cells ≤ max_cells
    → sweep_every * length a.before + sweep_every ≤ lasting_records
within_round a few = omega (arith, place_below a)

-- ---- a flush

-- each cell with a stale entry that is in the round then was in it before, at that place or a later one
abbrev Stay : List Cell → List Cell → Rows Line → Type 0
Stay cells then memo = (c : Cell) (now : Among then c) → (Clean memo c → ⊥) → Later cells c (length now.before)

abbrev StayIn : List Cell → Store → Type 0
StayIn cells t = Stay cells t.cells t.memo

module _ (f : Flushed) (d₀ : Cell) (before after : List Cell) (memo : Rows Line) (n c : ℕ) (r : MidFlush f d₀ before after memo n c) where
  -- d goes out, and clean cells come to the end
  Stay_out : (ends : List Cell) → Each (Clean f.store.memo) ends → Stay f.store.cells (f.rest ++ ends) f.store.memo
  Stay_out ends clean cell now old =
      let split = ap (λ (l : List Cell). l ++ ends) (sym r.rest) ∙ now.split in
      rw r.cells (Later_middle d₀ before after (Later_ends (Clean f.store.memo) (before ++ after) ends now.before now.after split clean old))

  Stay_grown : StayIn f.store.cells (grown f)
  unfolding grown
  Stay_grown = Stay_out (settled f.store.free f.cell ∷ []) (stale_settled f.store.memo f.store.free f.cell ∙ r.clean, tt)

  Stay_split : (cut : Cut) → StayIn f.store.cells (split_at cut f)
  unfolding split_at
  Stay_split cut =
      let low : Cell = low_cell cut f.cell in
      let high : Cell = high_cell cut (unused_number f.store.cells) f.cell in
      let free : List ℕ = free_after f.store.free low in
      let both = stale_split f.store.memo cut (unused_number f.store.cells) f.cell in
      Stay_out (settled f.store.free low ∷ settled free high ∷ []) (
        stale_settled f.store.memo f.store.free low ∙ omega (arith, r.clean),
        (stale_settled f.store.memo free high ∙ omega (arith, r.clean), tt),
      )

  -- the neighbour goes out too, and the joined cell is clean
  Stay_joined : (m : Cell) → neighbour f ≡ Some m → StayIn f.store.cells (joined_with f m)
  unfolding joined_with
  Stay_joined m e cell now old =
      let q = neighbour-Near f m e in
      let a = subst (λ (l : List Cell). Among l m) r.rest q.among in
      let split = ap (λ (l : List Cell). l ++ (joined f m ∷ [])) (sym (others-left f d₀ before after memo n c r m a q)) ∙ now.split in
      let clean = Clean-whole f d₀ before after memo n c r m a q in
      let k = Later_ends (Clean (joined_with f m).memo) (a.before ++ a.after) (joined f m ∷ []) now.before now.after split (clean, tt) old in
      rw r.cells (Later_middle d₀ before after (rw a.split (Later_middle m a.before a.after k)))

  Stay_reshaped : StayIn f.store.cells (reshaped f)
  Stay_reshaped = reshaped_cases (StayIn f.store.cells) f Stay_grown (λ cut _ _ _. Stay_split cut) (λ m _ e. Stay_joined m e)

-- after a sign-on or report at p
module _ (p : Place) (s : Store) (k : Core s) (b : Bounded s.memo s.cells (length s.waiting) (s.tally + 1)) (early : s.tally < sweep_every)
    (few : length s.waiting ≤ full_memory) where
  Stay_flushed : (m : Box) (d : Cell) → cell_of_box s m ≡ Some d → StayIn s.cells (reshaped (flushed_into m s d))
  unfolding cell_of_box flushed_into
  Stay_flushed m d e =
      let at = cell_at_split s.cells (corner_of s.cuts m) d e in
      Stay_reshaped (flushed_into m s d) d at.0.before at.0.after s.memo _ (s.tally + 1)
      (ready m s d k at.0 at.1 (s.tally + 1) b (omega (arith, early)) (omega (arith, waiting_flushed m s d k at.0 at.1, few)))

  Stay_report : StayIn s.cells (after_report p s)
  unfolding after_report
  Stay_report =
      option_cases (flush_due s p)
      (λ e. rw e (λ c now old. record { at = now; late = omega arith }))
      (λ m e. rw e (flush_cases (StayIn s.cells) m s (λ _ c now old. record { at = now; late = omega arith }) (Stay_flushed m)))

-- ---- the tally

-- a cell that is old after the tally was old before it
abbrev Ticked : Store → Store → Type 0
Ticked s t = (c : Cell) (now : Among t.cells c) → (Clean t.memo c → ⊥) → Nearer s t c now × (Clean s.memo c → ⊥)

-- the front is swept and goes to the end: all others come forward by a place, which is worth 16 records
Ticked_front : (s : Store) (d : Cell) (cs : List Cell) → s.cells ≡ d ∷ cs → Core s → s.tally < sweep_every → Ticked s (sweep_front (d ∷ cs) s)
unfolding sweep_front
Ticked_front s d cs e k early cell now old =
    let books = subst (λ (l : List Cell). Books l s.memo (marks s.waiting) (on_set s.on)) e k.books in
    let memo = swept_memo s.memo d.entries in
    let clean : Clean memo (settled s.free (swept s.memo d)) = stale_settled memo s.free (swept s.memo d) ∙ Clean-swept d cs books in
    let j = Later_ends (Clean memo) cs (settled s.free (swept s.memo d) ∷ []) now.before now.after now.split (clean, tt) old in
    let a = Among_tail d j.at in (
      record { was = record { before = a.before; after = a.after; split = e ∙ a.split }; sooner = omega (arith, j.late) },
      λ z. old (Each-Among (λ c. stale_in memo c ≡ stale_in s.memo c) (stale_sweep d cs books) j.at ∙ z),
    )

ticked : (s : Store) → Core s → s.tally < sweep_every → Ticked s (tick s)
unfolding tick
ticked s k early =
    by_cases (ltb (s.tally + 1) sweep_every)
    (λ u. rw u (λ c now old. (record { was = now; sooner = omega arith }, old)))
    (λ u. rw u (list_cases s.cells
    (λ e. absurd (omega (arith, some_cell k.tiling, ap length e)))
    (λ d cs e. subst (λ (l : List Cell). Ticked s (sweep_front l s)) (sym e) (Ticked_front s d cs e k early))))

-- ---- a record

-- s is the store before the tally, t the one that the call found
nearer : (s : Store) {t : Store} → StayIn t.cells s → Core s → t.tally < sweep_every → s.tally ≡ t.tally → OldComeNearer t (tick s)
nearer s stay k early e c now old =
    let j = ticked s k (omega arith) c now old in
    let l = stay c j.0.was j.1 in
    record { was = l.at; sooner = omega (arith, j.0.sooner, l.late) }

-- a report is put among the waiting (g, as in put-few): u is the store then
module _ (s : Store) (w : WellFormed s) (r : ℕ) (h : 1 ≤ r) (g : Option Report → Option Report) (f : Fix) (b : Bool)
    (put : g (find s.waiting r) ≡ Some (record { fix = f; new = b })) (on : Rows (Unit {0})) where
  abbrev put_store : Store
  put_store = with_waiting (alter g r s.waiting) (with_on on s)

  put_nearer : Core put_store → OldComeNearer s (tick (after_report f.place put_store))
  put_nearer k =
      let bounded = put_Bounded s w r h g f b put in
      let few = put_few s w r h g f b put in
      let late : s.tally + 1 ≤ sweep_every = omega (arith, w.tallied) in
      nearer (after_report f.place put_store) (Stay_report f.place put_store k bounded w.tallied few)
      (report_done f.place put_store (s.tally + 1) k bounded late few (put_boxes s w r h g f b put)).mid.core w.tallied (after_tally f.place put_store)

-- the minute has no part in it
nearer_at : (minute : ℕ) (s : Store) {t : Store} → OldComeNearer (with_highest minute s) t → OldComeNearer s t
nearer_at minute s h c now old = let j = h c now old in record { was = j.was; sooner = j.sooner }

-- what an accepted sign-on, report or sign-off leaves
counted_nearer : (q : Request) (s : Store) (buffer : List ℕ) → WellFormed s → Accepted s.highest (is_on s) (on_count s) q → is_counted q ≡ true
    → OldComeNearer s (carried_out q s buffer).store
unfolding carried_out signed_on reported signed_off is_on on_count
counted_nearer q s buffer w (on_passed r f h k i off room late) e =
    let s' = with_highest f.minute s in
    let w' = later_well s w f.minute late in
    nearer_at f.minute s (put_nearer s' w' r h (λ _. Some (record { fix = f; new = true })) f true refl (insert r tt s.on) (on_Core s' w' r f h k i off room (omega arith)))
counted_nearer q s buffer w (report_passed r f h k i on late) e =
    let s' = with_highest f.minute s in
    let w' = later_well s w f.minute late in
    nearer_at f.minute s (put_nearer s' w' r h (λ o. Some (record { fix = f; new = was_new o })) f (was_new (find s.waiting r)) refl s.on (report_Core s' w' r f h k i on (omega arith)))
counted_nearer q s buffer w (off_passed r minute h k on late) e =
    let s' = with_highest minute s in
    let w' = later_well s w minute late in
    nearer_at minute s (nearer (signed_off r s') {t = s'} (λ c now old. record { at = now; late = omega arith }) (off_Core s' w' r h k on) w.tallied refl)
counted_nearer q s buffer w (range_passed rect minute) e = false-true e

-- a call that is not accepted, or a range, leaves the store
uncounted_same : (q : Request) (s : Store) (buffer : List ℕ) → is_counted q ≡ false → (carried_out q s buffer).store ≡ s
unfolding carried_out
uncounted_same (sign_on r f) s buffer e = false-true (sym e)
uncounted_same (report r f) s buffer e = false-true (sym e)
uncounted_same (sign_off r minute) s buffer e = false-true (sym e)
uncounted_same (range rect minute) s buffer e = answered-store (found s rect minute) s buffer

-- ---- any call

pub step_nearer : (s : Store) (bytes buffer : List ℕ) → Bytes bytes → WellFormed s → (carry s bytes buffer).number ≡ 0 → is_counted (request_of bytes) ≡ true
    → OldComeNearer s (carry s bytes buffer).store
unfolding carry
step_nearer s bytes buffer small w =
    let n = refusal s.highest (is_on s) (on_count s) bytes in
    by_cases (eqb n 0)
    (λ t. rw t (λ _ e. counted_nearer (request_of bytes) s buffer w (accepted s.highest (is_on s) (on_count s) bytes small (eqb-true n 0 t)) e))
    (λ t. rw t (λ z _. absurd (eqb-false n 0 t z)))

-- a sign-on, report or sign-off that passes the checks is answered with 0
done_zero : (q : Request) (s : Store) (buffer : List ℕ) → is_counted q ≡ true → (carried_out q s buffer).number ≡ 0
unfolding carried_out
done_zero (sign_on r p) s buffer e = refl
done_zero (report r p) s buffer e = refl
done_zero (sign_off r minute) s buffer e = refl
done_zero (range rect minute) s buffer e = false-true e

module _ (s : Store) (bytes buffer : List ℕ) (not_counted : both (eqb (carry s bytes buffer).number 0) (is_counted (request_of bytes)) ≡ false) where
  answered_zero : refusal s.highest (is_on s) (on_count s) bytes ≡ 0 → is_counted (request_of bytes) ≡ true → (carry s bytes buffer).number ≡ 0
  unfolding carry
  answered_zero z e = rw (eq-eqb (refusal s.highest (is_on s) (on_count s) bytes) 0 z) (done_zero (request_of bytes) s buffer e)

  passed_range : refusal s.highest (is_on s) (on_count s) bytes ≡ 0 → is_counted (request_of bytes) ≡ false
  passed_range z =
      by_cases (is_counted (request_of bytes))
      (λ e. both_second _ _ (eq-eqb (carry s bytes buffer).number 0 (answered_zero z e)) not_counted)
      (λ e. e)

  pub step_same : (carry s bytes buffer).store ≡ s
  unfolding carry
  step_same =
      let n = refusal s.highest (is_on s) (on_count s) bytes in
      by_cases (eqb n 0)
      (λ t. rw t (uncounted_same (request_of bytes) s buffer (passed_range (eqb-true n 0 t))))
      (λ t. rw t)

  -- and the plain rule stays where it was
  pub plain_same : (x : Plain) (cuts : Cuts) → Link s x → Signed s.on → plain_step cuts bytes x ≡ x
  unfolding plain_step
  plain_same x cuts k g =
      by_cases (eqb (plain_refusal x bytes) 0)
      (λ t. rw t (plain_range (request_of bytes) (passed_range (refusal_same s x k g bytes ∙ eqb-true (plain_refusal x bytes) 0 t))))
      (λ t. rw t)
    where
      plain_range : (q : Request) → is_counted q ≡ false → plain_done cuts q x ≡ x
      plain_range (sign_on r p) e = false-true (sym e)
      plain_range (report r p) e = false-true (sym e)
      plain_range (sign_off r minute) e = false-true (sym e)
      plain_range (range rect minute) e = unfold plain_done in refl
