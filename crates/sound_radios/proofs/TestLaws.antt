-- The theorem: what is found of every radio is what is due exactly if the tests of the entries pass, for each number holds two counts that do not meet.
use mathlib.Core.Path.{◌≡◌, refl, sym, ap, ◌∙◌, fun_ext}
use mathlib.Core.Bool.{Bool, true, not, cond}
use mathlib.Core.List.{List}
use mathlib.Core.Logic.{◌≢◌}
use Rattle.std.specs.Prelude.{Option, None, Some}
use Prim.Native.Nat.{ℕ, ◌+◌, ◌-◌, ◌*◌, ◌%◌, ◌≤◌, ◌<◌, min}
use native.Mathlib.Omega.{arith}
use lib.Dec.{eqb, ltb}
use lib.ListN.{length, get_or}
use borrow.Author.Tests.{ltb-true, ltb-false, eqb-true, lt-ltb, eq-eqb, ne_eqb}
use Rattle.terms.specs.Terms.{Fix, max_radio}
use Rattle.lists.specs.Rows.{Row, Rows, Rising, UpTo, find, count_found}
use Rattle.lists.specs.Sums.{sum_by}
use Rattle.lists.specs.Tests.{one_if, both, either, all, Each}
use Rattle.lists.proofs.Cases.{by_cases}
use Rattle.lists.proofs.RowsLaws.{sum_at_key, find-Each}
use Rattle.lists.proofs.SumsLaws.{sum_ext, sum-add, sum_times, sum-le, length-sum}
use Rattle.lists.proofs.TestsLaws.{both_left, both_right, both_intro, one_if-le, Each_map, Each-all, Each_zip}
use Rattle.rules.specs.Limits.{max_cells, full_memory}
use Rattle.rules.specs.Store.{Report, Line}
use Rattle.rules.specs.Sweep.{stale}
use Rattle.memo_index.specs.Index.{table_size, Blank}
use Rattle.sound_clauses.specs.Loops.{passing}
use Rattle.sound_clauses.specs.Radios.{live_at, stale_at, new_at, on_at, entries_at, present_test, unmarked_test, line_test, lines_test, missed_at}
use Rattle.sound_clauses.proofs.LoopsLaws.{bool_same, all_to-true, true-all_to, passing_found}
use Rattle.sound_clauses.proofs.RadiosLaws.{stale_live, stale_missed}
use Rattle.sound_balance.specs.Tables.{field_end, half, added, written, mark_new, belongs_by, missed_off, one_off, all_settled}
use Rattle.sound_entries.specs.Entries.{weigh}
use Rattle.sound_radios.specs.Entries.{keyed}
use Rattle.sound_radios.proofs.HeldLaws.{Comes, share, added-Comes, found_or, written_found, length-added, length-written}

-- ---- a table by radio

in_table : {Val : Type 0} (t : List ℕ) (l : Rows Val) → length t ≡ table_size → UpTo max_radio l → Each (λ x. x.key < length t) l
in_table t l e u = Each_map (λ x. x.key ≤ max_radio) (λ x. x.key < length t) l (λ x h. omega (arith, e, h)) u

-- ---- two counts in one number

module _ {Val : Type 0} where
  passing-le : (t : Row Val → Bool) (q : ℕ) (l : Rows Val) → passing t q l ≤ length l
  unfolding passing
  passing-le t q l = omega (arith, sum-le (λ x. one_if (both (eqb q x.key) (t x))) (λ _. 1) l (λ x. one_if-le (both (eqb q x.key) (t x))), length-sum l)

  share_one : (t : Row Val → Bool) (q : ℕ) (l : Rows Val) → sum_by (share (λ x. one_if (t x)) q) l ≡ passing t q l
  unfolding passing both
  share_one t q l = sum_ext (share (λ x. one_if (t x)) q) (λ x. one_if (both (eqb q x.key) (t x))) l (λ x. by_cases (eqb q x.key) (λ e. rw e) (λ e. rw e))

share_weight : (old : Row Fix → Bool) (q : ℕ) (es : Rows Fix) → sum_by (share (weigh old) q) es ≡ passing (λ x. not (old x)) q es + half * passing old q es
unfolding passing both
share_weight old q es =
    let f : Row Fix → ℕ = λ x. one_if (both (eqb q x.key) (not (old x))) in
    let g : Row Fix → ℕ = λ x. one_if (both (eqb q x.key) (old x)) in
    sum_ext (share (weigh old) q) (λ x. f x + half * g x) es
    (λ x. by_cases (eqb q x.key) (λ e. rw e (by_cases (old x) (λ t. rw t) (λ t. rw t))) (λ e. rw e))
    ∙ sum-add f (λ x. half * g x) es ∙ ap (λ (n : ℕ). sum_by f es + n) (sum_times half g es)

-- of a number with 1 taken off, the low half is not 0
low_short : (n m : ℕ) → (n + half * m) % field_end ≡ field_end - 1 → n % half ≢ 0
low_short n m e h = absurd (omega arith)

-- ---- what is found, less what is due

-- of each radio: with its missed count it comes to what is found, less 1 where it is on
abbrev Balance : Rows Line → Rows Fix → Rows Report → Rows (Unit {0}) → List ℕ → Type 0
Balance memo es ws on t = (q : ℕ) → Comes t q (half * min (missed_at q memo) (half - 1)) ((field_end - 1) * on_at q on + (live_at memo q es + new_at q ws + half * stale_at memo q es))

-- a radio on has 1 taken off
on_off : (on : Rows (Unit {0})) → Rising 0 on → UpTo max_radio on → {z : List ℕ} → Blank z → (q : ℕ) → get_or (written one_off z on) q 0 ≡ (field_end - 1) * on_at q on
unfolding on_at
on_off on rise heard {z} blank q = rw (written_found one_off z 0 on q rise (in_table z on blank.size heard), blank.zeros q, passing_found (λ _. true) 0 q on rise) (here (find on q))
  where
    here : (o : Option (Unit {0})) → found_or one_off q 0 o ≡ (field_end - 1) * count_found (λ _ _. 1) q o
    here None = refl
    here (Some x) = refl

-- what goes round to 0 with c takes it off
round_off : (a c s : ℕ) → (s + c) % field_end ≡ 0 → (a + c + s) % field_end ≡ a % field_end
round_off a c s e = omega arith

module _ (memo : Rows Line) (rise : Rising 0 memo) (ends : UpTo max_radio memo) where
  missed_found : (q : ℕ) → missed_at q memo ≡ count_found (λ _ l. l.missed) q (find memo q)
  unfolding missed_at
  missed_found q = sum_at_key (λ l. cond (eqb q l.key) l.val.missed 0) 0 q memo (λ l h. rw (ne_eqb q l.key (λ e. h (sym e)))) rise ∙ here (find memo q)
    where
      here : (o : Option Line) → count_found (λ k l. cond (eqb q k) l.missed 0) q o ≡ count_found (λ _ l. l.missed) q o
      here None = refl
      here (Some l) = rw (eq-eqb q q refl)

  -- a line's missed count is taken off
  off_found : (q : ℕ) (o : Option Line) → (count_found (λ k l. share missed_off q (record { key = k; val = l })) q o + half * min (count_found (λ _ l. l.missed) q o) (half - 1)) % field_end ≡ 0
  off_found q None = refl
  off_found q (Some l) = rw (eq-eqb q q refl) (omega arith)

  off_missed : (q : ℕ) → (sum_by (share missed_off q) memo + half * min (missed_at q memo) (half - 1)) % field_end ≡ 0
  off_missed q =
      rw (sum_at_key (share missed_off q) 0 q memo (λ l h. rw (ne_eqb q l.key (λ e. h (sym e)))) rise, missed_found q) (off_found q (find memo q))

  module _ {z : List ℕ} (blank : Blank z) (on : Rows (Unit {0})) (on_rise : Rising 0 on) (heard : UpTo max_radio on) (once : (q : ℕ) → on_at q on ≤ 1) where
    -- and 1 where it is on
    off_due : (q : ℕ) → Comes (added missed_off (written one_off z on) memo) q (half * min (missed_at q memo) (half - 1)) ((field_end - 1) * on_at q on)
    off_due q =
        let t = written one_off z on in
        let c = half * min (missed_at q memo) (half - 1) in
        let o = on_off on on_rise heard blank q in
        let k = added-Comes missed_off t memo q c ((field_end - 1) * on_at q on + c) (in_table t memo (length-written one_off z on ∙ blank.size) ends) (omega (arith, o, once q), ap (λ (n : ℕ). (n + c) % field_end) o) in
        (k.0, k.1 ∙ round_off ((field_end - 1) * on_at q on) c (sum_by (share missed_off q) memo) (off_missed q))

    -- so the low half tells who is on
    on-half : (q : ℕ) → not (eqb (get_or (added missed_off (written one_off z on) memo) q 0 % half) 0) ≡ ltb 0 (on_at q on)
    on-half q =
        let n = get_or (added missed_off (written one_off z on) memo) q 0 in
        let k = off_due q in
        by_cases (ltb 0 (on_at q on))
        (λ t.
        let o : on_at q on ≡ 1 = let h = ltb-true 0 (on_at q on) t in omega (arith, once q) in
        ap not (ne_eqb (n % half) 0 (low_short n (min (missed_at q memo) (half - 1)) (k.1 ∙ ap (λ (m : ℕ). ((field_end - 1) * m) % field_end) o))) ∙ sym t)
        (λ t. let h = ltb-false 0 (on_at q on) t in ap not (eq-eqb (n % half) 0 (omega (arith, k.0, k.1))) ∙ sym t)

    pub belong_unmarked : (ws : Rows Report) → all (belongs_by (added missed_off (written one_off z on) memo)) ws ≡ unmarked_test ws on
    unfolding unmarked_test
    belong_unmarked ws = ap (λ (p : Row Report → Bool). all p ws) (fun_ext (λ w. ap (either w.val.new) (on-half w.key)))

    module _ (es : Rows Fix) (ws : Rows Report) (radios : UpTo max_radio es) (reports : UpTo max_radio ws) where
      pub Balance_counts : {t : List ℕ} → t ≡ added (weigh (stale memo)) (added mark_new (added missed_off (written one_off z on) memo) ws) es → Balance memo es ws on t
      unfolding live_at new_at stale_at
      Balance_counts {t} e q =
          let t₁ = written one_off z on in
          let t₂ = added missed_off t₁ memo in
          let t₃ = added mark_new t₂ ws in
          let l₂ : length t₂ ≡ table_size = length-added missed_off t₁ memo ∙ length-written one_off z on ∙ blank.size in
          let l₃ : length t₃ ≡ table_size = length-added mark_new t₂ ws ∙ l₂ in
          let c = half * min (missed_at q memo) (half - 1) in
          let k₃ = added-Comes mark_new t₂ ws q c _ (in_table t₂ ws l₂ reports) (off_due q) in
          let k₄ = added-Comes (weigh (stale memo)) t₃ es q c _ (in_table t₃ es l₃ radios) k₃ in
          let n : (field_end - 1) * on_at q on + sum_by (share mark_new q) ws + sum_by (share (weigh (stale memo)) q) es ≡ (field_end - 1) * on_at q on + (live_at memo q es + new_at q ws + half * stale_at memo q es) =
          omega (arith, share_one (λ w. w.val.new) q ws, share_weight (stale memo) q es) in
          rw (e, ← n) k₄

  -- ---- the lines' test, radio by radio

  module _ (es : Rows Fix) (counted : Each (λ l. 0 < l.val.missed) memo) where
    true_lines : ((q : ℕ) → q < table_size → stale_at memo q es ≡ missed_at q memo) → lines_test memo es ≡ true
    unfolding lines_test line_test
    true_lines h =
        Each-all (line_test memo es) (λ l. (0 < l.val.missed) × (stale_at memo l.key es ≡ l.val.missed)) memo
        (λ l c. both_intro (lt-ltb 0 l.val.missed c.0) (eq-eqb (stale_at memo l.key es) l.val.missed c.1))
        (Each_zip (λ l. 0 < l.val.missed) (λ l. stale_at memo l.key es ≡ l.val.missed) _ memo (λ l a b. (a, b)) counted
        (Each_zip (λ l. l.key ≤ max_radio) (λ l. find memo l.key ≡ Some l.val) (λ l. stale_at memo l.key es ≡ l.val.missed) memo
        (λ l a f. h l.key (omega arith) ∙ missed_found l.key ∙ ap (count_found (λ _ k. k.missed) l.key) f) ends
        (find-Each (λ r l. find memo r ≡ Some l) 0 memo rise (λ r l f. f))))

-- ---- the table is settled exactly if both tests pass

-- what is due and what is found are less than 16 bits hold
in_full : (o d f n : ℕ) → o ≤ 1 → d < field_end - 1 → f < field_end → n ≡ 0 → (n + d) % field_end ≡ ((field_end - 1) * o + f) % field_end → o + d ≡ f
in_full o d f n h j k e g = omega arith

module _ (memo : Rows Line) (es : Rows Fix) (ws : Rows Report) (on : Rows (Unit {0})) (once : (q : ℕ) → keyed q es ≤ max_cells) (few : length ws ≤ full_memory) (on_once : (q : ℕ) → on_at q on ≤ 1) (t : List ℕ)
    (balance : Balance memo es ws on t) where
  -- no count reaches what the high half counts
  low_entries : (q : ℕ) → stale_at memo q es + live_at memo q es ≤ max_cells
  unfolding entries_at
  low_entries q = omega (arith, stale_live memo q es, once q)

  low_new : (q : ℕ) → new_at q ws ≤ full_memory
  unfolding new_at
  low_new q = omega (arith, passing-le (λ w. w.val.new) q ws)

  -- of one radio
  apart : (q : ℕ) → get_or t q 0 ≡ 0 → (live_at memo q es + new_at q ws ≡ on_at q on) × (stale_at memo q es ≡ missed_at q memo)
  apart q e =
      let s : on_at q on + half * min (missed_at q memo) (half - 1) ≡ live_at memo q es + new_at q ws + half * stale_at memo q es =
      in_full (on_at q on) (half * min (missed_at q memo) (half - 1)) (live_at memo q es + new_at q ws + half * stale_at memo q es) (get_or t q 0) (on_once q) (omega arith) (omega (arith, low_entries q, low_new q)) e (balance q).1 in
      let a : on_at q on ≡ live_at memo q es + new_at q ws = omega (arith, s, low_entries q, low_new q, on_once q) in
      (sym a, omega (arith, a, s, low_entries q))

  together : (q : ℕ) → live_at memo q es + new_at q ws ≡ on_at q on → stale_at memo q es ≡ missed_at q memo → get_or t q 0 ≡ 0
  together q e f = omega (arith, (balance q).0, (balance q).1, low_entries q)

  module _ (rise : Rising 0 memo) (ends : UpTo max_radio memo) (counted : Each (λ l. 0 < l.val.missed) memo) where
    settled_passes : all_settled t ≡ true → both (present_test memo es ws on) (lines_test memo es) ≡ true
    unfolding all_settled present_test
    settled_passes e =
        let radio : (q : ℕ) → q < table_size → (live_at memo q es + new_at q ws ≡ on_at q on) × (stale_at memo q es ≡ missed_at q memo) = λ q h.
        apart q (eqb-true (get_or t q 0) 0 (all_to-true table_size (λ q. eqb (get_or t q 0) 0) e q h)) in
        both_intro
        (true-all_to table_size (λ q. eqb (live_at memo q es + new_at q ws) (on_at q on)) (λ q h. eq-eqb (live_at memo q es + new_at q ws) (on_at q on) (radio q h).0))
        (true_lines memo rise ends es counted (λ q h. (radio q h).1))

    passes_settled : both (present_test memo es ws on) (lines_test memo es) ≡ true → all_settled t ≡ true
    unfolding all_settled present_test
    passes_settled e =
        let p = both_left (present_test memo es ws on) (lines_test memo es) e in
        let l = both_right (present_test memo es ws on) (lines_test memo es) e in
        true-all_to table_size (λ q. eqb (get_or t q 0) 0)
        (λ q h. eq-eqb (get_or t q 0) 0
        (together q (eqb-true (live_at memo q es + new_at q ws) (on_at q on) (all_to-true table_size (λ q. eqb (live_at memo q es + new_at q ws) (on_at q on)) p q h)) (stale_missed memo es rise l q)))

    pub settled_tests : all_settled t ≡ both (present_test memo es ws on) (lines_test memo es)
    settled_tests = bool_same (all_settled t) (both (present_test memo es ws on) (lines_test memo es)) settled_passes passes_settled
