-- The array of the waiting reports: what is read of it, what a report written in it makes of the others, and the array from its reports.
use mathlib.Core.List.{List, ◌++◌, map}
use mathlib.Core.Logic.{◌≢◌}
use mathlib.Core.Path.{◌≡◌, refl, sym, ap, ◌∙◌}
use Prim.Native.Nat.{ℕ, ◌+◌, ◌-◌, ◌*◌, ◌/◌, ◌<◌}
use native.Mathlib.Omega.{arith}
use lib.ListN.{length, get_or, set, length-set, length-map, length-append, get_or-append, get_or-map}
use lib.Dec.{ltb, eqb}
use lib.Seq.{get_or-set_same, get_or-set_other, get_or-append-add, ext_get_or}
use borrow.Author.Tests.{ltb-true, ltb-false, eqb-true, eqb-false}
use Rattle.lists.specs.Parts.{tab}
use Rattle.lists.proofs.Cases.{by_cases}
use Rattle.lists.proofs.PartsLaws.{length-tab, get_or-tab, tab_of}
use Rattle.lists.specs.Rows.{Rows}
use Rattle.rules.specs.Limits.{full_memory}
use Rattle.rules.specs.Store.{Report as StoreReport}
use Rattle.desk.specs.declared.Report.{Report}
use Rattle.desk.specs.Held.{waiting_with}
use Rattle.desk.specs.Layout.{slotted, report_fields, report_words, no_report, report_of, waiting_of}
use Rattle.desk.specs.Views.{report_in, every_report}

-- ---- a column, and what stands behind it

module _ (f : Report → ℕ) (l : List Report) where
  column : (rest : List ℕ) (i : ℕ) → i < length l → get_or (map f l ++ rest) i (f no_report) ≡ f (get_or l i no_report)
  column rest i h = get_or-append (map f l) rest (f no_report) i (rw length-map h) ∙ get_or-map f l i no_report

  behind : (rest : List ℕ) (k : ℕ) → get_or (map f l ++ rest) (length l + k) 0 ≡ get_or rest k 0
  behind rest k = ap (λ (n : ℕ). get_or (map f l ++ rest) (n + k) 0) (sym (length-map l f)) ∙ get_or-append-add (map f l) rest k 0

pub length-report_words : (l : List Report) → length (report_words l) ≡ report_fields * length l
unfolding report_words
length-report_words l = simp (length-append, length-map) (omega arith)

module _ (l : List Report) (i : ℕ) (h : i < length l) where
  radio_there : get_or (report_words l) i 0 ≡ (get_or l i no_report).radio
  unfolding report_words
  radio_there = column (λ w. w.radio) l _ i h

  east_there : get_or (report_words l) (length l + i) 0 ≡ (get_or l i no_report).east
  unfolding report_words
  east_there = behind (λ w. w.radio) l _ i ∙ column (λ w. w.east) l _ i h

  north_there : get_or (report_words l) (2 * length l + i) 0 ≡ (get_or l i no_report).north
  unfolding report_words
  north_there =
      let e : 2 * length l + i ≡ length l + (length l + i) = omega arith in
      rw e (behind (λ w. w.radio) l _ (length l + i) ∙ behind (λ w. w.east) l _ i ∙ column (λ w. w.north) l _ i h)

  new_there : get_or (report_words l) (3 * length l + i) 0 ≡ (get_or l i no_report).new
  unfolding report_words
  new_there =
      let e : 3 * length l + i ≡ length l + (length l + (length l + i)) = omega arith in
      rw e
      (behind (λ w. w.radio) l _ (length l + (length l + i))
      ∙ behind (λ w. w.east) l _ (length l + i)
      ∙ behind (λ w. w.north) l _ i
      ∙ column (λ w. w.new) l _ i h)

  low_there : get_or (report_words l) (4 * length l + i) 0 ≡ (get_or l i no_report).low
  unfolding report_words
  low_there =
      let e : 4 * length l + i ≡ length l + (length l + (length l + (length l + i))) = omega arith in
      rw e
      (behind (λ w. w.radio) l _ (length l + (length l + (length l + i)))
      ∙ behind (λ w. w.east) l _ (length l + (length l + i))
      ∙ behind (λ w. w.north) l _ (length l + i)
      ∙ behind (λ w. w.new) l _ i
      ∙ column (λ w. w.low) l _ i h)

  high_there : get_or (report_words l) (5 * length l + i) 0 ≡ (get_or l i no_report).high
  unfolding report_words
  high_there =
      let e : 5 * length l + i ≡ length l + (length l + (length l + (length l + (length l + i)))) = omega arith in
      rw e
      (behind (λ w. w.radio) l _ (length l + (length l + (length l + (length l + i))))
      ∙ behind (λ w. w.east) l _ (length l + (length l + (length l + i)))
      ∙ behind (λ w. w.north) l _ (length l + (length l + i))
      ∙ behind (λ w. w.new) l _ (length l + i)
      ∙ behind (λ w. w.low) l _ i
      ∙ get_or-map (λ w. w.high) l i no_report)

  report_there : report_in (length l) (report_words l) i ≡ get_or l i no_report
  report_there = λ t. record { radio = radio_there t; east = east_there t; north = north_there t; new = new_there t; low = low_there t; high = high_there t }

pub reports_of_words : (l : List Report) → every_report (report_words l) ≡ l
unfolding every_report
reports_of_words l =
    let n : length (report_words l) / report_fields ≡ length l = omega (arith, length-report_words l) in
    ap (λ (k : ℕ). tab k (report_in k (report_words l))) n
    ∙ sym (tab_of l (length l) no_report (report_in (length l) (report_words l)) refl (λ i h. sym (report_there l i h)))

-- ---- the array from its reports

module _ (ws : List ℕ) (k : ℕ) (l : length ws ≡ report_fields * k) where
  every_tab : every_report ws ≡ tab k (report_in k ws)
  unfolding every_report
  every_tab = let n : length ws / report_fields ≡ k = omega arith in ap (λ (m : ℕ). tab m (report_in m ws)) n

  pub length_every : length (every_report ws) ≡ k
  length_every = ap length every_tab ∙ length-tab k (report_in k ws)

  read_every : (i : ℕ) → i < k → get_or (every_report ws) i no_report ≡ report_in k ws i
  read_every i h = ap (λ (r : List Report). get_or r i no_report) every_tab ∙ get_or-tab k (report_in k ws) i no_report h

  -- a word in a column, read through the reports and as it stands
  same_in : (c : ℕ) (f : Report → ℕ) (p i : ℕ) → i < k → p ≡ c * k + i
      → (i < length (every_report ws) → get_or (report_words (every_report ws)) (c * length (every_report ws) + i) 0 ≡ f (get_or (every_report ws) i no_report))
      → f (report_in k ws i) ≡ get_or ws (c * k + i) 0
      → get_or (report_words (every_report ws)) p 0 ≡ get_or ws p 0
  same_in c f p i h e there here =
      let n = length_every in
      let q : p ≡ c * length (every_report ws) + i = rw n e in
      ap (λ (m : ℕ). get_or (report_words (every_report ws)) m 0) q ∙ there (rw n h) ∙ ap f (read_every i h) ∙ here ∙ ap (λ (m : ℕ). get_or ws m 0) (sym e)

  same_word : (p : ℕ) → p < report_fields * k → get_or (report_words (every_report ws)) p 0 ≡ get_or ws p 0
  same_word p h =
      by_cases (ltb p k)
      (λ t. let g = ltb-true p k t in radio_there (every_report ws) p (rw length_every g) ∙ ap (λ w. w.radio) (read_every p g))
      (λ t. let g = ltb-false p k t in by_cases (ltb p (2 * k))
      (λ u. let b = ltb-true p (2 * k) u in
      let o : (m i : ℕ) → 1 * m + i ≡ m + i = λ m i. omega arith in
      same_in 1 (λ w. w.east) p (p - k) (omega arith) (omega arith)
      (λ d. ap (λ (m : ℕ). get_or (report_words (every_report ws)) m 0) (o (length (every_report ws)) (p - k)) ∙ east_there (every_report ws) (p - k) d)
      (ap (λ (m : ℕ). get_or ws m 0) (sym (o k (p - k)))))
      (λ u. let b = ltb-false p (2 * k) u in by_cases (ltb p (3 * k))
      (λ v. let c = ltb-true p (3 * k) v in same_in 2 (λ w. w.north) p (p - 2 * k) (omega arith) (omega arith) (north_there (every_report ws) (p - 2 * k)) refl)
      (λ v. let c = ltb-false p (3 * k) v in by_cases (ltb p (4 * k))
      (λ x. let d = ltb-true p (4 * k) x in same_in 3 (λ w. w.new) p (p - 3 * k) (omega arith) (omega arith) (new_there (every_report ws) (p - 3 * k)) refl)
      (λ x. let d = ltb-false p (4 * k) x in by_cases (ltb p (5 * k))
      (λ y. let f = ltb-true p (5 * k) y in same_in 4 (λ w. w.low) p (p - 4 * k) (omega arith) (omega arith) (low_there (every_report ws) (p - 4 * k)) refl)
      (λ y. let f = ltb-false p (5 * k) y in same_in 5 (λ w. w.high) p (p - 5 * k) (omega arith) (omega arith) (high_there (every_report ws) (p - 5 * k)) refl)))))

  pub words_of_reports : report_words (every_report ws) ≡ ws
  words_of_reports =
      let n : length (report_words (every_report ws)) ≡ length ws = omega (arith, length-report_words (every_report ws), length_every) in
      ext_get_or 0 (report_words (every_report ws)) ws n (λ p h. same_word p (omega arith))

-- ---- what reads and writes a report

pub report_read : (ws : List ℕ) (i : ℕ) → i < full_memory → length ws ≡ report_fields * full_memory → report_in full_memory ws i ≡ get_or (every_report ws) i no_report
report_read ws i h l = sym (read_every ws full_memory l i h)

-- the fields of a report written at its place, one after the other
abbrev with₁ : List ℕ → ℕ → Report → List ℕ
with₁ ws i x = set ws i x.radio

abbrev with₂ : List ℕ → ℕ → Report → List ℕ
with₂ ws i x = set (with₁ ws i x) (full_memory + i) x.east

abbrev with₃ : List ℕ → ℕ → Report → List ℕ
with₃ ws i x = set (with₂ ws i x) (2 * full_memory + i) x.north

abbrev with₄ : List ℕ → ℕ → Report → List ℕ
with₄ ws i x = set (with₃ ws i x) (3 * full_memory + i) x.new

abbrev with₅ : List ℕ → ℕ → Report → List ℕ
with₅ ws i x = set (with₄ ws i x) (4 * full_memory + i) x.low

abbrev with_report : List ℕ → ℕ → Report → List ℕ
with_report ws i x = set (with₅ ws i x) (5 * full_memory + i) x.high

-- any other place keeps its number
other_word : (ws : List ℕ) (i : ℕ) (x : Report) (p : ℕ) → p ≢ i → p ≢ full_memory + i → p ≢ 2 * full_memory + i → p ≢ 3 * full_memory + i → p ≢ 4 * full_memory + i → p ≢ 5 * full_memory + i
    → get_or (with_report ws i x) p 0 ≡ get_or ws p 0
other_word ws i x p a b c d e f =
    get_or-set_other (with₅ ws i x) (5 * full_memory + i) p x.high 0 f
    ∙ get_or-set_other (with₄ ws i x) (4 * full_memory + i) p x.low 0 e
    ∙ get_or-set_other (with₃ ws i x) (3 * full_memory + i) p x.new 0 d
    ∙ get_or-set_other (with₂ ws i x) (2 * full_memory + i) p x.north 0 c
    ∙ get_or-set_other (with₁ ws i x) (full_memory + i) p x.east 0 b
    ∙ get_or-set_other ws i p x.radio 0 a

module _ (ws : List ℕ) (i : ℕ) (x : Report) (h : i < full_memory) (l : length ws ≡ report_fields * full_memory) where
  abbrev written : List ℕ
  written = with_report ws i x

  length-written : length written ≡ length ws
  length-written = simp length-set refl

  report_itself : report_in full_memory written i ≡ x
  report_itself =
      let a : get_or written i 0 ≡ x.radio =
      get_or-set_other (with₅ ws i x) (5 * full_memory + i) i x.high 0 (omega arith)
      ∙ get_or-set_other (with₄ ws i x) (4 * full_memory + i) i x.low 0 (omega arith)
      ∙ get_or-set_other (with₃ ws i x) (3 * full_memory + i) i x.new 0 (omega arith)
      ∙ get_or-set_other (with₂ ws i x) (2 * full_memory + i) i x.north 0 (omega arith)
      ∙ get_or-set_other (with₁ ws i x) (full_memory + i) i x.east 0 (omega arith)
      ∙ get_or-set_same ws i x.radio 0 (omega arith) in
      let b : get_or written (full_memory + i) 0 ≡ x.east =
      get_or-set_other (with₅ ws i x) (5 * full_memory + i) (full_memory + i) x.high 0 (omega arith)
      ∙ get_or-set_other (with₄ ws i x) (4 * full_memory + i) (full_memory + i) x.low 0 (omega arith)
      ∙ get_or-set_other (with₃ ws i x) (3 * full_memory + i) (full_memory + i) x.new 0 (omega arith)
      ∙ get_or-set_other (with₂ ws i x) (2 * full_memory + i) (full_memory + i) x.north 0 (omega arith)
      ∙ get_or-set_same (with₁ ws i x) (full_memory + i) x.east 0 (simp length-set (omega arith)) in
      let c : get_or written (2 * full_memory + i) 0 ≡ x.north =
      get_or-set_other (with₅ ws i x) (5 * full_memory + i) (2 * full_memory + i) x.high 0 (omega arith)
      ∙ get_or-set_other (with₄ ws i x) (4 * full_memory + i) (2 * full_memory + i) x.low 0 (omega arith)
      ∙ get_or-set_other (with₃ ws i x) (3 * full_memory + i) (2 * full_memory + i) x.new 0 (omega arith)
      ∙ get_or-set_same (with₂ ws i x) (2 * full_memory + i) x.north 0 (simp length-set (omega arith)) in
      let d : get_or written (3 * full_memory + i) 0 ≡ x.new =
      get_or-set_other (with₅ ws i x) (5 * full_memory + i) (3 * full_memory + i) x.high 0 (omega arith)
      ∙ get_or-set_other (with₄ ws i x) (4 * full_memory + i) (3 * full_memory + i) x.low 0 (omega arith)
      ∙ get_or-set_same (with₃ ws i x) (3 * full_memory + i) x.new 0 (simp length-set (omega arith)) in
      let e : get_or written (4 * full_memory + i) 0 ≡ x.low =
      get_or-set_other (with₅ ws i x) (5 * full_memory + i) (4 * full_memory + i) x.high 0 (omega arith)
      ∙ get_or-set_same (with₄ ws i x) (4 * full_memory + i) x.low 0 (simp length-set (omega arith)) in
      let f : get_or written (5 * full_memory + i) 0 ≡ x.high = get_or-set_same (with₅ ws i x) (5 * full_memory + i) x.high 0 (simp length-set (omega arith)) in
      λ t. record { radio = a t; east = b t; north = c t; new = d t; low = e t; high = f t }

  report_other : (j : ℕ) → j < full_memory → j ≢ i → report_in full_memory written j ≡ report_in full_memory ws j
  report_other j m n =
      let a = other_word ws i x j n (omega arith) (omega arith) (omega arith) (omega arith) (omega arith) in
      let b = other_word ws i x (full_memory + j) (omega arith) (omega (arith, n)) (omega arith) (omega arith) (omega arith) (omega arith) in
      let c = other_word ws i x (2 * full_memory + j) (omega arith) (omega arith) (omega (arith, n)) (omega arith) (omega arith) (omega arith) in
      let d = other_word ws i x (3 * full_memory + j) (omega arith) (omega arith) (omega arith) (omega (arith, n)) (omega arith) (omega arith) in
      let e = other_word ws i x (4 * full_memory + j) (omega arith) (omega arith) (omega arith) (omega arith) (omega (arith, n)) (omega arith) in
      let f = other_word ws i x (5 * full_memory + j) (omega arith) (omega arith) (omega arith) (omega arith) (omega arith) (omega (arith, n)) in
      λ t. record { radio = a t; east = b t; north = c t; new = d t; low = e t; high = f t }

  at_any : (j : ℕ) → j < full_memory → get_or (every_report written) j no_report ≡ get_or (set (every_report ws) i x) j no_report
  at_any j m =
      read_every written full_memory (length-written ∙ l) j m
      ∙ by_cases (eqb j i)
      (λ t. let e = eqb-true j i t in
      ap (report_in full_memory written) e ∙ report_itself
      ∙ sym (ap (λ (k : ℕ). get_or (set (every_report ws) i x) k no_report) e ∙ get_or-set_same (every_report ws) i x no_report (omega (arith, length_every ws full_memory l))))
      (λ t. let n = eqb-false j i t in
      report_other j m n ∙ sym (get_or-set_other (every_report ws) i j x no_report n ∙ read_every ws full_memory l j m))

  pub report_written : every_report written ≡ set (every_report ws) i x
  report_written =
      let n = length_every written full_memory (length-written ∙ l) in
      ext_get_or no_report (every_report written) (set (every_report ws) i x)
      (n ∙ sym (length-set (every_report ws) i x ∙ length_every ws full_memory l))
      (λ j m. at_any j (omega (arith, n)))

-- an array with the reports of those that wait, as they are laid out, is theirs
pub waiting_is : (ws : List ℕ) (n : ℕ) (l : Rows StoreReport) → length ws ≡ report_fields * full_memory → n ≡ length l
    → every_report ws ≡ slotted full_memory no_report (map report_of l) → waiting_with n ws ≡ waiting_of l
unfolding waiting_of
waiting_is ws n l h e s =
    let w = sym (words_of_reports ws full_memory h) ∙ ap report_words s in
    λ t. record { n = e t; words = w t }
