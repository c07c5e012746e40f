-- The array of the waiting reports by its columns: what the code's tests of a column say of the reports.
use mathlib.Core.Path.{◌≡◌, refl, sym, ap, ap₂, ◌∙◌}
use mathlib.Core.Bool.{Bool, true, false, ◌&&◌}
use mathlib.Core.List.{List, ◌++◌, map}
use Prim.Native.Nat.{ℕ, ◌+◌, ◌-◌, ◌*◌, ◌≤◌, ◌<◌}
use native.Mathlib.Numerals.{add-one}
use native.Mathlib.Omega.{arith}
use lib.Dec.{eqb, leb, ltb}
use lib.ListN.{length, get_or, take, drop, length-take, length-map, get_or-map}
use lib.Seq.{take-append_seam, drop-append-add, take_all, get_or-take}
use borrow.Author.Tests.{le-leb, lt-ltb}
use Rattle.terms.specs.Terms.{max_radio}
use Rattle.lists.specs.Parts.{part}
use Rattle.lists.specs.Sums.{sum_by}
use Rattle.lists.specs.Tests.{both, all}
use Rattle.lists.specs.Words.{wide}
use Rattle.lists.proofs.MapLaws.{map-map, map-take, map-drop}
use Rattle.lists.proofs.PartsLaws.{length-part}
use Rattle.lists.proofs.SlotsLaws.{true-both, all-map, few_used, stops, goes}
use Rattle.lists.proofs.SumsLaws.{sum-add, sum-map}
use Rattle.lists.proofs.TestsLaws.{both-true, both_intro, both_tell, get_or-Each, Each-all}
use Rattle.rules.specs.Limits.{last_metre, full_memory}
use Rattle.rules.specs.Store.{Report as StoreReport}
use Rattle.lists.specs.Rows.{Row}
use Rattle.desk.specs.declared.Report.{Report}
use Rattle.desk.specs.Held.{waiting_with}
use Rattle.desk.specs.Layout.{report_fields, report_words, no_report}
use Rattle.desk.specs.Views.{every_report}
use Rattle.desk.proofs.ReportsLaws.{words_of_reports, report_read}
use Rattle.sound_clauses.specs.Loops.{all_to, rises_to, keys}
use Rattle.sound_clauses.specs.Grid.{place_test}
use Rattle.sound_clauses.specs.Waiting.{waiting_test, places_test, dated_test}
use Rattle.sound_clauses.proofs.LoopsLaws.{all_to_zero, all_to-suc, all_to_ext, all-all_to, all-both}
use Rattle.sound_directory.specs.Sound.{weighs, number}
use Rattle.sound_directory.proofs.LoopLaws.{sum_Clear, unused_rest}
use Rattle.waiting.specs.Waiting.{row_of as report_row, reports_of}
use Rattle.waiting.proofs.WaitingLaws.{every_size}
use Rattle.sound_rows.specs.Sound.{report_weight, is_mark, is_dated, reports_test}

-- ---- the columns

-- what stands first, and what stands behind it
part_first : (xs ys : List ℕ) (n : ℕ) → length xs ≡ n → part (xs ++ ys) 0 n ≡ xs
unfolding part
part_first xs ys n e = ap (λ (k : ℕ). take k (xs ++ ys)) (sym e) ∙ take-append_seam xs ys

part_behind : (xs ys : List ℕ) (n a m : ℕ) → length xs ≡ n → part (xs ++ ys) (n + a) m ≡ part ys a m
unfolding part
part_behind xs ys n a m e = ap (λ (k : ℕ). take m (drop (k + a) (xs ++ ys))) (sym e) ∙ ap (take m) (drop-append-add xs ys a)

part_whole : (xs : List ℕ) (n : ℕ) → length xs ≡ n → part xs 0 n ≡ xs
unfolding part
part_whole xs n e = take_all n xs (omega arith)

pub column_slice : (ws : List ℕ) (k : ℕ) → k < report_fields → length ws ≡ report_fields * full_memory
    → (take (full_memory * k + full_memory - full_memory * k) (drop (full_memory * k) ws) ≡ part ws (full_memory * k) full_memory)
    × (length (take (full_memory * k + full_memory - full_memory * k) (drop (full_memory * k) ws)) ≡ full_memory)
column_slice ws k h size =
    let n : full_memory * k + full_memory - full_memory * k ≡ full_memory = omega arith in
    let e : take (full_memory * k + full_memory - full_memory * k) (drop (full_memory * k) ws) ≡ part ws (full_memory * k) full_memory =
    ap (λ (j : ℕ). take j (drop (full_memory * k) ws)) n ∙ (unfold part in refl) in
    (e, ap length e ∙ length-part ws (full_memory * k) full_memory (omega arith))

module _ (ws : List ℕ) (size : length ws ≡ report_fields * full_memory) where
  abbrev reports : List Report
  reports = every_report ws

  words : report_words reports ≡ ws
  words = words_of_reports ws full_memory size

  long : (f : Report → ℕ) → length (map f reports) ≡ full_memory
  long f = length-map reports f ∙ every_size ws size

  abbrev radios : List ℕ
  radios = map (λ w. w.radio) reports

  abbrev easts : List ℕ
  easts = map (λ w. w.east) reports

  abbrev norths : List ℕ
  norths = map (λ w. w.north) reports

  abbrev marks : List ℕ
  marks = map (λ w. w.new) reports

  abbrev lows : List ℕ
  lows = map (λ w. w.low) reports

  abbrev highs : List ℕ
  highs = map (λ w. w.high) reports

  -- what stands from a column on
  abbrev from_marks : List ℕ
  from_marks = marks ++ (lows ++ highs)

  abbrev from_easts : List ℕ
  from_easts = easts ++ (norths ++ from_marks)

  in_words : (a : ℕ) → part ws a full_memory ≡ part (radios ++ from_easts) a full_memory
  unfolding report_words
  in_words a = ap (λ (l : List ℕ). part l a full_memory) (sym words)

  behind_radios : (a : ℕ) → part ws (full_memory + a) full_memory ≡ part from_easts a full_memory
  behind_radios a = in_words (full_memory + a) ∙ part_behind radios from_easts full_memory a full_memory (long (λ w. w.radio))

  behind_easts : (a : ℕ) → part ws (full_memory + (full_memory + a)) full_memory ≡ part (norths ++ from_marks) a full_memory
  behind_easts a = behind_radios (full_memory + a) ∙ part_behind easts (norths ++ from_marks) full_memory a full_memory (long (λ w. w.east))

  behind_norths : (a : ℕ) → part ws (full_memory + (full_memory + (full_memory + a))) full_memory ≡ part from_marks a full_memory
  behind_norths a = behind_easts (full_memory + a) ∙ part_behind norths from_marks full_memory a full_memory (long (λ w. w.north))

  behind_marks : (a : ℕ) → part ws (full_memory + (full_memory + (full_memory + (full_memory + a)))) full_memory ≡ part (lows ++ highs) a full_memory
  behind_marks a = behind_norths (full_memory + a) ∙ part_behind marks (lows ++ highs) full_memory a full_memory (long (λ w. w.new))

  pub column_radios : part ws (full_memory * 0) full_memory ≡ radios
  column_radios = in_words 0 ∙ part_first radios from_easts full_memory (long (λ w. w.radio))

  pub column_easts : part ws (full_memory * 1) full_memory ≡ easts
  column_easts = behind_radios 0 ∙ part_first easts (norths ++ from_marks) full_memory (long (λ w. w.east))

  pub column_norths : part ws (full_memory * 2) full_memory ≡ norths
  column_norths = behind_easts 0 ∙ part_first norths from_marks full_memory (long (λ w. w.north))

  pub column_marks : part ws (full_memory * 3) full_memory ≡ marks
  column_marks = behind_norths 0 ∙ part_first marks (lows ++ highs) full_memory (long (λ w. w.new))

  pub column_lows : part ws (full_memory * 4) full_memory ≡ lows
  column_lows = behind_marks 0 ∙ part_first lows highs full_memory (long (λ w. w.low))

  pub column_highs : part ws (full_memory * 5) full_memory ≡ highs
  column_highs =
      behind_marks full_memory
      ∙ part_behind lows highs full_memory 0 full_memory (long (λ w. w.low))
      ∙ part_whole highs full_memory (long (λ w. w.high))

-- ---- the slots that are not used

weigh_map : (f : Report → ℕ) (n : ℕ) (l : List Report) → weighs number n (map f l) ≡ weighs f n l
unfolding weighs
weigh_map f n l = ap (sum_by number) (sym (map-drop f n l)) ∙ sum-map number f (drop n l)

weigh_fields : (n : ℕ) (l : List Report)
    → weighs report_weight n l
    ≡ weighs (λ w. w.radio) n l + weighs (λ w. w.east) n l + weighs (λ w. w.north) n l + weighs (λ w. w.new) n l + weighs (λ w. w.low) n l + weighs (λ w. w.high) n l
unfolding weighs
weigh_fields n l =
    let m = drop n l in
    omega (
      arith,
      sum-add (λ (w : Report). w.radio + w.east + w.north + w.new + w.low) (λ w. w.high) m,
      sum-add (λ (w : Report). w.radio + w.east + w.north + w.new) (λ w. w.low) m,
      sum-add (λ (w : Report). w.radio + w.east + w.north) (λ w. w.new) m,
      sum-add (λ (w : Report). w.radio + w.east) (λ w. w.north) m,
      sum-add (λ (w : Report). w.radio) (λ w. w.east) m,
    )

-- the numbers past n of a column are zero
abbrev pub column_clear : List ℕ → ℕ → ℕ → Bool
column_clear ws k n = eqb (weighs number n (part ws (full_memory * k) full_memory)) 0

pub column_clears : (ws : List ℕ) (k n : ℕ) {xs : List ℕ} {r : Bool} → xs ≡ part ws (full_memory * k) full_memory
    → (p : ℕ → Bool) → ((x : ℕ) → p x ≡ eqb x 0) → r ≡ all p (take (length xs - n) (drop n xs)) → r ≡ column_clear ws k n
column_clears ws k n {xs} e p same q = unused_rest number p same n (length xs) xs refl q ∙ ap (λ (l : List ℕ). eqb (weighs number n l) 0) e

module _ (ws : List ℕ) (size : length ws ≡ report_fields * full_memory) (n : ℕ) where
  in_column : (k : ℕ) (f : Report → ℕ) → part ws (full_memory * k) full_memory ≡ map f (every_report ws) → eqb (weighs f n (every_report ws)) 0 ≡ column_clear ws k n
  in_column k f e = ap (λ (w : ℕ). eqb w 0) (sym (ap (weighs number n) e ∙ weigh_map f n (every_report ws)))

  abbrev all_clear : Bool
  all_clear = eqb (weighs report_weight n (every_report ws)) 0

  clear_columns : all_clear
      ≡ both (column_clear ws 0 n) (both (column_clear ws 1 n) (both (column_clear ws 2 n) (both (column_clear ws 3 n) (both (column_clear ws 4 n) (column_clear ws 5 n)))))
  clear_columns =
      let l = every_report ws in
      let a = weighs (λ (w : Report). w.radio) n l in
      let b = weighs (λ (w : Report). w.east) n l in
      let c = weighs (λ (w : Report). w.north) n l in
      let d = weighs (λ (w : Report). w.new) n l in
      let e = weighs (λ (w : Report). w.low) n l in
      let f = weighs (λ (w : Report). w.high) n l in
      let g : weighs report_weight n l ≡ a + (b + (c + (d + (e + f)))) = omega (arith, weigh_fields n l) in
      ap (λ (w : ℕ). eqb w 0) g
      ∙ sum_Clear a (b + (c + (d + (e + f))))
      ∙ ap₂ both (in_column 0 (λ w. w.radio) (column_radios ws size))
      (sum_Clear b (c + (d + (e + f)))
      ∙ ap₂ both (in_column 1 (λ w. w.east) (column_easts ws size))
      (sum_Clear c (d + (e + f))
      ∙ ap₂ both (in_column 2 (λ w. w.north) (column_norths ws size))
      (sum_Clear d (e + f)
      ∙ ap₂ both (in_column 3 (λ w. w.new) (column_marks ws size))
      (sum_Clear e f ∙ ap₂ both (in_column 4 (λ w. w.low) (column_lows ws size)) (in_column 5 (λ w. w.high) (column_highs ws size))))))

  module _ {a : Bool} (radio : a ≡ column_clear ws 0 n) where
    pub radios_unclear : a ≡ false → false ≡ all_clear
    radios_unclear f = stops _ radio f ∙ sym clear_columns

    module _ (passed : a ≡ true) {b : Bool} (east : b ≡ column_clear ws 1 n) where
      pub easts_unclear : b ≡ false → false ≡ all_clear
      easts_unclear f = goes radio passed (stops _ east f) ∙ sym clear_columns

      module _ (passed' : b ≡ true) {c : Bool} (north : c ≡ column_clear ws 2 n) where
        places_clear : {r rest : Bool} → r ≡ rest → r ≡ both (column_clear ws 0 n) (both (column_clear ws 1 n) rest)
        places_clear q = goes radio passed (goes east passed' q)

        pub norths_unclear : c ≡ false → false ≡ all_clear
        norths_unclear f = places_clear (stops _ north f) ∙ sym clear_columns

        module _ (passed'' : c ≡ true) {d : Bool} (mark : d ≡ column_clear ws 3 n) where
          pub marks_unclear : d ≡ false → false ≡ all_clear
          marks_unclear f = places_clear (goes north passed'' (stops _ mark f)) ∙ sym clear_columns

          module _ (passed''' : d ≡ true) {e : Bool} (low : e ≡ column_clear ws 4 n) where
            pub lows_unclear : e ≡ false → false ≡ all_clear
            lows_unclear f = places_clear (goes north passed'' (goes mark passed''' (stops _ low f))) ∙ sym clear_columns

            pub highs_clear : {r : Bool} → e ≡ true → r ≡ column_clear ws 5 n → r ≡ all_clear
            highs_clear f q = places_clear (goes north passed'' (goes mark passed''' (goes low f q))) ∙ sym clear_columns

-- ---- minutes

pub dated_start : (p : ℕ → Bool) → true ≡ all_to 0 p
dated_start p = sym (all_to_zero p)

pub dated_turn : (highest : ℕ) (lows highs : List ℕ) (i : ℕ) {so : Bool} {m : ℕ} → so ≡ all_to i (is_dated highest lows highs) → m ≡ wide (get_or lows i 0) (get_or highs i 0)
    → (so && leb m highest) ≡ all_to (i + 1) (is_dated highest lows highs)
dated_turn highest lows highs i so e =
    let p = is_dated highest lows highs in
    both_tell (all_to i p) (p i) so (ap (λ (x : ℕ). leb x highest) e) ∙ sym (all_to-suc i p) ∙ ap (λ (k : ℕ). all_to k p) (sym (add-one i))

pub dated_end : (p : ℕ → Bool) {so : Bool} {n i : ℕ} → i ≤ n → n ≤ i → so ≡ all_to i p → so ≡ all_to n p
dated_end p {n = n} {i = i} h k e = let q : i ≡ n = omega arith in e ∙ ap (λ (j : ℕ). all_to j p) q

-- ---- the reports that wait

module _ (ws : List ℕ) (size : length ws ≡ report_fields * full_memory) (short : (i : ℕ) → get_or ws i 0 < 65536) (n : ℕ) (few : n < full_memory) (highest : ℕ) where
  abbrev kept : List Report
  kept = take n (every_report ws)

  -- fields have 16 bits
  fields_short : (i : ℕ) → i < length kept → ((get_or kept i no_report).east ≤ last_metre) × ((get_or kept i no_report).north ≤ last_metre) × ((get_or kept i no_report).low < 65536)
  fields_short i h =
      let k : i < n = omega (arith, few_used n n (every_report ws) (omega arith)) in
      let e = get_or-take n (every_report ws) i no_report k ∙ sym (report_read ws i (omega arith) size) in (
        omega (arith, ap (λ (x : Report). x.east) e, short (full_memory + i)),
        omega (arith, ap (λ (x : Report). x.north) e, short (2 * full_memory + i)),
        omega (arith, ap (λ (x : Report). x.low) e, short (4 * full_memory + i)),
      )

  -- so their places are some, and the lower halves of their minutes are halves
  placed : places_test (reports_of (waiting_with n ws)) ≡ true
  unfolding places_test reports_of
  placed =
      all-map (λ (x : Row StoreReport). place_test x.val.fix.place) report_row kept
      ∙ Each-all (λ x. place_test (report_row x).val.fix.place) (λ x. (x.east ≤ last_metre) × (x.north ≤ last_metre)) kept
      (λ x h. unfold place_test in both_intro (le-leb x.east last_metre h.0) (le-leb x.north last_metre h.1))
      (get_or-Each (λ x. (x.east ≤ last_metre) × (x.north ≤ last_metre)) kept no_report (λ i h. let f = fields_short i h in (f.0, f.1)))

  halved : all (λ (x : Report). ltb x.low 65536) kept ≡ true
  halved =
      Each-all (λ x. ltb x.low 65536) (λ x. x.low < 65536) kept (λ x h. lt-ltb x.low 65536 h)
      (get_or-Each (λ x. x.low < 65536) kept no_report (λ i h. (fields_short i h).2))

  abbrev in_order : Bool
  in_order = rises_to max_radio 0 (take n (map (λ w. w.radio) (every_report ws)))

  abbrev marked : Bool
  marked = all is_mark (take n (map (λ w. w.new) (every_report ws)))

  abbrev minute : Report → Bool
  minute x = leb (wide x.low x.high) highest

  -- the minute of a slot that is used, in the columns of its halves
  dated_at : (i : ℕ) → minute (get_or (every_report ws) i no_report) ≡ is_dated highest (map (λ w. w.low) (every_report ws)) (map (λ w. w.high) (every_report ws)) i
  dated_at i =
      ap₂ (λ (l h : ℕ). leb (wide l h) highest)
      (sym (get_or-map (λ (w : Report). w.low) (every_report ws) i no_report)) (sym (get_or-map (λ (w : Report). w.high) (every_report ws) i no_report))

  dated : dated_test highest (reports_of (waiting_with n ws)) ≡ all_to n (is_dated highest (map (λ w. w.low) (every_report ws)) (map (λ w. w.high) (every_report ws)))
  unfolding dated_test reports_of
  dated =
      let size' : length kept ≡ n = omega (arith, every_size ws size, length-take n (every_report ws)) in
      all-map (λ (x : Row StoreReport). leb x.val.fix.minute highest) report_row kept
      ∙ all-all_to minute kept no_report
      ∙ ap (λ (k : ℕ). all_to k (λ i. minute (get_or kept i no_report))) size'
      ∙ all_to_ext n (λ i. minute (get_or kept i no_report)) (is_dated highest (map (λ w. w.low) (every_report ws)) (map (λ w. w.high) (every_report ws)))
      (λ i h. ap minute (get_or-take n (every_report ws) i no_report h) ∙ dated_at i)

  tested : reports_test highest (waiting_with n ws)
      ≡ both in_order (both marked (all_to n (is_dated highest (map (λ w. w.low) (every_report ws)) (map (λ w. w.high) (every_report ws)))))
  unfolding reports_test waiting_test reports_of
  tested =
      ap₂ both
      (true-both (rises_to max_radio 0 (keys (map report_row kept))) (lt-ltb (length (map report_row kept)) full_memory (rw (length-map kept report_row) (omega (arith, few_used n n (every_report ws) (omega arith)))))
      ∙ ap (rises_to max_radio 0) (map-map (λ x. x.key) report_row kept ∙ map-take (λ w. w.radio) n (every_report ws)))
      (ap₂ both
      (all-both (λ (x : Report). is_mark x.new) (λ x. ltb x.low 65536) kept
      ∙ ap (both (all (λ (x : Report). is_mark x.new) kept)) halved
      ∙ both-true (all (λ (x : Report). is_mark x.new) kept)
      ∙ sym (all-map is_mark (λ w. w.new) kept)
      ∙ ap (all is_mark) (map-take (λ w. w.new) n (every_report ws)))
      (true-both (dated_test highest (map report_row kept)) (unfold reports_of in placed) ∙ (unfold reports_of in dated)))

  module _ {xs : List ℕ} (radios : xs ≡ part ws (full_memory * 0) full_memory) {a : Bool} (rise : a ≡ rises_to max_radio 0 (take n xs)) where
    rises_so : a ≡ in_order
    rises_so = rise ∙ ap (λ (l : List ℕ). rises_to max_radio 0 (take n l)) (radios ∙ column_radios ws size)

    pub reports_fall : a ≡ false → false ≡ reports_test highest (waiting_with n ws)
    reports_fall f = stops _ rises_so f ∙ sym tested

    module _ (passed : a ≡ true) {ys : List ℕ} (marks : ys ≡ part ws (full_memory * 3) full_memory) {b : Bool} (mark : b ≡ all is_mark (take n ys)) where
      marks_so : b ≡ marked
      marks_so = mark ∙ ap (λ (l : List ℕ). all is_mark (take n l)) (marks ∙ column_marks ws size)

      pub reports_unmarked : b ≡ false → false ≡ reports_test highest (waiting_with n ws)
      reports_unmarked f = goes rises_so passed (stops _ marks_so f) ∙ sym tested

      pub reports_dated : {ls hs : List ℕ} {r : Bool} → b ≡ true → ls ≡ part ws (full_memory * 4) full_memory → hs ≡ part ws (full_memory * 5) full_memory
          → r ≡ all_to n (is_dated highest ls hs) → r ≡ reports_test highest (waiting_with n ws)
      reports_dated f l h q =
          goes rises_so passed (goes marks_so f
          (q ∙ ap₂ (λ (x y : List ℕ). all_to n (is_dated highest x y)) (l ∙ column_lows ws size) (h ∙ column_highs ws size)))
          ∙ sym tested
