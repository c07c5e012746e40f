-- The list: the empty table at its start, which radios are marked, their bytes, and what a range is answered with.
use mathlib.Core.Path.{◌≡◌, refl, sym, ap, ◌∙◌, fun_ext, subst}
use mathlib.Core.Bool.{Bool, true, false}
use mathlib.Core.List.{List, [], ◌∷◌, ◌++◌, append-nil, map, map-append}
use Prim.Native.Nat.{ℕ, zero, suc, ◌+◌, ◌*◌, ◌≤◌, ◌<◌}
use native.Mathlib.Omega.{arith}
use lib.ListN.{length, get_or, set, take, replicate, length-map, length-set, length-take, length-replicate}
use lib.Seq.{take-suc-set, take-set-le}
use borrow.Author.Tests.{lt-ltb, le-ltb}
use Rattle.std.specs.Prelude.{Option, None, Some, option_map}
use Rattle.terms.specs.declared.Place.{Place as HeldPlace}
use Rattle.terms.specs.Values.{place_of}
use Rattle.std.specs.Option.{unwrap_or}
use Rattle.desk.specs.declared.Answer.{Answer}
use Rattle.lists.specs.Tests.{is_some}
use Rattle.terms.specs.Terms.{Place, field_bytes, max_radio, max_on}
use Rattle.lists.specs.Parts.{put}
use Rattle.lists.specs.Rows.{Row, Rows, UpTo, put_row}
use Rattle.lists.specs.Sums.{keep, filter}
use Rattle.lists.specs.Tests.{one_if}
use Rattle.lists.specs.Words.{le}
use Rattle.lists.proofs.Cases.{by_cases, option_cases}
use Rattle.lists.proofs.SumsLaws.{filter-append}
use Rattle.lists.proofs.PartsLaws.{put-nil, put_then}
use Rattle.lists.proofs.TestsLaws.{Each-filter}
use Rattle.lists.proofs.SlotsLaws.{mapped_turn, mapped_end, Each_mapped}
use Rattle.rules.specs.Carry.{list_bytes, bytes_of}
use Rattle.rules.specs.Told.{told_list}
use Rattle.desk.specs.Held.{Directory, Memo, Waiting, on_with}
use Rattle.desk.specs.Views.{radio_row, radios_of, slots_in}
use Rattle.memo.specs.Memo.{lines_of}
use Rattle.memo_index.specs.Index.{table_size}
use Rattle.waiting.specs.Waiting.{reports_of}
use Rattle.range_places.specs.Places.{Sought, Places, no_places, places_in, places_of}
use Rattle.range.specs.Range.{is_marked, place_or, row_at, rows_at, list_held, found_in}

-- ---- nothing stands in an empty table

get_or_same : {A : Type 0} (n i : ℕ) (a : A) → get_or (replicate n a) i a ≡ a
get_or_same zero i a = refl
get_or_same (suc n) zero a = refl
get_or_same (suc n) (suc i) a = get_or_same n i a

pub empty_table : (n : ℕ) → places_in (replicate n None) ≡ no_places
unfolding places_in no_places
empty_table n = fun_ext (λ r. ap (option_map place_of) (get_or_same n r None))

-- ---- radios in an array

module _ (radios : List ℕ) (n i : ℕ) (size : length radios ≡ max_on) (few : n ≤ max_on) (more : i < n) where
  pub on_radios : UpTo max_radio (radios_of (on_with n radios)) → get_or radios i 0 ≤ max_radio
  unfolding radios_of
  on_radios e = Each_mapped radios n i 0 (omega arith) more (λ x. x.key ≤ max_radio) radio_row e

  on_turn : take (i + 1) (radios_of (on_with n radios)) ≡ take i (radios_of (on_with n radios)) ++ (radio_row (get_or radios i 0) ∷ [])
  unfolding radios_of
  on_turn = mapped_turn radios n i 0 (omega arith) more radio_row

on_end : (radios : List ℕ) (n i : ℕ) → n ≤ i → take i (radios_of (on_with n radios)) ≡ radios_of (on_with n radios)
unfolding radios_of
on_end radios n i h = mapped_end radios n i h radio_row

length_radios : (radios : List ℕ) (n : ℕ) → length radios ≡ max_on → n ≤ max_on → length (radios_of (on_with n radios)) ≡ n
unfolding radios_of
length_radios radios n s h = rw (length-map, length-take) (omega arith)

-- ---- those that are found

module _ {A : Type 0} (p : A → Bool) where
  filter_last : (l l' : List A) (x : A) → l' ≡ l ++ (x ∷ []) → filter p l' ≡ filter p l ++ keep (p x) x []
  filter_last l l' x e = ap (filter p) e ∙ filter-append p l (x ∷ []) ∙ ap (λ (m : List A). filter p l ++ m) (unfold filter in refl)

-- of the first i those marked are kept, one after the other
pub record Kept (table : List (Option HeldPlace)) (radios : List ℕ) (n i kept : ℕ) (found : List ℕ) : Type 0 where
  pub size : length found ≡ max_on
  pub list : map radio_row (take kept found) ≡ filter (is_marked table) (take i (radios_of (on_with n radios)))

pub keep_start : (table : List (Option HeldPlace)) (radios : List ℕ) (n : ℕ) {found : List ℕ} → length found ≡ max_on → Kept table radios n 0 0 found
unfolding filter
keep_start table radios n s = record { size = s; list = refl }

module _ {table : List (Option HeldPlace)} {radios : List ℕ} {n i kept : ℕ} {found : List ℕ} (r : Kept table radios n i kept found) where
  pub keep_end : n ≤ i → radios_of (on_with kept found) ≡ filter (is_marked table) (radios_of (on_with n radios))
  unfolding radios_of
  keep_end h = r.list ∙ ap (filter (is_marked table)) (on_end radios n i h)

  pub keep_turn : {q : Bool} {e : ℕ} → length radios ≡ max_on → n ≤ max_on → i < n → kept ≤ i → q ≡ is_marked table (radio_row (get_or radios i 0)) → e ≡ one_if q
      → Kept table radios n (i + 1) (kept + e) (set found kept (get_or radios i 0))
  keep_turn {q} {e} size few more room told said =
      let x : ℕ = get_or radios i 0 in
      let before : Rows (Unit {0}) = take i (radios_of (on_with n radios)) in
      let next = filter_last (is_marked table) before (take (i + 1) (radios_of (on_with n radios))) (radio_row x) (on_turn radios n i size few more) in
      let s = r.size in
      record {
        size = length-set found kept x ∙ s;
        list = by_cases q
            (λ t. let k : kept + e ≡ suc kept = omega (arith, said, ap one_if t) in
            ap (λ (m : ℕ). map radio_row (take m (set found kept x))) k
            ∙ ap (map radio_row) (take-suc-set found kept x (omega arith))
            ∙ map-append radio_row (take kept found) (x ∷ [])
            ∙ ap (λ (l : Rows (Unit {0})). l ++ (radio_row x ∷ [])) r.list
            ∙ ap (λ (b : Bool). filter (is_marked table) before ++ keep b (radio_row x) []) (sym t ∙ told)
            ∙ sym next)
            (λ t. let k : kept + e ≡ kept = omega (arith, said, ap one_if t) in
            ap (λ (m : ℕ). map radio_row (take m (set found kept x))) k
            ∙ ap (map radio_row) (take-set-le kept found kept x (omega arith))
            ∙ r.list
            ∙ sym (append-nil (filter (is_marked table) before))
            ∙ ap (λ (b : Bool). filter (is_marked table) before ++ keep b (radio_row x) []) (sym t ∙ told)
            ∙ sym next);
      }

-- ---- their bytes

length-bytes_of : (l : Rows Place) → length (bytes_of l) ≡ list_bytes * length l
unfolding bytes_of le
length-bytes_of [] = refl
length-bytes_of (x ∷ l) = omega (arith, length-bytes_of l)

bytes_of-append : (l m : Rows Place) → bytes_of (l ++ m) ≡ bytes_of l ++ bytes_of m
unfolding bytes_of le
bytes_of-append [] m = refl
bytes_of-append (x ∷ l) m = ap (λ (b : List ℕ). le field_bytes x.key ++ (le field_bytes x.val.east ++ (le field_bytes x.val.north ++ b))) (bytes_of-append l m)

pub put_row_lem : (b : List ℕ) {c d e : List ℕ} (at radio east north : ℕ) → at + list_bytes ≤ length b
    → c ≡ put b at (le field_bytes radio) → d ≡ put c (at + 2) (le field_bytes east) → e ≡ put d (at + 4) (le field_bytes north)
    → e ≡ put b at (bytes_of (record { key = radio; val = record { east = east; north = north } } ∷ []))
unfolding bytes_of le
put_row_lem b at radio east north h f g k = put_then b at _ _ (put_then b at _ _ f g (omega arith) (omega arith)) k (omega arith) (omega arith)

pub place_told : (o : Option HeldPlace) (p : HeldPlace) → p ≡ unwrap_or o (record { east = 0; north = 0 }) → place_of p ≡ place_or o
place_told None p e = ap place_of e
place_told (Some q) p e = ap place_of e

pub row_told : (table : List (Option HeldPlace)) (r at : ℕ) (b : List ℕ) {c : List ℕ} (p : HeldPlace) → p ≡ unwrap_or (get_or table r None) (record { east = 0; north = 0 })
    → c ≡ put b at (bytes_of (record { key = r; val = place_of p } ∷ [])) → c ≡ put b at (bytes_of (row_at table r ∷ []))
row_told table r at b p e f = f ∙ ap (λ (v : Place). put b at (bytes_of (record { key = r; val = v } ∷ []))) (place_told (get_or table r None) p e)

module _ (table : List (Option HeldPlace)) where
  rows_at_last : (l l' : Rows (Unit {0})) (r : ℕ) → l' ≡ l ++ (radio_row r ∷ []) → rows_at table l' ≡ rows_at table l ++ (row_at table r ∷ [])
  unfolding rows_at
  rows_at_last l l' r e = ap (map (λ x. row_at table x.key)) e ∙ map-append (λ x. row_at table x.key) l (radio_row r ∷ [])

  length-rows_at : (l : Rows (Unit {0})) → length (rows_at table l) ≡ length l
  unfolding rows_at
  length-rows_at l = length-map l (λ x. row_at table x.key)

  module _ (found : List ℕ) (n : ℕ) (b : List ℕ) where
    -- the rows of the first i radios stand in c, and nothing else of b is changed
    abbrev pub Writing : ℕ → List ℕ → Type 0
    Writing i c = c ≡ put b 0 (bytes_of (rows_at table (take i (radios_of (on_with n found)))))

    pub Writing_start : Writing 0 b
    unfolding rows_at bytes_of
    Writing_start = sym (put-nil b 0)

    pub Writing_end : (i : ℕ) {c : List ℕ} → n ≤ i → Writing i c → c ≡ put b 0 (bytes_of (rows_at table (radios_of (on_with n found))))
    Writing_end i h w = w ∙ ap (λ (l : Rows (Unit {0})). put b 0 (bytes_of (rows_at table l))) (on_end found n i h)

    pub Writing_turn : (i : ℕ) {c d : List ℕ} → length found ≡ max_on → n ≤ max_on → i < n → list_bytes * n ≤ length b → Writing i c
        → d ≡ put c (list_bytes * i) (bytes_of (row_at table (get_or found i 0) ∷ [])) → Writing (i + 1) d
    Writing_turn i size few more room w e =
        let l : Rows (Unit {0}) = take i (radios_of (on_with n found)) in
        let row : Rows Place = row_at table (get_or found i 0) ∷ [] in
        let m : length (bytes_of (rows_at table l)) ≡ list_bytes * i =
        omega (arith, length-bytes_of (rows_at table l), length-rows_at l, length-take i (radios_of (on_with n found)), length_radios found n size few) in
        put_then b 0 (bytes_of (rows_at table l)) (bytes_of row) w e (omega arith) (omega arith)
        ∙ ap (put b 0) (sym (bytes_of-append (rows_at table l) row)
        ∙ ap bytes_of (sym (rows_at_last l (take (i + 1) (radios_of (on_with n found))) (get_or found i 0) (on_turn found n i size few more))))

-- ---- the answer

-- a radio that has a place in the table stands in the list with it
module _ (table : List (Option HeldPlace)) where
  row_held : (x : Row (Unit {0})) (l : Rows Place) → put_row x.key (places_in table x.key) l ≡ keep (is_marked table x) (row_at table x.key) l
  unfolding places_in
  row_held x l = option_cases (get_or table x.key None) (λ t. rw t) (λ p t. rw t)

  rows_held : (l : Rows (Unit {0})) → list_held (places_in table) l ≡ rows_at table (filter (is_marked table) l)
  unfolding list_held filter rows_at
  rows_held [] = refl
  rows_held (x ∷ l) =
      row_held x (list_held (places_in table) l)
      ∙ ap (keep (is_marked table x) (row_at table x.key)) (rows_held l)
      ∙ kept (is_marked table x) (filter (is_marked table) l)
    where
      kept : (b : Bool) (m : Rows (Unit {0})) → keep b (row_at table x.key) (map (λ y. row_at table y.key) m) ≡ map (λ y. row_at table y.key) (keep b x m)
      kept true m = refl
      kept false m = refl

pub found_radios : (p : Row (Unit {0}) → Bool) (radios found : List ℕ) (on n : ℕ) → radios_of (on_with n found) ≡ filter p (radios_of (on_with on radios))
    → UpTo max_radio (radios_of (on_with on radios)) → UpTo max_radio (radios_of (on_with n found))
found_radios p radios found on n e u = subst (λ (l : Rows (Unit {0})). UpTo max_radio l) (sym e) (Each-filter _ (λ x. x.key ≤ max_radio) p (radios_of (on_with on radios)) (λ x h _. h) u)

module _ (b : List ℕ) (look : Sought) (cells : Directory) (waiting : Waiting) (memo : Memo) (radios found : List ℕ) (on n : ℕ) (table : List (Option HeldPlace)) {made : Sought}
    (same : made ≡ look) (held : places_in table ≡ places_of b made (slots_in cells) (lines_of memo) (reports_of waiting))
    (listed : radios_of (on_with n found) ≡ filter (is_marked table) (radios_of (on_with on radios))) where
  rows_are : rows_at table (radios_of (on_with n found)) ≡ found_in b look cells waiting memo (on_with on radios)
  unfolding found_in
  rows_are =
      ap (rows_at table) listed
      ∙ sym (rows_held table (radios_of (on_with on radios)))
      ∙ ap (λ (f : Places). list_held f (radios_of (on_with on radios))) held
      ∙ ap (λ (l : Sought). list_held (places_of b l (slots_in cells) (lines_of memo) (reports_of waiting)) (radios_of (on_with on radios))) same

  module _ (buffer : List ℕ) (size : length found ≡ max_on) (few : n ≤ max_on) where
    many : n ≡ length (found_in b look cells waiting memo (on_with on radios))
    many = sym (length_radios found n size few) ∙ sym (length-rows_at table (radios_of (on_with n found))) ∙ ap length rows_are

    told_short : length buffer < list_bytes * n → record { number = 11; count = n; buffer = buffer } ≡ told_list (found_in b look cells waiting memo (on_with on radios)) buffer
    unfolding told_list
    told_short h = rw (← many, lt-ltb (length buffer) (list_bytes * n) h)

    told_listed : {c : List ℕ} → list_bytes * n ≤ length buffer → c ≡ put buffer 0 (bytes_of (rows_at table (radios_of (on_with n found))))
        → record { number = 0; count = n; buffer = c } ≡ told_list (found_in b look cells waiting memo (on_with on radios)) buffer
    unfolding told_list
    told_listed h e = rw (← many, le-ltb (length buffer) (list_bytes * n) h, e, rows_are)

    -- the same of the answer made
    module _ {a : Answer} {k : ℕ} (told : a ≡ record { number = k; gained = 0; lost = 0; count = n }) where
      pub short_answer : k ≡ 11 → length buffer < list_bytes * n → record { number = a.number; count = a.count; buffer = buffer } ≡ told_list (found_in b look cells waiting memo (on_with on radios)) buffer
      short_answer e h = rw (told, e) (told_short h)

      pub listed_answer : k ≡ 0 → {c : List ℕ} → list_bytes * n ≤ length buffer → c ≡ put buffer 0 (bytes_of (rows_at table (radios_of (on_with n found))))
          → record { number = a.number; count = a.count; buffer = c } ≡ told_list (found_in b look cells waiting memo (on_with on radios)) buffer
      listed_answer e h f = rw (told, e) (told_listed h f)
