-- The watches as the desk has them: what is read of one, and that an array of these is theirs.
use mathlib.Core.Bool.{false}
use mathlib.Core.List.{List, [], ◌∷◌}
use Rattle.std.specs.Prelude.{Option, None, Some}
use mathlib.Core.Path.{◌≡◌, refl, sym, ap, ap₂, ◌∙◌}
use Prim.Native.Nat.{ℕ, zero, suc, ◌+◌, ◌*◌, ◌/◌, ◌%◌, ◌≤◌, ◌<◌}
use native.Mathlib.Omega.{arith}
use native.Mathlib.Nat.{not-suc-le-zero, le_of_suc-le-suc}
use lib.ListN.{length, get_or, replicate, length-map}
use Rattle.std.proofs.Math.ListN.{get_or-map}
use lib.Seq.{ext_get_or}
use borrow.Author.Tests.{le-ltb, le-leb}
use Rattle.terms.specs.Terms.{Place, max_radio}
use Rattle.lists.specs.Bits.{bits, bit}
use Rattle.lists.specs.Parts.{tab}
use Rattle.lists.specs.Tests.{both, either}
use Rattle.lists.proofs.BitsLaws.{bit-bits, bits_none}
use Rattle.lists.proofs.PartsLaws.{get_or-tab}
use Rattle.rules.specs.Grid.{covers}
use Rattle.rules.specs.Watches.{Watch, watch_at, is_member}
use Rattle.desk.specs.declared.Watch.{Watch as DeskWatch}
use Rattle.desk.specs.Layout.{member_words, members_of, area_of, watch_of, unset_watch, no_watch, watches_of}
use Rattle.desk.specs.Views.{area_in, watch_in, watches_in, member_in}

-- ---- a watch that is laid out is read back

module _ (places : ℕ → Option Place) where
  pub area_laid : (watch : Watch) → area_in (watch_of places watch) ≡ area_of watch
  unfolding watch_of
  area_laid watch = refl

  pub watch_laid : (watch : Watch) → watch_in (watch_of places watch) ≡ watch
  unfolding watch_in watch_of
  watch_laid None = refl
  watch_laid (Some rect) = refl

  -- a number of the members
  pub member_word : (watch : Watch) (i : ℕ) → i < member_words → get_or (watch_of places watch).members i 0 ≡ bits 16 (λ j. is_member watch (places (16 * i + j)))
  unfolding watch_of members_of
  member_word watch i h = get_or-tab member_words (λ n. bits 16 (λ j. is_member watch (places (16 * n + j)))) i 0 h

  pub member_laid : (watch : Watch) (r : ℕ) → r ≤ max_radio → member_in (watch_of places watch) r ≡ is_member watch (places r)
  unfolding member_in
  member_laid watch r h =
      let n : 16 * (r / 16) + r % 16 ≡ r = omega arith in
      ap (λ (v : ℕ). bit v (r % 16)) (member_word watch (r / 16) (omega arith)) ∙ bit-bits 16 (λ j. is_member watch (places (16 * (r / 16) + j))) (r % 16) (omega arith)
      ∙ ap (λ (q : ℕ). is_member watch (places q)) n

  pub watches_read : (l : List Watch) → watches_in (watches_of places l) ≡ l
  unfolding watches_in watches_of
  watches_read [] = refl
  watches_read (x ∷ l) = ap₂ ◌∷◌ (watch_laid x) (watches_read l)

  -- ---- in the array

  pub length_watches : (l : List Watch) → length (watches_of places l) ≡ length l
  unfolding watches_of
  length_watches l = length-map l (watch_of places)

  pub laid_at : (l : List Watch) (w : ℕ) (d : DeskWatch) → w < length l → get_or (watches_of places l) w d ≡ watch_of places (watch_at l w)
  unfolding watches_of
  laid_at [] w d h = absurd (not-suc-le-zero h)
  laid_at (x ∷ l) zero d h = refl
  laid_at (x ∷ l) (suc w) d h = laid_at l w d (le_of_suc-le-suc h)

  -- an array with these watches
  pub watches_same : (l : List Watch) (vs : List DeskWatch) → length vs ≡ length l → ((w : ℕ) → w < length l → get_or vs w no_watch ≡ watch_of places (watch_at l w)) → vs ≡ watches_of places l
  watches_same l vs e f = ext_get_or no_watch vs (watches_of places l) (e ∙ sym (length_watches l)) λ w h. f w (omega (arith, e)) ∙ sym (laid_at l w no_watch (omega (arith, e)))

-- ---- an array in any condition

pub length_in : (vs : List DeskWatch) → length (watches_in vs) ≡ length vs
unfolding watches_in
length_in vs = length-map vs watch_in

pub watch_there : (vs : List DeskWatch) (w : ℕ) → watch_at (watches_in vs) w ≡ watch_in (get_or vs w no_watch)
unfolding watches_in watch_in
watch_there vs w = get_or-map watch_in vs w no_watch

-- ---- a watch that is not set

pub covers_area : (watch : Watch) (p : Place) → covers (area_of watch) p ≡ is_member watch (Some p)
unfolding both either
covers_area None p = rw (le-leb 0 p.east (omega arith), le-ltb p.east 0 (omega arith))
covers_area (Some rect) p = refl

blanks : (n : ℕ) → tab n (λ i. bits 16 (λ j. false)) ≡ replicate n 0
unfolding tab
blanks zero = refl
blanks (suc n) = ap₂ (λ (x : ℕ) (l : List ℕ). x ∷ l) (bits_none 16) (blanks n)

pub blank_watch : (places : ℕ → Option Place) → watch_of places None ≡ unset_watch
unfolding watch_of members_of
blank_watch places = ap (λ (l : List ℕ). record unset_watch { members = l }) (blanks member_words)

pub blank_watches : (places : ℕ → Option Place) (n : ℕ) → watches_of places (replicate n None) ≡ replicate n unset_watch
unfolding watches_of
blank_watches places zero = refl
blank_watches places (suc n) = ap₂ ◌∷◌ (blank_watch places) (blank_watches places n)
