-- The radios on get their places one after the other.
use Rattle.std.proofs.Common.{◌≡◌, ℕ, zero, suc, ◌+◌, ◌<◌, eqb, List, length, get_or, sym, refl, ap, ◌∙◌, add-one, arith, eqb-true}
use Rattle.std.specs.Prelude.{Option, None}
use mathlib.Core.Path.{fun_ext}
use borrow.Author.Tests.{eqb-false}
use Rattle.terms.specs.Terms.{Place}
use Rattle.lists.specs.Bits.{bits}
use Rattle.lists.proofs.BitsLaws.{bits_same}
use Rattle.lists.proofs.Cases.{by_cases}
use Rattle.rules.specs.Grid.{Rect, covers}
use Rattle.rules.specs.Plain.{put_at}
use Rattle.rules.specs.Watches.{max_watches, Watch, watch_at, is_member}
use Rattle.desk.specs.declared.Watch.{Watch as DeskWatch}
use Rattle.desk.specs.Layout.{no_watch, watches_of}
use Rattle.desk.specs.Views.{area_in}
use Rattle.desk.proofs.WatchesLaws.{area_laid, laid_at, covers_area}
use Rattle.watch_members.specs.Members.{nowhere, place_at, PlacesOn, Numbers, taken_in, OnceOn, OnlyOn}
use Rattle.watch_members.proofs.RadioLaws.{watches_kept, no_bit}

module _ (places : ℕ → Option Place) (radios : List ℕ) where
  -- the first i radios have their places, nobody else has one
  unfoldable pub places_to : ℕ → ℕ → Option Place
  places_to zero = nowhere
  places_to (suc i) = put_at (get_or radios i 0) (places (get_or radios i 0)) (places_to i)

  to_suc : (i : ℕ) → places_to (i + 1) ≡ put_at (get_or radios i 0) (places (get_or radios i 0)) (places_to i)
  unfolding places_to
  to_suc i = rw add-one

  to_none : (i q : ℕ) → ((j : ℕ) → j < i → get_or radios j 0 ≡ q → ⊥) → places_to i q ≡ None
  unfolding places_to
  to_none zero q n = refl
  to_none (suc i) q n =
      by_cases (eqb q (get_or radios i 0))
      (λ t. absurd (n i (omega arith) (sym (eqb-true q (get_or radios i 0) t))))
      (λ t. rw t (to_none i q (λ j h. n j (omega arith))))

  -- a radio has its place, or is none of the first i
  to_cases : {P : Type 0} (i q : ℕ) → (places_to i q ≡ places q → P) → (((j : ℕ) → j < i → get_or radios j 0 ≡ q → ⊥) → P) → P
  unfolding places_to
  to_cases zero q f g = g (λ j h z. absurd (omega arith))
  to_cases (suc i) q f g =
      by_cases (eqb q (get_or radios i 0))
      (λ t. f (rw t (ap places (sym (eqb-true q (get_or radios i 0) t)))))
      (λ t. to_cases i q (λ e. f (rw t e))
      (λ n. g (λ j h z. by_cases (eqb j i)
      (λ u. eqb-false q (get_or radios i 0) t (sym z ∙ ap (λ (k : ℕ). get_or radios k 0) (eqb-true j i u)))
      (λ u. n j (omega (arith, eqb-false j i u)) z))))

  to_end : (n : ℕ) → OnlyOn places n radios → places_to n ≡ places
  to_end n only = fun_ext (λ q. to_cases n q (λ e. e) (λ m. to_none n q m ∙ sym (only q m)))

  -- ---- one radio after the other

  pub members_start : (l : List Watch) {xs : List DeskWatch} → xs ≡ watches_of nowhere l → xs ≡ watches_of (places_to 0) l
  unfolding places_to
  members_start l e = e

  module _ (l : List Watch) (n : ℕ) where
    -- bit w of a radio's number is set exactly if watch w takes it in
    abbrev pub Taken : List ℕ → Type 0
    Taken numbers = Numbers (λ i. bits max_watches (λ w. is_member (watch_at l w) (places (get_or radios i 0)))) n numbers

    -- the numbers made from the rectangles in an array
    pub Numbers-Taken : {vs : List DeskWatch} {easts norths numbers : List ℕ} → length l ≡ max_watches → vs ≡ watches_of nowhere l → PlacesOn places radios n easts norths
        → Numbers (λ i. taken_in vs (place_at easts norths i)) n numbers → Taken numbers
    Numbers-Taken {easts = easts} {norths = norths} size laid p t = record {
      at = λ i h.
          t.at i h ∙ bits_same max_watches _ (λ w. is_member (watch_at l w) (places (get_or radios i 0))) (λ w k.
          let q = place_at easts norths i in
          ap (λ (x : List DeskWatch). covers (area_in (get_or x w no_watch)) q) laid ∙ ap (λ (v : DeskWatch). covers (area_in v) q) (laid_at nowhere l w no_watch (omega arith))
          ∙ ap (λ (a : Rect). covers a q) (area_laid nowhere (watch_at l w)) ∙ covers_area (watch_at l w) q ∙ ap (is_member (watch_at l w)) (sym (p.at i h)));
    }

    module _ (i : ℕ) {numbers : List ℕ} {xs : List DeskWatch} (taken : Taken numbers) (once : OnceOn n radios) (more : i < n) (laid : xs ≡ watches_of (places_to i) l) where
      -- the radio has none before its turn
      pub next_none : places_to i (get_or radios i 0) ≡ None
      next_none = to_none i (get_or radios i 0) (λ j h z. once.once i j more h (sym z))

      pub members_laid : {ys : List DeskWatch} → ys ≡ watches_of (put_at (get_or radios i 0) (places (get_or radios i 0)) (places_to i)) l → ys ≡ watches_of (places_to (i + 1)) l
      members_laid e = e ∙ ap (λ (f : ℕ → Option Place). watches_of f l) (sym (to_suc i))

      -- no watch takes it in
      pub members_kept : length l ≡ max_watches → get_or numbers i 0 ≡ 0 → xs ≡ watches_of (places_to (i + 1)) l
      members_kept size z =
          members_laid (laid ∙ watches_kept (places_to i) (get_or radios i 0) (places (get_or radios i 0)) l next_none
          (λ w h. no_bit (λ v. is_member (watch_at l v) (places (get_or radios i 0))) (taken.at i more) z w (omega arith)))

    pub members_end : {i : ℕ} {xs : List DeskWatch} → xs ≡ watches_of (places_to i) l → i ≡ n → OnlyOn places n radios → xs ≡ watches_of places l
    members_end e z only = e ∙ ap (λ (k : ℕ). watches_of (places_to k) l) z ∙ ap (λ (f : ℕ → Option Place). watches_of f l) (to_end n only)
