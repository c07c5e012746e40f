-- One radio's bit put in a watch that is laid out.
use mathlib.Core.Bool.{Bool, true, false}
use mathlib.Core.List.{List}
use Rattle.std.specs.Prelude.{Option}
use mathlib.Core.Logic.{◌≢◌}
use mathlib.Core.Path.{◌≡◌, sym, ap, ◌∙◌}
use Prim.Native.Nat.{ℕ, ◌+◌, ◌*◌, ◌/◌, ◌%◌, ◌≤◌, ◌<◌}
use native.Mathlib.Omega.{arith}
use lib.Dec.{eqb}
use lib.ListN.{get_or, set}
use borrow.Author.Tests.{eqb-true, eqb-false, eq-eqb, ne_eqb}
use Rattle.terms.specs.Terms.{Place, max_radio}
use Rattle.lists.specs.Bits.{bits, bit}
use Rattle.lists.specs.Parts.{tab}
use Rattle.lists.proofs.BitsLaws.{bit-bits, bits_same}
use Rattle.lists.proofs.Cases.{by_cases}
use Rattle.lists.proofs.PartsLaws.{get_or-tab, set-tab}
use Rattle.rules.specs.Plain.{put_at}
use Rattle.rules.specs.Watches.{Watch, is_member}
use Rattle.desk.specs.Layout.{member_words, members_of, watch_of}
use Rattle.watches.specs.Watches.{with_member}

module _ (places : ℕ → Option Place) (watch : Watch) (r : ℕ) (radio : r ≤ max_radio) (after : Option Place) (member : Bool) (told : member ≡ is_member watch after) where
  -- the number with the bits of 16 radios
  abbrev number : (ℕ → Option Place) → ℕ → ℕ
  number f i = bits 16 (λ j. is_member watch (f (16 * i + j)))

  -- of the 16 bits only the radio's own may change
  bit_put : (j : ℕ) → j < 16 → put_at (r % 16) member (bit (number places (r / 16))) j ≡ is_member watch (put_at r after places (16 * (r / 16) + j))
  bit_put j h =
      by_cases (eqb j (r % 16))
      (λ t. let e : eqb (16 * (r / 16) + j) r ≡ true = eq-eqb (16 * (r / 16) + j) r (omega (arith, eqb-true j (r % 16) t)) in rw (t, e) told)
      (λ t. let e : eqb (16 * (r / 16) + j) r ≡ false = ne_eqb (16 * (r / 16) + j) r (λ z. eqb-false j (r % 16) t (omega arith)) in
      rw (t, e) (bit-bits 16 (λ n. is_member watch (places (16 * (r / 16) + n))) j h))

  -- the number of other radios
  number_same : (i : ℕ) → i ≢ r / 16 → number (put_at r after places) i ≡ number places i
  number_same i n =
      bits_same 16 (λ j. is_member watch (put_at r after places (16 * i + j))) (λ j. is_member watch (places (16 * i + j)))
      (λ j k. let e : eqb (16 * i + j) r ≡ false = ne_eqb (16 * i + j) r (λ z. n (omega arith)) in rw e)

  numbers_put : (v : ℕ) → v ≡ number places (r / 16)
      → set (tab member_words (number places)) (r / 16) (bits 16 (put_at (r % 16) member (bit v))) ≡ tab member_words (number (put_at r after places))
  numbers_put v e =
      sym (set-tab member_words (number places) (number (put_at r after places)) (r / 16) (bits 16 (put_at (r % 16) member (bit v))) (omega arith)
      (rw e (sym (bits_same 16 (put_at (r % 16) member (bit (number places (r / 16)))) (λ j. is_member watch (put_at r after places (16 * (r / 16) + j))) bit_put))) number_same)

  pub member_put : with_member r member (watch_of places watch) ≡ watch_of (put_at r after places) watch
  unfolding with_member watch_of members_of
  member_put =
      ap (λ (l : List ℕ). record (watch_of places watch) { members = l })
      (numbers_put (get_or (tab member_words (number places)) (r / 16) 0) (get_or-tab member_words (number places) (r / 16) 0 (omega arith)))
