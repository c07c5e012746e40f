-- A radio that had no place gets one: a bit more in each watch that takes it in.
use Rattle.std.proofs.Common.{◌≡◌, ℕ, ◌+◌, ◌<◌, ◌≤◌, Bool, true, false, eqb, List, length, get_or, set, length-set, get_or-set_other, get_or-set_same, sym, refl, ap, ◌∙◌, arith, eqb-true}
use Rattle.std.specs.Prelude.{Option, None, Some}
use mathlib.Core.Path.{fun_ext}
use borrow.Author.Tests.{eqb-false}
use Rattle.terms.specs.Terms.{Place, max_radio}
use Rattle.lists.specs.Bits.{bits, bit}
use Rattle.lists.proofs.BitsLaws.{bit-bits, bits_none}
use Rattle.lists.proofs.Cases.{by_cases}
use Rattle.rules.specs.Plain.{put_at}
use Rattle.rules.specs.Watches.{max_watches, Watch, watch_at, is_member}
use Rattle.desk.specs.declared.Watch.{Watch as DeskWatch}
use Rattle.desk.specs.Layout.{members_of, watch_of, no_watch, watches_of}
use Rattle.desk.proofs.WatchesLaws.{length_watches, laid_at, watches_same}
use Rattle.watches.specs.Watches.{with_member}
use Rattle.watches.proofs.MembersLaws.{member_put}

-- ---- a watch that does not take in the place

never_in : (watch : Watch) → is_member watch None ≡ false
never_in None = refl
never_in (Some rect) = refl

-- it stays as it is
watch_kept : (places : ℕ → Option Place) (r : ℕ) (p : Option Place) (watch : Watch) → places r ≡ None → is_member watch p ≡ false
    → watch_of places watch ≡ watch_of (put_at r p places) watch
unfolding watch_of
watch_kept places r p watch e out = ap (λ (m : ℕ → Bool). record (watch_of places watch) { members = members_of m }) (fun_ext same)
  where
    same : (q : ℕ) → is_member watch (places q) ≡ is_member watch (put_at r p places q)
    same q =
        by_cases (eqb q r)
        (λ t. rw t (ap (λ (x : ℕ). is_member watch (places x)) (eqb-true q r t) ∙ ap (is_member watch) e ∙ never_in watch ∙ sym out))
        (λ t. rw t)

-- where no watch does, none changes
pub watches_kept : (places : ℕ → Option Place) (r : ℕ) (p : Option Place) (l : List Watch) → places r ≡ None → ((w : ℕ) → w < length l → is_member (watch_at l w) p ≡ false)
    → watches_of places l ≡ watches_of (put_at r p places) l
watches_kept places r p l e out =
    watches_same (put_at r p places) l (watches_of places l) (length_watches places l)
    (λ w h. laid_at places l w no_watch h ∙ watch_kept places r p (watch_at l w) e (out w h))

-- ---- the bits of a number

pub bit_tells : (f : ℕ → Bool) {number : ℕ} {b : Bool} (w : ℕ) → number ≡ bits max_watches f → w < max_watches → b ≡ bit number w → b ≡ f w
bit_tells f w e h t = t ∙ ap (λ (n : ℕ). bit n w) e ∙ bit-bits max_watches f w h

pub no_bit : (f : ℕ → Bool) {number : ℕ} → number ≡ bits max_watches f → number ≡ 0 → (w : ℕ) → w < max_watches → f w ≡ false
no_bit f e z w h =
    sym (bit_tells f w e h (sym (ap (λ (n : ℕ). bit n w) (z ∙ sym (bits_none max_watches)) ∙ bit-bits max_watches (λ i. false) w h)))

-- ---- one watch after the other

-- those below w have the bits of the new place, the others are as they were
pub record Raised (places : ℕ → Option Place) (l : List Watch) (r : ℕ) (p : Option Place) (w : ℕ) (vs : List DeskWatch) : Type 0 where
  pub long : length vs ≡ max_watches
  pub done : (v : ℕ) → v < w → v < max_watches → get_or vs v no_watch ≡ watch_of (put_at r p places) (watch_at l v)
  pub left : (v : ℕ) → w ≤ v → v < max_watches → get_or vs v no_watch ≡ watch_of places (watch_at l v)

pub Raised_start : (places : ℕ → Option Place) (l : List Watch) (r : ℕ) (p : Option Place) (vs : List DeskWatch) → length l ≡ max_watches → vs ≡ watches_of places l → Raised places l r p 0 vs
Raised_start places l r p vs n e = record {
  long = ap length e ∙ length_watches places l ∙ n;
  done = λ v h k. absurd (omega arith);
  left = λ v h k. ap (λ (xs : List DeskWatch). get_or xs v no_watch) e ∙ laid_at places l v no_watch (omega arith);
}

module _ {places : ℕ → Option Place} {l : List Watch} {r : ℕ} {p : Option Place} {w : ℕ} {vs : List DeskWatch} (t : Raised places l r p w vs) where
  pub Raised_put : {x : DeskWatch} {xs : List DeskWatch} → w < max_watches → r ≤ max_radio → true ≡ is_member (watch_at l w) p → x ≡ with_member r true (get_or vs w no_watch) → xs ≡ set vs w x
      → Raised places l r p (w + 1) xs
  Raised_put {x = x} more radio told f e =
      let long = t.long in
      let put : x ≡ watch_of (put_at r p places) (watch_at l w) = f ∙ ap (with_member r true) (t.left w (omega arith) more) ∙ member_put places (watch_at l w) r radio p true told in
      record {
        long = ap length e ∙ length-set vs w x ∙ t.long;
        done = λ v h k. rw e (by_cases (eqb v w)
            (λ u. rw (eqb-true v w u) (get_or-set_same vs w x no_watch (omega arith) ∙ put))
            (λ u. let n = eqb-false v w u in get_or-set_other vs w v x no_watch n ∙ t.done v (omega (arith, n)) k));
        left = λ v h k. rw e (get_or-set_other vs w v x no_watch (λ z. absurd (omega arith)) ∙ t.left v (omega arith) k);
      }

  pub Raised_kept : {xs : List DeskWatch} → w < max_watches → places r ≡ None → is_member (watch_at l w) p ≡ false → xs ≡ vs → Raised places l r p (w + 1) xs
  Raised_kept more free out e = record {
    long = ap length e ∙ t.long;
    done = λ v h k. rw e (by_cases (eqb v w)
        (λ u. rw (eqb-true v w u) (t.left w (omega arith) more ∙ watch_kept places r p (watch_at l w) free out))
        (λ u. let n = eqb-false v w u in t.done v (omega (arith, n)) k));
    left = λ v h k. rw e (t.left v (omega arith) k);
  }

  pub Raised_end : max_watches ≤ w → length l ≡ max_watches → vs ≡ watches_of (put_at r p places) l
  Raised_end past n = watches_same (put_at r p places) l vs (t.long ∙ sym n) (λ v h. t.done v (omega arith) (omega arith))
