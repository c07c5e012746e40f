-- The loop of `update`, from watch 15 down to 0.
use mathlib.Core.Bool.{Bool, true, false, cond, not, ◌&&◌}
use mathlib.Core.List.{List}
use Rattle.std.specs.Prelude.{Option, None, Some}
use mathlib.Core.Path.{◌≡◌, refl, sym, ap, ap₂, ◌∙◌}
use Prim.Native.Nat.{ℕ, suc, ◌+◌, ◌-◌, ◌*◌, ◌^◌, ◌≤◌, ◌<◌}
use native.Mathlib.Omega.{arith}
use native.Mathlib.Nat.{pow-suc}
use lib.Dec.{eqb}
use lib.ListN.{length, get_or, set, length-set}
use lib.Seq.{get_or-set_same, get_or-set_other}
use lib.Pow.{pow_mono}
use borrow.Author.Tests.{eqb-true, eqb-false}
use Rattle.terms.specs.Terms.{Place, max_radio}
use Rattle.lists.specs.Bits.{bits}
use Rattle.lists.specs.Tests.{one_if, both}
use Rattle.lists.proofs.BitsLaws.{bits_same}
use Rattle.lists.proofs.Cases.{by_cases}
use Rattle.lists.proofs.TestsLaws.{and_both, both_comm, one_if-le}
use Rattle.rules.specs.Grid.{Rect, covers}
use Rattle.rules.specs.Plain.{put_at}
use Rattle.rules.specs.Watches.{max_watches, Watch, watch_at, is_member, gained}
use Rattle.desk.specs.declared.Watch.{Watch as DeskWatch}
use Rattle.desk.specs.Layout.{area_of, watch_of, no_watch, watches_of}
use Rattle.desk.specs.Views.{area_in, member_in}
use Rattle.desk.proofs.WatchesLaws.{area_laid, member_laid, length_watches, laid_at, watches_same, covers_area}
use Rattle.watches.specs.Watches.{with_member, AfterUpdate}
use Rattle.watches.proofs.MembersLaws.{member_put}

-- ---- a number made from its highest bit down

-- bits w to 15
unfoldable pub bits_from : (ℕ → Bool) → ℕ → ℕ
bits_from f w = bits (max_watches - w) (λ j. f (w + j))

pub from_end : (f : ℕ → Bool) → 0 ≡ bits_from f max_watches
unfolding bits_from bits
from_end f = refl

pub from_turn : (f : ℕ → Bool) (w : ℕ) → 0 < w → w ≤ max_watches → one_if (f (w - 1)) + 2 * bits_from f w ≡ bits_from f (w - 1)
unfolding bits_from bits
from_turn f w h k =
    let n : max_watches - (w - 1) ≡ suc (max_watches - w) = omega arith in
    let z : w - 1 ≡ w - 1 + 0 = omega arith in
    rw n (ap₂ (λ (q v : ℕ). one_if (f q) + 2 * v) z
    (bits_same (max_watches - w) (λ j. f (w + j)) (λ j. f (w - 1 + suc j)) (λ j i. let e : w + j ≡ w - 1 + suc j = omega arith in ap f e)))

pub from_start : (f : ℕ → Bool) → bits_from f 0 ≡ bits max_watches f
unfolding bits_from
from_start f = bits_same max_watches (λ j. f (0 + j)) f (λ j i. let e : 0 + j ≡ j = omega arith in ap f e)

-- as many bits as are made: while one is left to make, there is room for it
pub bits_room : (w v : ℕ) → 0 < w → v < 2 ^ (max_watches - w) → v < 32768
bits_room w v h k = let n : max_watches - w ≤ 15 = omega arith in let m : 2 ^ (max_watches - w) ≤ 2 ^ 15 = pow_mono n in omega arith

pub bits_turn : (b : Bool) {v r : ℕ} (w : ℕ) → 0 < w → w ≤ max_watches → v < 2 ^ (max_watches - w) → r ≡ one_if b + 2 * v → r < 2 ^ (max_watches - (w - 1))
bits_turn b w h k m e =
    let n : max_watches - (w - 1) ≡ suc (max_watches - w) = omega arith in
    rw n (omega (arith, one_if-le b, pow-suc 2 (max_watches - w)))

-- ---- the watches from w on are brought up to date

-- the watch under a number gained the radio
abbrev gained_by : List Watch → Option Place → Option Place → ℕ → Bool
gained_by l before after v = both (not (is_member (watch_at l v) before)) (is_member (watch_at l v) after)

-- those from w on have the bits of the new place, those below w are as they were; the numbers have the bits from w on
pub record Turned (places : ℕ → Option Place) (l : List Watch) (r : ℕ) (after : Option Place) (w : ℕ) (vs : List DeskWatch) (gains losses : ℕ) : Type 0 where
  pub long : length vs ≡ max_watches
  pub done : (v : ℕ) → w ≤ v → v < max_watches → get_or vs v no_watch ≡ watch_of (put_at r after places) (watch_at l v)
  pub left : (v : ℕ) → v < w → v < max_watches → get_or vs v no_watch ≡ watch_of places (watch_at l v)
  pub gained_now : gains ≡ bits_from (gained_by l (places r) after) w
  pub lost_now : losses ≡ bits_from (gained_by l after (places r)) w

pub Turned_start : (places : ℕ → Option Place) (l : List Watch) (r : ℕ) (after : Option Place) (vs : List DeskWatch) → length l ≡ max_watches → vs ≡ watches_of places l
    → Turned places l r after max_watches vs 0 0
Turned_start places l r after vs n e = record {
  long = ap length e ∙ length_watches places l ∙ n;
  done = λ v h k. absurd (omega arith);
  left = λ v h i. ap (λ (xs : List DeskWatch). get_or xs v no_watch) e ∙ laid_at places l v no_watch (omega arith);
  gained_now = from_end (gained_by l (places r) after);
  lost_now = from_end (gained_by l after (places r));
}

-- the code's tests of a gain and a loss
and_not : {a b p q : Bool} → a ≡ p → b ≡ q → (a && not b) ≡ both (not q) p
and_not {p = p} {q = q} e f = rw (e, f) (and_both p (not q) ∙ both_comm p (not q))

-- a place is taken in, and a radio without one is not
pub placed_in : (x : Watch) {area a : Rect} (p : Place) {covered : Bool} → covered ≡ covers a p → a ≡ area → area ≡ area_of x → covered ≡ is_member x (Some p)
placed_in x p c e f = c ∙ ap (λ (a : Rect). covers a p) (e ∙ f) ∙ covers_area x p

pub none_in : (x : Watch) → false ≡ is_member x None
none_in None = refl
none_in (Some rect) = refl

module _ {places : ℕ → Option Place} {l : List Watch} {r : ℕ} {after : Option Place} {w : ℕ} {vs : List DeskWatch} {gains losses : ℕ}
    (t : Turned places l r after w vs gains losses) (more : 0 < w) (within : w ≤ max_watches) (radio : r ≤ max_radio) where
  abbrev next : ℕ
  next = w - 1

  abbrev watch : Watch
  watch = watch_at l next

  held : get_or vs next no_watch ≡ watch_of places watch
  held = t.left next (omega arith) (omega arith)

  -- a watch that is brought up to date
  pub Turned_turn : {is was : Bool} {x : DeskWatch} {gains' losses' : ℕ} → ((y : Watch) → area_in (get_or vs next no_watch) ≡ area_of y → is ≡ is_member y after)
      → was ≡ member_in (get_or vs next no_watch) r → x ≡ with_member r is (get_or vs next no_watch)
      → gains' ≡ one_if (is && not was) + 2 * gains → losses' ≡ one_if (was && not is) + 2 * losses
      → Turned places l r after next (set vs next x) gains' losses'
  Turned_turn {is = is} {x = x} a m e f g =
      let inside = a watch (ap area_in held ∙ area_laid places watch) in
      let had = m ∙ ap (λ (d : DeskWatch). member_in d r) held ∙ member_laid places watch r radio in
      let put : x ≡ watch_of (put_at r after places) watch = e ∙ ap (with_member r is) held ∙ member_put places watch r radio after is inside in
      let long = t.long in
      record {
        long = length-set vs next x ∙ t.long;
        done = λ v h k. by_cases (eqb v next)
            (λ z. rw (eqb-true v next z) (get_or-set_same vs next x no_watch (omega arith) ∙ put))
            (λ z. let n = eqb-false v next z in get_or-set_other vs next v x no_watch n ∙ t.done v (omega arith) k);
        left = λ v h k. get_or-set_other vs next v x no_watch (λ z. absurd (omega arith)) ∙ t.left v (omega arith) k;
        gained_now = f ∙ ap₂ (λ (b : Bool) (n : ℕ). one_if b + 2 * n) (and_not inside had) t.gained_now ∙ from_turn (gained_by l (places r) after) w more within;
        lost_now = g ∙ ap₂ (λ (b : Bool) (n : ℕ). one_if b + 2 * n) (and_not had inside) t.lost_now ∙ from_turn (gained_by l after (places r)) w more within;
      }

pub Turned_end : {places : ℕ → Option Place} {l : List Watch} {r w : ℕ} {after : Option Place} {vs : List DeskWatch} {gains losses : ℕ}
    → Turned places l r after w vs gains losses → w ≡ 0 → length l ≡ max_watches → AfterUpdate places l r after vs (record { gained = gains; lost = losses })
unfolding gained
Turned_end {places} {l} {r} {w} {after} {vs} t z n = record {
  words = watches_same (put_at r after places) l vs (t.long ∙ sym n) (λ v h. t.done v (omega (arith, z)) (omega (arith, n)));
  gains = t.gained_now ∙ ap (bits_from (gained_by l (places r) after)) z ∙ from_start (gained_by l (places r) after);
  losses = t.lost_now ∙ ap (bits_from (gained_by l after (places r))) z ∙ from_start (gained_by l after (places r));
}
