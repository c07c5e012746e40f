-- From what setting and clearing a watch leave to what the call answers.
use mathlib.Core.Bool.{Bool, true, false}
use mathlib.Core.List.{List, []}
use Rattle.std.specs.Prelude.{Option, None, Some}
use mathlib.Core.Path.{◌≡◌, refl, sym, ap, ap₂, ◌∙◌}
use Prim.Native.Nat.{ℕ, ◌≤◌, ◌<◌}
use native.Mathlib.Omega.{arith}
use lib.Dec.{eqb}
use lib.ListN.{get_or, set}
use lib.Seq.{map-set}
use borrow.Author.Tests.{ne_eqb, le-leb, lt-leb}
use Rattle.terms.specs.Terms.{Place}
use Rattle.terms.specs.Refusals.{number_of}
use Rattle.terms.specs.declared.Refusal.{Refusal}
use Rattle.terms.specs.declared.Refusal.TheVariants.{WrongSize, Unsound, NotAtHand, UnknownKind, WrongLength, NoRadio, Reversed, OnAlready, NotOn, NoRoom, ShortBuffer, NoFix, TooEarly, NoWatch, BadLine}
use Rattle.lists.specs.Tests.{either, is_some}
use Rattle.rules.specs.Grid.{Rect, is_reversed}
use Rattle.rules.specs.Watches.{max_watches, Watch, watch_at, Watched, latest_place}
use Rattle.rules.specs.Calls.{Call, sets, clears, numbered, with_watch, set_refusal, clear_refusal, watch_call, carry_call}
use Rattle.desk.specs.declared.Desk.{Desk}
use Rattle.desk.specs.declared.Answer.{Answer}
use Rattle.desk.specs.Held.{desk_with, desk_ledger}
use Rattle.desk.specs.declared.Watch.{Watch as DeskWatch}
use Rattle.desk.specs.Layout.{unset_watch, no_watch, watches_of, desk_of, pages_of}
use Rattle.desk.specs.Sound.{SoundLedger, Sound}
use Rattle.desk.specs.Views.{watch_in, watches_in}
use Rattle.desk.specs.Call.{handed, left, laid_out, CarriedOut}
use Rattle.desk.proofs.PagesLaws.{pages_Laid}
use Rattle.desk.proofs.UniqueLaws.{Sound_ledger, desk_watches}
use Rattle.desk.proofs.WatchesLaws.{watches_read, watch_there, blank_watch}
use Rattle.watching.specs.Watching.{Passes}
use Rattle.watches.specs.Watches.{with_area}
use Rattle.watches.proofs.AreaLaws.{put_watch}

-- ---- a desk with other watches

-- a sound desk whose watches have become z beside the same store
pub rewatched : (d : Desk) (b : List ℕ) (s : Sound d b) (z : List Watch) {vs : List DeskWatch} → vs ≡ watches_of (latest_place s.watched.store) z
    → desk_with d.parts d.cells d.waiting d.memo d.on vs ≡ desk_of (record { store = s.watched.store; watches = z })
unfolding desk_of
rewatched d b s z e = let l = (Sound_ledger s).held in λ i. desk_with (l i).parts (l i).cells (l i).waiting (l i).memo (l i).on (e i)

-- ---- what is answered

module _ (d : Desk) (b : List ℕ) (s : Sound d b) where
  pages_are : b ≡ pages_of s.watched.store
  pages_are = pages_Laid s.watched.store s.well.once b s.laid

  -- a number, and the desk of a store with these watches
  leaves : (n : ℕ) (x : Watched) (e : Desk) → x.store ≡ s.watched.store → e ≡ desk_of x
      → left (record { number = n; count = 0; gained = 0; lost = 0 }) e b [] ≡ laid_out (numbered n x [])
  unfolding laid_out
  leaves n x e same f =
      let p = pages_are ∙ ap pages_of (sym same) in
      λ i. record { number = n; count = 0; gained = 0; lost = 0; desk = f i; pages = p i; buffer = [] }

  -- what is told: a number, beside the desk that is left
  by_told : (n : ℕ) (call : Call) {a : Answer} {e : Desk} (x : Watched) → a ≡ record { number = n; count = 0; gained = 0; lost = 0 } → x.store ≡ s.watched.store → e ≡ desk_of x
      → carry_call call s.watched [] ≡ numbered n x [] → CarriedOut (handed d b call []) s (left a e b [])
  by_told n call {e = e} x told same f c = ap (λ (z : Answer). left z e b []) told ∙ leaves n x e same f ∙ ap laid_out (sym c)

-- ---- setting

refused_set : (w n : ℕ) (watch : Watch) (x : Watched) → eqb n 0 ≡ false → watch_call n w watch x [] ≡ numbered n x []
unfolding watch_call
refused_set w n watch x t = rw t

accepted_set : (w : ℕ) (watch : Watch) (x : Watched) → watch_call 0 w watch x [] ≡ numbered 0 (with_watch w watch x) []
unfolding watch_call
accepted_set w watch x = refl

-- ---- why it is turned down

never_zero : (e : Refusal) → number_of e ≡ 0 → ⊥
never_zero WrongSize z = omega arith
never_zero Unsound z = omega arith
never_zero NotAtHand z = omega arith
never_zero UnknownKind z = omega arith
never_zero WrongLength z = omega arith
never_zero NoRadio z = omega arith
never_zero Reversed z = omega arith
never_zero OnAlready z = omega arith
never_zero NotOn z = omega arith
never_zero NoRoom z = omega arith
never_zero ShortBuffer z = omega arith
never_zero NoFix z = omega arith
never_zero TooEarly z = omega arith
never_zero NoWatch z = omega arith
never_zero BadLine z = omega arith

-- in the code's three cases
pub above_fifteen : (w : ℕ) (rect : Rect) → max_watches ≤ w → 14 ≡ set_refusal w rect
above_fifteen w rect h = rw (le-leb max_watches w h)

module _ (w : ℕ) (rect : Rect) {t : Bool} (h : w < max_watches) (f : t ≡ is_reversed rect) where
  pub set_reversed : t ≡ true → 7 ≡ set_refusal w rect
  set_reversed e = rw (lt-leb max_watches w h, sym f ∙ e)

  pub set_passes : t ≡ false → Passes w (set_refusal w rect) w
  set_passes e = record { named = refl; few = h; passes = rw (lt-leb max_watches w h, sym f ∙ e) }

pub set_refused : (d : Desk) (b : List ℕ) (s : Sound d b) (w : ℕ) (rect : Rect) (e : Refusal) {a : Answer} → number_of e ≡ set_refusal w rect → a ≡ record { number = number_of e; count = 0; gained = 0; lost = 0 }
    → CarriedOut (handed d b (sets w rect) []) s (left a d b [])
unfolding carry_call
set_refused d b s w rect e f told =
    by_told d b s (number_of e) (sets w rect) s.watched told refl s.held
    (ap (λ (m : ℕ). watch_call m w (Some rect) s.watched []) (sym f) ∙ refused_set w (number_of e) (Some rect) s.watched (ne_eqb (number_of e) 0 (never_zero e)))

-- the watches that the array has after a rectangle is put
areas_put : (places : ℕ → Option Place) (l : List Watch) (w : ℕ) (rect : Rect) {vs : List DeskWatch} → vs ≡ watches_of places l
    → watches_in (set vs w (with_area rect (get_or vs w no_watch))) ≡ set l w (Some rect)
unfolding watches_in watch_in
areas_put places l w rect {vs} held = map-set watch_in vs w (with_area rect (get_or vs w no_watch)) ∙ ap (λ (z : List Watch). set z w (Some rect)) (ap watches_in held ∙ watches_read places l)

pub set_done : (d : Desk) (b : List ℕ) (s : Sound d b) (watch w : ℕ) (rect : Rect) {x : DeskWatch} {laid vs : List DeskWatch} {a : Answer} → Passes watch (set_refusal watch rect) w
    → x ≡ with_area rect (get_or d.watches w no_watch) → ((z : SoundLedger (desk_ledger d) b) → laid ≡ watches_of (latest_place z.store) (watches_in (set d.watches w x))) → vs ≡ laid
    → a ≡ record { number = 0; count = 0; gained = 0; lost = 0 }
    → CarriedOut (handed d b (sets watch rect) []) s (left a (desk_with d.parts d.cells d.waiting d.memo d.on vs) b [])
unfolding carry_call
set_done d b s watch w rect f e g v q =
    let places = latest_place s.watched.store in
    let l = s.watched.watches in
    let held = ap (λ (x : Desk). x.watches) s.held ∙ desk_watches s.watched in
    let laid = v ∙ g (Sound_ledger s) ∙ ap (watches_of places) (ap (λ (y : DeskWatch). watches_in (set d.watches w y)) e ∙ areas_put places l w rect held) in
    by_told d b s 0 (sets watch rect) (with_watch w (Some rect) s.watched) q refl (rewatched d b s (set l w (Some rect)) laid)
    (ap₂ (λ (m v : ℕ). watch_call m v (Some rect) s.watched []) f.passes (sym f.named) ∙ accepted_set w (Some rect) s.watched)

-- ---- clearing

-- in the code's three cases
pub clear_above : (vs : List DeskWatch) (w : ℕ) → max_watches ≤ w → 14 ≡ clear_refusal w (watches_in vs)
unfolding either
clear_above vs w h = rw (le-leb max_watches w h)

module _ (vs : List DeskWatch) (w : ℕ) {t : Bool} (h : w < max_watches) (f : t ≡ is_some (watch_in (get_or vs w no_watch))) where
  there : is_some (watch_at (watches_in vs) w) ≡ t
  there = ap is_some (watch_there vs w) ∙ sym f

  pub clear_passes : t ≡ true → Passes w (clear_refusal w (watches_in vs)) w
  unfolding either
  clear_passes e = record { named = refl; few = h; passes = rw (lt-leb max_watches w h, there ∙ e) }

  pub clear_unset : t ≡ false → 14 ≡ clear_refusal w (watches_in vs)
  unfolding either
  clear_unset e = rw (lt-leb max_watches w h, there ∙ e)

module _ (d : Desk) (b : List ℕ) (s : Sound d b) (watch : ℕ) where
  abbrev l : List Watch
  l = s.watched.watches

  held : d.watches ≡ watches_of (latest_place s.watched.store) l
  held = ap (λ (x : Desk). x.watches) s.held ∙ desk_watches s.watched

  -- the watches that the array has are those that are set
  refusal_is : {n : ℕ} → n ≡ clear_refusal watch (watches_in d.watches) → clear_refusal watch l ≡ n
  refusal_is f = sym (f ∙ ap (λ (z : List Watch). clear_refusal watch z) (ap watches_in held ∙ watches_read (latest_place s.watched.store) l))

  pub clear_refused : (e : Refusal) {a : Answer} → number_of e ≡ clear_refusal watch (watches_in d.watches) → a ≡ record { number = number_of e; count = 0; gained = 0; lost = 0 }
      → CarriedOut (handed d b (clears watch) []) s (left a d b [])
  unfolding carry_call
  clear_refused e f told =
      by_told d b s (number_of e) (clears watch) s.watched told refl s.held
      (ap (λ (m : ℕ). watch_call m watch None s.watched []) (refusal_is f) ∙ refused_set watch (number_of e) None s.watched (ne_eqb (number_of e) 0 (never_zero e)))

  pub clear_done : {w : ℕ} {vs : List DeskWatch} {a : Answer} → Passes watch (clear_refusal watch (watches_in d.watches)) w → vs ≡ set d.watches w unset_watch
      → a ≡ record { number = 0; count = 0; gained = 0; lost = 0 }
      → CarriedOut (handed d b (clears watch) []) s (left a (desk_with d.parts d.cells d.waiting d.memo d.on vs) b [])
  unfolding carry_call
  clear_done {w = w} f v q =
      let places = latest_place s.watched.store in
      let laid = v ∙ ap₂ (λ (xs : List DeskWatch) (x : DeskWatch). set xs w x) held (sym (blank_watch places)) ∙ put_watch places l w None in
      by_told d b s 0 (clears watch) (with_watch w None s.watched) q refl (rewatched d b s (set l w None) laid)
      (ap₂ (λ (m v : ℕ). watch_call m v None s.watched []) (refusal_is (sym f.passes)) (sym f.named) ∙ accepted_set w None s.watched)
