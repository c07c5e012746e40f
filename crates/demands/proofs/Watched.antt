-- Watched rectangles hold what they must after every list of calls: the members follow from the latest places, and these are the plain rule's.
use mathlib.Core.Bool.{Bool, true, false, not, cond}
use mathlib.Core.List.{List, ◌∷◌}
use mathlib.Core.Logic.{◌≢◌}
use Rattle.std.specs.Prelude.{Option, None, Some}
use mathlib.Core.Path.{◌≡◌, refl, sym, ap, ap₂, ◌∙◌}
use Prim.Native.Nat.{ℕ, ◌+◌, ◌*◌, ◌<◌}
use native.Mathlib.Omega.{arith}
use lib.Dec.{eqb}
use lib.ListN.{length, set, length-set}
use lib.Seq.{ext_get_or, get_or-set_other}
use borrow.Author.Tests.{eqb-true, eqb-false, ne_eqb}
use Rattle.terms.specs.Terms.{Place, Fix}
use Rattle.lists.specs.Bits.{bits, bit}
use Rattle.lists.specs.Parts.{part}
use Rattle.lists.specs.Tests.{one_if, both, is_some}
use Rattle.lists.specs.Words.{Bytes}
use Rattle.lists.proofs.BitsLaws.{bit-bits, bits_same}
use Rattle.lists.proofs.Cases.{by_cases}
use Rattle.lists.proofs.PartsLaws.{length-part, get_or-part, tab_ext}
use Rattle.csv_grammar.specs.Csv.{file_of}
use Rattle.rules.specs.Everyone.{everyone}
use Rattle.rules.specs.Store.{Store}
use Rattle.rules.specs.Records.{request_of, refusal, kind_field, kind_sign_on, kind_report, kind_sign_off, radio_field}
use Rattle.rules.specs.Carry.{is_on, on_count, latest, carry}
use Rattle.rules.specs.Plain.{Plain, place_of, plain_step}
use Rattle.rules.specs.Told.{Told, told_file}
use Rattle.rules.specs.Watches.{max_watches, Watch, watch_at, is_member, latest_place, gained, lost}
use Rattle.rules.specs.Calls.{Call, hands, sets, clears, writes, filed, carry_record, carry_call, watch_call, numbered, set_refusal, clear_refusal}
use Rattle.rules.specs.WellFormed.{WellFormed}
use Rattle.rules.proofs.LatestLaws.{latest_by, step_latest}
use Rattle.rules.proofs.LinkLaws.{latest_same}
use Rattle.desk.specs.declared.Watch.{Watch as DeskWatch}
use Rattle.desk.specs.declared.Desk.{Desk}
use Rattle.desk.specs.Layout.{member_words, members_of, watch_of, no_watch, watches_of}
use Rattle.desk.specs.Views.{watch_in, member_in}
use Rattle.desk.specs.Call.{After, handed, Answers, laid_out}
use Rattle.desk.proofs.CallLaws.{answers_Sound}
use Rattle.desk.proofs.UniqueLaws.{desk_watches}
use Rattle.desk.proofs.WatchesLaws.{laid_at, watch_laid, member_laid}
use Rattle.demands.specs.Trace.{InBytes, Trace, begun, called, desk_cuts, watches_set, EveryState, Step, EveryCall}
use Rattle.std.specs.Prelude.{get_or}
use Rattle.demands.specs.Watched.{watch_part, Watching, was_member, now_member, Moves, Changes, Stays, MovedBy, WatchedAlways}
use Rattle.demands.proofs.Demands.{Beside, watched, sound, begins, outcome, beside, watched_then}

-- ---- the watches of a desk beside its store

module _ {d : Desk} {b : List ℕ} {x : Plain} {l : List Watch} (k : Beside d b x l) where
  watches_are : d.watches ≡ watches_of (latest_place k.store) l
  watches_are = ap (λ (e : Desk). e.watches) k.held ∙ desk_watches (watched k)

  place_same : (r : ℕ) → latest_place k.store r ≡ place_of (x.latest r)
  place_same r = ap place_of (latest_same k.store x k.link r)

  watch_is : (w : ℕ) → w < max_watches → watch_part d w ≡ watch_of (latest_place k.store) (watch_at l w)
  watch_is w h = ap (λ (vs : List DeskWatch). get_or vs w no_watch) watches_are ∙ laid_at (latest_place k.store) l w no_watch (omega (arith, k.right.sixteen))

  watching : Watching d b x l
  watching = record {
    watch = λ w h. ap watch_in (watch_is w h) ∙ watch_laid (latest_place k.store) (watch_at l w);
    members = λ w r h i.
        ap (λ (v : DeskWatch). member_in v r) (watch_is w h) ∙ member_laid (latest_place k.store) (watch_at l w) r i ∙ ap (is_member (watch_at l w)) (place_same r);
  }

-- ---- one watch

-- it depends on who is a member alone
members_same : (f g : ℕ → Option Place) (watch : Watch) → ((r : ℕ) → is_member watch (f r) ≡ is_member watch (g r)) → watch_of f watch ≡ watch_of g watch
unfolding watch_of members_of
members_same f g watch e =
    let m = tab_ext member_words (λ i. bits 16 (λ j. is_member watch (f (16 * i + j)))) (λ i. bits 16 (λ j. is_member watch (g (16 * i + j))))
    (λ i h. bits_same 16 (λ j. is_member watch (f (16 * i + j))) (λ j. is_member watch (g (16 * i + j))) (λ j k. e (16 * i + j))) in
    ap (λ (n : List ℕ). record (watch_of f watch) { members = n }) m

-- ---- a record

-- no other radio's latest place changes
request_else : (b : List ℕ) (before : ℕ → Option Fix) (p : ℕ) → p ≢ radio_field b → latest_by (request_of b) before p ≡ before p
unfolding request_of latest_by
request_else b before p n =
    let other = ne_eqb p (radio_field b) n in
    by_cases (eqb (kind_field b) kind_sign_on) (λ t. rw (t, other)) (λ t.
    rw t (by_cases (eqb (kind_field b) kind_report) (λ u. rw (u, other)) (λ u.
    rw u (by_cases (eqb (kind_field b) kind_sign_off) (λ v. rw (v, other)) (λ v. rw v)))))

stays_else : (s : Store) (bytes buffer : List ℕ) → Bytes bytes → WellFormed s → (p : ℕ) → p ≢ radio_field bytes → latest_place (carry s bytes buffer).store p ≡ latest_place s p
stays_else s bytes buffer small w p n = ap place_of (step_latest s bytes buffer small w p ∙ either_way)
  where
    either_way : cond (eqb (refusal s.highest (is_on s) (on_count s) bytes) 0) (latest_by (request_of bytes) (latest s) p) (latest s p) ≡ latest s p
    either_way = by_cases (eqb (refusal s.highest (is_on s) (on_count s) bytes) 0) (λ t. rw t (request_else bytes (latest s) p n)) (λ t. rw t)

-- neither came nor went
neither : (was is : Bool) → both (not was) is ≡ false → both (not is) was ≡ false → is ≡ was
unfolding both
neither true true e f = refl
neither true false e f = sym f
neither false true e f = e
neither false false e f = refl

module _ {d : Desk} {b : List ℕ} {x : Plain} {l : List Watch} (k : Beside d b x l) (bytes buffer : List ℕ) {y : After} (e : y ≡ laid_out (carry_record bytes (watched k) buffer)) (small : Bytes bytes) where
  abbrev s : Store
  s = k.store

  abbrev s' : Store
  s' = (carry s bytes buffer).store

  abbrev step : Step
  step = record { desk = d; plain = x; watches = l; call = hands bytes; buffer = buffer; after = y }

  then_place : latest_place s' (radio_field bytes) ≡ place_of ((plain_step (desk_cuts d) bytes x).latest (radio_field bytes))
  unfolding outcome
  then_place = place_same (outcome k bytes buffer e small) (radio_field bytes)

  gained_is : y.gained ≡ gained l (place_of (x.latest (radio_field bytes))) (place_of ((plain_step (desk_cuts d) bytes x).latest (radio_field bytes)))
  unfolding laid_out carry_record
  gained_is = ap (λ (z : After). z.gained) e ∙ ap₂ (λ (p q : Option Place). gained l p q) (place_same k (radio_field bytes)) then_place

  lost_is : y.lost ≡ lost l (place_of (x.latest (radio_field bytes))) (place_of ((plain_step (desk_cuts d) bytes x).latest (radio_field bytes)))
  unfolding laid_out carry_record
  lost_is = ap (λ (z : After). z.lost) e ∙ ap₂ (λ (p q : Option Place). lost l p q) (place_same k (radio_field bytes)) then_place

  gains : (w : ℕ) → w < max_watches → bit y.gained w ≡ both (not (was_member step bytes w)) (now_member step bytes w)
  unfolding gained
  gains w h = ap (λ (v : ℕ). bit v w) gained_is ∙ bit-bits max_watches _ w h

  losses : (w : ℕ) → w < max_watches → bit y.lost w ≡ both (not (now_member step bytes w)) (was_member step bytes w)
  unfolding gained
  losses w h = ap (λ (v : ℕ). bit v w) lost_is ∙ bit-bits max_watches _ w h

  members_stay : (w : ℕ) → w < max_watches → bit y.gained w ≡ false → bit y.lost w ≡ false → (r : ℕ) → is_member (watch_at l w) (latest_place s' r) ≡ is_member (watch_at l w) (latest_place s r)
  members_stay w h g o r =
      by_cases (eqb r (radio_field bytes))
      (λ t. let z = eqb-true r (radio_field bytes) t in
      ap (λ (n : ℕ). is_member (watch_at l w) (latest_place s' n)) z ∙ ap (is_member (watch_at l w)) then_place
      ∙ neither (was_member step bytes w) (now_member step bytes w) (sym (gains w h) ∙ g) (sym (losses w h) ∙ o)
      ∙ ap (is_member (watch_at l w)) (sym (place_same k (radio_field bytes))) ∙ ap (λ (n : ℕ). is_member (watch_at l w) (latest_place s n)) (sym z))
      (λ t. ap (is_member (watch_at l w)) (stays_else s bytes buffer small k.well r (eqb-false r (radio_field bytes) t)))

  watches_then : y.desk.watches ≡ watches_of (latest_place s') l
  unfolding outcome
  watches_then = watches_are (outcome k bytes buffer e small)

  moves : Moves step bytes
  moves = record {
    gains = gains;
    losses = losses;
    others = λ w h g o.
        ap (λ (vs : List DeskWatch). get_or vs w no_watch) watches_then ∙ laid_at (latest_place s') l w no_watch (omega (arith, k.right.sixteen))
        ∙ members_same (latest_place s') (latest_place s) (watch_at l w) (members_stay w h g o) ∙ sym (watch_is k w h);
  }

-- ---- a watch that is set or cleared

module _ {d : Desk} {b : List ℕ} {x : Plain} {l : List Watch} (k : Beside d b x l) (number w : ℕ) (watch : Watch) (call : Call) (buffer : List ℕ) {y : After}
    (e : y ≡ laid_out (watch_call number w watch (watched k) buffer)) where
  abbrev z : List Watch
  z = cond (eqb number 0) (set l w watch) l

  told : y ≡ laid_out (numbered number (record { store = k.store; watches = z }) buffer)
  told = e ∙ ap laid_out (watched_then k.store l number w watch buffer)

  now_watches : y.desk.watches ≡ watches_of (latest_place k.store) z
  unfolding laid_out
  now_watches = ap (λ (a : After). a.desk.watches) told ∙ desk_watches (record { store = k.store; watches = z })

  now_sixteen : length z ≡ max_watches
  now_sixteen = by_cases (eqb number 0) (λ t. rw t (length-set l w watch ∙ k.right.sixteen)) (λ t. rw t k.right.sixteen)

  other_watch : (v : ℕ) → v ≢ w → watch_at z v ≡ watch_at l v
  other_watch v n = by_cases (eqb number 0) (λ t. rw t (get_or-set_other l w v watch None n)) (λ t. rw t)

  changes : Changes (record { desk = d; plain = x; watches = l; call = call; buffer = buffer; after = y }) w
  unfolding laid_out
  changes = record {
    none_gained = ap (λ (a : After). a.gained) told;
    none_lost = ap (λ (a : After). a.lost) told;
    others = λ v h n.
        ap (λ (vs : List DeskWatch). get_or vs v no_watch) now_watches ∙ laid_at (latest_place k.store) z v no_watch (omega (arith, now_sixteen))
        ∙ ap (watch_of (latest_place k.store)) (other_watch v n) ∙ sym (watch_is k v h);
  }

-- ---- a file that is written

stays : {d : Desk} {b : List ℕ} {x : Plain} {l : List Watch} (k : Beside d b x l) (t : Told) (buffer : List ℕ) {y : After} → y ≡ laid_out (filed t (watched k))
    → Stays (record { desk = d; plain = x; watches = l; call = writes; buffer = buffer; after = y })
unfolding laid_out
stays k t buffer e = record {
  none_gained = ap (λ (a : After). a.gained) e;
  none_lost = ap (λ (a : After). a.lost) e;
  all = ap (λ (a : After). a.desk) e ∙ sym k.held;
}

-- ---- over the whole list

moved_by : {d : Desk} {b : List ℕ} {x : Plain} {l : List Watch} (k : Beside d b x l) (call : Call) (buffer : List ℕ) (y : After) → InBytes call → Answers (handed d b call buffer) y
    → MovedBy (record { desk = d; plain = x; watches = l; call = call; buffer = buffer; after = y }) call
unfolding carry_call
moved_by k (hands bytes) buffer y small a = moves k bytes buffer (answers_Sound a (sound k)) small
moved_by {l = l} k (sets w rect) buffer y small a = changes k (set_refusal w rect) w (Some rect) (sets w rect) buffer (answers_Sound a (sound k))
moved_by {l = l} k (clears w) buffer y small a = changes k (clear_refusal w l) w None (clears w) buffer (answers_Sound a (sound k))
moved_by k writes buffer y small a = stays k (told_file (file_of (everyone k.store)) buffer) buffer (answers_Sound a (sound k))

every_state : {d : Desk} {b : List ℕ} {x : Plain} (t : Trace d b x) → EveryState Watching t
unfolding watches_set
every_state begun = watching begins
every_state (called t call buffer y small a) = (every_state t, watching (beside (called t call buffer y small a)))

every_move : {d : Desk} {b : List ℕ} {x : Plain} (t : Trace d b x) → EveryCall (λ c. MovedBy c c.call) t
every_move begun = tt
every_move (called t call buffer y small a) = (every_move t, moved_by (beside t) call buffer y small a)

pub watched_always : WatchedAlways
watched_always d b x t = record { states = every_state t; calls = every_move t }
