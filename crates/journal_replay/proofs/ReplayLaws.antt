-- A journal's run goes on by a call: what the plain rule tells of it says where the next record stands and how many bytes the answer has.
use mathlib.Core.Bool.{false, cond}
use mathlib.Core.List.{List, [], ◌∷◌, ◌++◌, append_assoc, append-nil}
use mathlib.Core.Path.{◌≡◌, refl, sym, ap, ◌∙◌}
use Prim.Native.Nat.{ℕ, ◌+◌, ◌-◌, ◌*◌, ◌<◌, ◌≤◌}
use native.Mathlib.Omega.{arith}
use lib.Dec.{eqb, ltb}
use lib.ListN.{length, take, drop, length-append, length-drop, take-append-drop, drop_of_length-le}
use lib.Seq.{take_all, drop-length, drop-drop, get_or-drop, take-append-le, take-take, drop_at, length-take-le}
use borrow.Author.Tests.{ltb-false, eqb-true, eqb-false, ne_eqb}
use Rattle.terms.specs.Terms.{Place, field_bytes}
use Rattle.lists.specs.Parts.{put}
use Rattle.lists.specs.Rows.{Rows}
use Rattle.lists.specs.Tests.{either}
use Rattle.lists.specs.Words.{Bytes, le, word}
use Rattle.lists.proofs.Cases.{by_cases}
use Rattle.lists.proofs.PartsLaws.{length-put, take-put, drop-put, put_def, put_then}
use Rattle.lists.proofs.TestsLaws.{either-false}
use Rattle.lists.proofs.WordsLaws.{length-le}
use Rattle.page.specs.Buffer.{buffer_bytes}
use Rattle.rules.specs.Records.{Request, sign_on, report, sign_off, range, request_of, length_field, not_at_hand, refusal}
use Rattle.rules.specs.Carry.{list_bytes, bytes_of}
use Rattle.rules.specs.Plain.{Plain, plain_fresh, plain_step, plain_refusal, plain_found}
use Rattle.rules.specs.Store.{fresh}
use Rattle.rules.specs.Told.{told_list, told_done, told}
use Rattle.rules.specs.Watches.{fresh_watched}
use Rattle.rules.specs.Calls.{hands}
use Rattle.desk.specs.declared.Desk.{Desk}
use Rattle.desk.specs.Layout.{desk_of, pages_of}
use Rattle.desk.specs.Call.{After, handed, Answers}
use Rattle.desk.proofs.FreshLaws.{fresh_pages_lem}
use Rattle.desk.specs.Making.{Found as Begin-as-Found, Made}
use Rattle.fresh.specs.Begin.{Begins}
use Rattle.demands.specs.Trace.{desk_cuts, Trace, begun, called, watches_set, EveryCall}
use Rattle.demands.specs.Demands.{AsTold, WholeList}
use Rattle.demands.proofs.Demands.{demand2, demand3}
use Rattle.journal_replay.specs.Replay.{left_by, answer_bytes, listed_bytes, reply, replies, Running, Found, Held, left, Replays}

-- ---- what the plain rule tells

-- a record that isn't at hand is told 3
told_at_hand : (x : Plain) (bytes buffer : List ℕ) → ((told x bytes buffer).number ≡ 3 → ⊥) → not_at_hand bytes ≡ false
unfolding told plain_refusal refusal
told_at_hand x bytes buffer = by_cases (not_at_hand bytes) (λ t. rw t (λ n. absurd (n refl))) (λ t n. t)

-- what a call is handed after a list of calls is at hand, or it answers 3
pub called_at_hand : {d : Desk} {b : List ℕ} {x : Plain} (calls : Trace d b x) {bytes buffer : List ℕ} {y : After} → Bytes bytes
    → Answers (handed d b (hands bytes) buffer) y → (y.number ≡ 3 → ⊥) → not_at_hand bytes ≡ false
called_at_hand {x = x} calls {bytes} {buffer} {y} small a n =
    told_at_hand x bytes buffer (λ e. n ((demand2 _ _ _ (called calls (hands bytes) buffer y small a)).1.number ∙ e))

length-bytes_of : (l : Rows Place) → length (bytes_of l) ≡ list_bytes * length l
unfolding bytes_of
length-bytes_of [] = refl
length-bytes_of (x ∷ l) = simp (length-append, length-le, length-bytes_of l) (omega arith)

-- what is listed fits the buffer, and every byte after it is kept
abbrev Lists : ℕ → ℕ → List ℕ → List ℕ → Type 0
Lists number count buffer after =
    (listed_bytes number count ≤ length buffer) × (length after ≡ length buffer) × (drop (listed_bytes number count) after ≡ drop (listed_bytes number count) buffer)

drop_front : (xs vs : List ℕ) (n : ℕ) → length vs ≡ n → n ≤ length xs → drop n (put xs 0 vs) ≡ drop n xs
drop_front xs vs n e h = let z : 0 + length vs ≡ n = omega arith in rw z at (drop-put xs 0 vs (omega arith))

told_list_lem : (l : Rows Place) (buffer : List ℕ) → Lists (told_list l buffer).number (told_list l buffer).count buffer (told_list l buffer).buffer
unfolding told_list listed_bytes
told_list_lem l buffer =
    let n = length-bytes_of l in
    by_cases (ltb (length buffer) (list_bytes * length l))
    (λ t. rw t (omega arith, refl, refl))
    (λ t. let f = ltb-false (length buffer) (list_bytes * length l) t in rw t (omega arith, length-put buffer 0 (bytes_of l) (omega arith), drop_front buffer (bytes_of l) (list_bytes * length l) n (omega arith)))

told_done_lem : (q : Request) (x : Plain) (buffer : List ℕ) → Lists (told_done q x buffer).number (told_done q x buffer).count buffer (told_done q x buffer).buffer
unfolding told_done listed_bytes
told_done_lem (sign_on r f) x buffer = (omega arith, refl, refl)
told_done_lem (report r f) x buffer = (omega arith, refl, refl)
told_done_lem (sign_off r minute) x buffer = (omega arith, refl, refl)
told_done_lem (range rect minute) x buffer = told_list_lem (plain_found x rect minute) buffer

told-Lists : (x : Plain) (bytes buffer : List ℕ) → Lists (told x bytes buffer).number (told x bytes buffer).count buffer (told x bytes buffer).buffer
unfolding told listed_bytes
told-Lists x bytes buffer =
    by_cases (eqb (plain_refusal x bytes) 0) (λ t. rw t (told_done_lem (request_of bytes) x buffer)) (λ t. rw (t, t) (omega arith, refl, refl))

-- ---- a part of a list that goes to its end

pub rest_whole : (xs : List ℕ) (a : ℕ) → take (length xs - a) (drop a xs) ≡ drop a xs
rest_whole xs a = take_all (length xs - a) (drop a xs) (omega (arith, length-drop a xs))

pub rest_Bytes : (xs : List ℕ) (a : ℕ) → Bytes xs → Bytes (drop a xs)
rest_Bytes xs a h i = rw (get_or-drop a xs i 0) (h (a + i))

-- what was lent from r on comes back, and the header is then put before it
module _ (out ys head : List ℕ) (written r more : ℕ) (e : written + length head ≡ r) (h : r ≤ length out) (l : length ys ≡ length (drop r out)) (m : more ≤ length ys) (k : drop more ys ≡ drop more (drop r out)) where
  abbrev lent : List ℕ
  lent = take r out ++ (ys ++ drop (length out - r) (drop r out))

  lent_back : lent ≡ take r out ++ ys
  lent_back = ap (λ (z : List ℕ). take r out ++ (ys ++ z)) (drop_of_length-le (drop r out) {i = length out - r} (omega (arith, length-drop r out))) ∙ ap (λ (z : List ℕ). take r out ++ z) (append-nil ys)

  front_kept : take written lent ≡ take written out
  front_kept =
      ap (take written) lent_back
      ∙ take-append-le written (take r out) ys (omega (arith, length-take-le r out h))
      ∙ take-take written r out (omega arith)

  back_kept : drop r lent ≡ ys
  back_kept = ap (drop r) lent_back ∙ drop_at (take r out) ys r (length-take-le r out h)

  tail_kept : drop (written + length (head ++ take more ys)) out ≡ drop more ys
  tail_kept =
      let z : written + length (head ++ take more ys) ≡ r + more = omega (arith, length-append head (take more ys), length-take-le more ys m) in
      rw z (sym (drop-drop more r out) ∙ sym k)

  pub reply_written : put lent written head ≡ put out written (head ++ take more ys)
  reply_written =
      put_def lent written head
      ∙ rw (front_kept, e, back_kept) (ap (λ (z : List ℕ). take written out ++ z) (ap (λ (z : List ℕ). head ++ z) (sym (take-append-drop more ys)) ∙ sym (append_assoc head (take more ys) (drop more ys))))
      ∙ ap (λ (z : List ℕ). take written out ++ ((head ++ take more ys) ++ z)) (sym tail_kept)
      ∙ sym (put_def out written (head ++ take more ys))

-- ---- a record at hand

pub at_hand : (bytes : List ℕ) → not_at_hand bytes ≡ false → (4 ≤ length_field bytes) × (length_field bytes ≤ length bytes) × (4 ≤ length bytes)
unfolding not_at_hand
at_hand bytes e =
    let f = either-false (ltb (length bytes) 4) (either (ltb (length_field bytes) 4) (ltb (length bytes) (length_field bytes))) e in
    let g = either-false (ltb (length_field bytes) 4) (ltb (length bytes) (length_field bytes)) f.1 in
    (ltb-false (length_field bytes) 4 g.0, ltb-false (length bytes) (length_field bytes) g.1, ltb-false (length bytes) 4 f.0)

-- where the next record stands
pub next_left : (journal : List ℕ) (at number : ℕ) {next : ℕ} → next ≡ cond (eqb number 3) (length journal) (at + length_field (drop at journal)) → drop next journal ≡ left_by (drop at journal) number
unfolding left_by
next_left journal at number {next} e =
    by_cases (eqb number 3)
    (λ t. let f : next ≡ length journal = e ∙ rw t in rw (t, f) (drop-length journal))
    (λ t. let f : next ≡ at + length_field (drop at journal) = e ∙ rw t in rw (t, f) (sym (drop-drop (length_field (drop at journal)) at journal)))

pub next_within : (journal : List ℕ) (at number : ℕ) {next : ℕ} → at < length journal → ((number ≡ 3 → ⊥) → not_at_hand (drop at journal) ≡ false)
    → next ≡ cond (eqb number 3) (length journal) (at + length_field (drop at journal)) → (at < next) × (next ≤ length journal)
next_within journal at number {next} l h e =
    by_cases (eqb number 3)
    (λ t. let f : next ≡ length journal = e ∙ rw t in (omega arith, omega arith))
    (λ t. let f : next ≡ at + length_field (drop at journal) = e ∙ rw t in
    let k = at_hand (drop at journal) (h (eqb-false number 3 t)) in
    let n = length-drop at journal in
    (omega arith, omega arith))

-- ---- a call more

module _ {journal : List ℕ} {d : Desk} {b : List ℕ} {read : ℕ} {out : List ℕ} {written : ℕ} (k : Running journal d b read out written) (small : Bytes journal) (l : read < length journal) (h : written + answer_bytes ≤ length out)
    {y : After} (given : Answers (handed d b (hands (take (length journal - read) (drop read journal))) (take (length out - (written + answer_bytes)) (drop (written + answer_bytes) out))) y) where
  answers_rest : Answers (handed d b (hands (drop read journal)) (drop (written + answer_bytes) out)) y
  answers_rest = rw (rest_whole journal read, rest_whole out (written + answer_bytes)) at given

  -- the list of calls with this one
  abbrev longer : Trace y.desk y.pages (plain_step (desk_cuts d) (drop read journal) k.plain)
  longer = called k.calls (hands (drop read journal)) (drop (written + answer_bytes) out) y (rest_Bytes journal read small) answers_rest

  as_told : AsTold (record { desk = d; plain = k.plain; watches = watches_set k.calls; call = hands (drop read journal); buffer = drop (written + answer_bytes) out; after = y })
  as_told = (demand2 _ _ _ longer).1

  pub call_at_hand : (y.number ≡ 3 → ⊥) → not_at_hand (drop read journal) ≡ false
  call_at_hand = called_at_hand k.calls (rest_Bytes journal read small) answers_rest

  call_Lists : Lists y.number y.count (drop (written + answer_bytes) out) y.buffer
  call_Lists =
      let t = as_told in
      rw (t.number, t.count, t.buffer) (told-Lists k.plain (drop read journal) (drop (written + answer_bytes) out))

  module _ {after : List ℕ}
      (w : after ≡ put (take (written + answer_bytes) out ++ (y.buffer ++ drop (length out - (written + answer_bytes)) (drop (written + answer_bytes) out))) written (le field_bytes y.number ++ le field_bytes y.count)) where
    head_length : length (le field_bytes y.number ++ le field_bytes y.count) ≡ answer_bytes
    head_length = simp (length-append, length-le)

    reply-after : after ≡ put out written (reply y)
    unfolding reply
    reply-after =
        let n = call_Lists in
        let e : written + length (le field_bytes y.number ++ le field_bytes y.count) ≡ written + answer_bytes = omega (arith, head_length) in
        w
        ∙ reply_written out y.buffer (le field_bytes y.number ++ le field_bytes y.count) written (written + answer_bytes) (listed_bytes y.number y.count) e h n.1 (omega arith) n.2
        ∙ ap (put out written) (append_assoc (le field_bytes y.number) (le field_bytes y.count) (take (listed_bytes y.number y.count) y.buffer))

    length-reply : length (reply y) ≡ answer_bytes + listed_bytes y.number y.count
    unfolding reply
    length-reply = let n = call_Lists in simp (length-append, length-le) (omega (arith, length-take-le (listed_bytes y.number y.count) y.buffer (omega arith)))

    module _ {next more : ℕ} (e : next ≡ cond (eqb y.number 3) (length journal) (read + length_field (drop read journal))) (f : more ≡ listed_bytes y.number y.count) where
      reply_fits : written + length (reply y) ≡ written + answer_bytes + more
      reply_fits = omega (arith, length-reply)

      pub answer_fits : written + answer_bytes + more ≤ length out
      answer_fits = let n = call_Lists in omega (arith, length-drop (written + answer_bytes) out)

      runs_on : Running journal y.desk y.pages next after (written + answer_bytes + more)
      unfolding replies
      runs_on = record {
        plain = plain_step (desk_cuts d) (drop read journal) k.plain;
        calls = longer;
        records = (k.records, omega (arith, length-drop read journal), next_left journal read y.number e);
        within = (next_within journal read y.number l call_at_hand e).1;
        answers = rw (← reply_fits, reply-after) (take-put out written (reply y) (omega arith) ∙ ap (λ (z : List ℕ). z ++ reply y) k.answers);
        room = rw reply-after (omega (arith, length-put out written (reply y) (omega (arith, reply_fits, answer_fits)), answer_fits));
      }

      keeps_on : drop (written + answer_bytes + more) after ≡ drop (written + answer_bytes + more) out
      keeps_on = rw (← reply_fits, reply-after) (drop-put out written (reply y) (omega arith))

      pub stepped : Running journal y.desk y.pages next after (written + answer_bytes + more)
          × (read < next) × (written ≤ written + answer_bytes + more) × (drop (written + answer_bytes + more) after ≡ drop (written + answer_bytes + more) out)
      stepped = (runs_on, (next_within journal read y.number l call_at_hand e).0, omega arith, keeps_on)

-- ---- the fields of an answer

pub put_answer : (out : List ℕ) {after done : List ℕ} (at number count : ℕ) → at + answer_bytes ≤ length out → after ≡ put out at (le field_bytes number) → done ≡ put after (at + 2) (le field_bytes count)
    → done ≡ put out at (le field_bytes number ++ le field_bytes count)
put_answer out at number count h e f = put_then out at (le field_bytes number) (le field_bytes count) e f (omega (arith, length-le field_bytes number)) (omega arith)

-- ---- the next record

pub next_field : (journal : List ℕ) (at number : ℕ) {field : ℕ} → (number ≡ 3 → ⊥) → field ≡ word field_bytes (take (length journal - at) (drop at journal)) 0
    → at + field ≡ cond (eqb number 3) (length journal) (at + length_field (drop at journal))
unfolding length_field
next_field journal at number n e = rw (ne_eqb number 3 n, e, rest_whole journal at)

-- ---- the whole journal

pub run_start : (journal out : List ℕ) {d : Desk} {b : List ℕ} → d ≡ desk_of fresh_watched → b ≡ pages_of fresh → Running journal d b 0 out 0
unfolding replies
run_start journal out e f =
    rw (e, f, fresh_pages_lem) (record { plain = plain_fresh; calls = begun; records = refl; within = omega arith; answers = refl; room = omega arith })

-- what is kept stays kept further on
pub kept_further : (xs ys zs : List ℕ) (w v : ℕ) → w ≤ v → drop w xs ≡ drop w ys → drop v zs ≡ drop v xs → drop v zs ≡ drop v ys
kept_further xs ys zs w v h e f =
    let z : w + (v - w) ≡ v = omega arith in
    f ∙ (rw z at (sym (drop-drop (v - w) w xs) ∙ ap (drop (v - w)) e ∙ drop-drop (v - w) w ys))

-- ---- Demands 2 and 3 of the run

pub replay_told : {journal : List ℕ} {x : Found} {y : Held} (r : Replays journal x y) (l : length x.pages ≡ buffer_bytes) → EveryCall AsTold (r.run l).calls
replay_told r l = demand2 _ _ _ (r.run l).calls

pub replay_whole : {journal : List ℕ} {x : Found} {y : Held} (r : Replays journal x y) (l : length x.pages ≡ buffer_bytes) → WholeList (r.run l).calls
replay_whole r l = demand3 _ _ _ (r.run l).calls
