-- The printer's list of calls goes on by one.
use mathlib.Core.Bool.{Bool, true}
use borrow.Author.Tests.{ne_eqb}
use Rattle.std.proofs.Common.{List, Option, Some, None, Result, Ok, Err, IfOk, [], ◌++◌, ◌≡◌, ℕ, ◌+◌, ◌-◌, ◌<◌, ◌≤◌, refl, sym, ap, subst, ◌∙◌, append_assoc, arith, length, take, drop}
use Rattle.std.specs.Prelude.{OnOk, is_ok}
use Rattle.std.proofs.lemmas.Bool.{false≢true}
use Rattle.std.proofs.lemmas.List.{append-nil, drop-take, drop-drop}
use lib.Dec.{eqb}
use lib.ListN.{take-append-drop}
use Rattle.std.specs.Io.KnownBytes.{Appends, IsAtEnd}
use Rattle.lists.specs.Words.{Bytes}
use Rattle.lists.proofs.Cases.{by_cases, list_cases}
use Rattle.page.specs.Buffer.{buffer_bytes}
use Rattle.rules.specs.Records.{length_field}
use Rattle.rules.specs.Plain.{Plain, plain_fresh, plain_step}
use Rattle.rules.specs.Calls.{hands}
use Rattle.desk.specs.declared.Desk.{Desk}
use Rattle.desk.specs.Call.{After, handed, Answers}
use Rattle.desk.specs.Layout.{fresh_pages}
use Rattle.desk.proofs.FreshLaws.{fresh_pages_lem}
use Rattle.desk.specs.Making.{Found, Made}
use Rattle.fresh.specs.Begin.{Begins}
use Rattle.demands.specs.Trace.{fresh_desk, desk_cuts, Trace, begun, called, EveryCall}
use Rattle.demands.specs.Demands.{AsTold, WholeList}
use Rattle.demands.proofs.Demands.{demand2, demand3}
use Rattle.journal_replay.specs.Replay.{left_by}
use Rattle.journal_input.specs.Input.{Brings, WholeRecord}
use Rattle.journal_input.specs.declared.Source.{Source as Input-Source}
use Rattle.journal_input.specs.declared.Source.TheVariants as source
use Rattle.journal_input.proofs.Bringing.{consumes_none, consumes_then}
use Rattle.journal_printer.specs.Printer.{last_number, call_count, Source, Open, Ended, Failed, Handed, Reads, nothing, more, onward, record_by, records_of, Printed, asks_list, answer_text, printed, Going, Stage, GoesOn, InputEnded, NumberThree, CannotRead, CannotWrite, CountEnded, most_records, Ran, Holds, holds, stage_after, Carries, Turn, Turns}

-- ---- what is written

appends_none : (held : Option (List ℕ)) → Appends held held []
appends_none None = tt
appends_none (Some xs) = sym (append-nil xs)

pub appends_then : (h h' h'' : Option (List ℕ)) (xs ys : List ℕ) → Appends h h' xs → Appends h' h'' ys → Appends h h'' (xs ++ ys)
appends_then None h' h'' xs ys a b = tt
appends_then (Some us) None h'' xs ys a b = absurd a
appends_then (Some us) (Some vs) None xs ys a b = b
appends_then (Some us) (Some vs) (Some ws) xs ys a b = b ∙ ap (λ w. w ++ ys) a ∙ append_assoc us xs ys

-- ---- bytes at hand

-- on by a record
pub hand_on : (window : List ℕ) (at end next : ℕ) → next ≤ end - at → take (end - (at + next)) (drop (at + next) window) ≡ drop next (take (end - at) (drop at window))
hand_on window at end next le =
    let e : end - at ≡ next + (end - (at + next)) = omega arith in
    let P : ℕ → Type 0 = λ n. take (end - (at + next)) (drop (at + next) window) ≡ drop next (take n (drop at window)) in
    subst P (sym e) (simp (drop-take, drop-drop))

none_length : (l : List ℕ) → length l ≡ 0 → l ≡ []
none_length l e = list_cases l (λ n. n) (λ x t n. absurd (omega (arith, ap length n)))

-- ---- what a read said, or a write

pub on_ok : {A E P : Type 0} (r : Result A E) → true ≡ is_ok r → OnOk r P → P
on_ok (Ok x) ok p = p
on_ok (Err e) ok p = absurd (false≢true (sym ok))

pub told_by : {E : Type 0} → Result Input-Source E → Source
told_by (Ok source.Open) = Open
told_by (Ok source.Ended) = Ended
told_by (Err e) = Failed

-- with what was read since
abbrev pub printed_more : {k k' k'' : Option (List ℕ)} {desk : Desk} {pages before after : List ℕ} → Printed k k' desk pages before → Brings k' k'' before after → Source
    → Printed k k'' desk pages after
printed_more {k} {k'} {k''} p b told =
    let P : List ℕ → Type 0 = λ z. Reads _ _ _ p.calls (p.read ++ b.more) z told in
    record {
      plain = p.plain;
      calls = p.calls;
      read = p.read ++ b.more;
      told = told;
      records = subst P (sym b.appended) (more p.records b.more told);
      consumed = consumes_then k k' k'' p.read b.more p.consumed b.consumed;
    }

module _ {i : ℕ} {k k' k'' h h' : Option (List ℕ)} {desk : Desk} {pages before after : List ℕ} (g : Going i k k' h h' desk pages before) (b : Brings k' k'' before after) where
  -- it could not be read
  pub ran_unread : Ran CannotRead k k'' h h' desk pages
  ran_unread = record { hand = after; run = printed_more g.run b Failed; over = refl; why = (refl, g.unended); written = λ _. g.written }

  -- nothing is at hand
  pub ran_stopped : {E : Type 0} (r : Result Input-Source E) → true ≡ is_ok r → IfOk r (λ s. s ≡ source.Open → WholeRecord after) → IfOk r (λ s. s ≡ source.Ended → IsAtEnd k'')
      → length after ≡ 0 → Ran InputEnded k k'' h h' desk pages
  ran_stopped (Ok source.Open) ok whole ended none = absurd (omega (arith, (whole refl).0, none))
  ran_stopped (Ok source.Ended) ok whole ended none =
      record { hand = after; run = printed_more g.run b Ended; over = refl; why = (refl, none_length after none, g.unended, ended refl); written = λ _. g.written }
  ran_stopped (Err e) ok whole ended none = absurd (false≢true (sym ok))

-- ---- one record more

abbrev told_number : Source → ℕ
told_number Open = 0
told_number Ended = 1
told_number Failed = 2

pub three_after : (number : ℕ) → number ≡ 3 → NumberThree ≡ stage_after number true
three_after number e = rw e refl

pub other_after : (number : ℕ) → (number ≡ 3 → ⊥) → GoesOn ≡ stage_after number true
other_after number n = rw (ne_eqb number 3 n) refl

module _ {k k' : Option (List ℕ)} (desk : Desk) (pages list : List ℕ) {before after : List ℕ} (b : Brings k k' before after) where
  abbrev with_hand : List ℕ → Holds
  with_hand hand = holds desk pages hand list

  -- one call is handed all that is at hand
  pub turn_carried : (told : Source) → Handed told after → 0 < length after → {stage : Stage} {y : Holds} → Carries (with_hand after) stage y → Turns (with_hand before) stage y
  turn_carried Open given some {stage} {y} c = record {
    more = b.more;
    told = Open;
    whole = λ e. subst WholeRecord b.appended given;
    turn = subst (λ (z : List ℕ). Turn (with_hand z) Open stage y) b.appended (record {
      unread = λ e. absurd (omega (arith, ap told_number e));
      stops = λ e n. absurd (omega (arith, ap told_number e));
      carries = λ n s. c;
    });
  }
  turn_carried Ended given some {stage} {y} c = record {
    more = b.more;
    told = Ended;
    whole = λ e. absurd (omega (arith, ap told_number e));
    turn = subst (λ (z : List ℕ). Turn (with_hand z) Ended stage y) b.appended (record {
      unread = λ e. absurd (omega (arith, ap told_number e));
      stops = λ e n. absurd (omega (arith, some, ap length n));
      carries = λ n s. c;
    });
  }
  turn_carried Failed given some c = absurd given

-- ---- a call is handed all that is at hand

pub handed_by : {E : Type 0} (hand : List ℕ) (r : Result Input-Source E) → true ≡ is_ok r → IfOk r (λ s. s ≡ source.Open → WholeRecord hand) → Handed (told_by r) hand
unfolding told_by
handed_by hand (Ok source.Open) ok whole = whole refl
handed_by hand (Ok source.Ended) ok whole = tt
handed_by hand (Err e) ok whole = absurd (false≢true (sym ok))

module _ {i : ℕ} {k k' k'' h h' : Option (List ℕ)} {desk : Desk} {pages before hand : List ℕ} (g : Going i k k' h h' desk pages before) (b : Brings k' k'' before hand)
    (told : Source) (given : Handed told hand) (some : 0 < length hand) (list : List ℕ) (y : After) (small : Bytes hand) (a : Answers (handed desk pages (hands hand) list) y)
    (rest : List ℕ) (e : rest ≡ left_by hand y.number) where
  abbrev longer : Printed k k'' y.desk y.pages rest
  longer =
      let read = printed_more g.run b told in
      let P : List ℕ → Type 0 = λ z. Reads _ _ _ (called g.run.calls (hands hand) list y small a) read.read z told in
      record {
        plain = plain_step (desk_cuts desk) hand g.run.plain;
        calls = called g.run.calls (hands hand) list y small a;
        read = read.read;
        told = told;
        records = subst P (sym e) (onward read.records some given g.unended list y small a);
        consumed = read.consumed;
      }

  -- its answer could not be written
  pub ran_unwritten : (h'' : Option (List ℕ)) → Ran CannotWrite k k'' h h'' y.desk y.pages
  unfolding call_count
  ran_unwritten h'' = record { hand = rest; run = longer; over = refl; why = omega arith; written = λ n. absurd (n refl) }

  module _ (h'' : Option (List ℕ)) (range : Bool) (is : range ≡ asks_list hand) (w : Appends h' h'' (answer_text i range y.number y.count y.buffer)) where
    written_on : Appends h h'' (printed longer.calls)
    unfolding printed
    written_on =
        let P : ℕ → Type 0 = λ n. Appends h' h'' (answer_text n (asks_list hand) y.number y.count y.buffer) in
        let Q : Bool → Type 0 = λ r. Appends h' h'' (answer_text i r y.number y.count y.buffer) in
        appends_then h h' h'' (printed g.run.calls) (answer_text (call_count g.run.calls + 1) (asks_list hand) y.number y.count y.buffer) g.written
        (subst P (sym g.counted) (subst Q is w))

    -- it was the last
    pub ran_three : y.number ≡ 3 → Ran NumberThree k k'' h h'' y.desk y.pages
    unfolding last_number
    ran_three three = record { hand = rest; run = longer; over = refl; why = three; written = λ _. written_on }

    -- the next record comes
    pub going_on : (y.number ≡ 3 → ⊥) → Going (i + 1) k k'' h h'' y.desk y.pages rest
    unfolding last_number call_count
    going_on other = record { run = longer; counted = ap (λ (n : ℕ). n + 1) g.counted; unended = other; written = written_on }

pub ran_out : {i : ℕ} {k k' h h' : Option (List ℕ)} {desk : Desk} {pages hand : List ℕ} → Going i k k' h h' desk pages hand → i ≡ most_records + 1 → Ran CountEnded k k' h h' desk pages
ran_out {hand = hand} g e = record { hand = hand; run = g.run; over = refl; why = (omega (arith, g.counted, e), g.unended); written = λ _. g.written }

-- before the first record, of a fresh store
pub going_first : (k h : Option (List ℕ)) {desk : Desk} {pages : List ℕ} → desk ≡ fresh_desk → pages ≡ fresh_pages → Going 1 k k h h desk pages []
unfolding last_number call_count printed
going_first k h d p = rw (d, p) (record {
  run = record { plain = plain_fresh; calls = begun; read = []; told = Open; records = nothing; consumed = consumes_none k };
  counted = refl;
  unended = λ e. absurd (omega arith);
  written = appends_none h;
})

pub begun_fresh : {x : Found} {y : Made} → Begins x y → length x.pages ≡ buffer_bytes → (y.desk ≡ fresh_desk) × (y.pages ≡ fresh_pages)
begun_fresh g l = (ap (λ (z : Made). z.desk) (g.begun l), ap (λ (z : Made). z.pages) (g.begun l) ∙ fresh_pages_lem)

-- ---- what was read is the calls' records, one after the other, and what is at hand

record_left : (bytes : List ℕ) (number : ℕ) → record_by bytes number ++ left_by bytes number ≡ bytes
unfolding record_by left_by
record_left bytes number = by_cases (eqb number 3) (λ t. rw t (append-nil bytes)) (λ t. rw t (take-append-drop (length_field bytes) bytes))

reads_all : {d : Desk} {b : List ℕ} {x : Plain} {calls : Trace d b x} {read hand : List ℕ} {told : Source} → Reads d b x calls read hand told
    → read ≡ records_of calls ++ hand
unfolding records_of
reads_all nothing = refl
reads_all (more {calls = calls} {hand = hand} r bytes t) = ap (λ (z : List ℕ). z ++ bytes) (reads_all r) ∙ append_assoc (records_of calls) hand bytes
reads_all (onward {calls = calls} {hand = hand} r h w u buffer y small a) =
    reads_all r ∙ ap (λ (z : List ℕ). records_of calls ++ z) (sym (record_left hand y.number))
    ∙ sym (append_assoc (records_of calls) (record_by hand y.number) (left_by hand y.number))

pub Printed_all : {k k' : Option (List ℕ)} {desk : Desk} {pages hand : List ℕ} (p : Printed k k' desk pages hand) → p.read ≡ records_of p.calls ++ hand
Printed_all p = reads_all p.records

-- ---- Demands 2 and 3 of the printer's calls

pub Printed_told : {k k' : Option (List ℕ)} {desk : Desk} {pages hand : List ℕ} (p : Printed k k' desk pages hand) → EveryCall AsTold p.calls
Printed_told p = demand2 _ _ _ p.calls

pub Printed_whole : {k k' : Option (List ℕ)} {desk : Desk} {pages hand : List ℕ} (p : Printed k k' desk pages hand) → WholeList p.calls
Printed_whole p = demand3 _ _ _ p.calls
