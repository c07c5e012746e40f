use Rattle.std.proofs.Common.{true, false, rules, refl, ◌∙◌, arith, sym}
use Rattle.std.proofs.lemmas.Grind.{common_steps}
use Rattle.journal_input.specs.Input.{at_hand}
use Rattle.journal_printer.proofs.PrinterLaws.{hand_on, on_ok, told_by, handed_by, turn_carried, three_after, other_after, ran_unread, ran_stopped, ran_unwritten, ran_three, going_on}
use Rattle.journal_printer.proofs.turn.Goals as goal

pub returns-in_err-map_err-clause-turned : goal.returns-in_err-map_err-clause-turned
returns-in_err-map_err-clause-turned g c = λ known held going. search (rules, ran_unread going c.record_at_hand.ensures.brings)

pub returns-then-is_empty-clause-turned : goal.returns-then-is_empty-clause-turned
returns-then-is_empty-clause-turned g c = λ known held going.
    let read = c.record_at_hand in
    ran_stopped going read.ensures.brings read.result c.in_ok-map_err.ensures.variant read.ensures.whole read.ensures.ended (search rules)

pub returns-in_err-map_err-2-clause-turned : goal.returns-in_err-map_err-2-clause-turned
returns-in_err-map_err-2-clause-turned g c = λ known held going.
    let read = c.record_at_hand in
    let hand = at_hand read.new.window read.new.hand in
    search (
      rules,
      ran_unwritten going read.ensures.brings (told_by read.result) (handed_by hand read.result c.in_ok-map_err.ensures.variant read.ensures.whole) (search rules) _ _
          c.call-answer.ensures.small c.call-answer.ensures.answers _ refl,
    )

pub returns-then-answer-number-clause-turned : goal.returns-then-answer-number-clause-turned
returns-then-answer-number-clause-turned g c = λ known held going.
    let read = c.record_at_hand in
    let hand = at_hand read.new.window read.new.hand in
    ran_three going read.ensures.brings (told_by read.result) (handed_by hand read.result c.in_ok-map_err.ensures.variant read.ensures.whole) (search rules) _ _
    c.call-answer.ensures.small c.call-answer.ensures.answers _ refl _ _ c.is_range.ensures
    (on_ok c.print_answer-written.result c.in_ok-map_err-2.ensures.variant c.print_answer-written.ensures) (c.if-answer-number.true ∙ c.number.ensures)

pub returns-clause-turned : goal.returns-clause-turned
returns-clause-turned g c = λ known held going.
    let read = c.record_at_hand in
    let hand = at_hand read.new.window read.new.hand in
    going_on going read.ensures.brings (told_by read.result) (handed_by hand read.result c.in_ok-map_err.ensures.variant read.ensures.whole) (search rules) _ _
    c.call-answer.ensures.small c.call-answer.ensures.answers _
    (hand_on read.new.window read.new.hand.at read.new.hand.end c.taken.result (grind (arith, common_steps)) ∙ c.taken.ensures.rest)
    _ _ c.is_range.ensures (on_ok c.print_answer-written.result c.in_ok-map_err-2.ensures.variant c.print_answer-written.ensures)
    (λ e. c.if-answer-number.false (e ∙ sym c.number.ensures))

-- ---- the step alone

pub returns-in_err-map_err-2-clause-step : goal.returns-in_err-map_err-2-clause-step
returns-in_err-map_err-2-clause-step g c =
    let read = c.record_at_hand in
    let hand = at_hand read.new.window read.new.hand in
    turn_carried c.args.desk.now c.args.pages.now c.args.list.now read.ensures.brings (told_by read.result)
    (handed_by hand read.result c.in_ok-map_err.ensures.variant read.ensures.whole) (search rules) (record {
      answer = c.call-answer.result;
      small = c.call-answer.ensures.small;
      answers = c.call-answer.ensures.answers;
      rest = hand_on read.new.window read.new.hand.at read.new.hand.end c.taken.result (grind (arith, common_steps)) ∙ c.taken.ensures.rest;
      written = false;
      after = search rules;
    })

pub returns-then-answer-number-clause-step : goal.returns-then-answer-number-clause-step
returns-then-answer-number-clause-step g c =
    let read = c.record_at_hand in
    let hand = at_hand read.new.window read.new.hand in
    turn_carried c.args.desk.now c.args.pages.now c.args.list.now read.ensures.brings (told_by read.result)
    (handed_by hand read.result c.in_ok-map_err.ensures.variant read.ensures.whole) (search rules) (record {
      answer = c.call-answer.result;
      small = c.call-answer.ensures.small;
      answers = c.call-answer.ensures.answers;
      rest = hand_on read.new.window read.new.hand.at read.new.hand.end c.taken.result (grind (arith, common_steps)) ∙ c.taken.ensures.rest;
      written = true;
      after = three_after _ (c.if-answer-number.true ∙ c.number.ensures);
    })

pub returns-clause-step : goal.returns-clause-step
returns-clause-step g c =
    let read = c.record_at_hand in
    let hand = at_hand read.new.window read.new.hand in
    turn_carried c.args.desk.now c.args.pages.now c.args.list.now read.ensures.brings (told_by read.result)
    (handed_by hand read.result c.in_ok-map_err.ensures.variant read.ensures.whole) (search rules) (record {
      answer = c.call-answer.result;
      small = c.call-answer.ensures.small;
      answers = c.call-answer.ensures.answers;
      rest = hand_on read.new.window read.new.hand.at read.new.hand.end c.taken.result (grind (arith, common_steps)) ∙ c.taken.ensures.rest;
      written = true;
      after = other_after _ (λ e. c.if-answer-number.false (e ∙ sym c.number.ensures));
    })
