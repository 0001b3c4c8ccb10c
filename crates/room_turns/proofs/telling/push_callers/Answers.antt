use Rattle.std.proofs.{Common.{◌++◌, ap, drop, length, not, rules, ◌∙◌}, lemmas.Bool.or_from}
use Rattle.std.proofs.lemmas.Bool.{or_left, or_right, not_from_false, not_from_true}
use Rattle.std.{proofs.lemmas.{List.length_push, Slice.Zip.{zip_end, zip_turn}}, specs.List.zip}
use Rattle.room_import.specs.Exports.{rows_text}
use Rattle.room_turns.{specs.Telling.lines_of, proofs.Rows.{line_hidden, line_shown, lines_all}}
use Rattle.room_turns.proofs.telling.push_callers.Goals.{then-all-via-then-all}
use Rattle.room_turns.proofs.telling.push_callers.Goals.{then-all-via-else-all+then-not-stand}
use Rattle.room_turns.proofs.telling.push_callers.Goals as goal

pub loop-party-preserved-in-loop-party : goal.loop-party-preserved-in-loop-party
loop-party-preserved-in-loop-party c =
    let all = c.args.all in
    let told = c.args.told.now in
    let parties = c.args.parties.now in
    let stands = told.spot.stands in
    let party = c.in-Some.party.now in
    let stand = c.in-Some.stand.now in
    let turn = zip_turn parties stands c.loop-party.yielded c.into_iter-party-iterator.result
    c.loop-party.party-iterator c.next.new.self c.next.result (search rules) (search rules)
    c.loop-party.yielded_by (c.in-Some.party, c.in-Some.stand) c.in-Some.is
    c.next.ensures.steps in
    ap (λ n. c.push_caller.new.answer
    ++ rows_text (lines_of all told (drop n (zip parties stands))))
    (length_push c.loop-party.yielded (c.in-Some.party, c.in-Some.stand))
    ∙ line_shown all told parties stands (length c.loop-party.yielded) party stand turn.0 turn.1
    turn.2 turn.3 c.loop-party.answer c.push_caller.new.answer _
    (elim c.then-all.branch [
      | then-all-via-then-all w ↦ or_left all (not stand.repeats) w.if-all.true
      | then-all-via-else-all+then-not-stand w ↦
          search (rules, or_right, not_from_false, w.if-not-stand.true)
    ]) c.in_ok-push_caller.ensures c.loop-party.invariant

pub loop-party-preserved : goal.loop-party-preserved
loop-party-preserved c =
    let all = c.args.all in
    let told = c.args.told.now in
    let parties = c.args.parties.now in
    let stands = told.spot.stands in
    let party = c.in-Some.party.now in
    let stand = c.in-Some.stand.now in
    let turn = zip_turn parties stands c.loop-party.yielded c.into_iter-party-iterator.result
    c.loop-party.party-iterator c.next.new.self c.next.result (search rules) (search rules)
    c.loop-party.yielded_by (c.in-Some.party, c.in-Some.stand) c.in-Some.is
    c.next.ensures.steps in
    ap (λ n. c.loop-party.answer
    ++ rows_text (lines_of all told (drop n (zip parties stands))))
    (length_push c.loop-party.yielded (c.in-Some.party, c.in-Some.stand))
    ∙ line_hidden all told parties stands (length c.loop-party.yielded) party stand turn.0 turn.1
    turn.2 turn.3 c.loop-party.answer _
    (or_from all (not stand.repeats) c.if-all.false
    (not_from_true stand.repeats c.if-not-stand.false)) c.loop-party.invariant

pub returns : goal.returns
returns c =
    let told = c.args.told.now in
    lines_all c.args.all told c.args.parties.now told.spot.stands (length c.loop-party.yielded)
    c.loop-party.answer _
    (zip_end c.args.parties.now told.spot.stands c.loop-party.yielded
    c.into_iter-party-iterator.result c.loop-party.party-iterator c.next.new.self c.next.result
    (search rules) (search rules) c.loop-party.yielded_by c.in-None.is c.next.ensures.steps)
    c.loop-party.invariant
