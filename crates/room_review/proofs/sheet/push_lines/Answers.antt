use Rattle.std.proofs.{Common.{◌++◌, drop, length, not, ap, ◌∙◌, rules}, lemmas.Bool.or_from}
use Rattle.std.proofs.lemmas.Bool.{or_left, or_right, not_from_false, not_from_true}
use Rattle.std.{proofs.lemmas.{List.length_push, Slice.Zip.{zip_end, zip_turn}}, specs.List.zip}
use Rattle.room_import.specs.{Exports.rows_text, Written.written}
use Rattle.room_review.{specs.Lines.lines, proofs.Printed.{line_hidden, line_shown, lines_all}}
use Rattle.room_review.proofs.sheet.push_lines.Goals.{then-told-via-then-told}
use Rattle.room_review.proofs.sheet.push_lines.Goals.{then-told-via-else-told+then-not-standing}
use Rattle.room_review.proofs.sheet.push_lines.Goals as goal

pub loop-party-preserved-in-loop-party : goal.loop-party-preserved-in-loop-party
loop-party-preserved-in-loop-party c =
    let told = c.args.told.now in
    let parties = c.args.parties.now in
    let here = told.here.now in
    let party = c.in-Some.party.now in
    let standing = c.in-Some.standing.now in
    let turn = zip_turn parties here c.loop-party.yielded c.into_iter-party-iterator.result
    c.loop-party.party-iterator c.next.new.self c.next.result (search rules) (search rules)
    c.loop-party.yielded_by (c.in-Some.party, c.in-Some.standing) c.in-Some.is
    c.next.ensures.steps in
    record {
      at_row = c.in_ok-push_line.ensures.at_row;
      text =
          ap (λ n. written c.push_line.new.writer
          ++ rows_text (lines told.path.now told.kind told.all (drop n (zip parties here))))
          (length_push c.loop-party.yielded (c.in-Some.party, c.in-Some.standing))
          ∙ line_shown told.path.now told.kind told.all parties here (length c.loop-party.yielded)
          party standing turn.0 turn.1 turn.2 turn.3 (written c.loop-party.writer)
          (written c.push_line.new.writer) _
          (elim c.then-told.branch [
            | then-told-via-then-told w ↦
                or_left told.all (not standing.repeats) w.if-told.true
            | then-told-via-else-told+then-not-standing w ↦
                search (rules, or_right, not_from_false, w.if-not-standing.true)
          ]) c.in_ok-push_line.ensures.text c.loop-party.invariant.text;
    }

pub loop-party-preserved : goal.loop-party-preserved
loop-party-preserved c =
    let told = c.args.told.now in
    let parties = c.args.parties.now in
    let here = told.here.now in
    let party = c.in-Some.party.now in
    let standing = c.in-Some.standing.now in
    let turn = zip_turn parties here c.loop-party.yielded c.into_iter-party-iterator.result
    c.loop-party.party-iterator c.next.new.self c.next.result (search rules) (search rules)
    c.loop-party.yielded_by (c.in-Some.party, c.in-Some.standing) c.in-Some.is
    c.next.ensures.steps in
    record {
      at_row = c.loop-party.invariant.at_row;
      text =
          ap (λ n. written c.loop-party.writer
          ++ rows_text (lines told.path.now told.kind told.all (drop n (zip parties here))))
          (length_push c.loop-party.yielded (c.in-Some.party, c.in-Some.standing))
          ∙ line_hidden told.path.now told.kind told.all parties here (length c.loop-party.yielded)
          party standing turn.0 turn.1 turn.2 turn.3 (written c.loop-party.writer) _
          (or_from told.all (not standing.repeats) c.if-told.false
          (not_from_true standing.repeats c.if-not-standing.false)) c.loop-party.invariant.text;
    }

pub returns : goal.returns
returns c =
    let told = c.args.told.now in
    lines_all told.path.now told.kind told.all c.args.parties.now told.here.now
    (length c.loop-party.yielded) (written c.loop-party.writer) _
    (zip_end c.args.parties.now told.here.now c.loop-party.yielded
    c.into_iter-party-iterator.result c.loop-party.party-iterator c.next.new.self c.next.result
    (search rules) (search rules) c.loop-party.yielded_by c.in-None.is c.next.ensures.steps)
    c.loop-party.invariant.text
