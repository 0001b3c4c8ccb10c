use Rattle.std.proofs.Common.{◌++◌, List, ℕ, ap, ◌∙◌}
use Rattle.room_import.specs.Exports.{rows_text}
use Rattle.room_answer.specs.Answer.{header}
use Rattle.room_dump.proofs.Reading.{answered, knows, learns}
use Rattle.room_turns.specs.{Turns.{objects_from, rows_of}, Telling.rows_told}
use Rattle.room_turns.{specs.declared.spot.Told.Told, proofs.Rows.{rows_are, rows_behind}}
use Rattle.room_turns.proofs.comparing.answer_of.Goals as goal

pub returns : goal.returns
returns g c =
    let k = g.K.Keep in
    let laws = g.met.K.Keep.laws in
    let a = c.args.keep.now in
    let b = c.spots_from.new.keep in
    let asked = c.args.asked.now in
    let parties = asked.parties.items in
    let answer = c.push_rows.new.answer in
    record {
      read =
          answered k laws a b answer
          (learns k laws a a b c.in_ok-objects.objects (knows k laws a (λ rows are. are))
          c.in_ok-objects.ensures.read (λ rows are _ gives view shows.
          let all = objects_from rows asked.path in
          rows_behind header (rows_of view parties all) c.in_ok-answer.answer answer
          c.in_ok-answer.ensures
          (c.in_ok-push_rows.ensures
          ∙ (λ i. c.in_ok-answer.answer
          ++ rows_text (rows_told (c.deref.ensures.value i) (c.as_slice.ensures.value i)))
          ∙ ap (λ (l : List Told). c.in_ok-answer.answer ++ rows_text (rows_told parties l))
          (gives view shows)
          ∙ ap (λ (rows : List (List (List ℕ))). c.in_ok-answer.answer ++ rows_text rows)
          (rows_are view parties all))));
    }
