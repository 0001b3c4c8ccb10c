use Rattle.room_piece.proofs.marking.mark_moving.Goals as goal

pub returns-clause-marks : goal.returns-clause-marks
returns-clause-marks c = λ are.
    let found = c.in_ok-way.ensures.found are in (
      found.1,
      record {
        way = c.in_ok-way.way;
        goes = found.0;
        becomes = c.in_ok-mark_last.ensures;
      },
    )
