use Rattle.std.proofs.Common.{sym, ◌∙◌}
use Rattle.room_memory.specs.Memory.{rows_in}
use Rattle.room_piece.proofs.Done.{as_before, children_then}
use Rattle.room_piece.proofs.marking.mark_set.Goals as goal

pub returns-then-is_as_before-clause-marks : goal.returns-then-is_as_before-clause-marks
returns-then-is_as_before-clause-marks c = λ are.
    let found = c.in_ok-way.ensures.found are in (
      found.1,
      record {
        way = c.in_ok-way.way;
        goes = found.0;
        becomes = as_before (rows_in c.args.keep.now).read c.in_ok-way.way _
            (sym c.stays-is_as_before.ensures ∙ c.if-is_as_before.true);
      },
    )

pub returns-clause-marks : goal.returns-clause-marks
returns-clause-marks c =
    children_then c.mark_children.result _ c.in_ok-way.way _ _ _ _ _ c.in_ok-way.ensures.found
    (sym c.stays-is_as_before.ensures ∙ c.if-is_as_before.false) c.mark_children.ensures.marks
