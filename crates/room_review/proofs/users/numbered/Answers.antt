use Rattle.std.proofs.Common.{arith, ap, Err, ◌∙◌}
use Rattle.room_review.proofs.Listed.{never_refused, number_named}
use Rattle.room_review.proofs.users.numbered.Goals as goal

pub unreachable-requires : goal.unreachable-requires
unreachable-requires c =
    never_refused c.read_name.result c.in-Err-Fault.field-0-0 c.as_str.result.now _
    c.read_name.ensures
    (c.in-Err-Fault.is ∙ ap Err c.in-Err-Fault.field-0-is)
    (grind (arith, number_named, c.ranges.number.fits, c.as_str.ensures.value))
