use Rattle.std.proofs.Common.{rules}
use Rattle.room_desk.proofs.Made.ServedItems.{name_of_parts}
use Rattle.room_desk.proofs.making.put.Goals as goal

pub put_below-requires : goal.put_below-requires
put_below-requires g c =
    search (rules, name_of_parts, c.in-Some.ensures.parts, c.in-Some.ensures.name)
