use Rattle.room_memory.{specs.Objects.greatest, proofs.Tying.{last_is, next_is}}
use Rattle.room_memory.proofs.objects.ObjectMap.next_number.Goals as goal

pub returns-in-Some : goal.returns-in-Some
returns-in-Some c =
    next_is c.checked_add.result c.in-Some.last.now (greatest c.args.self.now)
    (last_is c.self.inside.by_number.entries c.self.inside.places.ids.entries c.args.self.now
    c.in-Some.last.now c.in-Some.field-0-1.now c.self.invariant c.self.view_is
    c.in-Some.ensures.value c.in-Some.ensures.greatest)
    c.checked_add.ensures
