use Rattle.std.proofs.Common.{◌∙◌, ap}
use Rattle.room_memory.{specs.Places.standing_under, proofs.Tying.children_listed}
use Rattle.room_memory.proofs.objects.ObjectMap.has_children.Goals as goal

pub loop-place-init : goal.loop-place-init
loop-place-init c =
    ap (standing_under c.args.parent c.args.self.now)
    c.into_iter-place-iterator.ensures.into_iter_gives
    ∙ children_listed c.self.inside.by_number.entries c.self.inside.places.ids.entries
    c.in_ok-items.items c.args.self.now c.args.parent c.self.invariant c.self.view_is
    c.in_ok-items.ensures.ordered c.in_ok-items.ensures.listed
