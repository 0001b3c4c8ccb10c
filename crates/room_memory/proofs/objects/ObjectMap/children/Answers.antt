use Rattle.std.{proofs.Common.{arith, ◌∙◌, ◌++◌, List, ap}, specs.Option.option_copied}
use Rattle.room_rows.specs.declared.node.Node.{Node}
use Rattle.room_memory.{specs.Places.standing_under, proofs.Tying.{children_listed, child_more}}
use Rattle.room_memory.proofs.objects.ObjectMap.children.Goals as goal

pub loop-place-init : goal.loop-place-init
loop-place-init c =
    ap (λ (l : List Node). l
    ++ standing_under c.args.parent c.args.self.now c.into_iter-place-iterator.result)
    c.new-found.ensures
    ∙ ap (standing_under c.args.parent c.args.self.now)
    c.into_iter-place-iterator.ensures.into_iter_gives
    ∙ children_listed c.self.inside.by_number.entries c.self.inside.places.ids.entries
    c.in_ok-items.items c.args.self.now c.args.parent c.self.invariant c.self.view_is
    c.in_ok-items.ensures.ordered c.in_ok-items.ensures.listed

pub loop-place-preserved : goal.loop-place-preserved
loop-place-preserved c =
    ap (λ (l : List Node). l ++ standing_under c.args.parent c.args.self.now c.next.new.self)
    c.in_ok-push_copy.ensures
    ∙ child_more c.loop-place.found c.args.parent c.args.self.now
    (c.in-Some.place.now, c.in-Some.id.now) c.loop-place.place-iterator c.next.new.self
    (option_copied c.standing.result) _ c.in-Some.ensures.steps c.if-place-parent.false
    (grind (arith, c.as_str.ensures.value, c.standing.ensures)) c.loop-place.invariant
