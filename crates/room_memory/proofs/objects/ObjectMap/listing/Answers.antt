use Rattle.std.{proofs.Common.{arith, ◌∙◌, ◌++◌, List, ℕ, map, ap}, specs.Option.option_copied}
use Rattle.room_entry.specs.declared.object.ObjKind.{ObjKind}
use Rattle.room_memory.specs.{Objects.named_kind, Places.standing_under}
use Rattle.room_memory.proofs.Tying.{children_listed, named_more}
use Rattle.room_memory.proofs.objects.ObjectMap.listing.Goals as goal

pub loop-place-init : goal.loop-place-init
loop-place-init c =
    ap (λ (l : List (List ℕ × ObjKind)). l
    ++ map named_kind
    (standing_under c.args.parent c.args.self.now c.into_iter-place-iterator.result))
    c.new-found.ensures.items
    ∙ ap (λ l. map named_kind (standing_under c.args.parent c.args.self.now l))
    c.into_iter-place-iterator.ensures.into_iter_gives
    ∙ ap (map named_kind)
    (children_listed c.self.inside.by_number.entries c.self.inside.places.ids.entries
    c.in_ok-items.items c.args.self.now c.args.parent c.self.invariant c.self.view_is
    c.in_ok-items.ensures.ordered c.in_ok-items.ensures.listed)

pub loop-place-preserved : goal.loop-place-preserved
loop-place-preserved c =
    ap (λ (l : List (List ℕ × ObjKind)). l
    ++ map named_kind (standing_under c.args.parent c.args.self.now c.next.new.self))
    c.in_ok-push_named.ensures
    ∙ named_more c.loop-place.found.items c.args.parent c.args.self.now
    (c.in-Some.place.now, c.in-Some.id.now) c.loop-place.place-iterator c.next.new.self
    (option_copied c.standing.result) _ c.in-Some.ensures.steps c.if-place-parent.false
    (grind (arith, c.as_str.ensures.value, c.standing.ensures)) c.loop-place.invariant
