use Rattle.std.{proofs.Common.{◌∙◌, ◌&&◌, sym, ap}, specs.Option.option_copied}
use Rattle.room_entry.specs.Pieces.{same_text}
use Rattle.room_rows.specs.{declared.node.Node.Node, Content.has_parent}
use Rattle.room_memory.proofs.{Found.{missing, passing}, Tying.{found_at, stands_not}}
use Rattle.room_memory.proofs.objects.ObjectMap.standing.Goals as goal

pub returns-in-None : goal.returns-in-None
returns-in-None c =
    sym (missing (λ (m : Node). has_parent c.args.parent m && same_text m.name c.args.name.now)
    c.args.id c.args.self.now
    (sym (found_at c.args.id c.self.inside.by_number.entries c.self.inside.places.ids.entries
    c.args.self.now (option_copied c.get.result) c.self.invariant c.self.view_is
    c.get.ensures.value) ∙ ap option_copied c.in-None.is))

pub returns-then-stands_at : goal.returns-then-stands_at
returns-then-stands_at c =
    sym (passing (λ (m : Node). has_parent c.args.parent m && same_text m.name c.args.name.now)
    c.args.id c.args.self.now c.in-Some.node.now
    (sym (found_at c.args.id c.self.inside.by_number.entries c.self.inside.places.ids.entries
    c.args.self.now (option_copied c.get.result) c.self.invariant c.self.view_is
    c.get.ensures.value) ∙ ap option_copied c.in-Some.is)
    (sym c.stands_at.ensures ∙ c.if-stands_at.true))

pub returns-else-stands_at : goal.returns-else-stands_at
returns-else-stands_at c =
    sym (stands_not c.self.inside.by_number.entries c.self.inside.places.ids.entries c.args.self.now
    c.args.id c.args.parent c.args.name.now c.in-Some.node.now c.self.invariant c.self.view_is
    (sym (found_at c.args.id c.self.inside.by_number.entries c.self.inside.places.ids.entries
    c.args.self.now (option_copied c.get.result) c.self.invariant c.self.view_is
    c.get.ensures.value) ∙ ap option_copied c.in-Some.is)
    (sym c.stands_at.ensures ∙ c.if-stands_at.false))
