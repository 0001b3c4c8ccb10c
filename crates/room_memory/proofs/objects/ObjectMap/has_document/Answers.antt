use Rattle.std.{proofs.Common.{◌∙◌, false, sym, ap}, specs.Option.{option_copied, option_map_or}}
use Rattle.room_entry.specs.Valid.{is_document}
use Rattle.room_rows.specs.declared.node.Node.{Node}
use Rattle.room_memory.proofs.Tying.{found_at}
use Rattle.room_memory.proofs.objects.ObjectMap.has_document.Goals as goal

pub returns-in-Some : goal.returns-in-Some
returns-in-Some c =
    c.is_document.ensures
    ∙ ap (λ o. option_map_or (λ (node : Node). is_document node.kind) o false)
    (sym (ap option_copied c.in-Some.is)
    ∙ found_at c.args.id c.self.inside.by_number.entries c.self.inside.places.ids.entries
    c.args.self.now (option_copied c.get.result) c.self.invariant c.self.view_is
    c.get.ensures.value)

pub returns-in-None : goal.returns-in-None
returns-in-None c =
    ap (λ o. option_map_or (λ (node : Node). is_document node.kind) o false)
    (sym (ap option_copied c.in-None.is)
    ∙ found_at c.args.id c.self.inside.by_number.entries c.self.inside.places.ids.entries
    c.args.self.now (option_copied c.get.result) c.self.invariant c.self.view_is
    c.get.ensures.value)
