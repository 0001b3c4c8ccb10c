use Rattle.std.proofs.Common.{rules, ◌∙◌, ap, string_bytes}
use Rattle.room_rows.specs.Finding.{find_named}
use Rattle.room_memory.proofs.Tying.{tied_listed, tied_added, put_view}
use Rattle.room_memory.proofs.objects.ObjectMap.add.Goals as goal

pub invariant_of-self-in_err-insert : goal.invariant_of-self-in_err-insert
invariant_of-self-in_err-insert c =
    tied_listed c.self.inside.by_number.entries c.insert.new.self.entries
    c.self.inside.places.ids.entries c.put.new.self.ids.entries c.args.self.now c.args.place.0
    (string_bytes c.args.place.1) c.args.node.id c.self.invariant c.self.view_is
    c.in_err-insert.ensures.err c.in_ok-put.ensures.ok
    (ap (λ n. find_named c.args.place.0 n c.args.self.now) c.requires.name ∙ c.requires.free)

pub invariant_of-self-2 : goal.invariant_of-self-2
invariant_of-self-2 c =
    tied_added c.self.inside.by_number.entries c.insert.new.self.entries
    c.self.inside.places.ids.entries c.put.new.self.ids.entries c.args.self.now c.args.node
    c.args.place.0 (string_bytes c.args.place.1) c.self.invariant c.self.view_is
    c.requires.number c.requires.parent c.requires.name c.requires.free
    c.in_ok-insert.ensures.entries c.in_ok-insert.ensures.ordered c.in_ok-put.ensures.ok

pub returns-clause-ok : goal.returns-clause-ok
returns-clause-ok c =
    search (rules, put_view, c.self.invariant, c.self.view_is, c.in_ok-insert.ensures.entries)
