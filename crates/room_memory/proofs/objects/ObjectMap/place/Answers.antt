use Rattle.std.{proofs.Common.{rules, string_bytes}, specs.Option.option_map}
use Rattle.room_memory.{specs.Places.text_place, proofs.Tying.{still_there, tied_placed, put_view}}
use Rattle.room_memory.proofs.objects.ObjectMap.place.Goals as goal

pub put_in-requires : goal.put_in-requires
put_in-requires c = search (rules, still_there, c.self.invariant, c.self.view_is, c.requires.there)

pub invariant_of-self-2 : goal.invariant_of-self-2
invariant_of-self-2 c =
    let moves = c.in_ok-move_to.ensures.ok in
    tied_placed c.self.inside.by_number.entries c.put_in.new.by_number.entries
    c.self.inside.places.ids.entries moves.both c.move_to.new.self.ids.entries c.args.self.now
    c.args.node c.args.place.0 (string_bytes c.args.place.1)
    (option_map text_place c.in_ok-before.before) c.self.invariant c.self.view_is
    c.requires.there c.requires.parent c.requires.name c.requires.free c.in_ok-before.ensures
    c.put_in.ensures.entries c.put_in.ensures.ordered moves.listed moves.left

pub returns-clause-ok : goal.returns-clause-ok
returns-clause-ok c =
    search (rules, put_view, c.self.invariant, c.self.view_is, c.put_in.ensures.entries)
