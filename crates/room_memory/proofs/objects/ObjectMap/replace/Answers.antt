use Rattle.std.proofs.Common.{rules}
use Rattle.room_memory.proofs.Tying.{still_there, tied_replaced, put_view}
use Rattle.room_memory.proofs.objects.ObjectMap.replace.Goals as goal

pub put_in-requires : goal.put_in-requires
put_in-requires c =
    search (rules, still_there, c.self.invariant, c.self.view_is, c.requires.is_there)

pub invariant_of-self : goal.invariant_of-self
invariant_of-self c =
    tied_replaced c.self.inside.by_number.entries c.put_in.new.by_number.entries
    c.self.inside.places.ids.entries c.args.self.now c.args.node c.self.invariant c.self.view_is
    c.requires c.put_in.ensures.entries c.put_in.ensures.ordered

pub returns : goal.returns
returns c = search (rules, put_view, c.self.invariant, c.self.view_is, c.put_in.ensures.entries)
