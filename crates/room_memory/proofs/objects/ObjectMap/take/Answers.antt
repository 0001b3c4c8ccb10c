use Rattle.std.{proofs.Common.{rules, ◌∙◌, ap}, specs.{Prelude.is_some, Option.option_map}}
use Rattle.room_memory.{specs.Places.text_place, proofs.Tying.{found_at, tied_taken, taken_view}}
use Rattle.room_memory.proofs.objects.ObjectMap.take.Goals as goal

pub invariant_of-self : goal.invariant_of-self
invariant_of-self c =
    tied_taken c.self.inside.by_number.entries c.remove.new.self.entries
    c.self.inside.places.ids.entries c.take.new.self.ids.entries c.args.self.now c.args.id
    (option_map text_place c.in_ok-place.place) c.self.invariant c.self.view_is
    c.in_ok-place.ensures c.remove.ensures.entries c.remove.ensures.ordered c.take.ensures

pub returns-clause-found : goal.returns-clause-found
returns-clause-found c =
    c.is_some.ensures
    ∙ ap is_some
    (search (rules, found_at, c.self.invariant, c.self.view_is, c.remove.ensures.value))

pub returns-clause-ok : goal.returns-clause-ok
returns-clause-ok c =
    search (rules, taken_view, c.self.invariant, c.self.view_is, c.remove.ensures.entries)
