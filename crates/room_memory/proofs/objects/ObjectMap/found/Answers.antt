use Rattle.std.proofs.Common.{◌∙◌, sym, ap, string_bytes}
use Rattle.room_memory.{specs.Places.standing, proofs.Tying.{nothing_named, something_named}}
use Rattle.room_memory.proofs.objects.ObjectMap.found.Goals as goal

pub returns-in-Some : goal.returns-in-Some
returns-in-Some c =
    let place = c.args.place.now in
    c.standing.ensures ∙ ap (λ n. standing c.in-Some.id place.0 n c.args.self.now)
    c.as_str.ensures.value
    ∙ something_named c.self.inside.by_number.entries c.self.inside.places.ids.entries
    c.args.self.now place.0 (string_bytes place.1) c.in-Some.id c.self.invariant c.self.view_is
    (sym c.at.ensures ∙ c.in-Some.is)

pub returns-in-None : goal.returns-in-None
returns-in-None c =
    let place = c.args.place.now in
    sym (nothing_named c.self.inside.by_number.entries c.self.inside.places.ids.entries
    c.args.self.now place.0 (string_bytes place.1) c.self.invariant c.self.view_is
    (sym c.at.ensures ∙ c.in-None.is))
