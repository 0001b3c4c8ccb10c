use Rattle.std.{proofs.Common.{arith, ◌≡◌, ◌∙◌, Some, sym, ap}, specs.Prelude.option_and_then}
use Rattle.std.specs.Option.{option_copied}
use Rattle.room_rows.specs.Finding.{find_id}
use Rattle.room_memory.{specs.Objects.place_of, proofs.Tying.{found_at, place_is}}
use Rattle.room_memory.proofs.objects.ObjectMap.place_of.Goals as goal

pub returns-in_ok-place_at-in-Some-parent : goal.returns-in_ok-place_at-in-Some-parent
returns-in_ok-place_at-in-Some-parent c =
    let found : Some c.in-Some.node.now ≡ find_id c.args.id c.args.self.now =
    sym (ap option_copied c.in-Some.is)
    ∙ found_at c.args.id c.self.inside.by_number.entries c.self.inside.places.ids.entries
    c.args.self.now (option_copied c.get.result) c.self.invariant c.self.view_is c.get.ensures.value
    in
    place_is c.in_ok-place_at-in-Some-parent.field-0 c.args.self.now c.args.id c.in-Some.node.now
    c.in-Some-parent.parent
    (sym found) c.in-Some-parent.is c.in_ok-place_at-in-Some-parent.ensures.parent
    (c.in_ok-place_at-in-Some-parent.ensures.name ∙ c.as_str.ensures)

pub returns-in-None-parent : goal.returns-in-None-parent
returns-in-None-parent c =
    let found : Some c.in-Some.node.now ≡ find_id c.args.id c.args.self.now =
    sym (ap option_copied c.in-Some.is)
    ∙ found_at c.args.id c.self.inside.by_number.entries c.self.inside.places.ids.entries
    c.args.self.now (option_copied c.get.result) c.self.invariant c.self.view_is c.get.ensures.value
    in grind (arith, c.in-Some.node.now.name, c.in-None-parent.is, found)

pub returns-in-None : goal.returns-in-None
returns-in-None c =
    ap (option_and_then place_of)
    (sym (ap option_copied c.in-None.is)
    ∙ found_at c.args.id c.self.inside.by_number.entries c.self.inside.places.ids.entries
    c.args.self.now (option_copied c.get.result) c.self.invariant c.self.view_is
    c.get.ensures.value)
