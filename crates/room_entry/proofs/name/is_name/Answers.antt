use Rattle.std.proofs.Common.{arith, ap, sym, ◌∙◌, ◌&&◌}
use Rattle.room_entry.specs.Names.{is_part, is_domain_byte}
use Rattle.room_entry.proofs.Cuts.{name_alone, name_with_domain, no_name}
use Rattle.room_entry.proofs.name.is_name.Goals as goal

pub returns-in-None : goal.returns-in-None
returns-in-None c = c.is_local_part.ensures ∙ sym (name_alone _ c.in-None.ensures)

pub returns-then-is_local_part : goal.returns-then-is_local_part
returns-then-is_local_part c =
    let whole =
    name_with_domain c.args.bytes.now c.in-Some.local.now c.in-Some.rest.now c.in-Some.ensures.0
    c.in-None-cut.ensures in
    c.is_domain_part.ensures
    ∙ sym (whole ∙ ap (λ b. b && is_part is_domain_byte c.in-Some.rest.now)
    (sym c.is_local_part-in-None-cut.ensures ∙ c.if-is_local_part.true))

pub returns-else-is_local_part : goal.returns-else-is_local_part
returns-else-is_local_part c =
    let whole =
    name_with_domain c.args.bytes.now c.in-Some.local.now c.in-Some.rest.now c.in-Some.ensures.0
    c.in-None-cut.ensures in
    grind (arith, c.if-is_local_part.false, whole, c.is_local_part-in-None-cut.ensures)

pub returns-in-Some-cut : goal.returns-in-Some-cut
returns-in-Some-cut c = grind (arith, no_name, c.in-Some.ensures.0, c.in-Some-cut.ensures.0)
