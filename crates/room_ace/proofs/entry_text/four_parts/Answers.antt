use Rattle.room_ace.proofs.Parts.{five_parts}
use Rattle.room_ace.proofs.entry_text.four_parts.Goals as goal

pub returns-in-Some : goal.returns-in-Some
returns-in-Some c =
    five_parts c.args.bytes.now c.in_ok-kind.kind.now c.in_ok-kind.rest.now c.in_ok-flags.flags.now
    c.in_ok-flags.rest.now c.in_ok-who.who.now c.in_ok-who.mask.now _ c.in-Some.field-0.1.now
    c.in_ok-kind.ensures.0 c.in_ok-flags.ensures.0 c.in_ok-who.ensures.0 c.in-Some.ensures.0
