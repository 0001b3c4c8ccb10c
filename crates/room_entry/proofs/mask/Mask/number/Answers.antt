use Rattle.std.proofs.Common.{ap, sym, ◌∙◌}
use Rattle.room_entry.specs.{Bits.number_of, BitLaws.number_of-bits_of}
use Rattle.room_entry.proofs.mask.Mask.number.Goals as goal

pub returns-clause-number : goal.returns-clause-number
returns-clause-number c =
    ap number_of (sym c.self.view_is) ∙ number_of-bits_of c.self.inside.bits c.self.invariant
