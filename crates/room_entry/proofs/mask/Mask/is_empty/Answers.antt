use Rattle.std.proofs.Common.{ap, sym, ◌∙◌, eq-eqb, eqb-true}
use Rattle.room_entry.specs.{Bits.{bits_of, number_of}, BitLaws.{bits_of-zero, number_of-bits_of}}
use Rattle.room_entry.proofs.mask.Mask.is_empty.Goals as goal

pub returns : goal.returns
returns c = (
  λ none. sym c.self.view_is ∙ ap bits_of (eqb-true c.self.inside.bits 0 none) ∙ bits_of-zero,
  λ none. eq-eqb c.self.inside.bits 0
      (sym (number_of-bits_of c.self.inside.bits c.self.invariant)
      ∙ ap number_of (c.self.view_is ∙ none)),
)
