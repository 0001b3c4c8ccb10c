use Rattle.std.proofs.Common.{ap, sym, ◌∙◌, eq-eqb, eqb-true, nat_eq}
use Rattle.room_entry.specs.{Bits.{bits_of, number_of}, BitLaws.number_of-bits_of}
use Rattle.room_entry.proofs.Alike.{by_texts}
use Rattle.room_entry.proofs.mask.Mask.is_same.Goals as goal

pub returns : goal.returns
returns c =
    let a = c.self.inside.bits in
    let b = c.other.inside.bits in
    by_texts (λ t. t) (λ s t e. e) c.args.self c.args.other (nat_eq a b)
    (λ h. sym c.self.view_is ∙ ap bits_of (eqb-true a b h) ∙ c.other.view_is)
    (λ h. eq-eqb a b (sym (number_of-bits_of a c.self.invariant)
    ∙ ap number_of (c.self.view_is ∙ h ∙ sym c.other.view_is)
    ∙ number_of-bits_of b c.other.invariant))
