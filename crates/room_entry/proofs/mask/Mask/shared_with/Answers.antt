use Rattle.std.proofs.Common.{ap, ◌∙◌, List, ℕ, filter}
use Rattle.room_entry.specs.{Bits.{bits_of, has}, BitLaws.{bits_of-and, known-and}}
use Rattle.room_entry.proofs.mask.Mask.shared_with.Goals as goal

pub invariant_of-result : goal.invariant_of-result
invariant_of-result c = known-and c.self.inside.bits c.other.inside.bits c.self.invariant

pub returns : goal.returns
returns c =
    bits_of-and c.self.inside.bits c.other.inside.bits
    ∙ ap (λ (n : List ℕ). filter (has n) (bits_of c.self.inside.bits)) c.other.view_is
    ∙ ap (filter (has c.args.other)) c.self.view_is
