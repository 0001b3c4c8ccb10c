use Rattle.std.{proofs.Common.{ap, ◌∙◌, List, ℕ, filter, not, arith}, specs.Int.{bit_not, w32}}
use Rattle.room_entry.specs.{Bits.{bits_of, has}, BitLaws.{bits_of-and_not, known-and, known_le}}
use Rattle.room_entry.proofs.mask.Mask.without.Goals as goal

pub invariant_of-result : goal.invariant_of-result
invariant_of-result c =
    known-and c.self.inside.bits (bit_not w32 c.other.inside.bits) c.self.invariant

pub returns : goal.returns
returns c =
    bits_of-and_not c.self.inside.bits c.other.inside.bits
    (let le = known_le c.other.inside.bits c.other.invariant in omega arith)
    ∙ ap (λ (n : List ℕ). filter (λ b. not (has n b)) (bits_of c.self.inside.bits)) c.other.view_is
    ∙ ap (filter (λ b. not (has c.args.other b))) c.self.view_is
