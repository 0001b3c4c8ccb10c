use Rattle.std.proofs.Common.{ap, ◌∙◌, List, ℕ, filter, ◌||◌}
use Rattle.room_entry.specs.{Bits.{all_bits, bits_of, has}, BitLaws.{bits_of-or, known-or}}
use Rattle.room_entry.proofs.mask.Mask.union.Goals as goal

pub invariant_of-result : goal.invariant_of-result
invariant_of-result c =
    known-or c.self.inside.bits c.other.inside.bits c.self.invariant c.other.invariant

pub returns : goal.returns
returns c =
    bits_of-or c.self.inside.bits c.other.inside.bits
    ∙ ap (λ (m : List ℕ). filter (λ b. has m b || has (bits_of c.other.inside.bits) b) all_bits)
    c.self.view_is
    ∙ ap (λ (n : List ℕ). filter (λ b. has c.args.self b || has n b) all_bits) c.other.view_is
