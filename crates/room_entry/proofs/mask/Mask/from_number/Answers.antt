use Rattle.std.proofs.Common.{◌==◌, if◌then◌else◌, Some, None, ap, sym, ◌∙◌, bit_and, eq-eqb}
use Rattle.std.proofs.lemmas.Bool.{ne_eqb}
use Rattle.room_entry.specs.{Bits.bits_of, BitLaws.number_of-known}
use Rattle.room_entry.proofs.mask.Mask.from_number.Goals as goal

pub returns-then-number : goal.returns-then-number
returns-then-number c =
    let n = c.args.number in
    sym (ap (λ m. if m == n then Some (bits_of n) else None) (number_of-known n)
    ∙ ap (λ b. if b then Some (bits_of n) else None)
    (eq-eqb (bit_and n 0x1F07FF) n c.if-number.true))

pub returns-else-number : goal.returns-else-number
returns-else-number c =
    let n = c.args.number in
    sym (ap (λ m. if m == n then Some (bits_of n) else None) (number_of-known n)
    ∙ ap (λ b. if b then Some (bits_of n) else None)
    (ne_eqb (bit_and n 0x1F07FF) n c.if-number.false))
