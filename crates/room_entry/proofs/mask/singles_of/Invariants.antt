use Rattle.std.proofs.Common.{◌≡◌, ◌∷◌, [], ◌++◌, filter, map, drop}
use Rattle.room_entry.specs.Bits.{is_set}
use Rattle.room_entry.proofs.mask.singles_of.Given as goal

-- the masks so far and those of the rest of the table are all
abbrev pub invariant-loop-bit : goal.invariant-loop-bit
invariant-loop-bit l =
    l.masks.items
    ++ map (λ bit. bit ∷ []) (filter (is_set l.bits) (map (λ row. row.0) (drop l.bit-index l.rows)))
    ≡ map (λ bit. bit ∷ []) (filter (is_set l.bits) (map (λ row. row.0) l.rows))
