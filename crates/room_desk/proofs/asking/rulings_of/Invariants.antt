use Rattle.std.proofs.Common.{ℕ, ◌≡◌, ◌∷◌, [], ◌++◌, List, drop, map}
use Rattle.room_eval.specs.{declared.outcome.Ruling.Ruling, Verdict.ruling_of}
use Rattle.room_rows.specs.Held.{full_of}
use Rattle.room_desk.proofs.asking.rulings_of.Given as goal

-- the rulings so far and those of the rest of the bits are all
abbrev pub invariant-bits : goal.invariant-bits
invariant-bits l =
    let ruled : ℕ → List ℕ × Ruling = λ bit.
    (bit ∷ [], ruling_of (full_of l.node.dacl) l.ask.asker.now.caller l.node.owners bit) in
    l.items.items ++ map ruled
    (drop l.bit-index l.fn.mask)
    ≡ map ruled l.fn.mask
