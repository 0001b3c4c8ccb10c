use Rattle.std.{proofs.Common.{◌≡◌, [], drop, length}, specs.Prelude.◌-◌}
use Rattle.room_rows.specs.{Content.with_members, Keep.with_content, Rows.AreRows}
use Rattle.room_memory.specs.Memory.{rows_in}
use Rattle.room_piece.proofs.building.join_all.Given as goal

-- the last pairs are joined
abbrev pub invariant-pairs : goal.invariant-pairs
invariant-pairs l = AreRows (rows_in l.fn.keep) → (rows_in l.fn.keep).read.members ≡ []
    → (rows_in l.keep ≡ with_content (rows_in l.fn.keep)
    (with_members (rows_in l.fn.keep).read (drop (length l.pairs - l.index) l.pairs)))
    × AreRows (rows_in l.keep)
