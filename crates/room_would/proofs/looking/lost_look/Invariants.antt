use Rattle.std.proofs.Common.{◌≡◌, drop}
use Rattle.room_rows.specs.Rows.{AreRows}
use Rattle.room_memory.specs.Memory.{rows_in}
use Rattle.room_piece.specs.Walking.{Finds}
use Rattle.room_would.specs.Looking.{lost_look}
use Rattle.room_would.proofs.looking.lost_look.Given as goal

-- what the first looks are at is there
abbrev pub invariant-looks : goal.invariant-looks
invariant-looks l = AreRows (rows_in l.fn.keep)
    → Finds (λ rows. lost_look rows l.looks ≡ lost_look rows (drop l.look-index l.looks))
    (rows_in l.fn.keep) (rows_in l.keep)
