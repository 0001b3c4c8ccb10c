use Rattle.std.specs.{Prelude.{length, ◌≤◌}, List.All}
use Rattle.room_rows.specs.Rows.{Rows}
use Rattle.room_remember.specs.Agrees.{IsSlot}
use Rattle.room_remember.proofs.slots.fill.Given as goal

abbrev pub invariant-slots : goal.invariant-slots
invariant-slots l = (length l.slots.items ≤ 512)
    × ((rows : Rows) → All (IsSlot rows) l.fn.slots.items → All (IsSlot rows) l.slots.items)
