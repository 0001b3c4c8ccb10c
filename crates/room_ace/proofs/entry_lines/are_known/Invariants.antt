use Rattle.std.proofs.Common.{ℕ, ◌<◌, length, get_or}
use Rattle.room_entry.specs.{Ace.Ace, Laws.IsEntry}
use Rattle.room_ace.proofs.entry_lines.are_known.Given as goal

abbrev pub invariant-loop-entry : goal.invariant-loop-entry
invariant-loop-entry l = (k : ℕ) (d : Ace) → k < l.entry-index → k < length l.entries
    → IsEntry (get_or l.entries k d)
