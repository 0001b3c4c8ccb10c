use Rattle.std.proofs.Common.{◌≡◌, ◌++◌, drop, string_bytes}
use Rattle.room_ace.specs.Lists.{list_text, entry_lines}
use Rattle.room_ace.proofs.list_text.print_list.Given as goal

-- the text so far and the lines of the rest are all
abbrev pub invariant-loop-entry : goal.invariant-loop-entry
invariant-loop-entry l =
    string_bytes l.text ++ entry_lines (drop l.entry-index l.entries)
    ≡ list_text l.fn.flags l.entries
