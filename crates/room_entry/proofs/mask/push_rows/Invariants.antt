use Rattle.std.proofs.Common.{◌≡◌, ◌++◌, drop, string_bytes}
use Rattle.room_entry.specs.Letters.{table_text}
use Rattle.room_entry.proofs.mask.push_rows.Given as goal

-- the letters so far and those of the rest of the table are all
abbrev pub invariant-loop-bit : goal.invariant-loop-bit
invariant-loop-bit l =
    string_bytes l.text ++ table_text l.bits (drop l.bit-index l.rows) ≡ string_bytes l.fn.text
    ++ table_text l.bits l.rows
