-- The code and the words of each fault of a list's text (own).
use Rattle.std.specs.Prelude.{ℕ, List, ◌++◌, codes, decimal}
use Rattle.room_entry.specs.Faults.{text_fault_text, list_fault_text}
use Rattle.room_ace.specs.declared.fault.LineFault.{LineFault}
use Rattle.room_ace.specs.declared.fault.Why.{Why}
use Rattle.room_ace.specs.declared.fault.Why.TheVariants.{Entry, List as Limit, NoListLine, NotUtf8}

abbrev pub why_text : Why → List ℕ
why_text (Entry fault) = text_fault_text fault
why_text (Limit fault) = list_fault_text fault
why_text NoListLine = codes "A6 no list line"
why_text NotUtf8 = codes "A13 not UTF-8"

abbrev pub line_fault_text : LineFault → List ℕ
line_fault_text fault = codes "line " ++ (decimal fault.line ++ (codes ": " ++ why_text fault.why))
