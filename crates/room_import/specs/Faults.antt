-- The code and the words of each fault of a group file (own).
use Rattle.std.specs.Prelude.{ℕ, List, ◌++◌, codes, decimal}
use Rattle.room_import.specs.declared.fault.CsvFault.{CsvFault}
use Rattle.room_import.specs.declared.fault.CsvWhy.{CsvWhy}
use Rattle.room_import.specs.declared.fault.CsvWhy.TheVariants.{BadHeader, NotTwoFields, BadName}
use Rattle.room_import.specs.declared.fault.CsvWhy.TheVariants.{TooManyRows, NotUtf8}

abbrev pub csv_why_text : CsvWhy → List ℕ
csv_why_text BadHeader = codes "C1 bad header"
csv_why_text NotTwoFields = codes "C2 not two fields"
csv_why_text BadName = codes "C3 bad name"
csv_why_text TooManyRows = codes "C4 too many rows"
csv_why_text NotUtf8 = codes "C5 not UTF-8"

-- the row's number, and what is wrong with it
abbrev pub csv_fault_text : CsvFault → List ℕ
csv_fault_text fault = codes "row " ++ decimal fault.row ++ codes ": " ++ csv_why_text fault.why
