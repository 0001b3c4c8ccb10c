-- The code and the words of each fault of an entry's text, and of an entry in a list (own).
use Rattle.std.specs.Prelude.{ℕ, List, codes}
use Rattle.room_entry.specs.declared.fault.TextFault.{TextFault}
use Rattle.room_entry.specs.declared.fault.TextFault.TheVariants.{BadKind, BadFlag, BadWho, BadMask}
use Rattle.room_entry.specs.declared.fault.TextFault.TheVariants.{NotFourParts}
use Rattle.room_entry.specs.declared.fault.ListFault.{ListFault}
use Rattle.room_entry.specs.declared.fault.ListFault.TheVariants.{TooManyEntries, TooManyOwn}
use Rattle.room_entry.specs.declared.fault.ListFault.TheVariants.{WrongKind, AccessFlag}
use Rattle.room_entry.specs.declared.fault.ListFault.TheVariants.{InheritOnlyAlone}
use Rattle.room_entry.specs.declared.fault.ListFault.TheVariants.{InheritanceOnDocument}

abbrev pub text_fault_text : TextFault → List ℕ
text_fault_text BadKind = codes "A1 bad type"
text_fault_text BadFlag = codes "A2 bad flag"
text_fault_text BadWho = codes "A3 bad who"
text_fault_text BadMask = codes "A4 bad mask letter"
text_fault_text NotFourParts = codes "A5 not four parts"

abbrev pub list_fault_text : ListFault → List ℕ
list_fault_text TooManyEntries = codes "A7 more than 4096 entries"
list_fault_text TooManyOwn = codes "A8 more than 64 own entries"
list_fault_text WrongKind = codes "A9 type not of this attribute"
list_fault_text AccessFlag = codes "A10 S or F on A or D"
list_fault_text InheritOnlyAlone = codes "A11 i without f or d"
list_fault_text InheritanceOnDocument = codes "A12 inheritance flag on a document"
