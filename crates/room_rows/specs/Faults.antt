-- The text of each fault of a path, and of a keeper (own).
use Rattle.std.specs.Prelude.{ℕ, List, ◌++◌, codes, decimal}
use Rattle.room_rows.specs.declared.fault.PathFault.{PathFault}
use Rattle.room_rows.specs.declared.fault.PathFault.TheVariants.{BadName, TooLong, NotUtf8}
use Rattle.room_rows.specs.declared.keep.KeepFault.{KeepFault}
use Rattle.room_rows.specs.declared.keep.KeepFault.TheVariants.{Memory, Store, NoRoot, Damaged}

abbrev pub path_fault_text : PathFault → List ℕ
path_fault_text BadName = codes "P1 bad object name"
path_fault_text TooLong = codes "P2 path over 4096 bytes"
path_fault_text NotUtf8 = codes "P3 not UTF-8"

abbrev pub keep_fault_text : KeepFault → List ℕ
keep_fault_text Memory = codes "out of memory"
keep_fault_text Store = codes "the store failed"
keep_fault_text NoRoot = codes "no object is a root"
keep_fault_text (Damaged id) = codes "row " ++ (decimal id ++ codes " is damaged")
