-- The text of each fault of carrying lists down (own).
use Rattle.std.specs.Prelude.{ℕ, List, codes}
use Rattle.room_rows.specs.Faults.{keep_fault_text}
use Rattle.room_inherit.specs.declared.outcome.SpreadFault.{SpreadFault}
use Rattle.room_inherit.specs.declared.outcome.SpreadFault.TheVariants.{Keeper, Loop}

abbrev pub spread_fault_text : SpreadFault → List ℕ
spread_fault_text (Keeper fault) = keep_fault_text fault
spread_fault_text Loop = codes "an object is its own ancestor"
