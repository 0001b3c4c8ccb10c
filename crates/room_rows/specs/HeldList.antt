-- A list of an object.
use Rattle.std.specs.Prelude.{List}
use Rattle.room_entry.specs.Ace.{Ace}
use Rattle.room_entry.specs.declared.flags.ListFlags.{ListFlags}

-- its flags, its own entries, and the inherited ones that are stored
pub record Held : Type 0 where
  pub flags : ListFlags
  pub own : List Ace
  pub inh : List Ace
