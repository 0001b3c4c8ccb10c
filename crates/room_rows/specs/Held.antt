-- The lists of an object.
use Rattle.std.specs.Prelude.{Bool, false, not, ◌&&◌, List, ◌++◌, Option, Some, None}
use Rattle.room_entry.specs.Ace.{Ace}
use Rattle.room_entry.specs.declared.object.Which.{Which}
use Rattle.room_entry.specs.declared.object.Which.TheVariants.{Dacl, Sacl}
use Rattle.room_rows.specs.HeldList.{Held}
use Rattle.room_rows.specs.declared.node.Node.{Node}

abbrev pub held_of : Which → Node → Held
held_of Dacl node = node.dacl
held_of Sacl node = node.sacl

abbrev pub with_held : Which → Held → Node → Node
with_held Dacl held node = record node { dacl = held }
with_held Sacl held node = record node { sacl = held }

-- the own entries, and then the inherited ones
abbrev pub full_of : Held → List Ace
full_of held = held.own ++ held.inh

-- A list takes its inherited entries from the parent's where it isn't protected and the parent's
-- has AUTO_INHERIT (RFC 8881, section 6.4.3.2). The root has no parent.
abbrev pub is_linked : Held → Option Held → Bool
is_linked held None = false
is_linked held (Some parent) = not held.flags.protect && parent.flags.auto
