-- What rows mean.
use Rattle.std.specs.Prelude.{Bool, [], map, if◌then◌else◌}
use Rattle.room_entry.specs.declared.object.Which.TheVariants.{Dacl, Sacl}
use Rattle.room_rows.specs.HeldList.{Held}
use Rattle.room_rows.specs.declared.node.Node.{Node}
use Rattle.room_rows.specs.Content.{Content, is_linked_in}

-- no inherited entries where they come from the parent, and else those that are stored
abbrev pub kept_held : Bool → Held → Held
kept_held linked held = if linked then record held { inh = [] } else held

abbrev pub kept_node : Content → Node → Node
kept_node rows node =
    record node {
      dacl = kept_held (is_linked_in rows Dacl node) node.dacl;
      sacl = kept_held (is_linked_in rows Sacl node) node.sacl;
    }

-- The content that the rows stand for.
abbrev pub meaning : Content → Content
meaning rows = record rows { nodes = map (kept_node rows) rows.nodes }
