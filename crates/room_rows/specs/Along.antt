-- A walk that goes on from objects found before.
use Rattle.std.specs.Prelude.{◌++◌, List}
use Rattle.room_rows.specs.declared.node.Node.{Node}
use Rattle.room_rows.specs.declared.node.Walk.{Walk}

abbrev pub after_chain : List Node → Walk → Walk
after_chain front walk = record { chain = front ++ walk.chain; rest = walk.rest }
