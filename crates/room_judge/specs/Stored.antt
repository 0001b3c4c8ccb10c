-- What a walk has come to.
use Rattle.std.specs.Prelude.{ℕ, List, take}
use Rattle.room_judge.specs.declared.arrival.Found.{Found}
use Rattle.room_machine.specs.Site.{Site}
use Rattle.room_machine.specs.Stored.{stored_site}

-- an object that was found after n names of a path, with its lists as they are stored
abbrev pub found_site : List (List ℕ) → Found → Site
found_site path found = stored_site (take found.depth path) found.node
