-- The results of walks to the folder of a path's last name.
use Rattle.std.specs.Prelude.{◌≡◌, ℕ, List, Option, Some, Result, Ok, IfOk, length, false, true}
use Rattle.std.specs.Option.{option_map}
use Rattle.room_rows.specs.declared.node.Node.{Node}
use Rattle.room_rows.specs.Rows.{Rows}
use Rattle.room_judge.specs.declared.arrival.Both.{Both}
use Rattle.room_judge.specs.declared.arrival.Found.{Found}
use Rattle.room_judge.specs.declared.arrival.Under.{Under}
use Rattle.room_judge.specs.declared.asker.Asker.{Asker}
use Rattle.room_machine.specs.declared.reply.Reply.{Reply}
use Rattle.room_machine.specs.Site.{site_at, parent_at}
use Rattle.room_machine.specs.Plan.{way}
use Rattle.room_machine.specs.Stored.{stored_along, stored_site}
use Rattle.room_judge.specs.Stored.{found_site}
use Rattle.room_judge.specs.Judged.{IsJudged, child_below, refusal_of, through}

-- a folder, and what has the last name in it
abbrev pub spot_of : Found → Option Node → Result Under Reply
spot_of folder child = Ok (record { folder = folder; child = child })

-- a folder, and the object at the path
abbrev pub pair_of : Found → Found → Result Both Reply
pair_of folder target = Ok (record { folder = folder; target = target })

-- The way to the folder of the last name, and what has that name in it. The folder has to grant
-- EXECUTE.
pub record IsSpotted (asker : Asker) (path : List (List ℕ)) (old : Rows)
    (outcome : Result Under Reply) (new : Rows) : Type 0 where
  pub judged : IsJudged asker (way true (stored_along old.read path) path) old
      (refusal_of outcome) new
  pub folder : IfOk outcome (λ spot.
      parent_at (stored_along old.read path) path ≡ Some (found_site path spot.folder))
  pub child : IfOk outcome (λ spot.
      site_at (stored_along old.read path) path ≡ option_map (stored_site path) spot.child)

-- The way to an object, its folder, and itself.
pub record IsPaired (asker : Asker) (path : List (List ℕ)) (old : Rows)
    (outcome : Result Both Reply) (new : Rows) : Type 0 where
  pub judged : IsJudged asker (way false (stored_along old.read path) path) old
      (refusal_of outcome) new
  pub folder : IfOk outcome (λ pair.
      parent_at (stored_along old.read path) path ≡ Some (found_site path pair.folder))
  pub target : IfOk outcome (λ pair.
      site_at (stored_along old.read path) path ≡ Some (stored_site path pair.target.node))
  pub depth : IfOk outcome (λ pair. pair.target.depth ≡ length path)

-- The folder grants EXECUTE, and what has the next name in it is found.
pub record SpotsUnder (asker : Asker) (path : List (List ℕ)) (from : Found) (old : Rows)
    (outcome : Result Under Reply) (new : Rows) : Type 0 where
  pub judged : IsJudged asker (through (found_site path from)) old (refusal_of outcome) new
  pub folder : IfOk outcome (λ spot. spot.folder ≡ from)
  pub child : IfOk outcome (λ spot. spot.child ≡ child_below path from old)
