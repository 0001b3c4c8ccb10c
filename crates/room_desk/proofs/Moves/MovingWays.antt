-- The way to the new folder of a move, and what is judged there.
use Rattle.std.proofs.Common.{◌≡◌, ℕ, ◌+◌, Bool, List, [], length, take, Option, refl, Result, Ok}
use Rattle.std.proofs.{Common.arith, Math.Seq.take-length, lemmas.Bool.Decides.nat_tests}
use Rattle.room_rows.specs.{declared.node.Node.Node, Rows.Rows}
use Rattle.room_judge.specs.{declared.asker.Asker.Asker, Stored.found_site, Judged.IsJudged}
use Rattle.room_judge.specs.Judged.{IsReached}
use Rattle.room_machine.specs.{declared.reply.Reply.Reply, Site.{Site, front}}
use Rattle.room_desk.specs.Moving.{at_place}
use Rattle.room_judge.proofs.{Spots.take_front, Ways.{reaches_with, unless}}

-- the way without the last name
pub front_reached : (asker : Asker) (to : List (List ℕ)) (depth : ℕ) (outcome : Result Node Reply)
    (old new : Rows) → length to ≡ depth + 1
    → IsReached asker (take depth to) (λ _. []) old outcome new
    → IsReached asker (front to) (λ _. []) old outcome new
front_reached asker to depth outcome old new deep reached = grind (arith, nat_tests, take_front)

-- the walk comes to the folder, or ends with the reply of what is judged there
pub place_reached : (asker : Asker) (to : List (List ℕ)) (is_below : Bool) (target from : Site)
    (old mid new : Rows) (node : Node) (depth : ℕ) (refusal : Option Reply) → length to ≡ depth + 1
    → IsReached asker (front to) (λ _. []) old (Ok node) mid
    → IsJudged asker (at_place mid.read to is_below target from
    (found_site to (record { node = node; depth = depth }))) mid refusal new
    → IsReached asker (front to) (at_place old.read to is_below target from) old
    (unless node refusal) new
place_reached asker to is_below target from old mid new node depth refusal deep reached judged =
    reaches_with asker (front to) (at_place old.read to is_below target from) old mid new node
    (record { node = node; depth = length (front to) }) refusal refl reached
    (grind (arith, nat_tests, take-length, take_front))
