-- Runs that meet.
use Rattle.std.proofs.Common.{ℕ, ℤ, List, [], ◌∷◌, ◌++◌, Option, Result, Ok, Err, refl, subst}
use Rattle.std.proofs.{Common.arith, lemmas.Bool.Decides.nat_tests}
use Rattle.room_rows.specs.{Content.Content, Rows.Rows}
use Rattle.room_machine.specs.{Desk.{Closes, RunsClosed}, declared.reply.Reply.Reply}
use Rattle.room_machine.specs.{declared.request.Request.Request, Run.{Asked, ClosedRun, Event, Run}}
use Rattle.room_machine.specs.Run.{event_of}

-- two runs that meet are one run
pub meet : (content mid after : Content) (events others : List Event) → Run content events mid
    → Run mid others after → Run content (events ++ others) after
meet content mid after [] others first second =
    subst (λ (c : Content). Run c others after) first second
meet content mid after (event ∷ events) others first second =
    (first.0, first.1, meet first.0 mid after events others first.2 second)

-- ---- on any rows

pub meet_closed : (rows mid next : Rows) (events others : List Event) → ClosedRun rows events mid
    → ClosedRun mid others next → ClosedRun rows (events ++ others) next
meet_closed rows mid next [] others first second =
    subst (λ (r : Rows). ClosedRun r others next) first second
meet_closed rows mid next (event ∷ events) others first second =
    (first.0, first.1, meet_closed first.0 mid next events others first.2 second)

-- nothing happens
pub closed_still : (old new : Rows → Type 0) → ((rows : Rows) → old rows → new rows)
    → RunsClosed old [] new
closed_still old new same rows stored = (rows, refl, same rows stored)

-- one request
pub closed_once : {E : Type 0} (old new : Rows → Type 0) (user : Option (List ℕ)) (moment : ℤ)
    (request : Request) (result : Result Reply E)
    → Closes old user moment request result new
    → RunsClosed old (event_of result (Asked user moment request)) new
closed_once old new user moment request (Ok reply) closes rows stored = grind (arith, nat_tests)
closed_once old new user moment request (Err fault) closes rows stored = grind (arith, nat_tests)

-- one after the other
pub closed_meet : (old mid new : Rows → Type 0) (events others : List Event)
    → RunsClosed old events mid → RunsClosed mid others new → RunsClosed old (events ++ others) new
closed_meet old mid new events others first second rows stored =
    grind (arith, nat_tests, meet_closed)
