-- Who changes whose rights in a room that is served (own).
use Rattle.std.specs.Prelude.{◌≡◌, ◌⊎◌, ℕ, List, [], ◌∷◌, Option, Some, IsTrue, Ok}
use Rattle.sqlite_rules.specs.Lists.{Has}
use Rattle.sqlite.specs.State.{State, HasCleanDisk}
use Rattle.sqlite.specs.Tree.{Trees}
use Rattle.room_rows.specs.Content.{Content}
use Rattle.room_machine.specs.Run.{Asked, Event, Happens, Run}
use Rattle.room_machine.specs.declared.reply.Reply.{Reply}
use Rattle.room_machine.specs.declared.request.Request.{Request}
use Rattle.room_laws.specs.WhoChanged.{Changes, IsHarmless, IsThere, Makes, SameRights}
use Rattle.room_http.specs.Message.{Message, asked}
use Rattle.room_store.specs.Crash.{HoldsRoom, IsRoomOf}
use Rattle.room_store.specs.Kept.{Keeps}
use Rattle.cli_listen.specs.Visits.{Visit, requests_of}

-- What happens leaves everybody's rights at the path as they were, or its caller had the right, in
-- the room in which it happens, for what alters them. What is there stays there, or it is such a
-- change. Whoever has neither WRITE_ACL nor WRITE_OWNER there or above, and may remove nothing there,
-- leaves everybody's rights to what is there.
pub record IsByRight (path : List (List ℕ)) (before : Content) (event : Event) (after : Content)
    : Type 0 where
  pub entitled :
      SameRights path before after ⊎ (Changes path before event ⊎ Makes path before event)
  pub stays : IsThere before path → IsThere after path ⊎ Changes path before event
  pub harmless : IsThere before path → IsHarmless path before event → SameRights path before after

-- In this run each request is so, at every path.
abbrev pub EachByRight : (events : List Event) (room next : Content) → Run room events next → Type 0
EachByRight [] room next run = Unit {0}
EachByRight (event ∷ events) room next (mid, happens, run) =
    ((path : List (List ℕ)) → IsByRight path room event mid) × EachByRight events mid next run

-- The message at which the desk failed on one of these connections was carried out in the room, and
-- leads to the one that is left. It is so too.
pub record IsCarriedOut (visits : List Visit) (room left : Content) : Type 0 where
  pub visit : Visit
  pub is_visit : Has visits visit
  pub message : Message
  pub failed : visit.failed ≡ Some message
  pub user : Option (List ℕ)
  pub request : Request
  pub asks : asked message ≡ Ok (user, request)
  pub reply : Reply
  pub happens : Happens room (Asked user visit.moment request reply) left
  pub by_right : (path : List (List ℕ))
      → IsByRight path room (Asked user visit.moment request reply) left

-- From one state to a later one these connections were served, whoever asked for whatever. If the
-- tables were those of a sound room, then each request that was answered left everybody's rights as
-- they were, or its caller had the right to alter them: up to the room that is kept then. Where the
-- connection was open before, whatever a power cut leaves is the room after all of these, or after
-- one message more, which got no answer.
abbrev pub ServingChangesByRight : State → List Visit → State → Type 0
ServingChangesByRight old visits new = HasCleanDisk new
    → (room : Content) → IsRoomOf room old.now
    → ((next : Content) × (run : Run room (requests_of visits) next) × Keeps new next
    × EachByRight (requests_of visits) room next run)
    × (IsTrue old.is_open → (next : Content) × (run : Run room (requests_of visits) next)
    × EachByRight (requests_of visits) room next run
    × ((db : Trees) → new.may_leave db → (left : Content) × HoldsRoom left db
    × ((left ≡ next) ⊎ IsCarriedOut visits next left)))
