-- Each request that was answered, or carried out without an answer, and whose rights it changed.
use Rattle.std.proofs.Common.{◌≡◌, ◌⊎◌, List, [], ◌∷◌, Option, None, Some, IfSome, Ok, Err}
use Rattle.std.proofs.Common.{ℕ, inl, inr, refl, subst}
use Rattle.sqlite_rules.{specs.Lists.Has, proofs.ListLemmas.has_either}
use Rattle.sqlite.specs.{State.State, Tree.Trees}
use Rattle.room_rows.specs.Content.{Content}
use Rattle.room_inherit.specs.Laws.{SoundIsContent}
use Rattle.room_machine.specs.{Run.{Asked, Asking, Event, Happens, Run}}
use Rattle.room_machine.specs.declared.{request.Request.Request}
use Rattle.room_laws.specs.Tidy.{ContentIsTidy, IsNumbered, IsTidy, StaysTidy}
use Rattle.room_laws.specs.WhoChanged.{ChangedBy, Changes, IsThere, NothingGained, RightsChangedBy}
use Rattle.room_laws.{specs.WhoChanged.SameBasis, proofs.WhoChanged.still_there}
use Rattle.room_http.specs.{Message.{Message, Parsed, asked}, Stream.asking_at}
use Rattle.room_store.specs.{Crash.{HoldsRoom, HoldsRoomAfter, Leaves}, Leads.Leads}
use Rattle.store_runs.proofs.Rooms.{keeps, numbered, sound, tidy}
use Rattle.cli_listen.specs.Visits.{Visit, asking_by, requests_of, unanswered_of, visit_unanswered}
use Rattle.cli_serve.specs.Hosts.{LeavesRequests}
use Rattle.cli_runs.proofs.Runs.{tidy_then}
use Rattle.cli_runs.specs.Gains.{EachByRight, IsByRight, IsCarriedOut, ServingChangesByRight}

-- ---- a message that got no answer

record OfFailed (visits : List Visit) (asking : Asking) : Type 0 where
  visit : Visit
  is_visit : Has visits visit
  message : Message
  failed : visit.failed ≡ Some message
  user : Option (List ℕ)
  request : Request
  asks : asked message ≡ Ok (user, request)
  is : asking ≡ Asked user visit.moment request

by_asking : (visits : List Visit) (v : Visit) (asking : Asking) (m : Message) (p : Parsed)
    → v.failed ≡ Some m → asked m ≡ p → Has (asking_at v.moment p) asking
    → OfFailed (v ∷ visits) asking
by_asking visits v asking m (Ok call) failed asks (inl is) =
    record {
      visit = v;
      is_visit = inl refl;
      message = m;
      failed = failed;
      user = call.0;
      request = call.1;
      asks = asks;
      is = is;
    }
by_asking visits v asking m (Ok call) failed asks (inr none) = absurd none
by_asking visits v asking m (Err fault) failed asks none = absurd none

by_failed : (visits : List Visit) (v : Visit) (asking : Asking) (failed : Option Message)
    → v.failed ≡ failed → Has (asking_by v.moment failed) asking → OfFailed (v ∷ visits) asking
by_failed visits v asking None is none = absurd none
by_failed visits v asking (Some m) is has =
    by_asking visits v asking m (asked m) is refl has

of_failed : (visits : List Visit) (asking : Asking) → Has (unanswered_of visits) asking
    → OfFailed visits asking
of_failed [] asking none = absurd none
of_failed (v ∷ visits) asking has =
    elim (has_either (visit_unanswered v) (unanswered_of visits) asking has) [
      | inl now ↦ by_failed visits v asking v.failed refl now
      | inr then ↦ further (of_failed visits asking then)
    ]
  where
    further : OfFailed visits asking → OfFailed (v ∷ visits) asking
    further one =
        record {
          visit = one.visit;
          is_visit = inr one.is_visit;
          message = one.message;
          failed = one.failed;
          user = one.user;
          request = one.request;
          asks = one.asks;
          is = one.is;
        }

-- ---- the whole

-- what rights depend on is the same, so it is still there; or it is a change
is_still_there : (path : List (List ℕ)) (room next : Content) (event : Event) → IsThere room path
    → SameBasis path room next ⊎ Changes path room event
    → IsThere next path ⊎ Changes path room event
is_still_there path room next event there (inl same) =
    inl (still_there path room next same there)
is_still_there path room next event there (inr changes) = inr changes

module _ (rights : RightsChangedBy) (changes : ChangedBy) (nothing : NothingGained)
    (stays : StaysTidy) where
  by_right : (room : Content) (event : Event) (next : Content) → IsNumbered room → IsTidy room
      → Happens room event next → (path : List (List ℕ)) → IsByRight path room event next
  by_right room event next numbers tree happens path =
      record {
        entitled = rights path room event next numbers tree happens;
        stays =
            λ there.
            is_still_there path room next event there
            (changes path room event next numbers tree there happens);
        harmless =
            λ there harmless.
            (nothing path room (event ∷ []) next numbers tree there (next, happens, refl)
            (harmless, tt)).1;
      }

  pub each_by_right : (events : List Event) (room next : Content) → IsNumbered room → IsTidy room
      → (run : Run room events next) → EachByRight events room next run
  each_by_right [] room next numbers tree run = tt
  each_by_right (event ∷ events) room next numbers tree (mid, happens, run) =
      let then = stays room event mid numbers tree happens in (
        by_right room event mid numbers tree happens,
        each_by_right events mid next then.0 then.1 run,
      )

  -- what is left of a room, after at most one thing more
  abbrev IsLeftByRight : List Visit → Content → Trees → Type 0
  IsLeftByRight visits room db = (left : Content) × HoldsRoom left db
      × ((left ≡ room) ⊎ IsCarriedOut visits room left)

  carried_out : (visits : List Visit) (room : Content) → IsNumbered room → IsTidy room
      → (asking : Asking) → Has (unanswered_of visits) asking → (db : Trees)
      → HoldsRoomAfter room db asking → IsLeftByRight visits room db
  carried_out visits room numbers tree asking has db (reply, left, happens, holds) =
      let one = of_failed visits asking has in
      let happened = subst (λ (a : Asking). Happens room (a reply) left) one.is happens in (
        left,
        holds,
        inr (
            record {
              visit = one.visit;
              is_visit = one.is_visit;
              message = one.message;
              failed = one.failed;
              user = one.user;
              request = one.request;
              asks = one.asks;
              reply = reply;
              happens = happened;
              by_right =
                  by_right room (Asked one.user one.visit.moment one.request reply) left numbers tree
                  happened;
            }
            ),
      )

  left_by_right : (visits : List Visit) (new : State) (room : Content) → IsNumbered room
      → IsTidy room → Leaves (unanswered_of visits) new room → (db : Trees) → new.may_leave db
      → IsLeftByRight visits room db
  left_by_right visits new room numbers tree (more, has, most) db left =
      elim (most db left) [
        | inl holds ↦ (room, holds, inl refl)
        | inr others ↦ carried_out visits room numbers tree others.1
            (subst (λ (m : Option Asking). IfSome m (Has (unanswered_of visits))) others.2 has) db
            others.3
      ]

  pub changes_by_right : ContentIsTidy → SoundIsContent → (old new : State) (visits : List Visit)
      → Leads old (requests_of visits) new → LeavesRequests old visits new
      → ServingChangesByRight old visits new
  changes_by_right tidies contents old new visits leads leaves now room is =
      let numbers = numbered room old.now is in
      let tree = tidy tidies contents room old.now is in
      let requests = requests_of visits in
      let seen = leads.run now (sound room old is) room (keeps room old is) in (
        (seen.0, seen.1, seen.2, each_by_right requests room seen.0 numbers tree seen.1),
        λ is_open.
            let end = leaves now (sound room old is) is_open room (keeps room old is) in
            let then = tidy_then stays requests room end.0 numbers tree end.1 in (
              end.0,
              end.1,
              each_by_right requests room end.0 numbers tree end.1,
              left_by_right visits new end.0 then.0 then.1 end.2,
            ),
      )
