-- Two servers beside each other, to which the same messages come, but for what happens behind a
-- folder (own).
use Rattle.std.specs.Prelude.{◌≡◌, ◌⊎◌, ◌++◌, ℕ, ℤ, List, [], ◌∷◌, Option, Some, None, Ok, Err}
use Rattle.std.specs.Prelude.{IsTrue, map}
use Rattle.std.specs.List.{AllByRecursion, flat_map}
use Rattle.sqlite.specs.State.{State, HasCleanDisk}
use Rattle.sqlite.specs.Tree.{Trees}
use Rattle.room_rows.specs.Content.{Content}
use Rattle.room_machine.specs.Run.{Asking, Event, Run}
use Rattle.room_machine.specs.declared.reply.Reply.{Reply}
use Rattle.room_laws.specs.Laws.{HappensUnseen, TellsNames, front_after}
use Rattle.room_laws.specs.Outside.{SameOutside, listing, view}
use Rattle.room_laws.specs.Twins.{AreAlike, InBoth, InFirst, InSecond, Turn, first_events}
use Rattle.room_laws.specs.Twins.{front_at_end}
use Rattle.room_http.specs.Message.{Message, Parsed, asked}
use Rattle.room_http.specs.Stream.{Exchange, event_at}
use Rattle.room_store.specs.Crash.{HoldsRoom, IsRoomOf}
use Rattle.room_store.specs.Kept.{Keeps}
use Rattle.cli_listen.specs.Visits.{Visit, requests_of, unanswered_of}

-- ---- the messages of both

-- a message with its reply, at the moment of its connection
abbrev pub Answered : Type 0
Answered = ℤ × Exchange

-- all that were answered, of one connection after another
abbrev pub visit_answered : Visit → List Answered
visit_answered visit = map (λ x. (visit.moment, x)) visit.exchanges

abbrev pub answered_in : List Visit → List Answered
answered_in visits = flat_map visit_answered visits

-- A message that came to both servers, at a moment and with a reply in each; or one that came to
-- the first alone, or to the second.
pub data Arrival : Type 0 where
  AtBoth : ℤ → ℤ → Message → Option Reply → Option Reply → Arrival
  AtFirst : Answered → Arrival
  AtSecond : Answered → Arrival

-- what came to the first, and what to the second
abbrev pub at_first : List Arrival → List Answered
at_first [] = []
at_first (AtBoth moment later m first second ∷ arrivals) =
    (moment, record { message = m; reply = first }) ∷ at_first arrivals
at_first (AtFirst x ∷ arrivals) = x ∷ at_first arrivals
at_first (AtSecond x ∷ arrivals) = at_first arrivals

abbrev pub at_second : List Arrival → List Answered
at_second [] = []
at_second (AtBoth moment later m first second ∷ arrivals) =
    (later, record { message = m; reply = second }) ∷ at_second arrivals
at_second (AtFirst x ∷ arrivals) = at_second arrivals
at_second (AtSecond x ∷ arrivals) = x ∷ at_second arrivals

-- These are all messages of these connections of both servers, those of each in order. So those
-- that came to both came in one order, between whatever others, on whatever connections.
pub record Arrive (visits others : List Visit) (arrivals : List Arrival) : Type 0 where
  pub first : at_first arrivals ≡ answered_in visits
  pub second : at_second arrivals ≡ answered_in others

-- ---- what they ask of both rooms

-- the turn of a message of both, if no test refuses it
abbrev pub turn_of_both : ℤ → ℤ → Parsed → Option Reply → Option Reply → List Turn
turn_of_both moment later (Err fault) first second = []
turn_of_both moment later (Ok call) None second = []
turn_of_both moment later (Ok call) (Some first) None = []
turn_of_both moment later (Ok call) (Some first) (Some second) =
    InBoth call.0 moment later call.1 first second ∷ []

abbrev pub turns_of : List Arrival → List Turn
turns_of [] = []
turns_of (AtBoth moment later m first second ∷ arrivals) =
    turn_of_both moment later (asked m) first second ++ turns_of arrivals
turns_of (AtFirst x ∷ arrivals) = map InFirst (event_at x.0 x.1) ++ turns_of arrivals
turns_of (AtSecond x ∷ arrivals) = map InSecond (event_at x.0 x.1) ++ turns_of arrivals

-- Each turn is so of the first room as it begins. Of a message of both, the caller is barred from
-- what is behind the front, or asks for nothing there; one of a server alone is of something behind
-- the front, by whomever, or it changes nothing.
abbrev pub AskAlike : List (List ℕ) → Content → List Turn → Type 0
AskAlike front room turns =
    (next : Content) (run : Run room (first_events turns) next) → AreAlike front turns room next run

-- ---- what they get

-- the replies to a message of both: the same, or the names in the front to who lists it
abbrev pub IsSameReply : List (List ℕ) → Parsed → Option Reply → Option Reply → Type 0
IsSameReply front (Ok call) (Some first) (Some second) =
    (first ≡ second) ⊎ TellsNames front call.1 first second
IsSameReply front m first second = first ≡ second

-- where the front is after the message
abbrev pub front_then : List (List ℕ) → Parsed → Option Reply → List (List ℕ)
front_then front (Ok call) (Some first) = front_after front call.1 first
front_then front m first = front

abbrev pub RepliesAlike : List (List ℕ) → List Arrival → Type 0
RepliesAlike front [] = Unit {0}
RepliesAlike front (AtBoth moment later m first second ∷ arrivals) =
    IsSameReply front (asked m) first second
    × RepliesAlike (front_then front (asked m) first) arrivals
RepliesAlike front (arrival ∷ arrivals) = RepliesAlike front arrivals

-- what got no answer is behind the front, or changes nothing, whatever its reply is
abbrev pub AreUnseen : List (List ℕ) → List Asking → Type 0
AreUnseen front asked =
    AllByRecursion (λ asking. (reply : Reply) → HappensUnseen front (asking reply)) asked

-- Whatever a power cut leaves of each are rooms that are the same outside, if what got no answer
-- doesn't show there.
abbrev pub CrashesLeaveAlike : List (List ℕ) → State → List Visit → State → State → List Visit
    → State → Type 0
CrashesLeaveAlike front old visits new other others later =
    IsTrue old.is_open → IsTrue other.is_open
    → AreUnseen front (unanswered_of visits) → AreUnseen front (unanswered_of others)
    → (db beside : Trees) → new.may_leave db → later.may_leave beside
    → (c d : Content) × HoldsRoom c db × HoldsRoom d beside × SameOutside front c d

-- From each of two states to a later one these connections were served. If the tables were those of
-- two sound rooms that were the same outside, and what came up to any message to both or to one
-- alone is as above, then each message of both got the same reply in both up to there, but for the
-- names in the front, whatever came later. If that was all, the rooms that are kept then are the
-- same outside too, and so are those that a power cut leaves.
abbrev pub ServersAnswerAlike : List (List ℕ) → State → List Visit → State → State → List Visit
    → State → Type 0
ServersAnswerAlike front old visits new other others later =
    HasCleanDisk new → HasCleanDisk later
    → (a b : Content) → IsRoomOf a old.now → IsRoomOf b other.now → SameOutside front a b
    → (arrivals rest : List Arrival) → Arrive visits others (arrivals ++ rest)
    → AskAlike front a (turns_of arrivals)
    → RepliesAlike front arrivals
    × (rest ≡ [] → ((c d : Content) × Run a (requests_of visits) c × Run b (requests_of others) d
    × Keeps new c × Keeps later d × SameOutside (front_at_end front (turns_of arrivals)) c d)
    × CrashesLeaveAlike (front_at_end front (turns_of arrivals)) old visits new other others later)

-- ---- the same messages to both

-- a message that came to both servers, at a moment and with a reply in each
pub record Both : Type 0 where
  pub moment : ℤ
  pub later : ℤ
  pub message : Message
  pub first : Option Reply
  pub second : Option Reply

abbrev pub in_first : Both → Answered
in_first both = (both.moment, record { message = both.message; reply = both.first })

abbrev pub in_second : Both → Answered
in_second both = (both.later, record { message = both.message; reply = both.second })

-- what was asked by these messages
abbrev pub events_of : List Answered → List Event
events_of answered = flat_map (λ x. event_at x.0 x.1) answered

-- The same pairs, the same at each path, and the same names below it. Numbers of objects may differ,
-- and so may records.
pub record AreSame (a b : Content) : Type 0 where
  pub members : a.members ≡ b.members
  pub views : (path : List (List ℕ)) → view a path ≡ view b path
  pub names : (path : List (List ℕ)) → listing a path ≡ listing b path

-- From each of two states to a later one these connections were served. If the tables were those of
-- the same sound room, and the same messages were answered first, then they got the same replies:
-- whatever each answered later, at whatever moments and on whatever connections they came. Then the
-- rooms were the same, and a server that answered no more keeps that one. So what a server has done
-- up to a message is what another one does that ends there.
abbrev pub ServersAnswerTheSame : State → List Visit → State → State → List Visit → State → Type 0
ServersAnswerTheSame old visits new other others later =
    HasCleanDisk new → HasCleanDisk later
    → (room : Content) → IsRoomOf room old.now → IsRoomOf room other.now
    → (same : List Both) (rest more : List Answered)
    → map in_first same ++ rest ≡ answered_in visits
    → map in_second same ++ more ≡ answered_in others
    → AllByRecursion (λ x. x.first ≡ x.second) same
    × ((mid end : Content) × Run room (events_of (map in_first same)) mid
    × Run room (events_of (map in_second same)) end × AreSame mid end
    × (rest ≡ [] → Keeps new mid) × (more ≡ [] → Keeps later end))
