-- What the connections of a listener do at a desk (own).
use Rattle.std.specs.Prelude.{◌≡◌, ℕ, ℤ, ◌≤◌, ◌<◌, ◌⊎◌, All, List, [], ◌∷◌, ◌++◌, length, map}
use Rattle.std.specs.Prelude.{Option, Some, None, Result, Ok, Err}
use Rattle.std.specs.List.{flat_map}
use Rattle.room_machine.specs.declared.desk.Desk.{Ghosts}
use Rattle.room_machine.specs.Run.{Asking, Event}
use Rattle.room_http.specs.declared.ended.Cause.{Cause}
use Rattle.room_http.specs.Message.{Message, asked}
use Rattle.room_http.specs.Serve.{BreaksOff, Next, Talks, TalksUpTo, next_exchange}
use Rattle.room_http.specs.Stream.{DeskRuns, Exchange, Last, asking_at, events_by, last_exchange}
use Rattle.cli_listen.specs.Peers.{Act, Adds, Wire}
use Rattle.cli_listen.specs.declared.fault.ServingFault.{ServingFault}

-- what came of a connection: it was lost before it could be accepted, or its peer was met with the
-- first of these bytes, and parted from with the second
pub data Meeting : Type 0 where
  Lost : Meeting
  Met : Wire → Wire → Meeting

-- a connection: its moment, what came of it, the fault that ended it, if there was one, its messages
-- with their replies, and the message that the desk failed at, if there was one
pub record Visit : Type 0 where
  pub moment : ℤ
  pub meeting : Meeting
  pub fault : Option Cause
  pub exchanges : List Exchange
  pub failed : Option Message

-- ---- its bytes

abbrev pub failed_last : Last → Option Message
failed_last (Last.Failed m) = Some m
failed_last last = None

abbrev pub failed_next : Next → Option Message
failed_next (Next.Failing m) = Some m
failed_next next = None

-- The bytes that came are these messages, and the bytes that went are their replies, up to an end
-- that isn't a fault.
pub record EndsTalk (had has : Wire) (exchanges : List Exchange) (failed : Option Message)
    : Type 0 where
  pub before : List Exchange
  pub last : Last
  pub talks : Talks had.left had.sent has.left has.sent before last
  pub whole : exchanges ≡ before ++ last_exchange last
  pub failed_is : failed ≡ failed_last last

-- The same up to this fault. The next message may have had its step, and a beginning of its reply.
pub record BreaksTalk (cause : Cause) (had has : Wire) (exchanges : List Exchange)
    (failed : Option Message)
    : Type 0 where
  pub before : List Exchange
  pub next : Next
  pub talks : TalksUpTo had.left had.sent has.left has.sent before next
  pub cause_is : BreaksOff cause next talks
  pub whole : exchanges ≡ before ++ next_exchange next
  pub failed_is : failed ≡ failed_next next

abbrev pub Talked : Meeting → Option Cause → List Exchange → Option Message → Type 0
Talked Meeting.Lost fault exchanges failed =
    (fault ≡ Some Cause.Read) × (exchanges ≡ []) × (failed ≡ None)
Talked (Meeting.Met had has) None exchanges failed = EndsTalk had has exchanges failed
Talked (Meeting.Met had has) (Some cause) exchanges failed =
    BreaksTalk cause had has exchanges failed

-- The visit is the peer's: its messages are those that the peer sent. One that was lost counts as
-- one whose reading failed.
abbrev pub IsServedVisit : Visit → Type 0
IsServedVisit visit = Talked visit.meeting visit.fault visit.exchanges visit.failed

-- ---- what it asks for

-- its requests that were answered, each of its caller at that moment
abbrev pub visit_events : Visit → List Event
visit_events visit = events_by visit.moment visit.exchanges

-- the requests of one connection after another
abbrev pub requests_of : List Visit → List Event
requests_of visits = flat_map visit_events visits

-- what a message asks for
abbrev pub asking_by : ℤ → Option Message → List Asking
asking_by moment (Some m) = asking_at moment (asked m)
asking_by moment None = []

-- its request that got no answer, if there was one
abbrev pub visit_unanswered : Visit → List Asking
visit_unanswered visit = asking_by visit.moment visit.failed

-- the requests without an answer, of one connection after another
abbrev pub unanswered_of : List Visit → List Asking
unanswered_of visits = flat_map visit_unanswered visits

abbrev pub moment_of : Visit → ℤ
moment_of visit = visit.moment

-- what the listener did at it
abbrev pub acts_at : Meeting → List Act
acts_at Meeting.Lost = Act.Lost ∷ []
acts_at (Meeting.Met had has) = Act.Came had ∷ Act.Parted has ∷ []

abbrev pub visit_acts : Visit → List Act
visit_acts visit = acts_at visit.meeting

abbrev pub acts_of : List Visit → List Act
acts_of visits = flat_map visit_acts visits

-- what it did at this end: where the network failed, no connection could be accepted
abbrev pub end_acts : Result (Unit {0}) ServingFault → List Act
end_acts (Err ServingFault.Net) = Act.Failed ∷ []
end_acts end = []

-- ---- one after another

-- One connection of which this came was served by the desk at this moment, up to this fault, if
-- there was one.
pub record Attends {D : Type 0} (d : Ghosts D) (moment : ℤ) (meeting : Meeting)
    (fault : Option Cause) (old new : D) : Type 0 where
  pub visit : Visit
  pub same_moment : visit.moment ≡ moment
  pub met : visit.meeting ≡ meeting
  pub ended : visit.fault ≡ fault
  pub is : IsServedVisit visit
  pub did : DeskRuns d old (visit_unanswered visit) (visit_events visit) new

-- what may have happened so far: which moments were told, and what a listener did
pub record Sources : Type 1 where
  pub told : List ℤ → Type 0
  pub did : List Act → Type 0

abbrev pub sources : (List ℤ → Type 0) → (List Act → Type 0) → Sources
sources told did = record { told = told; did = did }

-- the same before what the listener did at this end
abbrev pub until : Result (Unit {0}) ServingFault → Sources → Sources
until end to = sources to.told (λ acts. to.did (acts ++ end_acts end))

-- From one state of a desk to a later one, what it did is a run over the requests of at most
-- `count` connections, one after another. These are all connections that the listener accepted, in
-- order, and each was parted from before the next. Their moments are all that were told, in order.
pub record Receives {D : Type 0} (d : Ghosts D) (count : ℕ) (from to : Sources) (old new : D)
    : Type 0 where
  pub visits : List Visit
  pub few : length visits ≤ count
  pub each : All IsServedVisit visits
  pub moments : (before : List ℤ) → from.told before → to.told (before ++ map moment_of visits)
  pub acts : Adds from.did to.did (acts_of visits)
  pub did : DeskRuns d old (unanswered_of visits) (requests_of visits) new

-- exactly this many connections, of which those that were lost had no message
abbrev pub ReceivesAll : {D : Type 0} → Ghosts D → ℕ → Sources → Sources → D → D → Type 0
ReceivesAll d count from to old new =
    (r : Receives d count from to old new) × (length r.visits ≡ count)

-- one connection, which this fault ended, if one did
pub record ReceivesOne {D : Type 0} (d : Ghosts D) (fault : Option Cause) (from to : Sources)
    (old new : D)
    : Type 0 where
  pub receives : Receives d 1 from to old new
  pub visit : Visit
  pub only : receives.visits ≡ visit ∷ []
  pub ended : visit.fault ≡ fault

-- What an end says of the number of visits. Where all is done, there were as many as connections
-- were to be served. Out of memory there was none, and where the listener failed at least one is
-- missing. Where a line couldn't be printed, it was that of the address, or all were served. Where
-- the desk is shut, a connection left it so.
abbrev pub IsEnd : ℕ → Result (Unit {0}) ServingFault → ℕ → Type 0
IsEnd count (Ok done) visits = visits ≡ count
IsEnd count (Err ServingFault.Memory) visits = visits ≡ 0
IsEnd count (Err ServingFault.File) visits = (visits ≡ count) ⊎ (visits ≡ 0)
IsEnd count (Err ServingFault.Net) visits = visits < count
IsEnd count (Err ServingFault.Desk) visits = 0 < visits
