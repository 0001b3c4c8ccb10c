-- How long connections are accepted: until one leaves the desk shut (own).
use Rattle.std.specs.Prelude.{◌≡◌, ◌⊎◌, ◌≤◌, ℕ, ℤ, ◌+◌, Bool, true, false, zero, suc, All, List, []}
use Rattle.std.specs.Prelude.{length, map, Option, Result, Err}
use Rattle.room_machine.specs.declared.desk.Desk.{Ghosts}
use Rattle.cli_outcome.specs.declared.listen.ListenAddress.{ListenAddress}
use Rattle.room_rows.specs.Keep.{one_more}
use Rattle.room_http.specs.Stream.{DeskRuns}
use Rattle.cli_listen.specs.Lines.{TellsFaults, TellsFirst}
use Rattle.room_http.specs.declared.ended.Cause.{Cause}
use Rattle.cli_listen.specs.Peers.{Adds}
use Rattle.cli_listen.specs.Listening.{Deed, ListensAt}
use Rattle.cli_listen.specs.Visits.{Attends, IsEnd, IsServedVisit, Meeting, Receives, Sources, Visit}
use Rattle.cli_listen.specs.Visits.{moment_of, requests_of, unanswered_of, until}
use Rattle.cli_listen.specs.declared.fault.ServingFault.{ServingFault}

-- The desk was asked whether it is shut. Where it isn't said to be, it isn't, or it couldn't find
-- out, which is a fault of its own.
abbrev pub TellsShut : {D : Type 0} → Ghosts D → D → D → Bool → Type 0
TellsShut d old new true = d.shut new
TellsShut d old new false =
    (d.trusted new → ¬ d.shut new) ⊎ (d.faults new ≡ one_more (d.faults old))

-- some connection was served
abbrev pub AttendsOne : {D : Type 0} → Ghosts D → D → D → Type 0
AttendsOne d old new = (moment : ℤ) × (meeting : Meeting) × (fault : Option Cause)
    × Attends d moment meeting fault old new

-- A connection was served, and then the desk was asked whether it is shut.
pub record Passes {D : Type 0} (d : Ghosts D) (old new : D) (shut : Bool) : Type 0 where
  pub mid : D
  pub attends : AttendsOne d old mid
  pub rests : DeskRuns d mid [] [] new
  pub tells : TellsShut d mid new shut

-- this many connections, one after another, none of which left a desk that said it was shut
abbrev pub PassesEach : {D : Type 0} → Ghosts D → ℕ → D → D → Type 0
PassesEach d zero old new = new ≡ old
PassesEach {D} d (suc n) old new = (mid : D) × PassesEach d n old mid × Passes d mid new false

-- Of the connections that were served, only the last may have left the desk shut, and then this was
-- the end.
abbrev pub PassesUntil : {D : Type 0} → Ghosts D → ℕ → D → D → Result (Unit {0}) ServingFault → Type 0
PassesUntil {D} d visits old new (Err ServingFault.Desk) = (before : ℕ) × (visits ≡ before + 1)
    × ((mid : D) × PassesEach d before old mid × Passes d mid new true)
PassesUntil d visits old new end = PassesEach d visits old new

-- At most `count` connections were received, and what the end says of them and of the desk holds.
-- The listener failed where that is the end, and nowhere else. What was printed of faults is what
-- ended these connections.
pub record Served {D : Type 0} (d : Ghosts D) (count : ℕ) (from to : Sources) (old new : D)
    (err err' : Option (List ℕ)) (end : Result (Unit {0}) ServingFault)
    : Type 0 where
  pub receives : Receives d count from (until end to) old new
  pub end_says : IsEnd count end (length receives.visits)
  pub stays : PassesUntil d (length receives.visits) old new end
  pub faults : TellsFaults receives.visits err err' end

-- The same with what was printed of the address before the first of them.
pub record ServedAt {D : Type 0} (d : Ghosts D) (address : ListenAddress) (count : ℕ)
    (from to : Sources) (old new : D) (out out' err err' : Option (List ℕ))
    (end : Result (Unit {0}) ServingFault) : Type 0 where
  pub served : Served d count from to old new err err' end
  pub first : TellsFirst address (length served.receives.visits) end out out'

-- The same from before an address was asked for to after its listener was given back.
pub record ServedHere {D : Type 0} (d : Ghosts D) (address : ListenAddress) (count : ℕ)
    (told told' : List ℤ → Type 0) (did did' : List Deed → Type 0) (old new : D)
    (out out' err err' : Option (List ℕ)) (end : Result (Unit {0}) ServingFault)
    : Type 0 where
  pub visits : List Visit
  pub few : length visits ≤ count
  pub each : All IsServedVisit visits
  pub moments : Adds told told' (map moment_of visits)
  pub runs : DeskRuns d old (unanswered_of visits) (requests_of visits) new
  pub stays : PassesUntil d (length visits) old new end
  pub faults : TellsFaults visits err err' end
  pub listens : ListensAt did did' address count visits end out out'
