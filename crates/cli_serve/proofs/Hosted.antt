-- A store that is opened, and then serves.
use Rattle.std.proofs.Common.{arith, rules, ◌≡◌, ◌≤◌, ◌⊎◌, ℕ, ℤ, All, List, [], length, map, Option}
use Rattle.std.proofs.Common.{Result, Ok, Err, OnOk, IsTrue, inl, inr, subst, sym}
use Rattle.sqlite.specs.{Effect.Database, State.{State, HasCleanDisk}}
use Rattle.cli_outcome.specs.declared.listen.ListenAddress.{ListenAddress}
use Rattle.room_rows.specs.Rows.{Rows}
use Rattle.store_tables.{specs.{Meaning.rows_of, Shown.HasTables}, proofs.Calls.retains_same}
use Rattle.room_machine.specs.{Desk.RunsClosed, declared.desk.Desk.Ghosts, Run.{Asking, Event}}
use Rattle.room_machine.proofs.Meeting.{meet}
use Rattle.room_http.specs.Stream.{Runs}
use Rattle.room_store.specs.{Crash.{Lasts, Outlasts}, Lasting.together, Opens.Opens, Retained.Holds}
use Rattle.room_store.specs.{Retained.StillHolds, Kept.{IsOfThisVersion, IsShut, IsSound, Keeps}}
use Rattle.room_store.{specs.Kept.Stores, proofs.Outlasting.{idle, leaves_whole}}
use Rattle.room_store.proofs.Versions.{same_version}
use Rattle.store_schema.specs.declared.fault.OpenFault.{OpenFault}
use Rattle.cli_listen.specs.{Lines.{TellsFaults, TellsAddress}, Staying.PassesUntil, Peers.Adds}
use Rattle.cli_listen.specs.Visits.{IsServedVisit, Visit, moment_of, requests_of, unanswered_of}
use Rattle.cli_listen.specs.{declared.fault.ServingFault.ServingFault, Listening.{Deed, ListensAt}}
use Rattle.cli_listen.specs.Telling.{TellsEnd, end_status}
use Rattle.cli_serve.specs.Hosts.{LeavesRequests, LeavesShut, ServesRoom, StaysRoom}

pub ends : (end : Result (Unit {0}) ServingFault) (address : ListenAddress) (status : ℕ)
    (out out' : Option (List ℕ))
    → status ≡ end_status end → OnOk end (TellsAddress address out out')
    → ((status ≡ 0) × TellsAddress address out out') ⊎ (status ≡ 3)
ends (Ok done) address status out out' is told = inl (is, told)
ends (Err fault) address status out out' is told = inr is

-- what a power cut leaves, where it left what was seen before
pub leaves_requests : (old new : State) (visits : List Visit)
    → Outlasts old (unanswered_of visits) (requests_of visits) new → Lasts old
    → LeavesRequests old visits new
leaves_requests old new visits outlasts lasts now sound is_open room keeps =
    search (rules, leaves_whole, old, outlasts, now, sound, is_open, lasts, room, keeps)

-- what a store served, in terms of its content
unfoldable pub served : (address : ListenAddress) (count : ℕ) (told told' : List ℤ → Type 0)
    (did did' : List Deed → Type 0) (old new : State)
    (out out' err mid err' : Option (List ℕ)) (status : ℕ)
    (visits : List Visit) (end : Result (Unit {0}) ServingFault)
    → length visits ≤ count → All IsServedVisit visits
    → Adds told told' (map moment_of visits)
    → (HasCleanDisk new → HasCleanDisk old)
    → (HasCleanDisk new → IsSound old → IsSound new)
    → (HasCleanDisk new → IsSound old → Runs (Keeps old) (requests_of visits) (Keeps new))
    → LeavesShut end new → status ≡ end_status end → OnOk end (TellsAddress address out out')
    → ListensAt did did' address count visits end out out' → TellsFaults visits err mid end
    → TellsEnd end mid err' → Lasts old → Lasts new
    → Outlasts old (unanswered_of visits) (requests_of visits) new
    → ServesRoom address count told told' did did' old new out out' err err' status
served address count told told' did did' old new out out' err mid err' status visits end few each
    moments trusted sound run shut is tells listens connections last lasted lasts outlasts =
    record {
      visits = visits;
      few = few;
      each = each;
      moments = moments;
      leads = record { trusted = trusted; sound = sound; run = run };
      lasts = lasts;
      outlasts = outlasts;
      leaves = leaves_requests old new visits outlasts lasted;
      ends = ends end address status out out' is tells;
      end = end;
      end_is = is;
      listens = listens;
      shut = shut;
      faults = record { mid = mid; connections = connections; last = last };
    }

-- a desk that ended the service is shut
module _ {D : Type 0} (d : Ghosts D) (visits : ℕ) (old new : D) (s : State)
    (shut : d.shut new → IsShut s) where
  pub left_shut : (end : Result (Unit {0}) ServingFault) → PassesUntil d visits old new end
      → LeavesShut end s
  left_shut (Ok done) is = tt
  left_shut (Err ServingFault.Memory) is = tt
  left_shut (Err ServingFault.File) is = tt
  left_shut (Err ServingFault.Net) is = tt
  left_shut (Err ServingFault.Desk) is = shut is.2.2.tells

-- by opening a room nothing happens, and nothing is lost
pub opened : (old new : State) (result : Result (Unit {0}) OpenFault) → Opens old new result
    → Outlasts old [] [] new
opened old new result opens =
    idle old new opens.leads opens.adopts.crash opens.adopts.was_open

-- the rows stay as they were, sound or not
opened_stores : (old new : State) (result : Result (Unit {0}) OpenFault) → Opens old new result
    → HasCleanDisk new → (rows : Rows) → Stores old rows → Stores new rows
opened_stores old new result opens now rows stored is_open =
    subst (λ (db : Database). HasTables db × (rows_of db ≡ rows))
    (sym (opens.adopts.kept now is_open).0) (stored (opens.adopts.was_open now is_open))

-- and what happens to them then, happens from before on
pub closed_from : (old mid : State) (result : Result (Unit {0}) OpenFault) (events : List Event)
    (clean : Type 0) (after : Rows → Type 0) → Opens old mid result → (clean → HasCleanDisk mid)
    → (clean → RunsClosed (Stores mid) events after) → clean
    → RunsClosed (Stores old) events after
closed_from old mid result events clean after opens trusted closed now rows stored =
    closed now rows (opened_stores old mid result opens (trusted now) rows stored)

-- what was retained before is retained then
opened_retains : (old new : State) (result : Result (Unit {0}) OpenFault) → Opens old new result
    → StillHolds old new
opened_retains old new result opens now = (
  opens.leads.trusted now,
  grind (arith, opens.adopts.kept, now, opens.adopts.was_open, opens.adopts.crash),
)

-- a room over an open connection holds what it holds
holds_itself : (s : State) → IsTrue s.is_open → HasTables s.now → Lasts s → Holds s.now.trees s
holds_itself s is_open has lasts = grind (arith, retains_same, lasts, is_open, has)

-- a room that was opened, and then retained what it held, is still one
pub stays_room : (old mid new : State) → Opens old mid (Ok tt) → StillHolds mid new → Lasts old
    → HasCleanDisk new → IsTrue old.is_open → HasTables old.now → StaysRoom old new
stays_room old mid new opens retained lasted now is_open has =
    let then = retained now in
    let first = opened_retains old mid _ opens then.0 in
    let holds = then.1 old.now.trees
    (first.1 old.now.trees (holds_itself old is_open has lasted)) in
    let version : IsOfThisVersion old.now = opens.adopts.told then.0 has.schema in
    record {
      seen = grind (arith, holds.seen, same_version, version);
      left = grind (arith, holds.left, version, same_version);
    }

-- what happens after that
pub after : (old mid new : State) (asked : List Asking) (events : List Event)
    → Outlasts old [] [] mid → Outlasts mid asked events new → Outlasts old asked events new
after old mid new asked events first then = together meet old mid new [] asked [] events first then
