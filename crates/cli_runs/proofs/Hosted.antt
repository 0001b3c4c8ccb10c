-- Worked examples of what `host` promises: of moments, of the number of connections, of statuses,
-- of what is printed and asked for, and of a room that is damaged.
use Rattle.std.proofs.Common.{◌≡◌, ◌≤◌, ◌<◌, ◌⊎◌, ◌++◌, ℕ, ℤ, List, [], ◌∷◌, length, map, Option}
use Rattle.std.proofs.Common.{Some, None, IfSome, Ok, Err, IsTrue, inl, inr, refl, ap, subst, ◌∙◌}
use Rattle.std.{proofs.Common.{codes, decimal}, specs.Io.KnownBytes.Appends}
use Rattle.sqlite_rules.specs.Lists.{Has}
use Rattle.sqlite.specs.{Held.Held, State.{State, HasCleanDisk}, Tree.Trees}
use Rattle.cli_outcome.specs.declared.{no_room.NoRoom.NoRoom, listen.ListenAddress.ListenAddress}
use Rattle.room_rows.specs.Content.{Content}
use Rattle.room_machine.specs.Run.{Asking}
use Rattle.room_http.specs.declared.ended.Cause.{Cause}
use Rattle.store_tables.specs.{Shown.{HasTables, IsRoom, Retains}, Tables.room_schema}
use Rattle.store_tables.specs.Within.{LeavesOnly, TreesOf}
use Rattle.store_schema.specs.declared.fault.OpenFault.{OpenFault}
use Rattle.room_store.specs.{Crash.{HoldsRoom, HoldsRoomAfter, IsRoomOf}, Kept.IsOfThisVersion}
use Rattle.room_store.specs.{Kept.{IsShut, IsSound, Keeps}, Opens.{Opens, RoomsCanBeOpened}}
use Rattle.cli_listen.specs.Listening.{CannotListen, Deed, HasListened, ListensAt, Site, site_of}
use Rattle.cli_listen.specs.Visits.{IsEnd, Visit, acts_of, end_acts, moment_of}
use Rattle.cli_listen.specs.Telling.{PrintsRefusal, TellsAll, TurnsDown, end_status, why_not_opened}
use Rattle.cli_listen.specs.Lines.{TellsAddress, TellsFirst, TellsOf, connection_line}
use Rattle.cli_listen.specs.declared.fault.ServingFault.{ServingFault}
use Rattle.cli_serve.specs.Hosts.{IsHosted, IsTurnedDown, LeavesShut, ServesRoom}
use Rattle.cli_outcome.specs.declared.listen.ListenAddress.TheVariants as address

-- ---- a room was served

module _ (address : ListenAddress) (told told' : List ℤ → Type 0) (did did' : List Deed → Type 0)
    (old new : State) (out out' err err' : Option (List ℕ)) (status : ℕ)
    (serves : ServesRoom address 1 told told' did did' old new out out' err err' status) where
  one_at_most : length serves.visits ≤ 1
  one_at_most = serves.few

  -- the clock told one moment: it is that of the one connection
  at_the_moment_that_was_told : (moment : ℤ) → told []
      → ((ms : List ℤ) → told' ms → ms ≡ moment ∷ [])
      → map moment_of serves.visits ≡ moment ∷ []
  at_the_moment_that_was_told moment none one =
      one (map moment_of serves.visits) (serves.moments [] none)

  a_fault_shows_in_the_status : (fault : ServingFault) → serves.end ≡ Err fault → status ≡ 3
  a_fault_shows_in_the_status fault is = serves.end_is ∙ ap end_status is

  a_good_end_does_too : serves.end ≡ Ok tt → status ≡ 0
  a_good_end_does_too is = serves.end_is ∙ ap end_status is

  with_status_0_the_address_is_told : (status ≡ 3 → ⊥) → TellsAddress address out out'
  with_status_0_the_address_is_told isnt = on serves.ends
    where
      on : ((status ≡ 0) × TellsAddress address out out') ⊎ (status ≡ 3)
          → TellsAddress address out out'
      on (inl good) = good.1
      on (inr three) = absurd (isnt three)

  a_desk_that_fails_is_shut : serves.end ≡ Err ServingFault.Desk → IsShut new
  a_desk_that_fails_is_shut is = subst (λ end. LeavesShut end new) is serves.shut

  -- nobody was met where the address couldn't be had, and nothing was said of it
  without_the_address_nobody_is_met :
      CannotListen did did' address serves.visits serves.end out out'
      → (serves.visits ≡ []) × (out' ≡ out)
  without_the_address_nobody_is_met none = (none.nobody, none.untold)

  -- the one site that was asked for, and what its listener did
  the_address_alone_is_asked_for : did []
      → did' (Deed.Refused (site_of address) ∷ []) ⊎ did' (Deed.Bound (site_of address)
      ∷ Deed.Closed (acts_of serves.visits ++ end_acts serves.end) ∷ [])
  the_address_alone_is_asked_for none = on serves.listens
    where
      on : ListensAt did did' address 1 serves.visits serves.end out out'
          → did' (Deed.Refused (site_of address) ∷ []) ⊎ did' (Deed.Bound (site_of address)
          ∷ Deed.Closed (acts_of serves.visits ++ end_acts serves.end) ∷ [])
      on (inl refused) = inl (refused.asked [] none)
      on (inr bound) = inr (bound.acts [] none)

  faults_are_told : TellsAll serves.visits serves.end err err'
  faults_are_told = serves.faults

  a_power_cut_leaves_what_is_seen : IsTrue new.is_open → LeavesOnly new new.now
  a_power_cut_leaves_what_is_seen is_open = (serves.lasts is_open).1

  -- what the end says of the number of connections, and of the line with the address
  module _ (listened :
      HasListened did did' address 1 serves.visits serves.end out out') where
    a_good_end_means_all : serves.end ≡ Ok tt → length serves.visits ≡ 1
    a_good_end_means_all is =
        subst (λ end. IsEnd 1 end (length serves.visits)) is listened.end_says

    out_of_memory_before_the_first : serves.end ≡ Err ServingFault.Memory
        → length serves.visits ≡ 0
    out_of_memory_before_the_first is =
        subst (λ end. IsEnd 1 end (length serves.visits)) is listened.end_says

    a_listener_that_failed_leaves_some_out : serves.end ≡ Err ServingFault.Net
        → length serves.visits < 1
    a_listener_that_failed_leaves_some_out is =
        subst (λ end. IsEnd 1 end (length serves.visits)) is listened.end_says

    the_address_is_told_before_a_desk_fails : serves.end ≡ Err ServingFault.Desk
        → TellsAddress address out out'
    the_address_is_told_before_a_desk_fails is =
        subst (λ end. TellsFirst address (length serves.visits) end out out') is listened.first

-- the line of a connection, with its number from 1 on
the_port_is_of_this_machine : (port : ℕ)
    → site_of (address.Port port) ≡ Site.Port (127 ∷ 0 ∷ 0 ∷ 1 ∷ []) port
the_port_is_of_this_machine port = refl

a_line : (number : ℕ) → connection_line number Cause.Write
    ≡ codes "connection " ++ (decimal number ++ codes ": write fault\n")
a_line number = refl

-- a connection that ended by a fault, and nothing else, is printed in one line
one_fault_is_told : (visit : Visit) (err' : Option (List ℕ)) → visit.fault ≡ Some Cause.Read
    → TellsAll (visit ∷ []) (Ok tt) (Some []) err' → err' ≡ Some (connection_line 1 Cause.Read)
one_fault_is_told visit err' is all =
    all.last ∙ all.connections.2
    ∙ on visit.fault all.connections.0 is all.connections.1
  where
    on : (fault : Option Cause) (mid : Option (List ℕ)) → fault ≡ Some Cause.Read
        → TellsOf Appends 1 fault (Some []) mid → mid ≡ Some (connection_line 1 Cause.Read)
    on (Some Cause.Read) (Some bytes) same tells = ap Some tells
    on (Some Cause.Read) None same tells = absurd tells
    on (Some Cause.Write) mid same tells = absurd (let wrong : ⊥ = cc in wrong)
    on (Some Cause.Memory) mid same tells = absurd (let wrong : ⊥ = cc in wrong)
    on None mid same tells = absurd (let wrong : ⊥ = cc in wrong)

-- ---- no room was found

module _ (did did' : List Deed → Type 0) (old new : State) (out out' err err' : Option (List ℕ))
    (status : ℕ) (down : IsTurnedDown did did' old new out out' err err' status) where
  no_address_was_asked_for : did [] → did' []
  no_address_was_asked_for none = down.asked_none [] none

  it_stays_sound : HasCleanDisk new → IsSound old → IsSound new
  it_stays_sound = down.outlasts.leads.sound

  it_is_left_as_it_was : HasCleanDisk new → IsSound old → IsTrue old.is_open → (room : Content)
      → Keeps old room → (db : Trees) → new.may_leave db → HoldsRoom room db
  it_is_left_as_it_was clean sound is_open room keeps db may =
      let it = down.leaves clean sound is_open room keeps in
      on it.0 it.1 it.2.0 it.2.1 (it.2.2 db may)
    where
      on : (next : Content) → next ≡ room → (more : Option Asking)
          → IfSome more (λ (asking : Asking). Has [] asking)
          → HoldsRoom next db ⊎ (IsShut new × (happens : Asking) × (more ≡ Some happens)
          × HoldsRoomAfter next db happens) → HoldsRoom room db
      on next is more has (inl holds) = subst (λ (c : Content). HoldsRoom c db) is holds
      on next is more has (inr (shut, asking, some, after)) =
          let none : ⊥ = subst (λ (m : Option Asking). IfSome m (λ (a : Asking). Has [] a)) some has
          in absurd none

  it_is_told_why : down.why ≡ OpenFault.NotRooms
      → PrintsRefusal NoRoom.NotRooms out out' err err' status
  it_is_told_why is =
      subst (λ (why : OpenFault). TurnsDown (why_not_opened why) out out' err err' status) is
      down.told

-- nor is the file of a sound room turned down as one that holds none
a_room_is_found : {S : Type 0} (shown : Held S → State) → RoomsCanBeOpened shown
    → (did did' : List Deed → Type 0) (old new : Held S) (out out' err err' : Option (List ℕ))
    (status : ℕ) (down : IsTurnedDown did did' (shown old) (shown new) out out' err err' status)
    → (room : Content) → IsRoomOf room (shown old).now → HasCleanDisk (shown new)
    → down.why ≡ OpenFault.NotRooms → ⊥
a_room_is_found shown law did did' old new out out' err err' status down room is clean why =
    law room (shown old).now is old new (Err OpenFault.NotRooms) refl
    (subst (λ (fault : OpenFault). Opens (shown old) (shown new) (Err fault)) why down.opens) clean

-- ---- a room that may be damaged

module _ {S : Type 0} (shown : Held S → State) (address : ListenAddress) (count : ℕ)
    (told told' : List ℤ → Type 0) (did did' : List Deed → Type 0) (old new : Held S)
    (out out' err err' : Option (List ℕ)) (status : ℕ)
    (hosted : IsHosted shown address count told told' did did' old new out out' err err' status)
    (clean : HasCleanDisk (shown new)) (is_open : IsTrue (shown old).is_open)
    (tables : HasTables (shown old).now) where
  it_can_be_opened_again : (db : Trees) → (shown new).may_leave db
      → TreesOf (λ it. IsRoom it × IsOfThisVersion it × Retains (shown old).now.trees it.trees) db
  it_can_be_opened_again db left =
      let it = (hosted.stays clean is_open tables).left db left in
      (it.0, (it.1.room, it.1.version, it.1.retains), it.2)

  what_is_served_was_opened : (shown old).now.schema ≡ room_schema
  what_is_served_was_opened = hosted.opens.tables

  its_records_stay : IsTrue (shown new).is_open
      → HasTables (shown new).now × Retains (shown old).now.trees (shown new).now.trees
  its_records_stay still =
      let seen = (hosted.stays clean is_open tables).seen still in
      (seen.0, seen.2)
