-- Texts that are printed where a database isn't opened.
use Rattle.std.proofs.Common.{◌≡◌, ℕ, List, Option, Result, Ok, Err, subst}
use Rattle.cli_outcome.specs.{Ending.fault_line, Written.{PrintsText, WritesSome}}
use Rattle.cli_outcome.specs.declared.{fault.Fault.Fault, no_room.NoRoom.NoRoom}
use Rattle.cli_outcome.specs.declared.status.Status.{Status}
use Rattle.store_schema.specs.declared.fault.OpenFault.{OpenFault}
use Rattle.cli_listen.specs.Telling.{PrintsRefusal, TurnsDown, why_not_opened}
use Rattle.room_entry.proofs.Facts.KnownBytes.{Appends-none}

pub told_as : (text text' : List ℕ) (how : Status) (u v w x : Option (List ℕ)) (status : ℕ)
    → text ≡ text' → PrintsText text how u v w x status → PrintsText text' how u v w x status
told_as text text' how u v w x status is told =
    subst (λ (t : List ℕ). PrintsText t how u v w x status) is told

pub refused : (fault : OpenFault) (why : NoRoom) (u v w x : Option (List ℕ)) (status : ℕ)
    → Ok why ≡ why_not_opened fault → PrintsRefusal why u v w x status
    → TurnsDown (why_not_opened fault) u v w x status
refused fault why u v w x status is told =
    subst (λ (r : Result NoRoom Fault). TurnsDown r u v w x status) is told

pub failed : (fault : OpenFault) (why : Fault) (u w x : Option (List ℕ)) (status : ℕ)
    → Err why ≡ why_not_opened fault → WritesSome w x (fault_line why) → status ≡ 3
    → TurnsDown (why_not_opened fault) u u w x status
failed fault why u w x status is told ends =
    subst (λ (r : Result NoRoom Fault). TurnsDown r u u w x status) is
    (record { said = Appends-none u; told = told; ends = ends })
