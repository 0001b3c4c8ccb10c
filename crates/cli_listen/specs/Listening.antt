-- Where connections are accepted (own).
use Rattle.std.specs.Prelude.{◌≡◌, ◌⊎◌, ℕ, List, [], ◌∷◌, ◌++◌, length, Option, Result, Ok, Err}
use Rattle.cli_outcome.specs.declared.listen.ListenAddress.{ListenAddress}
use Rattle.cli_outcome.specs.declared.listen.ListenAddress.TheVariants as address
use Rattle.cli_listen.specs.Lines.{TellsFirst}
use Rattle.cli_listen.specs.Peers.{Act, Adds}
use Rattle.cli_listen.specs.Visits.{IsEnd, Visit, acts_of, end_acts}
use Rattle.cli_listen.specs.declared.fault.ServingFault.{ServingFault}

-- a port of the IP address that has these bytes, or a socket whose file is made at this path
pub data Site : Type 0 where
  Port : List ℕ → ℕ → Site
  Socket : List ℕ → Site

-- A port is one of 127.0.0.1: no other machine reaches it.
abbrev pub site_of : ListenAddress → Site
site_of (address.Port port) = Site.Port (127 ∷ 0 ∷ 0 ∷ 1 ∷ []) port
site_of (address.Socket path) = Site.Socket path.now

-- A site was asked for and couldn't be had, or a listener came of it; or a listener was given back,
-- and these are all that it did.
pub data Deed : Type 0 where
  Refused Bound : Site → Deed
  Closed : List Act → Deed

-- what came of asking for a site
abbrev pub asked_by : {L E : Type 0} → Result L E → Site → Deed
asked_by (Ok listener) site = Deed.Bound site
asked_by (Err fault) site = Deed.Refused site

-- The address alone was asked for, once, and couldn't be had. That was the end: nobody was met, and
-- nothing was printed of the address.
pub record CannotListen (did did' : List Deed → Type 0) (address : ListenAddress)
    (visits : List Visit) (end : Result (Unit {0}) ServingFault) (out out' : Option (List ℕ))
    : Type 0 where
  pub asked : Adds did did' (Deed.Refused (site_of address) ∷ [])
  pub nobody : visits ≡ []
  pub end_is : end ≡ Err ServingFault.Net
  pub untold : out' ≡ out

-- The address alone was asked for, once, and its listener was given back after these connections
-- and this end, and did nothing else. What the end says of them, and of what was printed of the
-- address before the first, holds.
pub record HasListened (did did' : List Deed → Type 0) (address : ListenAddress) (count : ℕ)
    (visits : List Visit) (end : Result (Unit {0}) ServingFault) (out out' : Option (List ℕ))
    : Type 0 where
  pub acts : Adds did did'
      (Deed.Bound (site_of address) ∷ Deed.Closed (acts_of visits ++ end_acts end) ∷ [])
  pub end_says : IsEnd count end (length visits)
  pub first : TellsFirst address (length visits) end out out'

abbrev pub ListensAt : (List Deed → Type 0) → (List Deed → Type 0) → ListenAddress → ℕ → List Visit
    → Result (Unit {0}) ServingFault → Option (List ℕ) → Option (List ℕ) → Type 0
ListensAt did did' address count visits end out out' =
    CannotListen did did' address visits end out out'
    ⊎ HasListened did did' address count visits end out out'
