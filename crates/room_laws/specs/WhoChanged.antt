-- What can change who may do what, and the right that it takes (own).
use Rattle.std.specs.List.{AllByRecursion}
use Rattle.std.specs.Prelude.{◌≡◌, ℕ, ℤ, ◌⊎◌, List, [], ◌∷◌, ◌++◌, map, Option, Some, None, is_some}
use Rattle.std.specs.Prelude.{Bool, true, false, IsTrue}
use Rattle.room_entry.specs.Bits.{has}
use Rattle.room_entry.specs.Rights.{write_acl, write_owner, execute, write_data, append_data}
use Rattle.room_entry.specs.declared.object.Which.TheVariants.{Dacl, Sacl}
use Rattle.room_rows.specs.Content.{Content}
use Rattle.room_rows.specs.declared.node.Node.{Node}
use Rattle.room_machine.specs.Plan.{right_to_add}
use Rattle.room_machine.specs.Rights.{rights_at, may_remove_at}
use Rattle.room_machine.specs.Run.{Event, Asked, WasReset, Replaced, Happens, Run}
use Rattle.room_machine.specs.Site.{Site, site_at, sites_along, front}
use Rattle.room_machine.specs.Step.{Step}
use Rattle.room_machine.specs.declared.reply.Reply.{Reply}
use Rattle.room_machine.specs.declared.reply.Reply.TheVariants.{Done, Made}
use Rattle.room_machine.specs.declared.request.Request.{Request}
use Rattle.room_machine.specs.declared.request.Request.TheVariants.{Remove, Move, SetList}
use Rattle.room_machine.specs.declared.request.Request.TheVariants.{SetOwners, Put, MakeFolder}
use Rattle.room_laws.specs.Tidy.{IsNumbered, IsTidy}

-- ---- what rights depend on

-- an object without its number and its list of audits and alarms
abbrev pub deciding : Node → Node
deciding node = record node {
  id = 0;
  parent = None;
  sacl = record { flags = record { auto = false; protect = false }; own = []; inh = [] };
}

abbrev pub deciding_site : Site → Site
deciding_site site = record site { node = deciding site.node; sacl = [] }

-- The objects along a path: names, kinds, owners, dacls as they are kept and in full.
abbrev pub basis : Content → List (List ℕ) → List Site
basis content path = map deciding_site (sites_along content path)

-- All that rights at a path depend on is the same: the pairs, and the objects down to it.
pub record SameBasis (path : List (List ℕ)) (a b : Content) : Type 0 where
  pub members : a.members ≡ b.members
  pub objects : basis a path ≡ basis b path

-- ---- what changes it

-- the second path is the first, or goes on from it
abbrev pub IsFrom : List (List ℕ) → List (List ℕ) → Type 0
IsFrom path other = (rest : List (List ℕ)) × (other ≡ path ++ rest)

abbrev pub At : Content → List (List ℕ) → Site → Type 0
At content path site = site_at (sites_along content path) path ≡ Some site

-- something is at the path
abbrev pub IsThere : Content → List (List ℕ) → Type 0
IsThere content path = IsTrue (is_some (site_at (sites_along content path) path))

-- the user has the right at the path
abbrev pub HasRight : Content → Option (List ℕ) → List (List ℕ) → ℕ → Type 0
HasRight content user path right = IsTrue (has (rights_at content user path) right)

-- the user may remove what is at the path, by the deletion rule
abbrev pub MayRemove : Content → Option (List ℕ) → List (List ℕ) → Type 0
MayRemove content user path = IsTrue (may_remove_at content user path)

-- the user has, at the folder of a new path, EXECUTE and the right to add what is at the old one
abbrev pub MayPlace : Content → Option (List ℕ) → List (List ℕ) → List (List ℕ) → Type 0
MayPlace content user path to = (target : Site) × At content path target
    × HasRight content user (front to) execute
    × HasRight content user (front to) (right_to_add target.node)

-- What can change who may do what at a path where something is, and what right its user had for it
-- in the content that it happens in: a list or owners set at the path or above it; the object there
-- removed; it or one above it moved; a list set by the operator, or other pairs.
abbrev pub Changes : List (List ℕ) → Content → Event → Type 0
Changes path content (Asked user moment (SetList at Dacl sent) reply) =
    IsFrom at path × HasRight content user at write_acl × (reply ≡ Done)
Changes path content (Asked user moment (SetOwners at owners) reply) =
    IsFrom at path × HasRight content user at write_owner × (reply ≡ Done)
Changes path content (Asked user moment (Remove at) reply) =
    (path ≡ at) × MayRemove content user at × (reply ≡ Done)
Changes path content (Asked user moment (Move at to) reply) =
    IsFrom at path × MayRemove content user at × MayPlace content user at to × (reply ≡ Done)
Changes path content (Asked user moment request reply) = ⊥
Changes path content (WasReset at Dacl sent reply) = IsFrom at path
Changes path content (WasReset at Sacl sent reply) = ⊥
Changes path content (Replaced pairs) = Unit {0}

-- Whatever happens, where something is at a path, all that rights there depend on stays the same,
-- or it is one of these events, with what was granted for it.
abbrev pub ChangedBy : Type 0
ChangedBy = (path : List (List ℕ)) (before : Content) (event : Event) (after : Content) →
    IsNumbered before → IsTidy before → IsThere before path → Happens before event after →
    SameBasis path before after ⊎ Changes path before event

-- In a run with these events, one changes who may do what at the path: up to it all was the same.
abbrev pub FirstChange : List (List ℕ) → Content → List Event → Type 0
FirstChange path content events = (earlier later : List Event) × (event : Event)
    × (mid : Content) × (events ≡ earlier ++ event ∷ later) × Run content earlier mid
    × SameBasis path content mid × Changes path mid event

-- Over runs: all that rights at a path depend on is as it was, or some event was one of these.
abbrev pub ChangedInRun : Type 0
ChangedInRun = (path : List (List ℕ)) (start : Content) (events : List Event) (after : Content) →
    IsNumbered start → IsTidy start → IsThere start path → Run start events after →
    SameBasis path start after ⊎ FirstChange path start events

-- ---- rights

-- Everybody may do the same at the path.
pub record SameRights (path : List (List ℕ)) (a b : Content) : Type 0 where
  pub rights : (user : Option (List ℕ)) → rights_at a user path ≡ rights_at b user path
  pub removal : (user : Option (List ℕ)) → may_remove_at a user path ≡ may_remove_at b user path

-- It follows from what rights depend on.
abbrev pub RightsFollow : Type 0
RightsFollow = (path : List (List ℕ)) (a b : Content) → SameBasis path a b
    → SameRights path a b

-- What can put something at a path where nothing was, and what right its user had for it.
abbrev pub Makes : List (List ℕ) → Content → Event → Type 0
Makes path content (Asked user moment (Put at bytes) reply) =
    (path ≡ at) × HasRight content user (front at) write_data × (reply ≡ Made)
Makes path content (Asked user moment (MakeFolder at) reply) =
    (path ≡ at) × HasRight content user (front at) append_data × (reply ≡ Made)
Makes path content (Asked user moment (Move at to) reply) =
    IsFrom to path × MayRemove content user at × MayPlace content user at to × (reply ≡ Done)
Makes path content event = ⊥

-- Whatever happens, at each path everybody may do the same as before, or it is one of these events.
abbrev pub RightsChangedBy : Type 0
RightsChangedBy = (path : List (List ℕ)) (before : Content) (event : Event) (after : Content) →
    IsNumbered before → IsTidy before → Happens before event after →
    SameRights path before after ⊎ (Changes path before event ⊎ Makes path before event)

-- a request that reads, appends, or sets a list of audits and alarms
abbrev pub is_quiet : Request → Bool
is_quiet (Put path bytes) = false
is_quiet (MakeFolder path) = false
is_quiet (Remove path) = false
is_quiet (Move path to) = false
is_quiet (SetList path Dacl sent) = false
is_quiet (SetOwners path owners) = false
is_quiet request = true

-- These change nobody's rights anywhere.
abbrev pub RightsStay : Type 0
RightsStay =
    (path : List (List ℕ)) (before : Content) (user : Option (List ℕ)) (moment : ℤ)
    (request : Request) (reply : Reply) (after : Content) →
    IsNumbered before → IsTidy before → IsTrue (is_quiet request) →
    Step before user moment request reply after → SameRights path before after

-- It changes rights at the path, or puts something there, where nothing was in the first content.
abbrev pub Alters : List (List ℕ) → Content → Content → Event → Type 0
Alters path content mid event =
    Changes path mid event ⊎ ((IsThere content path → ⊥) × Makes path mid event)

-- In a run with these events, one of them was the first that could change rights at the path.
abbrev pub FirstGranted : List (List ℕ) → Content → List Event → Type 0
FirstGranted path content events = (earlier later : List Event) × (event : Event)
    × (mid : Content) × (events ≡ earlier ++ event ∷ later) × Run content earlier mid
    × SameRights path content mid × Alters path content mid event

-- Over runs: at each path everybody may do the same as at the start, or some event changed it, with
-- what was granted for it.
abbrev pub RightsChangedInRun : Type 0
RightsChangedInRun = (path : List (List ℕ)) (start : Content) (events : List Event)
    (after : Content) → IsNumbered start → IsTidy start → Run start events after →
    SameRights path start after ⊎ FirstGranted path start events

-- ---- who may not, can't come to

-- A request of a user who, in this content, has neither WRITE_ACL nor WRITE_OWNER at the path or
-- above it, and may remove nothing there.
abbrev pub IsHarmless : List (List ℕ) → Content → Event → Type 0
IsHarmless path content (Asked user moment request reply) = (at : List (List ℕ)) → IsFrom at path →
    (HasRight content user at write_acl → ⊥) × (HasRight content user at write_owner → ⊥)
    × (MayRemove content user at → ⊥)
IsHarmless path content event = ⊥

-- Whatever such users ask for, one after the other and however often, everybody's rights at the
-- path stay.
abbrev pub NothingGained : Type 0
NothingGained = (path : List (List ℕ)) (start : Content) (events : List Event) (after : Content) →
    IsNumbered start → IsTidy start → IsThere start path → Run start events after →
    AllByRecursion (IsHarmless path start) events →
    SameBasis path start after × SameRights path start after
