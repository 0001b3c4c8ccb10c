-- Laws of the room machine on what a reply depends on.
use Rattle.std.specs.Prelude.{◌≡◌, ℕ, ℤ, ◌+◌, Bool, List, [], length, take, Option, Some, None}
use Rattle.std.specs.Prelude.{IfSome, IsTrue}
use Rattle.room_rows.specs.Content.{Content, groups_for, body_of, children_of, root_of}
use Rattle.room_rows.specs.Walk.{walk_of}
use Rattle.room_rows.specs.declared.node.Node.{Node}
use Rattle.room_machine.specs.declared.request.Request.{Request}
use Rattle.room_machine.specs.declared.request.Request.TheVariants.{Read, List as ListFolder, Put}
use Rattle.room_machine.specs.declared.request.Request.TheVariants.{Append, MakeFolder, Remove}
use Rattle.room_machine.specs.declared.request.Request.TheVariants.{Move, ReadList, SetList}
use Rattle.room_machine.specs.declared.request.Request.TheVariants.{ReadAttr, SetOwners, Can}
use Rattle.room_machine.specs.declared.reply.Reply.{Reply}
use Rattle.room_machine.specs.declared.reply.Reply.TheVariants.{Denied, Refused}
use Rattle.room_machine.specs.declared.reply.Reason.TheVariants.{Exists}
use Rattle.room_entry.specs.Ace.{Ace}
use Rattle.room_rows.specs.Rows.{Rows}
use Rattle.room_machine.specs.Site.{Site, sites_along, site_at}
use Rattle.room_machine.specs.Stored.{stored_along}
use Rattle.room_machine.specs.Closed.{FailsClosed, only_reads}
use Rattle.room_machine.specs.Plan.{way}
use Rattle.room_machine.specs.Judge.{first_failure}
use Rattle.room_machine.specs.Step.{Step, IsFree, caller_in}

-- the path that a request walks first
abbrev pub first_path : Request → List (List ℕ)
first_path (Read path) = path
first_path (ListFolder path) = path
first_path (Put path bytes) = path
first_path (Append path bytes) = path
first_path (MakeFolder path) = path
first_path (Remove path) = path
first_path (Move path to) = path
first_path (ReadList path which) = path
first_path (SetList path which sent) = path
first_path (ReadAttr path) = path
first_path (SetOwners path owners) = path
first_path (Can path mask) = path

-- the object at the path has the same bytes and children in both
abbrev pub same_target : Content → Content → List (List ℕ) → Type 0
same_target a b path = IfSome (site_at (sites_along a path) path)
    (λ target. (body_of a target.node.id ≡ body_of b target.node.id)
    × (children_of a target.node.id ≡ children_of b target.node.id))

-- On reading: the reply depends on the objects along the walk, the groups of the caller, and the
-- bytes and children of the target.
abbrev pub ReadsOnly : Type 0
ReadsOnly =
    (a b : Content) (user : Option (List ℕ)) (moment : ℤ) (request : Request) (first second : Reply)
    (after later : Content) →
    IsTrue (only_reads request) →
    walk_of a (first_path request) ≡ walk_of b (first_path request) →
    groups_for a user ≡ groups_for b user →
    same_target a b (first_path request) →
    Step a user moment request first after →
    Step b user moment request second later → first ≡ second

-- the reply to a caller for whom the way to a target fails
abbrev pub way_failure : Content → Option (List ℕ) → Bool → List (List ℕ) → Option Reply
way_failure content user may_lack path =
    first_failure (caller_in content user) (way may_lack (sites_along content path) path)

-- the objects of a walk down to the one at the first of these paths
abbrev pub chain_to : List (List ℕ) → Content → List (List ℕ) → List Node
chain_to front content path = take (length front + 1) (walk_of content path).chain

-- On hiding: where the way to a request's first path is denied at an object, the reply is that
-- denial in every content with the same objects down to it and the same groups of the caller. What
-- lies below doesn't show.
abbrev pub Hides : Type 0
Hides =
    (a b : Content) (user : Option (List ℕ)) (moment : ℤ) (request : Request) (may_lack : Bool)
    (front : List (List ℕ)) (bits : List ℕ) (place : Option ℕ) (entry : Option Ace) (reply : Reply)
    (after : Content) →
    way_failure a user may_lack (first_path request) ≡ Some (Denied front bits place entry) →
    chain_to front a (first_path request) ≡ chain_to front b (first_path request) →
    groups_for a user ≡ groups_for b user →
    Step b user moment request reply after → reply ≡ Denied front bits place entry

-- the stored lists of the objects down to the one at the first of these paths
abbrev pub stored_to : List (List ℕ) → Content → List (List ℕ) → List Site
stored_to front rows path = take (length front + 1) (stored_along rows path)

-- The same where rows needn't be sound, by the lists as they are stored.
abbrev pub HidesStored : Type 0
HidesStored =
    (a b : Rows) (user : Option (List ℕ)) (moment : ℤ) (request : Request) (may_lack : Bool)
    (front : List (List ℕ)) (bits : List ℕ) (place : Option ℕ) (entry : Option Ace) (reply : Reply)
    (after : Rows) →
    first_failure (caller_in a.read user)
    (way may_lack (stored_along a.read (first_path request)) (first_path request))
    ≡ Some (Denied front bits place entry) →
    stored_to front a.read (first_path request) ≡ stored_to front b.read (first_path request) →
    groups_for a.read user ≡ groups_for b.read user →
    FailsClosed user moment request b reply after → reply ≡ Denied front bits place entry

-- Where no object is without a parent, no request gets a reply but one: the root's place is never
-- free for a folder.
abbrev pub AnswersNeedRoot : Type 0
AnswersNeedRoot =
    (rows : Rows) (user : Option (List ℕ)) (moment : ℤ) (request : Request) (reply : Reply)
    (after : Rows) →
    root_of rows.read ≡ None →
    FailsClosed user moment request rows reply after →
    (request ≡ MakeFolder []) × (reply ≡ Refused [] Exists)

-- Some number is free, so the machine can always step.
abbrev pub SomeFree : Type 0
SomeFree = (content : Content) → (id : ℕ) × IsFree content id
