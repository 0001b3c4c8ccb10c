-- Laws of changes (own).
use Rattle.std.specs.Prelude.{◌≡◌, ℕ, ℤ, true, false, List, [], ◌∷◌, ◌++◌, Option, Some, None}
use Rattle.room_entry.specs.declared.object.ObjKind.{ObjKind}
use Rattle.room_entry.specs.declared.object.ObjKind.TheVariants.{Document, Folder}
use Rattle.room_entry.specs.declared.object.Which.TheVariants.{Dacl}
use Rattle.room_entry.specs.declared.parties.Caller.{Caller}
use Rattle.room_rows.specs.declared.node.Node.{Node}
use Rattle.room_rows.specs.Content.{Content}
use Rattle.room_rows.specs.Held.{is_linked}
use Rattle.room_machine.specs.declared.reply.Reply.TheVariants.{Done, Made}
use Rattle.room_machine.specs.declared.request.Request.{Request}
use Rattle.room_machine.specs.declared.request.Request.TheVariants.{MakeFolder, Put}
use Rattle.room_machine.specs.Effect.{new_node}
use Rattle.room_machine.specs.Rights.{may_remove, rights}
use Rattle.room_machine.specs.Site.{Site, full_at, last_name, parent_at, site_below, sites_along}
use Rattle.room_machine.specs.Step.{IsFree, Step, caller_in}
use Rattle.room_change.specs.Changes.{Change, Comes, change_of, changed, differs, grant_at, nearest}
use Rattle.room_change.specs.Changes.{rows_down, turn_at, turns_down}

-- After a request that was done, each caller may do at each path what it may do after the change
-- that the request asks for.
abbrev pub AfterTheRequest : Type 0
AfterTheRequest =
    (room : Content) (user : Option (List ℕ)) (moment : ℤ) (request : Request) (change : Change)
    (after : Content) → change_of request ≡ Some change → Step room user moment request Done after
    → (caller : Caller) (path : List (List ℕ))
    → grant_at after caller path ≡ grant_at (changed room change) caller path

-- where a request makes an object, if it may, and of which kind
abbrev pub made_by : Request → Option (List (List ℕ) × ObjKind)
made_by (Put path bytes) = Some (path, Document)
made_by (MakeFolder path) = Some (path, Folder)
made_by _ = None

-- After a request that made an object, each caller may do at each path what it may do after the
-- coming of that object: a new one in the folder of its path, by a number that was free.
abbrev pub AfterTheMaking : Type 0
AfterTheMaking =
    (room : Content) (user : Option (List ℕ)) (moment : ℤ) (request : Request)
    (path : List (List ℕ)) (kind : ObjKind) (after : Content) → made_by request ≡ Some (path, kind)
    → Step room user moment request Made after
    → (folder : Site) × (parent_at (sites_along room path) path ≡ Some folder)
    × ((id : ℕ) × IsFree room id × ((caller : Caller) (at : List (List ℕ))
    → grant_at after caller at
    ≡ grant_at (changed room (Comes path
    (new_node id (caller_in room user) kind folder (last_name path)))) caller at))

-- ---- pieces

-- objects of one kind, with the same owners and the same dacl
pub record IsAlike (one other : Site) : Type 0 where
  pub kind : one.node.kind ≡ other.node.kind
  pub owners : one.node.owners ≡ other.node.owners
  pub dacl : full_at Dacl one ≡ full_at Dacl other

-- the objects of two ways are alike, one by one
abbrev pub AreAlike : List Site → List Site → Type 0
AreAlike [] [] = Unit {0}
AreAlike [] (other ∷ others) = ⊥
AreAlike (one ∷ ones) [] = ⊥
AreAlike (one ∷ ones) (other ∷ others) = IsAlike one other × AreAlike ones others

-- Where a piece of a room has the objects on the way to a path, each caller may do there what it
-- may do in the room.
abbrev pub APieceSaysAsMuch : Type 0
APieceSaysAsMuch =
    (piece room : Content) (path : List (List ℕ))
    → AreAlike (sites_along piece path) (sites_along room path) → (caller : Caller)
    → grant_at piece caller path ≡ grant_at room caller path

-- ---- objects that follow

-- It has no entry of its own, isn't protected, and the folder passes on.
pub record Follows (folder : Site) (node : Node) : Type 0 where
  pub own : node.dacl.own ≡ []
  pub linked : is_linked node.dacl (Some folder.node.dacl) ≡ true

-- Two objects of one folder that follow it, of the same kind and with the same owners, grant each
-- caller the same: one of them stands for all.
abbrev pub LikeOnesAreAlike : Type 0
LikeOnesAreAlike =
    (above : List Site) (folder : Site) (one other : Node) → one.kind ≡ other.kind
    → one.owners ≡ other.owners → Follows folder one → Follows folder other → (caller : Caller)
    → (rights caller (above ++ folder ∷ []) (site_below folder one)
    ≡ rights caller (above ++ folder ∷ []) (site_below folder other))
    × (may_remove caller (above ++ folder ∷ []) (site_below folder one)
    ≡ may_remove caller (above ++ folder ∷ []) (site_below folder other))

-- ---- rows

-- Rows of the first object, and below it of those that don't repeat the row above: where the
-- caller's rights at the end of a way change, the nearest row says how, and where they don't, the
-- nearest row says of no change. What they say is what a review of the room says where the object
-- stood, and a review of the changed room where it stands.
abbrev pub NearestRowSays : Type 0
NearestRowSays =
    (room : Content) (changes : List Change) (caller : Caller) (path names : List (List ℕ)) →
    let turn = turn_at room changes caller in
    let row = nearest (turn path) (rows_down (turn path) (turns_down turn path names)) in
    (differs (turn (path ++ names)) ≡ true → row ≡ turn (path ++ names))
    × (differs (turn (path ++ names)) ≡ false → differs row ≡ false)
