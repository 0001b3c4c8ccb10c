-- How an object gets another place.
use Rattle.std.specs.Prelude.{
  ◌≡◌,
  ℕ,
  zero,
  suc,
  ◌==◌,
  ◌&&◌,
  ◌⊎◌,
  Bool,
  true,
  false,
  not,
  List,
  [],
  ◌∷◌,
  ◌++◌,
  Option,
  Some,
  None,
  is_some,
  IsTrue,
  map,
}
use Rattle.std.specs.Option.{option_map_or}
use Rattle.room_entry.specs.Ace.{Ace}
use Rattle.room_entry.specs.Pieces.{same_text}
use Rattle.room_entry.specs.declared.object.Which.{Which}
use Rattle.room_rows.specs.declared.node.Node.{Node}
use Rattle.room_rows.specs.Content.{
  Content,
  node_at,
  child_of,
  is_folder,
  is_linked_in,
  is_rising,
  reaches_root,
  root_of,
  with_node,
}
use Rattle.room_rows.specs.Held.{held_of}
use Rattle.room_rows.specs.Keep.{Changes, IsDamaged, IsUnreadable, with_content, with_inh}
use Rattle.room_rows.specs.Meaning.{meaning}
use Rattle.room_rows.specs.Paths.{is_object_name}
use Rattle.room_rows.specs.Rows.{Rows, AreRows}
use Rattle.room_rows.specs.Law.{agrees, AllAgree}
use Rattle.room_rows.specs.Sound.{AreSound}
use Rattle.room_inherit.specs.Spread.{with_lists}
use Rattle.room_judge.specs.declared.arrival.Found.{Found}
use Rattle.room_judge.specs.declared.asker.Asker.{Asker}
use Rattle.room_machine.specs.declared.reply.Reply.{Reply}
use Rattle.room_machine.specs.declared.reply.Reply.TheVariants.{Done}
use Rattle.room_machine.specs.declared.reply.Reason.TheVariants.{Exists, Loop}
use Rattle.room_machine.specs.declared.request.Request.TheVariants.{Move}
use Rattle.room_machine.specs.Site.{Site, last_name, site_at}
use Rattle.room_machine.specs.Plan.{Item, Check, Deletion, Refusal, right_to_add}
use Rattle.room_machine.specs.Changed.{MovesTo, Relinks}
use Rattle.room_machine.specs.Effect.{moved_node}
use Rattle.room_judge.specs.Spot.{IsPaired, pair_of}
use Rattle.room_machine.specs.Stored.{stored_along, stored_site}
use Rattle.room_judge.specs.Closed.{IsServed}
use Rattle.room_judge.specs.Judged.{IsJudged, through}
use Rattle.room_desk.specs.Carrying.{IsCarriedDown, IsRooted, IsUnreadableIfRooted}

-- ---- what is judged

-- the target may leave its folder, and may come into the other one
abbrev pub rights_to_move : Site → Site → Site → List Item
rights_to_move target from folder =
    Deletion target from ∷ Check folder (right_to_add target.node ∷ []) ∷ []

-- the names begin those others, or are all of them
abbrev pub begins : List (List ℕ) → List (List ℕ) → Bool
begins [] others = true
begins (name ∷ names) [] = false
begins (name ∷ names) (other ∷ others) = same_text name other && begins names others

-- nothing has the new name, and it isn't below the target
abbrev pub free_place : Content → List (List ℕ) → Bool → Node → List Item
free_place rows to is_below folder = Refusal to Exists
    (is_some (child_of rows folder.id (last_name to))) ∷ Refusal to Loop is_below ∷ []

-- all that is judged at the new folder, after the way to it
abbrev pub at_place : Content → List (List ℕ) → Bool → Site → Site → Site → List Item
at_place rows to is_below target from folder =
    (through folder ++ rights_to_move target from folder) ++ free_place rows to is_below folder.node

-- whether the folder has a child of this name
abbrev pub IsTaken : ℕ → List ℕ → Rows → Bool → Type 0
IsTaken folder name rows answer = answer ≡ is_some (child_of rows.read folder name)

-- The items don't depend on who asks.
abbrev pub JudgesAll : (Rows → List Item) → Rows → Option Reply → Rows → Type 0
JudgesAll items old answer new = (asker : Asker) → IsJudged asker (items old) old answer new

-- ---- the whole request, once the way to the object has been walked from this root

abbrev pub MovesOn : Asker → List (List ℕ) → List (List ℕ) → Node → Found → Found → Rows → Reply
    → Rows → Type 0
MovesOn asker path to root from target mid reply new =
    root_of mid.read ≡ Some root → (old : Rows) → AreRows old → IsPaired asker path old
    (pair_of from target) mid → IsServed asker (Move path to) old reply new

abbrev pub FailsToMove : Asker → List (List ℕ) → Node → Found → Found → Rows → ℕ → Type 0
FailsToMove asker path root from target mid row =
    root_of mid.read ≡ Some root → (old : Rows) → AreRows old → IsPaired asker path old
    (pair_of from target) mid → IsDamaged old row

-- the root is this one, and the walk along the path leads to this object
abbrev pub StandsAlong : List (List ℕ) → Node → Node → Rows → Type 0
StandsAlong path root target rows = (root_of rows.read ≡ Some root)
    × (site_at (stored_along rows.read path) path ≡ Some (stored_site path target))

-- ---- the change

-- Going up from this number, at most n steps lead to the root, and none to the other object.
abbrev pub goes_past : ℕ → Content → ℕ → Option ℕ → Bool
goes_past n rows other None = true
goes_past zero rows other (Some id) = false
goes_past (suc n) rows other (Some id) = not (id == other) && option_map_or
    (λ node. goes_past n rows other node.parent) (node_at rows id) false

-- The rows are sound, the folder is one that is neither the target nor below it, and the name is
-- free there.
pub record CanPlace (target folder : Node) (name : List ℕ) (rows : Rows) : Type 0 where
  pub are : AreRows rows
  pub sound : AreSound rows
  pub target_there : node_at rows.read target.id ≡ Some target
  pub folder_there : node_at rows.read folder.id ≡ Some folder
  pub folder_is : is_folder folder ≡ true
  pub parent : ℕ
  pub has_parent : target.parent ≡ Some parent
  pub is_name : is_object_name name ≡ true
  pub is_free : child_of rows.read folder.id name ≡ None
  pub steps : ℕ
  pub past : goes_past steps rows.read target.id (Some folder.id) ≡ true

-- The target stands in the folder, with the lists that a move gives it, and the rows are sound.
pub record IsPlaced (target folder : Node) (name : List ℕ) (old new : Rows) : Type 0 where
  pub means : meaning new.read ≡ with_node (meaning old.read)
      (moved_node (stored_site [] target) (stored_site [] folder) name)
  pub sound : AreSound new

-- The same for rows that needn't be sound.
pub record CanGo (target folder : Node) (name : List ℕ) (rows : Rows) : Type 0 where
  pub are : AreRows rows
  pub target_there : node_at rows.read target.id ≡ Some target
  pub folder_there : node_at rows.read folder.id ≡ Some folder
  pub folder_is : is_folder folder ≡ true
  pub is_free : child_of rows.read folder.id name ≡ None
  pub steps : ℕ
  pub past : goes_past steps rows.read target.id (Some folder.id) ≡ true

-- On any rows the target stands in the folder, and rows that can't be read stay as they are.
abbrev pub IsMovedOnly : Node → Node → List ℕ → Rows → Rows → Type 0
IsMovedOnly target folder name old new =
    MovesTo folder name target old.read new.read × (new ≡ with_content old new.read)

abbrev pub PlacesAt : Node → Node → List ℕ → Rows → Reply → Rows → Type 0
PlacesAt target folder name old reply new =
    (reply ≡ Done) × (CanPlace target folder name old → IsPlaced target folder name old new)
    × (CanGo target folder name old → IsMovedOnly target folder name old new)

abbrev pub FailsToPlace : Node → Node → List ℕ → Rows → ℕ → Type 0
FailsToPlace target folder name old row = CanGo target folder name old → IsUnreadable old row

-- ---- one attribute at the new place

-- The target stands in the folder, each with this list. The law holds everywhere else.
pub record CanRenew (which : Which) (target folder : Node) (rows : Rows) : Type 0 where
  pub rises : IsTrue (is_rising (0 ∷ map (λ node. node.id) rows.read.nodes))
  pub readable : rows.unreadable ≡ []
  pub there : Node
  pub there_is : node_at rows.read target.id ≡ Some there
  pub there_held : held_of which there ≡ held_of which target
  pub there_kind : there.kind ≡ target.kind
  pub there_parent : there.parent ≡ Some folder.id
  pub above : Node
  pub above_is : node_at rows.read folder.id ≡ Some above
  pub above_held : held_of which above ≡ held_of which folder
  pub apart : folder.id ≡ target.id → ⊥
  pub steps : ℕ
  pub rooted : reaches_root steps rows.read (Some folder.id) ≡ true
  pub others : (node : Node) → node_at rows.read node.id ≡ Some node → (node.id ≡ target.id → ⊥)
      → agrees rows.read which node ≡ true

-- Only linked lists have changed, and the law holds everywhere.
pub record HasRenewedLists (which : Which) (old new : Rows) : Type 0 where
  pub lists : Node → List Ace
  pub becomes : new ≡ with_content old (with_lists which lists old.read)
  pub kept : (node : Node) → node_at old.read node.id ≡ Some node → is_linked_in old.read which node
      ≡ false → lists node ≡ (held_of which node).inh
  pub law : AllAgree new.read which

-- what is rooted stays so, and no other row becomes unreadable
pub record KeepsRoot (id : ℕ) (old new : Rows) : Type 0 where
  pub unreadable : new.unreadable ≡ old.unreadable
  pub rooted : IsRooted id old → IsRooted id new

-- the object is there with this list of the target
pub record HasListOf (which : Which) (target : Node) (rows : Rows) : Type 0 where
  pub rises : IsTrue (is_rising (0 ∷ map (λ node. node.id) rows.read.nodes))
  pub node : Node
  pub there : node_at rows.read target.id ≡ Some node
  pub held : held_of which node ≡ held_of which target

-- the same, and it is rooted
abbrev pub StandsListed : Which → Node → Rows → Type 0
StandsListed which target rows = HasListOf which target rows × IsRooted target.id rows

pub record Renews (which : Which) (target folder : Node) (old : Rows) (answer : Unit {0})
    (new : Rows) : Type 0 where
  pub renewed : CanRenew which target folder old → HasRenewedLists which old new
  pub keeps : IsRooted target.id old → KeepsRoot target.id old new
  pub relinks : HasListOf which target old → Relinks which folder target old.read new.read

-- The object stores these entries, which are carried down, unless it did already.
abbrev pub TakesPassed : Which → Node → List Ace → Rows → Unit {0} → Rows → Type 0
TakesPassed which target passed old answer new =
    ((passed ≡ (held_of which target).inh) × (new ≡ old))
    ⊎ ((mid : Rows)
    × Changes target.id (with_inh which passed) old mid
    × IsCarriedDown which target.id mid answer new)

abbrev pub FailsToRenew : Node → Rows → ℕ → Type 0
FailsToRenew target = IsUnreadableIfRooted target.id
