-- One object's children, and what they are to inherit from it.
use Rattle.std.specs.Prelude.{◌≡◌, ℕ, ◌+◌, ◌==◌, ◌&&◌, ◌⊎◌, Bool, true, false, not, List, []}
use Rattle.std.specs.Prelude.{◌∷◌, ◌++◌}
use Rattle.std.specs.Prelude.{length, map, filter, Some, Result, IsTrue, if◌then◌else◌}
use Rattle.std.specs.List.{list_any}
use Rattle.room_entry.specs.Ace.{Ace}
use Rattle.room_entry.specs.Same.{same_entries}
use Rattle.room_entry.specs.Valid.{is_document}
use Rattle.room_entry.specs.declared.object.ObjKind.{ObjKind}
use Rattle.room_entry.specs.declared.object.ObjKind.TheVariants.{Document, Folder}
use Rattle.room_entry.specs.declared.object.Which.{Which}
use Rattle.room_rows.specs.declared.keep.Keep.{Ghosts}
use Rattle.room_rows.specs.declared.keep.KeepFault.{KeepFault}
use Rattle.room_rows.specs.declared.node.Node.{Node}
use Rattle.room_rows.specs.Content.{Content, children_of, has_parent, is_folder}
use Rattle.room_rows.specs.Content.{with_each}
use Rattle.room_rows.specs.Calls.{Reads}
use Rattle.room_rows.specs.HeldList.{Held}
use Rattle.room_rows.specs.Held.{held_of, full_of, is_linked}
use Rattle.room_rows.specs.Keep.{AreChildrenOf, IsUnreadable, are_there, with_changed, with_content}
use Rattle.room_rows.specs.Keep.{with_inh}
use Rattle.room_rows.specs.Rows.{Rows}
use Rattle.room_rows.specs.Pass.{pass}
use Rattle.room_inherit.specs.Spread.{Carries, CarriesIf}
use Rattle.room_inherit.specs.declared.by_kind.ByKind.{ByKind}
use Rattle.room_inherit.specs.declared.descent.Descent.{Descent}
use Rattle.room_inherit.specs.declared.descent.Reach.{Reach}
use Rattle.room_inherit.specs.declared.descent.Reach.TheVariants.{Renewed, All}
use Rattle.room_inherit.specs.declared.outcome.SpreadFault.{SpreadFault}
use Rattle.room_inherit.specs.declared.passed.Passed.{Passed}

abbrev pub is_linked_to : Which → Node → Node → Bool
is_linked_to which above node = is_linked (held_of which node) (Some (held_of which above))

-- what the object is to inherit from the one above
abbrev pub passed_to : Which → Node → Node → List Ace
passed_to which above node = pass node.kind (full_of (held_of which above))

abbrev pub renewed_node : Which → Node → Node → Node
renewed_node which above node = with_inh which (passed_to which above node) node

-- linked, and stores something else than it is to store
abbrev pub is_outdated : Which → Node → Node → Bool
is_outdated which above node =
    is_linked_to which above node
    && not (same_entries (held_of which node).inh (passed_to which above node))

-- those of the children that are outdated, as they are to be
abbrev pub renewals : Which → Node → List Node → List Node
renewals which above nodes = map (renewed_node which above) (filter (is_outdated which above) nodes)

-- the object at which it began, met again as a linked child
abbrev pub is_met_again : Which → ℕ → Node → Node → Bool
is_met_again which start above node = (node.id == start) && is_linked_to which above node

abbrev pub meets_again : Which → ℕ → Node → List Node → Bool
meets_again which start above nodes = list_any (is_met_again which start above) nodes

-- the child is renewed where it is outdated
abbrev pub renewed_below : Which → Node → Node → Node
renewed_below which above node =
    if has_parent above.id node && is_outdated which above node
    then renewed_node which above node
    else node

abbrev pub MeetsAgain : Which → ℕ → Node → Rows → Type 0
MeetsAgain which start above rows =
    meets_again which start above (children_of rows.read above.id) ≡ true

-- renewed if it is outdated
abbrev pub brought_up : Which → Node → Node → Node
brought_up which above node =
    if is_outdated which above node then renewed_node which above node else node

-- which children wait next: the renewed ones, documents too, or all folders
abbrev pub waits_next : Reach → Which → Node → Node → Bool
waits_next Renewed which above node = is_outdated which above node
waits_next All which above node = is_folder node

-- those of the children, as they are to be
abbrev pub next_of : Reach → Which → Node → List Node → List Node
next_of reach which above nodes =
    map (brought_up which above) (filter (waits_next reach which above) nodes)

-- a document below which nothing stands
abbrev pub IsChildless : Content → Node → Type 0
IsChildless rows node =
    IsTrue (is_document node.kind) × (list_any (has_parent node.id) rows.nodes ≡ false)

-- The second list is the first, perhaps without documents below which nothing stands.
abbrev pub LeavesOut : Content → List Node → List Node → Type 0
LeavesOut rows [] next = next ≡ []
LeavesOut rows (node ∷ nodes) next =
    (rest : List Node) × LeavesOut rows nodes rest
    × ((next ≡ node ∷ rest) ⊎ ((next ≡ rest) × IsChildless rows node))

-- whether the child waits next, or it is left out since nothing stands below it
abbrev pub TellsWaiting : Content → Reach → Which → Node → Node → Bool → Type 0
TellsWaiting rows reach which above child waits =
    (waits ≡ waits_next reach which above child)
    ⊎ ((waits ≡ false) × IsChildless rows child)

-- One object's outdated children are renewed, and those that wait next are added after the objects
-- that wait, perhaps without documents below which nothing stands. The first object isn't among the
-- children.
pub record IsVisit (descent : Descent) (above : Node) (before after : List Node) (old : Rows)
    (written : ℕ) (new : Rows) : Type 0 where
  pub not_met : meets_again descent.which descent.start above (children_of old.read above.id)
      ≡ false
  pub becomes : new ≡ with_content old (with_each old.read (renewed_below descent.which above))
  pub counted : written ≡ length (renewals descent.which above (children_of old.read above.id))
  pub next : List Node
  pub waits : after ≡ before ++ next
  pub chosen : LeavesOut old.read
      (next_of descent.reach descent.which above (children_of old.read above.id)) next

-- what a list passes to the children of a kind
abbrev pub to_kind : Passed → ObjKind → List Ace
to_kind passed Document = passed.to_documents
to_kind passed Folder = passed.to_folders

-- what an object with this list passes to its children, if it passes anything
pub record IsPassed (held : Held) (passed : Passed) : Type 0 where
  pub auto : passed.auto ≡ held.flags.auto
  pub entries : (kind : ObjKind) → to_kind passed kind ≡ pass kind (full_of held)

-- ---- what is gathered first, and then written

abbrev pub is_kind : ObjKind → ObjKind → Bool
is_kind Document kind = is_document kind
is_kind Folder kind = not (is_document kind)

-- the numbers of this kind
abbrev pub of_kind : ByKind → ObjKind → List ℕ
of_kind numbers Document = numbers.documents.items
of_kind numbers Folder = numbers.folders.items

-- how many numbers, of both kinds
abbrev pub count_of : ByKind → ℕ
count_of numbers = length (of_kind numbers Document) + length (of_kind numbers Folder)

-- the numbers of those of the children that are outdated and of this kind
abbrev pub outdated_of : Which → Node → ObjKind → List Node → List ℕ
outdated_of which above kind nodes =
    map (λ node. node.id)
    (filter (λ node. is_outdated which above node && is_kind kind node.kind) nodes)

-- The numbers of the outdated ones of these children are added by their kinds, and those that wait
-- next are added after the objects that wait, perhaps without documents below which nothing stands.
pub record IsGathered (descent : Descent) (above : Node) (nodes before after : List Node)
    (sofar numbers : ByKind) (rows : Rows) : Type 0 where
  pub outdated : (kind : ObjKind)
      → of_kind numbers kind
      ≡ of_kind sofar kind ++ outdated_of descent.which above kind nodes
  pub next : List Node
  pub waits : after ≡ before ++ next
  pub chosen : LeavesOut rows.read (next_of descent.reach descent.which above nodes) next

-- the objects of these numbers get what is passed to this kind
abbrev pub with_passed : Which → Passed → ByKind → ObjKind → Content → Content
with_passed which passed numbers kind content =
    with_changed (of_kind numbers kind) (with_inh which (to_kind passed kind)) content

-- first the documents, then the folders
abbrev pub with_both_passed : Which → Passed → ByKind → Content → Content
with_both_passed which passed numbers content =
    with_passed which passed numbers Folder (with_passed which passed numbers Document content)

module _ {S : Type 0} (k : Ghosts S) (old new : S) where
  -- The children of an object are renewed.
  abbrev pub Visits : Descent → Node → List Node → List Node → Result ℕ SpreadFault → Type 0
  Visits descent above before after result =
      Carries k old new (λ written. written) result
      (MeetsAgain descent.which descent.start above) (IsVisit descent above before after)

  -- These children are gone through, without a write.
  abbrev pub Gathers : Descent → Node → List Node → List Node → List Node → ByKind → ByKind
      → Result (Unit {0}) KeepFault → Type 0
  Gathers descent above nodes before after sofar numbers result =
      Reads k old new result IsUnreadable
      (λ rows _. IsGathered descent above nodes before after sofar numbers rows)

  -- The objects of these numbers get what is passed to their kinds, if all are there.
  abbrev pub WritesAll : Which → Passed → ByKind → Result (Unit {0}) SpreadFault → Type 0
  WritesAll which passed numbers result =
      CarriesIf k old new
      (λ rows. (kind : ObjKind) → IsTrue (are_there (of_kind numbers kind) rows.read))
      (λ _. count_of numbers) result (λ _. ⊥)
      (λ rows _ now. now ≡ with_content rows (with_both_passed which passed numbers rows.read))

  -- The object's children are renewed, if these are all of them, and the first object isn't one.
  abbrev pub RenewsAll : Descent → Node → List Node → List Node → List Node
      → Result ℕ SpreadFault → Type 0
  RenewsAll descent above nodes before after result =
      CarriesIf k old new
      (λ rows. AreChildrenOf above.id rows nodes
      × (meets_again descent.which descent.start above nodes ≡ false))
      (λ written. written) result (λ _. ⊥) (IsVisit descent above before after)
