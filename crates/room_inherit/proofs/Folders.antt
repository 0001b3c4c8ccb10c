-- Objects that stand in folders, before and after lists are carried down.
use Rattle.std.proofs.{Common.{◌≡◌, true, List, Some, arith}, lemmas.Bool.Decides.nat_tests}
use Rattle.std.specs.List.{list_all}
use Rattle.room_entry.specs.{Ace.Ace, declared.object.Which.Which}
use Rattle.room_rows.specs.{declared.node.Node.Node, Content.{Content, has_folder_above}}
use Rattle.room_rows.specs.Content.{has_parent, is_folder, node_at}
use Rattle.room_rows.proofs.{SamePlace.IsSamePlace, Frames.parent_is}
use Rattle.room_inherit.specs.Spread.{with_lists}
use Rattle.room_inherit.proofs.{Kinship.{same_kind, same_name, same_parent}, Frontier.{set, set_id}}
use Rattle.room_inherit.proofs.{Outdated.parent_found, Unmoved.{all_map, folder_above}}

-- an object stands in a folder if its parent is one
pub in_folder_is : (content : Content) (node parent : Node)
    → node_at content parent.id ≡ Some parent → has_parent parent.id node ≡ true
    → has_folder_above content node ≡ is_folder parent
in_folder_is content node parent there has = grind (arith, nat_tests, parent_found, parent_is)

module _ (which : Which) (f : Node → List Ace) (content : Content) where
  place : (n : Node) → IsSamePlace (set which f n) n
  place n = grind (arith, nat_tests, same_name, same_parent, set_id)

  -- what stood in a folder does
  set_above : (n : Node)
      → has_folder_above (with_lists which f content) (set which f n) ≡ has_folder_above content n
  set_above n = folder_above content (set which f) place (λ m. same_kind which (f m) m) n

  -- where every object but the root stood in a folder, every one does with the other lists
  pub folders_stay : list_all (has_folder_above content) content.nodes ≡ true
      → list_all (has_folder_above (with_lists which f content)) (with_lists which f content).nodes
      ≡ true
  folders_stay folders = grind (arith, nat_tests, all_map, set, set_above)
