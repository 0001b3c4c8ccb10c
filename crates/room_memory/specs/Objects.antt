-- Objects by their numbers, and how their places are listed.
use Rattle.std.specs.Prelude.{◌≡◌, Bool, false, ℕ, ◌==◌, List, [], ◌∷◌, map, max, Option, Some}
use Rattle.std.specs.Prelude.{is_some, IsTrue, String}
use Rattle.std.specs.List.{list_all}
use Rattle.std.specs.List.Sorted.{IsStrictlySortedBy}
use Rattle.std.specs.Map.{keys_of, lookup, values_of}
use Rattle.std.specs.Option.{option_map, option_map_or}
use Rattle.room_entry.specs.Valid.{is_document}
use Rattle.std.specs.Ordering.{is_eq, nat_cmp}
use Rattle.room_entry.specs.declared.object.ObjKind.{ObjKind}
use Rattle.room_rows.specs.declared.node.Node.{Node}
use Rattle.room_rows.specs.Content.{is_rising}
use Rattle.room_rows.specs.Finding.{find_id}
use Rattle.room_memory.specs.Places.{id_at}

-- the greatest number in use, or 0
abbrev pub greatest : List Node → ℕ
greatest [] = 0
greatest (node ∷ nodes) = max node.id (greatest nodes)

abbrev pub has_document : ℕ → List Node → Bool
has_document id nodes = option_map_or (λ node. is_document node.kind) (find_id id nodes) false

-- the object is there, and has the parent and the name of this one
pub record StandsAsBefore (node : Node) (nodes : List Node) : Type 0 where
  pub before : Node
  pub is_there : find_id node.id nodes ≡ Some before
  pub same_parent : node.parent ≡ before.parent
  pub same_name : node.name ≡ before.name

abbrev pub named_kind : Node → List ℕ × ObjKind
named_kind node = (node.name, node.kind)

-- whether an object stands at the number
abbrev pub has_object : ℕ → List (ℕ × Node) → Bool
has_object id numbered = is_some (lookup (λ key. is_eq (nat_cmp id key)) numbered)

abbrev pub place_of : Node → Option (ℕ × List ℕ)
place_of node = option_map (λ parent. (parent, node.name)) node.parent

module _ {Y : Type 0} where
  -- Each object stands at its number, and is listed at its place if it has a parent.
  pub record AreTied (numbered : List (ℕ × Node))
      (places : List ((ℕ × String Y) × ℕ)) : Type 0 where
    pub keyed : IsTrue (list_all (λ entry. entry.0 == entry.1.id) numbered)
    pub sorted : IsStrictlySortedBy nat_cmp (keys_of numbered)
    pub rising : IsTrue (is_rising (0 ∷ map (λ node. node.id) (values_of numbered)))
    pub listed : (id parent : ℕ) (node : Node) → find_id id (values_of numbered) ≡ Some node
        → node.parent ≡ Some parent → id_at parent node.name places ≡ Some id
