-- Numbers of objects by the places where they stand: a parent and a name.
use Rattle.std.specs.Prelude.{◌≡◌, ℕ, ◌==◌, ◌&&◌, Bool, false, List, [], ◌∷◌, filter, Option, Some}
use Rattle.std.specs.Prelude.{if◌then◌else◌, String, string_bytes}
use Rattle.std.specs.List.{find, cons_option}
use Rattle.std.specs.Map.{lookup}
use Rattle.std.specs.Option.{option_map_or}
use Rattle.room_entry.specs.Pieces.{same_text}
use Rattle.room_rows.specs.declared.node.Node.{Node}
use Rattle.room_rows.specs.Content.{has_parent}

-- the object is the one of this number and stands there
abbrev pub is_standing : ℕ → ℕ → List ℕ → Node → Bool
is_standing id parent name node =
    (node.id == id) && (has_parent parent node && same_text node.name name)

abbrev pub standing : ℕ → ℕ → List ℕ → List Node → Option Node
standing id parent name nodes = find (is_standing id parent name) nodes

abbrev pub is_same_place : ℕ → List ℕ → ℕ → List ℕ → Bool
is_same_place parent name other_parent other_name =
    (other_parent == parent) && same_text other_name name

module _ {Y : Type 0} where
  -- a place by the bytes of its name
  abbrev pub text_place : ℕ × String Y → ℕ × List ℕ
  text_place place = (place.0, string_bytes place.1)

  abbrev pub is_place : ℕ → List ℕ → ℕ × String Y → Bool
  is_place parent name place = is_same_place parent name place.0 (string_bytes place.1)

  -- the number that is listed at a place
  abbrev pub id_at : ℕ → List ℕ → List ((ℕ × String Y) × ℕ) → Option ℕ
  id_at parent name places = lookup (is_place parent name) places

  -- the places under a parent
  abbrev pub places_under : ℕ → List ((ℕ × String Y) × ℕ) → List ((ℕ × String Y) × ℕ)
  places_under parent places = filter (λ place. place.0.0 == parent) places

  -- the objects that stand where they are listed, in the order of the places, all of which are
  -- under the parent
  abbrev pub standing_all : ℕ → List Node → List ((ℕ × String Y) × ℕ) → List Node
  standing_all parent nodes [] = []
  standing_all parent nodes (place ∷ places) =
      cons_option (standing place.1 parent (string_bytes place.0.1) nodes)
      (standing_all parent nodes places)

  -- the same, of all places, for those that are under the parent
  abbrev pub standing_under : ℕ → List Node → List ((ℕ × String Y) × ℕ) → List Node
  standing_under parent nodes [] = []
  standing_under parent nodes (place ∷ places) =
      if place.0.0 == parent then
      cons_option (standing place.1 parent (string_bytes place.0.1) nodes)
      (standing_under parent nodes places)
      else standing_under parent nodes places

  -- the number is listed at the place, and every other place is as it was
  abbrev pub Lists : ℕ → List ℕ → ℕ → List ((ℕ × String Y) × ℕ) → List ((ℕ × String Y) × ℕ) → Type 0
  Lists parent name id old new =
      (p : ℕ) (n : List ℕ)
      → id_at p n new ≡ (if is_same_place p n parent name then Some id else id_at p n old)

  -- every place is as it was, but for this one if it is given
  abbrev pub KeepsOtherPlaces : Option (ℕ × List ℕ) → List ((ℕ × String Y) × ℕ)
      → List ((ℕ × String Y) × ℕ) → Type 0
  KeepsOtherPlaces place old new =
      (p : ℕ) (n : List ℕ)
      → option_map_or (λ other. is_same_place p n other.0 other.1) place false ≡ false
      → id_at p n new ≡ id_at p n old

  -- the number is listed at the new place, and then no longer at the old one
  pub record Moves (before : Option (ℕ × List ℕ)) (parent : ℕ) (name : List ℕ) (id : ℕ)
      (old new : List ((ℕ × String Y) × ℕ)) : Type 0 where
    pub both : List ((ℕ × String Y) × ℕ)
    pub listed : Lists parent name id old both
    pub left : KeepsOtherPlaces before both new
