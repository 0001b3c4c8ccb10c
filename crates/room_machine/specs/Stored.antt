-- Objects where a walk finds them, with their lists as they are stored.
use Rattle.std.specs.Prelude.{◌≡◌, ℕ, List, [], ◌∷◌, ◌++◌, Some, None}
use Rattle.std.specs.Option.{option_map_or}
use Rattle.room_rows.specs.declared.node.Node.{Node}
use Rattle.room_rows.specs.Content.{Content, root_of, child_of}
use Rattle.room_machine.specs.declared.request.Request.{Request}
use Rattle.room_machine.specs.Site.{Site, parent_at, site_at}
use Rattle.room_machine.specs.Plan.{Item, plan_by, target_by}

abbrev pub stored_site : List (List ℕ) → Node → Site
stored_site path node = record {
  path = path;
  node = node;
  dacl = node.dacl.inh;
  sacl = node.sacl.inh;
}

-- from an object at this path on, along the names, as far as there are children of these names
abbrev pub stored_from : Content → List (List ℕ) → Node → List (List ℕ) → List Site
stored_from rows path node [] = stored_site path node ∷ []
stored_from rows path node (name ∷ names) =
    let below : Node → List Site = λ child. stored_from rows (path ++ name ∷ []) child names in
    stored_site path node ∷ option_map_or below (child_of rows node.id name) []

-- the objects that a walk along the path finds, from the root on
abbrev pub stored_along : Content → List (List ℕ) → List Site
stored_along rows path = option_map_or (λ root. stored_from rows [] root path) (root_of rows) []

-- the object that the walk along the path finds, with its stored lists
abbrev pub AtStored : Content → List (List ℕ) → (Site → Type 0) → Type 0
AtStored rows path P =
    (target : Site) × (site_at (stored_along rows path) path ≡ Some target) × P target

-- the folder of the path's last name, where the walk finds it, and nothing at the path
abbrev pub AtFree : Content → List (List ℕ) → (Site → Type 0) → Type 0
AtFree rows path P = (folder : Site) × (parent_at (stored_along rows path) path ≡ Some folder)
    × (site_at (stored_along rows path) path ≡ None) × P folder

-- the way to a target, and the items at it where it is there
abbrev pub to_stored : Content → List (List ℕ) → (Site → List Item) → List Item
to_stored rows path items = target_by (stored_along rows) path items

-- The plan of a request, with the lists as they are stored.
abbrev pub stored_plan : Content → Request → List Item
stored_plan rows request = plan_by (stored_along rows) rows request
