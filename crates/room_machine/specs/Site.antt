-- Objects where a walk finds them, with their lists computed from the root.
use Rattle.std.specs.Prelude.{ℕ, List, [], ◌∷◌, ◌++◌, Option, Some, None}
use Rattle.room_entry.specs.Ace.{Ace}
use Rattle.room_entry.specs.declared.object.Which.{Which}
use Rattle.room_entry.specs.declared.object.Which.TheVariants.{Dacl, Sacl}
use Rattle.room_rows.specs.declared.node.Node.{Node}
use Rattle.room_rows.specs.Held.{held_of}
use Rattle.room_rows.specs.Content.{Content}
use Rattle.room_rows.specs.Walk.{walk_of}
use Rattle.room_rows.specs.Full.{inherited_below}

-- an object, the path to it, and the inherited entries of its lists
pub record Site : Type 0 where
  pub path : List (List ℕ)
  pub node : Node
  pub dacl : List Ace
  pub sacl : List Ace

abbrev pub inherited_at : Which → Site → List Ace
inherited_at Dacl site = site.dacl
inherited_at Sacl site = site.sacl

-- the full list: the own entries, then the inherited ones
abbrev pub full_at : Which → Site → List Ace
full_at which site = (held_of which site.node).own ++ inherited_at which site

abbrev pub root_site : Node → Site
root_site node = record { path = []; node = node; dacl = node.dacl.inh; sacl = node.sacl.inh }

abbrev pub site_below : Site → Node → Site
site_below above node = record {
  path = above.path ++ node.name ∷ [];
  node = node;
  dacl = inherited_below Dacl above.node (full_at Dacl above) node;
  sacl = inherited_below Sacl above.node (full_at Sacl above) node;
}

abbrev pub sites_below : Site → List Node → List Site
sites_below above [] = []
sites_below above (node ∷ chain) = site_below above node ∷ sites_below (site_below above node) chain

abbrev pub sites_of : List Node → List Site
sites_of [] = []
sites_of (root ∷ chain) = root_site root ∷ sites_below (root_site root) chain

-- the objects that a walk along the path finds, from the root on
abbrev pub sites_along : Content → List (List ℕ) → List Site
sites_along content path = sites_of (walk_of content path).chain

-- the object at the path, if the walk finds it
abbrev pub site_at : List Site → List (List ℕ) → Option Site
site_at [] names = None
site_at (site ∷ sites) [] = Some site
site_at (site ∷ sites) (name ∷ names) = site_at sites names

-- a path without its last name, and the last name
abbrev pub front : List (List ℕ) → List (List ℕ)
front [] = []
front (name ∷ []) = []
front (name ∷ next ∷ names) = name ∷ front (next ∷ names)

abbrev pub last_name : List (List ℕ) → List ℕ
last_name [] = []
last_name (name ∷ []) = name
last_name (name ∷ next ∷ names) = last_name (next ∷ names)

-- the folder that the path's last name is looked for in; the root has none
abbrev pub parent_at : List Site → List (List ℕ) → Option Site
parent_at sites [] = None
parent_at sites (name ∷ names) = site_at sites (front (name ∷ names))
