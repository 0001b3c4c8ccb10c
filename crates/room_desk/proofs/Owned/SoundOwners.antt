-- Rows stay sound where an object gets other owners, and what they mean changes likewise.
use Rattle.std.proofs.Common.{◌≡◌, ℕ, ◌==◌, Bool, cond, List, [], ◌∷◌, map, Option, Some, None}
use Rattle.std.proofs.{Common.{refl, ap, ◌∙◌, arith}, lemmas.Bool.Decides.nat_tests}
use Rattle.std.specs.{Prelude.if◌then◌else◌, Option.{option_map, option_map_or}}
use Rattle.room_entry.specs.declared.object.Which.{Which, TheVariants.{Dacl, Sacl}}
use Rattle.room_entry.specs.declared.parties.Owners.{Owners}
use Rattle.room_rows.specs.{declared.node.Node.Node, Content.{Content, node_at, parent_of}}
use Rattle.room_rows.specs.{Content.{is_linked_in, with_each, with_node}, Finding.find_id}
use Rattle.room_rows.specs.{Keep.{with_content, with_owners}, Meaning.{kept_node, meaning}}
use Rattle.room_rows.specs.{Rows.Rows, Sound.{AreSound, keeps_law}}
use Rattle.room_rows.proofs.{Frames.{Rises, node_at-number}, InPlace.with_node-replaces}
use Rattle.room_rows.proofs.{InPlace.place-with_owners, Lookups.each_found, SamePlace.IsSamePlace}
use Rattle.room_rows.proofs.SamePlace.{replaced, replaced_here, replaced_elsewhere}
use Rattle.room_inherit.proofs.{NoFault.{no_fault, sound_checked}, Unmoved.{above, all_kept}}
use Rattle.room_inherit.proofs.Unmoved.{still_sound}
use Rattle.room_sound.proofs.SoundParts.{map_same}

-- the object, with these owners where it has the number
abbrev pub owned : ℕ → Owners → Node → Node
owned id owners node = record node { owners = if node.id == id then owners else node.owners }

-- a test that doesn't see the change
test_kept : {A : Type 0} (change : Node → Node) (f g : Node → A) → ((n : Node) → f (change n) ≡ g n)
    → (d : A) (o : Option Node) → option_map_or f (option_map change o) d ≡ option_map_or g o d
test_kept change f g same d None = refl
test_kept change f g same d (Some n) = same n

-- ---- an object put in place with other owners

pub put_owned : (content : Content) → Rises content → (id : ℕ) (owners : Owners) (node : Node)
    → node_at content id ≡ Some node
    → with_node content (with_owners owners node) ≡ with_each content (owned id owners)
put_owned content rises id owners node there =
    with_node-replaces content rises id node (with_owners owners node) there
    (place-with_owners owners node)
    ∙ ap (λ (nodes : List Node). record content { nodes = nodes })
    (search (each_found, map_same, one, replaced))
  where
    number : node.id ≡ id
    number = node_at-number content id node there

    with_test : Node → Bool → Node
    with_test n t = record n { owners = cond t owners n.owners }

    one : (n : Node) → find_id n.id content.nodes ≡ Some n
        → replaced (with_owners owners node) n ≡ owned id owners n
    one n found = grind (arith, nat_tests, number, replaced_elsewhere, replaced_here, with_test)

module _ (content : Content) (id : ℕ) (owners : Owners) where
  abbrev change : Node → Node
  change node = owned id owners node

  abbrev after : Content
  after = with_each content change

  same_place : (node : Node) → IsSamePlace (change node) node
  same_place node = record { number = refl; parent = refl; name = refl }

  above_changed : (node : Node)
      → parent_of after (change node) ≡ option_map change (parent_of content node)
  above_changed node = above content change same_place node

  above_kept : {A : Type 0} (f g : Node → A) → ((n : Node) → f (change n) ≡ g n)
      → (d : A) (n : Node)
      → option_map_or f (parent_of after (change n)) d ≡ option_map_or g (parent_of content n) d
  above_kept f g same d n = grind (arith, nat_tests, above_changed, test_kept)

  -- ---- the law

  laws : (n : Node) → keeps_law after (change n) ≡ keeps_law content n
  laws n = grind (arith, nat_tests, above_kept)

  -- ---- what the rows mean

  links : (which : Which) (n : Node)
      → is_linked_in after which (change n) ≡ is_linked_in content which n
  links Dacl n = grind (arith, nat_tests, above_changed)
  links Sacl n = grind (arith, nat_tests, above_changed)

  kept : (n : Node) → kept_node after (change n) ≡ change (kept_node content n)
  kept n = search (links)

  pub owned_means : meaning after ≡ with_each (meaning content) change
  owned_means = ap (λ (nodes : List Node). record content { nodes = nodes }) (all content.nodes)
    where
      all : (nodes : List Node)
          → map (kept_node after) (map change nodes) ≡ map change (map (kept_node content) nodes)
      all [] = refl
      all (x ∷ xs) = cc (kept x, all xs)

-- ---- the rows

pub sound_owned : (rows : Rows) (id : ℕ) (owners : Owners) → AreSound rows
    → AreSound (with_content rows (with_each rows.read (owned id owners)))
sound_owned rows id owners sound =
    let tree = rows.read in
    still_sound rows (owned id owners) (same_place tree id owners) (λ n. refl)
    (sound_checked rows sound) (λ n there good. good)
    (all_kept (owned id owners) (keeps_law (with_each tree (owned id owners))) (keeps_law tree)
    (laws tree id owners) tree.nodes (no_fault rows sound).law)
