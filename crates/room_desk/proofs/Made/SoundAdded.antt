-- Rows stay sound where an object is added.
use Rattle.std.proofs.Common.{◌≡◌, ℕ, Bool, true, false, not, ◌&&◌, ◌||◌, List, [], ◌∷◌, filter}
use Rattle.std.proofs.Common.{length, Option, Some, None, nat_lt, refl, sym, ap, ◌∙◌, arith}
use Rattle.std.proofs.lemmas.Bool.{false≢true, and_from, or_right, le-ltb, Decides.nat_tests}
use Rattle.std.proofs.lemmas.{List.Folds.list_all-map, Slice.Eq.bytes_eq-Decides}
use Rattle.std.{proofs.Math.Bool.not-not, specs.{Prelude.is_none, List.{find, list_all}}}
use Rattle.std.specs.{List.AllByRecursion as Each, Option.option_map_or}
use Rattle.room_entry.specs.{Pieces.{is_among, same_text}, declared.object.Which.TheVariants.Dacl}
use Rattle.room_entry.specs.declared.object.Which.TheVariants.{Sacl}
use Rattle.room_entry.proofs.Facts.Members.{each_fails, any_none}
use Rattle.room_rows.specs.{declared.node.Node.Node, Content.{Content, node_at, child_of}}
use Rattle.room_rows.specs.Content.{parent_of, has_parent, has_folder_above, is_folder, is_root}
use Rattle.room_rows.specs.{Content.{same_parent, put_node, body_at}, Finding.find_id}
use Rattle.room_rows.specs.{Keep.with_content, Paths.is_object_name, Rows.{Rows, AreRows}}
use Rattle.room_rows.specs.{Rows.{put_numbers, unread_numbers}, Law.agrees_with, Sound.AreSound}
use Rattle.room_rows.specs.Sound.{bad_root, fits_kind, has_sound_body, has_sound_lists}
use Rattle.room_rows.specs.Sound.{has_sound_name, keeps_law, reaches, same_place}
use Rattle.room_rows.proofs.Frames.{has_its_parent}
use Rattle.room_inherit.{specs.Laws.HasNoFault, proofs.Children.{ids_of, each_found}}
use Rattle.room_inherit.proofs.{Ends.each_all, NoFault.{no_fault, sound}}
use Rattle.room_desk.proofs.Made.Added.{after, stays, comes, each_after, all_after, same_above}
use Rattle.room_desk.proofs.Made.Added.{reaches_still, reaches_more, length_put, filter_put}
use Rattle.room_desk.proofs.Made.Added.{each_put}
use Rattle.room_sound.proofs.SoundParts.{none_numbered, none_unreadable, sound_parts}

-- each object that is found passes a test that all pass
pub found_passes : (test : Node → Bool) (nodes : List Node) (id : ℕ) (node : Node)
    → list_all test nodes ≡ true → find_id id nodes ≡ Some node → test node ≡ true
found_passes test nodes id node all found =
    each_found (λ n. test n ≡ true) id nodes node (each_all test nodes all) found

-- none is found, so each that is there fails the test
none_passes : (test : Node → Bool) (nodes : List Node) → find test nodes ≡ None
    → Each (λ n. test n ≡ false) nodes
none_passes test [] none = tt
none_passes test (x ∷ xs) none = grind (arith, nat_tests, none_passes test xs)

-- ---- lists of all numbers

abbrev bad_at : Content → List ℕ → ℕ → Bool
bad_at content unreadable id =
    is_among unreadable id
    || option_map_or (λ node. not (has_sound_lists node)) (node_at content id) false

lists_of : (content : Content) (unreadable : List ℕ) → unreadable ≡ []
    → list_all (λ id. not (bad_at content unreadable id))
    (put_numbers unreadable (ids_of content.nodes))
    ≡ list_all (λ n. not (bad_at content [] n.id)) content.nodes
lists_of content unreadable none = grind (arith, nat_tests, ids_of, list_all-map)

-- where an object is found by its number, its lists are what counts
bad_found : (content : Content) (node : Node) → node_at content node.id ≡ Some node
    → not (bad_at content [] node.id) ≡ has_sound_lists node
bad_found content node found = grind (arith, nat_tests, not-not)

-- the lists of an object of sound rows
pub lists_here : (rows : Rows) → AreSound rows → (node : Node)
    → node_at rows.read node.id ≡ Some node → has_sound_lists node ≡ true
lists_here rows were node found =
    sym (bad_found rows.read node found)
    ∙ found_passes (λ m. not (bad_at rows.read [] m.id)) rows.read.nodes node.id node
    (
    cc (
      lists_of rows.read (unread_numbers rows)
          (none_numbered rows (none_unreadable rows (sound_parts rows were))),
      (no_fault rows were).lists,
    )) found

module _ (old : Rows) (are : AreRows old) (were : AreSound old) (new folder : Node)
    (bodies : List (ℕ × List ℕ)) (unused : node_at old.read new.id ≡ None)
    (there : node_at old.read folder.id ≡ Some folder) (is_above : is_folder folder ≡ true)
    (below : new.parent ≡ Some folder.id)
    (free : child_of old.read folder.id new.name ≡ None) where
  whole : HasNoFault old
  whole = no_fault old were

  none_bad : unread_numbers old ≡ []
  none_bad = none_numbered old (none_unreadable old (sound_parts old were))

  -- ---- its place

  pub above_new : parent_of (after old are new bodies unused) new ≡ Some folder
  above_new = cc (below, stays old are new bodies unused folder.id folder there)

  pub above_old : (n : Node) → node_at old.read n.id ≡ Some n
      → parent_of (after old are new bodies unused) n ≡ parent_of old.read n
  above_old n found = grind (arith, nat_tests, found_passes, same_above, whole)

  new_root : is_root new ≡ false
  new_root = ap is_none below

  roots : bad_root (filter is_root (after old are new bodies unused).nodes) ≡ None
  roots = ap bad_root (filter_put is_root new old.read.nodes unused new_root) ∙ whole.root

  parents : list_all (has_folder_above (after old are new bodies unused))
      (after old are new bodies unused).nodes ≡ true
  parents = all_after old are new bodies unused (has_folder_above (after old are new bodies unused))
      (λ n found. ap (λ o. is_root n || option_map_or is_folder o false) (above_old n found)
      ∙ found_passes (has_folder_above old.read) old.read.nodes n.id n whole.parents found)
      (or_right (is_root new) _ (ap (λ o. option_map_or is_folder o false) above_new ∙ is_above))

  reach : list_all (reaches (after old are new bodies unused))
      (after old are new bodies unused).nodes ≡ true
  reach = all_after old are new bodies unused (reaches (after old are new bodies unused))
      (λ n found.
      cc (
        length_put new old.read.nodes unused,
        reaches_more (after old are new bodies unused) (length old.read.nodes) n.parent
            (reaches_still old are new bodies unused (length old.read.nodes) n.parent
            (found_passes (reaches old.read) old.read.nodes n.id n whole.reach found)),
      ))
      (
      cc (
        length_put new old.read.nodes unused,
        below,
        stays old are new bodies unused folder.id folder there,
        reaches_still old are new bodies unused (length old.read.nodes) folder.parent
            (found_passes (reaches old.read) old.read.nodes folder.id folder whole.reach there),
      ))

  -- ---- its name

  apart : (n : Node) → node_at old.read n.id ≡ Some n
      → (has_parent folder.id n && same_text n.name new.name) ≡ false
  apart n found =
      each_found (λ m. (has_parent folder.id m && same_text m.name new.name) ≡ false) n.id
      old.read.nodes n
      (none_passes (λ m. has_parent folder.id m && same_text m.name new.name) old.read.nodes free)
      found

  same_number : (a b : Option ℕ) (id : ℕ) → same_parent a b ≡ true → a ≡ Some id → b ≡ Some id
  same_number a b id same is = grind (arith, nat_tests)

  other_number : (a b : Option ℕ) (id : ℕ) → same_parent a b ≡ true → b ≡ Some id → a ≡ Some id
  other_number a b id same is = grind (arith, nat_tests)

  not_placed : (n : Node) → node_at old.read n.id ≡ Some n → n.parent ≡ Some folder.id
      → n.name ≡ new.name → ⊥
  not_placed n found parent named =
      false≢true (
      cc (
        apart n found,
        and_from (has_parent folder.id n) (same_text n.name new.name)
            (has_its_parent folder.id n parent) ((bytes_eq-Decides n.name new.name).1 named),
      ))

  placed_before : (n : Node) → node_at old.read n.id ≡ Some n → same_place n new ≡ false
  placed_before n found = grind (arith, nat_tests, bytes_eq-Decides, not_placed, other_number)

  placed_behind : (n : Node) → node_at old.read n.id ≡ Some n → same_place new n ≡ false
  placed_behind n found = grind (arith, nat_tests, bytes_eq-Decides, not_placed, same_number)

  both_false : (t u : Bool) → u ≡ false → (t && u) ≡ false
  both_false true u is = is
  both_false false u is = refl

  not_false : (t : Bool) → not t ≡ true → t ≡ false
  not_false true is = absurd (false≢true is)
  not_false false is = refl

  name_stays : (n : Node) → node_at old.read n.id ≡ Some n → has_sound_name old.read n ≡ true
      → has_sound_name (after old are new bodies unused) n ≡ true
  name_stays n found is =
      grind (arith, nat_tests, any_none, both_false, each_fails, each_put, not_false, placed_behind)

  module _ (named : is_object_name new.name ≡ true) where
    new_named : has_sound_name (after old are new bodies unused) new ≡ true
    new_named = or_right (is_root new) _ (and_from (is_object_name new.name) _ named
        (ap not (any_none (λ other. nat_lt other.id new.id && same_place other new)
        (put_node new old.read.nodes)
        (each_after old are new bodies unused
        (λ other. (nat_lt other.id new.id && same_place other new) ≡ false)
        (λ n found. both_false (nat_lt n.id new.id) (same_place n new) (placed_before n found))
        (ap (λ t. t && same_place new new) (le-ltb new.id new.id (omega arith)))))))

    names : list_all (has_sound_name (after old are new bodies unused))
        (after old are new bodies unused).nodes ≡ true
    names =
        all_after old are new bodies unused (has_sound_name (after old are new bodies unused))
        (λ n found. name_stays n found
        (found_passes (has_sound_name old.read) old.read.nodes n.id n whole.names found)) new_named

    -- ---- all

    pub sound_added : has_sound_lists new ≡ true → agrees_with Dacl new folder ≡ true
        → agrees_with Sacl new folder ≡ true
        → ((n : Node) → node_at old.read n.id ≡ Some n
        → body_at bodies n.id ≡ body_at old.read.bodies n.id)
        → fits_kind new.kind (body_at bodies new.id) ≡ true
        → AreSound (with_content old (after old are new bodies unused))
    sound_added valid dacl sacl bytes fits =
        sound (with_content old (after old are new bodies unused)) (record {
          lists = lists_of (after old are new bodies unused) (unread_numbers old) none_bad
              ∙ all_after old are new bodies unused
              (λ n. not (bad_at (after old are new bodies unused) [] n.id))
              (λ n found. bad_found (after old are new bodies unused) n
              (stays old are new bodies unused n.id n found) ∙ lists_here old were n found)
              (bad_found (after old are new bodies unused) new (comes old are new bodies unused)
              ∙ valid);
          root = roots;
          parents = parents;
          reach = reach;
          names = names;
          bodies =
              all_after old are new bodies unused (has_sound_body (after old are new bodies unused))
              (λ n found. ap (fits_kind n.kind) (bytes n found)
              ∙ found_passes (has_sound_body old.read) old.read.nodes n.id n whole.bodies found)
              fits;
          law = all_after old are new bodies unused (keeps_law (after old are new bodies unused))
              (λ n found.
              cc (
                above_old n found,
                found_passes (keeps_law old.read) old.read.nodes n.id n whole.law found,
              ))
              (search (above_new, and_from));
        })
