-- Rows in which the objects have other lists of one attribute, and else are as they were.
use Rattle.std.proofs.Common.{rules, ◌≡◌, ℕ, Bool, true, List, [], ◌∷◌, map, Some, refl, arith}
use Rattle.std.proofs.lemmas.Bool.{and_parts, and_from, Decides.nat_tests}
use Rattle.std.specs.{List.list_all, Option.option_map}
use Rattle.room_entry.specs.declared.object.Which.{Which, TheVariants.{Dacl, Sacl}}
use Rattle.room_rows.specs.{HeldList.Held, declared.node.Node.Node, Content.{Content, node_at}}
use Rattle.room_rows.specs.Content.{parent_of, has_folder_above, is_linked_in, with_each}
use Rattle.room_rows.specs.{Held.{held_of, with_held, is_linked}, Keep.with_content}
use Rattle.room_rows.specs.{Meaning.{kept_held, kept_node}, Rows.Rows, Law.{AllAgree, agrees}}
use Rattle.room_rows.specs.{Law.agrees_with, Sound.{AreSound, has_sound_lists, is_sound_held}}
use Rattle.room_rows.specs.Sound.{keeps_law, reaches}
use Rattle.room_rows.proofs.{InPlace.{place-with_held, node_at-with_each}, SamePlace.IsSamePlace}
use Rattle.room_inherit.proofs.{NoFault.{no_fault, sound_checked}, Unmoved.{above, all_kept}}
use Rattle.room_inherit.proofs.Unmoved.{folder_above, places, reach_all, still_sound}
use Rattle.room_entry.proofs.Facts.Lists.{all_implied}

-- ---- both attributes

all_both : {X : Type 0} (p q r : X → Bool) → ((x : X) → p x ≡ true → q x ≡ true → r x ≡ true)
    → (xs : List X) → list_all p xs ≡ true → list_all q xs ≡ true → list_all r xs ≡ true
all_both p q r each [] ps qs = refl
all_both p q r each (x ∷ xs) ps qs =
    let first = and_parts (p x) (list_all p xs) ps in
    let second = and_parts (q x) (list_all q xs) qs in
    and_from (r x) (list_all r xs) (each x first.0 second.0)
    (all_both p q r each xs first.1 second.1)

-- the attribute that isn't changed
abbrev pub other : Which → Which
other Dacl = Sacl
other Sacl = Dacl

pub both_agree : (which : Which) (rows : Content) (node : Node) → agrees rows which node ≡ true
    → agrees rows (other which) node ≡ true → keeps_law rows node ≡ true
both_agree Dacl rows node here there = grind (arith, nat_tests)
both_agree Sacl rows node here there = grind (arith, nat_tests)

pub one_agrees : (which : Which) (rows : Content) (node : Node) → keeps_law rows node ≡ true
    → agrees rows which node ≡ true
one_agrees Dacl rows node both = (and_parts (agrees rows Dacl node) (agrees rows Sacl node) both).0
one_agrees Sacl rows node both = (and_parts (agrees rows Dacl node) (agrees rows Sacl node) both).1

pub both_lists : (which : Which) (node : Node)
    → is_sound_held which node.kind (held_of which node) ≡ true
    → is_sound_held (other which) node.kind (held_of (other which) node) ≡ true
    → has_sound_lists node ≡ true
both_lists Dacl node here there = grind (arith, nat_tests)
both_lists Sacl node here there = grind (arith, nat_tests)

pub one_list : (which : Which) (node : Node) → has_sound_lists node ≡ true
    → is_sound_held which node.kind (held_of which node) ≡ true
one_list Dacl node both = grind (arith, nat_tests)
one_list Sacl node both = grind (arith, nat_tests)

-- ---- one object

module _ (which : Which) (lists : Node → Held) where
  abbrev pub relist : Node → Node
  relist node = with_held which (lists node) node

  pub place_kept : (node : Node) → IsSamePlace (relist node) node
  place_kept node = place-with_held which (lists node) node

  pub number_kept : (node : Node) → (relist node).id ≡ node.id
  number_kept node = (place_kept node).number

  pub parent_kept : (node : Node) → (relist node).parent ≡ node.parent
  parent_kept node = (place_kept node).parent

  pub kind_kept : (node : Node) → (relist node).kind ≡ node.kind
  kind_kept node = grind (arith, nat_tests)

  pub held_relisted : (node : Node) → held_of which (relist node) ≡ lists node
  held_relisted node = grind (arith, nat_tests)

  pub other_kept : (node : Node) → held_of (other which) (relist node) ≡ held_of (other which) node
  other_kept node = grind (arith, nat_tests)

  -- ---- all of them

  module _ (rows : Content) where
    abbrev pub relisted : Content
    relisted = with_each rows relist

    pub found_relisted : (id : ℕ) → node_at relisted id ≡ option_map relist (node_at rows id)
    found_relisted id = node_at-with_each rows relist (places rows relist place_kept) id

    pub parent_relisted : (node : Node)
        → parent_of relisted (relist node) ≡ option_map relist (parent_of rows node)
    parent_relisted node = above rows relist place_kept node

    pub reach_kept : (node : Node) → reaches relisted (relist node) ≡ reaches rows node
    reach_kept node = reach_all rows relist place_kept node

    -- each object has a folder above it
    pub folders_kept : list_all (has_folder_above rows) rows.nodes ≡ true
        → list_all (has_folder_above relisted) relisted.nodes ≡ true
    folders_kept all =
        all_kept relist (has_folder_above relisted) (has_folder_above rows)
        (folder_above rows relist place_kept kind_kept) rows.nodes all

    -- the law of the other attribute
    other_linked : (node above : Node)
        → agrees_with (other which) (relist node) (relist above)
        ≡ agrees_with (other which) node above
    other_linked node above = grind (arith, nat_tests, above, kind_kept, other_kept)

    other_agrees : (node : Node)
        → agrees relisted (other which) (relist node) ≡ agrees rows (other which) node
    other_agrees node = grind (arith, nat_tests, above, other_linked, parent_relisted)

    -- ---- which lists are linked

    pub linked_relisted : (node : Node)
        → is_linked_in relisted which (relist node)
        ≡ is_linked (lists node) (option_map lists (parent_of rows node))
    linked_relisted node = grind (arith, nat_tests, above, held_relisted, parent_relisted)

    other_linked_in : (node : Node)
        → is_linked_in relisted (other which) (relist node) ≡ is_linked_in rows (other which) node
    other_linked_in node = grind (arith, nat_tests, above, other_kept, parent_relisted)

    -- what the object means
    pub kept_relisted : (node : Node)
        → kept_node relisted (relist node)
        ≡ with_held which
        (kept_held (is_linked (lists node) (option_map lists (parent_of rows node))) (lists node))
        (kept_node rows node)
    kept_relisted node = search (linked_relisted, of_which, other_linked_in)
      where
        of_which : (w : Which) (c : Content) (held : Held) (linked : Bool)
            → is_linked_in c w (with_held w held node) ≡ linked
            → is_linked_in c (other w) (with_held w held node) ≡ is_linked_in rows (other w) node
            → kept_node c (with_held w held node)
            ≡ with_held w (kept_held linked held) (kept_node rows node)
        of_which w c held linked here there = grind (arith, nat_tests)

  -- ---- rows that stay sound

  -- where each has sound lists, and the law of this attribute holds
  pub relisted_sound : (old : Rows) → AreSound old
      → ((node : Node) → node_at old.read node.id ≡ Some node
      → is_sound_held which node.kind (lists node) ≡ true) → AllAgree (relisted old.read) which
      → AreSound (with_content old (relisted old.read))
  relisted_sound old are_sound fits law =
      still_sound old relist place_kept kind_kept (sound_checked old are_sound)
      (search (rules, both_lists, held_relisted, kind_kept, fits, one_list, other_kept))
      (
      cc (all_both (agrees (relisted old.read) which) (agrees (relisted old.read) (other which))
      (keeps_law (relisted old.read)) (both_agree which (relisted old.read))
      (map relist old.read.nodes) law
      (all_kept relist (agrees (relisted old.read) (other which))
      (agrees old.read (other which)) (other_agrees old.read) old.read.nodes
      (all_implied (keeps_law old.read) (agrees old.read (other which))
      (one_agrees (other which) old.read) old.read.nodes (no_fault old are_sound).law))))
