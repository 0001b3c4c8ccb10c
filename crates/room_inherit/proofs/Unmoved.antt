-- Objects that are changed, but stay in their places and of their kinds.
use Rattle.std.proofs.Common.{rules, ◌≡◌, ℕ, zero, suc, Bool, true, false, not, ◌&&◌, List, [], ◌∷◌}
use Rattle.std.proofs.Common.{map, filter, Option, Some, None, refl, ap, ◌∙◌, arith}
use Rattle.std.proofs.lemmas.Bool.{not-false, not-true, or_from, or_parts, Decides.nat_tests}
use Rattle.std.proofs.lemmas.List.{length-map}
use Rattle.std.specs.{List.list_all, Option.{option_map, option_map_or}}
use Rattle.room_entry.proofs.Facts.{Lists.all_implied, Members.any_map}
use Rattle.room_rows.specs.{declared.node.Node.Node, Content.{Content, body_of, has_folder_above}}
use Rattle.room_rows.specs.Content.{is_root, node_at, parent_of, reaches_root, with_each}
use Rattle.room_rows.specs.{Keep.with_content, Rows.{Rows, is_unreadable}, Sound.AreSound}
use Rattle.room_rows.specs.Sound.{bad_root, fits_kind, has_bad_list, has_sound_body}
use Rattle.room_rows.specs.Sound.{has_sound_lists, has_sound_name, keeps_law, reaches}
use Rattle.room_rows.proofs.InPlace.{KeepsPlaces, keeps_places, node_at-with_each}
use Rattle.room_rows.proofs.InPlace.{numbers-with_each, numbers_of-reading, parent_of-with_each}
use Rattle.room_rows.proofs.{Lookups.found_number, SamePlace.{IsSamePlace, filter-changed}}
use Rattle.room_inherit.proofs.NoFault.{IsChecked, sound}

-- a test of all changed objects says what a test of all objects said before the change
pub all_map : (p q : Node → Bool) (g : Node → Node) → ((n : Node) → p (g n) ≡ q n)
    → (xs : List Node) → list_all p (map g xs) ≡ list_all q xs
all_map p q g same [] = refl
all_map p q g same (x ∷ xs) = λ i. same x i && all_map p q g same xs i

-- what all pass, all pass that are changed so
pub all_kept : (change : Node → Node) (p q : Node → Bool) → ((n : Node) → p (change n) ≡ q n)
    → (nodes : List Node) → list_all q nodes ≡ true → list_all p (map change nodes) ≡ true
all_kept change p q same nodes all = all_map p q change same nodes ∙ all

module _ (rows : Content) (change : Node → Node)
    (place : (n : Node) → IsSamePlace (change n) n) where
  abbrev changed : Content
  changed = with_each rows change

  -- no object of the rows gets another number, parent or name
  pub places : KeepsPlaces rows change
  places = keeps_places rows change place

  -- the parent of a changed object is the parent that it had, changed
  pub above : (node : Node)
      → parent_of changed (change node) ≡ option_map change (parent_of rows node)
  above node = grind (arith, nat_tests, parent_of-with_each, places)

  -- in at most n steps, parents lead to the root after the change exactly if they did before
  pub reach : (n : ℕ) (id : Option ℕ) → reaches_root n changed id ≡ reaches_root n rows id
  reach zero None = refl
  reach zero (Some id) = refl
  reach (suc n) None = refl
  reach (suc n) (Some id) =
      cc (node_at-with_each rows change places id, on (node_at rows id) (λ p. reach n p))
    where
      on : (o : Option Node) → ((p : Option ℕ) → reaches_root n changed p ≡ reaches_root n rows p)
          → option_map_or (λ (p : Node). reaches_root n changed p.parent)
          (option_map change o) false
          ≡ option_map_or (λ (p : Node). reaches_root n rows p.parent) o false
      on o more = grind (arith, nat_tests)

  -- a changed object's parents reach the root, in as many steps as objects, exactly if they did
  pub reach_all : (node : Node) → reaches changed (change node) ≡ reaches rows node
  reach_all node = grind (arith, nat_tests, length-map, reach)

  -- a changed object has a sound name exactly if it had one
  named : (node : Node) → has_sound_name changed (change node) ≡ has_sound_name rows node
  named node = grind (arith, nat_tests, any_map)

  -- ---- where no kind changes either

  module _ (kinds : (n : Node) → (change n).kind ≡ n.kind) where
    -- a changed object stands in a folder exactly if it did before
    pub folder_above : (node : Node)
        → has_folder_above changed (change node) ≡ has_folder_above rows node
    folder_above node = grind (arith, nat_tests, above)

    -- a changed object has the bytes that it is to have exactly if it had
    bodied : (node : Node) → has_sound_body changed (change node) ≡ has_sound_body rows node
    bodied node = λ i. fits_kind (kinds node i) (body_of rows ((place node).number i))

    -- the root is good exactly if it was
    rooted : bad_root (filter is_root changed.nodes) ≡ bad_root (filter is_root rows.nodes)
    rooted = grind (arith, nat_tests, filter-changed, places)

-- ---- rows

-- Rows without a fault whose objects are changed so are sound, where their lists stay sound and the
-- law holds.
module _ (old : Rows) (change : Node → Node) (place : (n : Node) → IsSamePlace (change n) n)
    (kinds : (n : Node) → (change n).kind ≡ n.kind) (none : IsChecked old)
    (lists : (node : Node) → node_at old.read node.id ≡ Some node → has_sound_lists node ≡ true
    → has_sound_lists (change node) ≡ true) where
  abbrev new : Rows
  new = with_content old (with_each old.read change)

  still_good : (id : ℕ) → has_bad_list old id ≡ false → has_bad_list new id ≡ false
  still_good id good =
      let parts = or_parts (is_unreadable old id) _ good in
      search (node_at-with_each, on, or_from, places)
    where
      on : (o : Option Node) → node_at old.read id ≡ o
          → option_map_or (λ n. not (has_sound_lists n)) o false ≡ false
          → option_map_or (λ n. not (has_sound_lists n)) (option_map change o) false ≡ false
      on None found good = refl
      on (Some node) found good =
          ap not (lists node (
          cc (found_number id old.read.nodes node found, found)) (not-false _ good))

  pub still_sound : list_all (keeps_law new.read) new.read.nodes ≡ true → AreSound new
  still_sound law = let kept = all_kept change in sound new (record {
    lists =
        search (all_implied, not-true, numbers-with_each, numbers_of-reading, places, still_good);
    root = rooted old.read change place kinds ∙ none.root;
    parents = search (rules, kept, folder_above);
    reach =
        kept (reaches new.read) (reaches old.read) (reach_all old.read change place)
        old.read.nodes none.reach;
    names =
        kept (has_sound_name new.read) (has_sound_name old.read) (named old.read change place)
        old.read.nodes none.names;
    bodies =
        kept (has_sound_body new.read) (has_sound_body old.read)
        (bodied old.read change place kinds) old.read.nodes none.bodies;
    law = law;
  })
