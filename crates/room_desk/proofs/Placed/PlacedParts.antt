-- The objects of rows in which one has another parent and name, and each perhaps other inherited
-- entries.
use Rattle.std.proofs.Common.{◌≡◌, ℕ, ◌==◌, Bool, true, cond, List, Option, Some, None, refl, arith}
use Rattle.std.proofs.lemmas.{List.Folds.list_all-map, Bool.Decides.nat_tests}
use Rattle.std.specs.{List.list_all, Option.option_map}
use Rattle.room_entry.specs.{Ace.Ace, declared.object.Which.{Which, TheVariants.{Dacl, Sacl}}}
use Rattle.room_entry.proofs.Facts.Members.{all_each}
use Rattle.room_rows.specs.{HeldList.Held, declared.node.Node.Node, Content.{Content, node_at}}
use Rattle.room_rows.specs.{Content.{parent_of, with_each}, Held.{held_of, is_linked}}
use Rattle.room_rows.{specs.Keep.with_place, proofs.Frames.{Rises, node_at-number}}
use Rattle.room_inherit.proofs.Children.{Apart, apart_rising, each_there, each_found}
use Rattle.room_inherit.proofs.Ends.{each_all}
use Rattle.room_desk.proofs.Placed.Climbing.{node_at-changed}

-- ---- the change of one object

module _ (t k : ℕ) (name : List ℕ) (d s : Node → List Ace) where
  -- the object of the number t gets that place, and each these inherited entries
  abbrev pub placed : Node → Node
  placed n =
      record (cond (n.id == t) (with_place k name n) n) {
        dacl = record n.dacl { inh = d n };
        sacl = record n.sacl { inh = s n };
      }

  abbrev pub lists : Which → Node → List Ace
  lists Dacl n = d n
  lists Sacl n = s n

  pub placed_number : (n : Node) → (placed n).id ≡ n.id
  placed_number = grind arith

  pub placed_kind : (n : Node) → (placed n).kind ≡ n.kind
  placed_kind = grind arith

  pub placed_held : (which : Which) (n : Node)
      → held_of which (placed n) ≡ record (held_of which n) { inh = lists which n }
  placed_held = grind arith

-- ---- tests of all objects

module _ (content : Content) (rises : Rises content) where
  abbrev pub There : Node → Type 0
  There n = node_at content n.id ≡ Some n

  pub apart : Apart content.nodes
  apart = apart_rising 0 content.nodes rises

  -- what all pass, each that is there passes
  pub passes : (test : Node → Bool) → list_all test content.nodes ≡ true → (n : Node) → There n
      → test n ≡ true
  passes test all n there = each_found _ n.id content.nodes n (each_all _ content.nodes all) there

  pub there_again : (id : ℕ) (n : Node) → node_at content id ≡ Some n → There n
  there_again id n found = let same = node_at-number content id n found in grind arith

  module _ (change : Node → Node) (number : (n : Node) → (change n).id ≡ n.id) where
    abbrev after : Content
    after = with_each content change

    -- the objects afterwards pass a test if what each becomes does
    pub all_after : (test : Node → Bool) → ((n : Node) → There n → test (change n) ≡ true)
        → list_all test after.nodes ≡ true
    all_after test each = search (all_each, apart, each_there, list_all-map)

    -- what an object was before
    pub base : (id : ℕ) (m : Node) → node_at after id ≡ Some m → (n : Node) × There n
        × (m ≡ change n)
    base id m found = grind (arith, nat_tests, node_at-changed, there_again)

    pub change_there : (n : Node) → There n → node_at after (change n).id ≡ Some (change n)
    change_there n there = grind (arith, nat_tests, node_at-changed)

    -- where the parent is the same, it is what the old one became
    pub parent_after : (n : Node) → (change n).parent ≡ n.parent
        → parent_of after (change n) ≡ option_map change (parent_of content n)
    parent_after n same = grind (arith, nat_tests, node_at-changed)

    pub parent_found : (n above : Node) (id : ℕ) → (change n).parent ≡ Some id
        → node_at content id ≡ Some above → parent_of after (change n) ≡ Some (change above)
    parent_found n above id is found = grind (arith, nat_tests, node_at-changed)

-- ---- what links a list

-- the flags alone decide
pub linked_flags : (a b : Held) (o : Option Held) → a.flags ≡ b.flags
    → is_linked a o ≡ is_linked b o
linked_flags = grind arith

pub linked_above : (a : Held) (which : Which) (o : Option Node) (change : Node → Node)
    → ((n : Node) → (held_of which (change n)).flags ≡ (held_of which n).flags)
    → is_linked a (option_map (held_of which) (option_map change o))
    ≡ is_linked a (option_map (held_of which) o)
linked_above a which None change same = refl
linked_above a which (Some above) change same = rw (same above)
