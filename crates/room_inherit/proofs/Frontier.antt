-- The objects that wait, while a change of a list is carried down.
use Rattle.std.proofs.Common.{◌≡◌, ℕ, ◌==◌, Bool, true, false, not, ◌||◌, List, [], ◌∷◌, ◌++◌, map}
use Rattle.std.proofs.{Common.{Some, refl, ap, ◌⊎◌, arith}, lemmas.Bool.Decides.nat_tests}
use Rattle.std.specs.{Option.option_map, List.AllByRecursion as Each}
use Rattle.room_entry.specs.{Ace.Ace, Valid.is_document, declared.object.Which.Which}
use Rattle.room_rows.specs.{declared.node.Node.Node, Content.{Content, node_at, has_parent}}
use Rattle.room_rows.specs.{Content.is_folder, Finding.find_id, Held.{held_of, is_linked}}
use Rattle.room_rows.specs.{Keep.with_inh, Law.AllAgreeBut, Pass.pass}
use Rattle.room_inherit.specs.Spread.{is_changed, IsLinkedBelow}
use Rattle.room_inherit.proofs.{Kinship.{same_kind, same_parent}, Children.{has_id, Apart, ids_of}}
use Rattle.room_inherit.proofs.Renewing.{map_agree, map_map}
use Rattle.room_rows.proofs.InPlace.{held_of-with_inh, with_inh-id}

-- ---- objects with other lists

module _ (which : Which) (f : Node → List Ace) where
  abbrev pub set : Node → Node
  set node = with_inh which (f node) node

  pub set_id : (n : Node) → (set n).id ≡ n.id
  set_id n = with_inh-id which (f n) n

  pub set_parent : (id : ℕ) (n : Node) → has_parent id (set n) ≡ has_parent id n
  set_parent id n = grind (arith, nat_tests, same_parent)

  pub set_folder : (n : Node) → is_folder (set n) ≡ is_folder n
  set_folder n = ap (λ k. not (is_document k)) (same_kind which (f n) n)

  pub set_held : (n : Node) → held_of which (set n) ≡ record (held_of which n) { inh = f n }
  set_held n = held_of-with_inh which (f n) n

  -- the same objects are found, with their other lists
  pub find_set : (id : ℕ) (nodes : List Node)
      → find_id id (map set nodes) ≡ option_map set (find_id id nodes)
  find_set id [] = refl
  find_set id (x ∷ xs) = grind (arith, nat_tests, set_id, find_set id xs)

  pub ids_set : (nodes : List Node) → ids_of (map set nodes) ≡ ids_of nodes
  ids_set nodes = grind (arith, nat_tests, map_agree, map_map, set_id)

-- whether the list of an object is linked to that of another
abbrev pub links : Which → Node → Node → Bool
links which above node = is_linked (held_of which node) (Some (held_of which above))

-- what an object passes to one below, with these lists
abbrev pub passes : Which → (Node → List Ace) → Node → Node → List Ace
passes which f above node = pass node.kind ((held_of which above).own ++ f above)

-- the start, or an object with another list than before
abbrev pub is_reached : Which → ℕ → (Node → List Ace) → Node → Bool
is_reached which start f node = (node.id == start) || is_changed which f node

module _ (which : Which) (start : ℕ) (old : Content) where
  abbrev pub There : Node → Type 0
  There node = node_at old node.id ≡ Some node

  -- an object that waits, with its list
  pub record Waits (f : Node → List Ace) (waiting : Node) : Type 0 where
    pub base : Node
    pub there : There base
    pub is : waiting ≡ set which f base
    pub reached : is_reached which start f base ≡ true

  -- how an object came to its list
  pub record Came (f : Node → List Ace) (waiting : List Node) (node : Node) : Type 0 where
    pub isnt_start : (node.id == start) ≡ false
    pub below : IsLinkedBelow old which start node
    pub parent : Node
    pub there : There parent
    pub has : has_parent parent.id node ≡ true
    pub reached : is_reached which start f parent ≡ true
    pub taken : has_id parent.id waiting ≡ false
    pub agrees : f node ≡ passes which f parent node

  -- an object agrees with its parent, or the parent waits
  abbrev pub AgreesOrWaits : (Node → List Ace) → List Node → Type 0
  AgreesOrWaits f waiting =
      (node parent : Node) → There node → There parent
      → has_parent parent.id node ≡ true → links which parent node ≡ true
      → (has_id parent.id waiting ≡ true) ⊎ (f node ≡ passes which f parent node)

  pub record Frontier (f : Node → List Ace) (waiting : List Node) : Type 0 where
    pub known : Each (Waits f) waiting
    pub apart : Apart waiting
    pub came : (node : Node) → There node → is_changed which f node ≡ true → Came f waiting node
    pub law : AllAgreeBut old which start → AgreesOrWaits f waiting
