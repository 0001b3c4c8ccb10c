-- Views after objects were changed in their places.
use Rattle.std.proofs.Common.{ℕ, ◌≡◌, ◌==◌, Bool, false, List, [], ◌∷◌, map, Option, Some, None}
use Rattle.std.proofs.{Common.{refl, sym, ap, ◌∙◌, arith}, lemmas.Option.none-some}
use Rattle.std.{proofs.lemmas.Bool.Decides.nat_tests, specs.List.AllByRecursion}
use Rattle.std.specs.{Option.option_map, Prelude.{option_and_then, if◌then◌else◌}}
use Rattle.room_entry.specs.declared.{object.Which.Which, parties.Owners.Owners}
use Rattle.room_entry.proofs.Facts.Booleans.{same_truth}
use Rattle.room_rows.specs.Content.{Content, child_of, node_at, has_parent, body_of, with_node}
use Rattle.room_rows.specs.{Content.{with_body, with_each}, Finding.find_id, Held.with_held}
use Rattle.room_rows.specs.{HeldList.Held, Keep.with_owners, declared.node.Node.Node}
use Rattle.room_rows.proofs.{Frames.{child_of-parent, root_of-parent}, InPlace.keeps_places}
use Rattle.room_rows.proofs.InPlace.{child_of-with_each, root_of-with_each, with_node-replaces}
use Rattle.room_rows.proofs.InPlace.{with_each-with_each, rises-with_each, node_at-with_each}
use Rattle.room_rows.proofs.InPlace.{body_of-with_body, body_of-with_body-other, place-with_held}
use Rattle.room_rows.proofs.{InPlace.place-with_owners, SamePlace.{IsSamePlace, same_place}}
use Rattle.room_rows.proofs.SamePlace.{replaced}
use Rattle.room_machine.specs.Site.{front, last_name}
use Rattle.room_laws.specs.Outside.{sight, Seen, found, found_from, unnumbered, view}
use Rattle.room_laws.{specs.Tidy.IsNumbered, proofs.Behind.{change, change_place}}
use Rattle.room_laws.proofs.OnePlace.{found_snoc, found_there, one_place, split_last}
use Rattle.room_laws.proofs.Placed.{names_decide, same_names}
use Rattle.room_rows.proofs.Lookups as lookups

-- ---- objects found after a change

module _ (a : Content) (g : Node → Node) (places : (n : Node) → IsSamePlace (g n) n) where
  each_from : (node : Node) (names : List (List ℕ))
      → found_from (with_each a g) (g node) names ≡ option_map g (found_from a node names)
  each_from node [] = refl
  each_from node (name ∷ names) =
      cc (
        (places node).number,
        child_of-with_each a g (keeps_places a g places) node.id name,
        on (child_of a node.id name) (λ child. each_from child names),
      )
    where
      on : (o : Option Node)
          → ((child : Node) → found_from (with_each a g) (g child) names
          ≡ option_map g (found_from a child names))
          → option_and_then (λ child. found_from (with_each a g) child names) (option_map g o)
          ≡ option_map g (option_and_then (λ child. found_from a child names) o)
      on o more = grind (arith, nat_tests)

  pub found_each : (path : List (List ℕ))
      → found (with_each a g) path ≡ option_map g (found a path)
  found_each path = search (keeps_places, on, root_of-with_each)
    where
      on : (o : Option Node)
          → option_and_then (λ root. found_from (with_each a g) root path) (option_map g o)
          ≡ option_map g (option_and_then (λ root. found_from a root path) o)
      on o = grind (arith, nat_tests, each_from)

  -- where the change is known at each path, so is what is seen there after it
  pub each_view : (G : List (List ℕ) → Node → Node)
      → ((path : List (List ℕ)) (n : Node) → found a path ≡ Some n
      → unnumbered (g n) ≡ G path (unnumbered n))
      → (path : List (List ℕ))
      → view (with_each a g) path ≡ option_map (λ (v : Seen). (G path v.0, v.1)) (view a path)
  each_view G known path = grind (arith, nat_tests, found_each)

-- where the objects are the same, the same are found
nodes_from : (a c : Content) → c.nodes ≡ a.nodes → (node : Node) (names : List (List ℕ))
    → found_from c node names ≡ found_from a node names
nodes_from a c same node names = grind (arith, nat_tests)

pub nodes_found : (a c : Content) → c.nodes ≡ a.nodes → (path : List (List ℕ))
    → found c path ≡ found a path
nodes_found a c same path = grind (arith, nat_tests, nodes_from)

-- an object changed, and the others left
abbrev pub only : ℕ → (Node → Node) → Node → Node
only id u node = if node.id == id then u node else node

pub only_place : (id : ℕ) (u : Node → Node) → ((n : Node) → IsSamePlace (u n) n) → (n : Node)
    → IsSamePlace (only id u n) n
only_place id u places n = grind (arith, nat_tests, same_place)

map_only : (u : Node → Node) (all : List Node) (target : Node)
    → find_id target.id all ≡ Some target → (u target).id ≡ target.id → (nodes : List Node)
    → AllByRecursion (λ (n : Node). find_id n.id all ≡ Some n) nodes
    → map (replaced (u target)) nodes ≡ map (only target.id u) nodes
map_only u all target at number [] each = refl
map_only u all target at number (x ∷ xs) each =
    grind (arith, nat_tests, replaced, map_only u all target at number xs each.1)

-- an object put in its place, changed, is a change of it alone
pub put_only : (a : Content) → IsNumbered a → (target : Node)
    → node_at a target.id ≡ Some target → (u : Node → Node) → ((n : Node) → IsSamePlace (u n) n)
    → with_node a (u target) ≡ with_each a (only target.id u)
put_only a numbered target at u places =
    grind (arith, nat_tests, lookups.each_found, map_only, with_node-replaces)

module _ (a : Content) (numbered : IsNumbered a) where
  -- objects of one number are found at one path
  pub number_path : (p q : List (List ℕ)) (n m : Node) → found a p ≡ Some n → found a q ≡ Some m
      → (n.id == m.id) ≡ same_names p q
  number_path p q n m first second =
      grind (arith, nat_tests, names_decide, one_place, same_names, same_truth)

  module _ (path : List (List ℕ)) (target : Node) (at : found a path ≡ Some target) where
    there : node_at a target.id ≡ Some target
    there = found_there a numbered path target at

    -- ---- one object with other owners

    abbrev pub owned : Owners → List (List ℕ) → Node → Node
    owned owners q node = if same_names q path then with_owners owners node else node

    pub owners_view : (owners : Owners) (q : List (List ℕ))
        → view (with_node a (with_owners owners target)) q
        ≡ option_map (λ (v : Seen). (owned owners q v.0, v.1)) (view a q)
    owners_view owners q =
        cc (
          put_only a numbered target there (with_owners owners) (place-with_owners owners),
          each_view a (only target.id (with_owners owners))
              (only_place target.id (with_owners owners) (place-with_owners owners)) (owned owners) known
              q,
        )
      where
        known : (p : List (List ℕ)) (n : Node) → found a p ≡ Some n
            → unnumbered (only target.id (with_owners owners) n) ≡ owned owners p (unnumbered n)
        known p n is = grind (arith, nat_tests, number_path, same_names)

    -- ---- other bytes

    abbrev pub filled : List ℕ → List (List ℕ) → Option (List ℕ) → Option (List ℕ)
    filled bytes q body = if same_names q path then Some bytes else body

    pub bytes_view : (bytes : List ℕ) (q : List (List ℕ))
        → view (with_body a target.id bytes) q
        ≡ option_map (λ (v : Seen). (v.0, filled bytes q v.1)) (view a q)
    bytes_view bytes q = search (nodes_found, on)
      where
        by : (n : Node) (t : Bool) → (n.id == target.id) ≡ t
            → body_of (with_body a target.id bytes) n.id
            ≡ (if t then Some bytes else body_of a n.id)
        by n t is = grind (arith, nat_tests, body_of-with_body, body_of-with_body-other)

        on : (o : Option Node) → found a q ≡ o
            → option_map (sight (with_body a target.id bytes)) o
            ≡ option_map (λ (v : Seen). (v.0, filled bytes q v.1)) (option_map (sight a) o)
        on None is = refl
        on (Some n) is = grind (arith, nat_tests, by, number_path)

    -- ---- a list that is set, with those of the children

    -- whether a path is that of a child
    abbrev pub is_child : List (List ℕ) → Bool
    is_child [] = false
    is_child (name ∷ names) = same_names (front (name ∷ names)) path

    child_path : (q : List (List ℕ)) (n : Node) → found a q ≡ Some n
        → has_parent target.id n ≡ is_child q
    child_path [] n is = grind (arith, nat_tests, root_of-parent)
    child_path (name ∷ names) n is =
        cc (on (found a (front (name ∷ names))) refl
        (sym (ap (found a) (split_last name names) ∙ found_snoc a (front (name ∷ names))
        (last_name (name ∷ names))) ∙ is))
      where
        on : (o : Option Node) → found a (front (name ∷ names)) ≡ o
            → option_and_then (λ x. child_of a x.id (last_name (name ∷ names))) o ≡ Some n
            → has_parent target.id n ≡ is_child (name ∷ names)
        on None none same = absurd (none-some n same)
        on (Some above) there same =
            cc (
              child_of-parent a above.id (last_name (name ∷ names)) n same,
              number_path (front (name ∷ names)) path above target there at,
            )

    abbrev pub relisted : Which → Held → (Node → Held) → List (List ℕ) → Node → Node
    relisted which held keep q node =
        if same_names q path then with_held which held node else
        if is_child q then with_held which (keep node) node else node

    module _ (which : Which) (held : Held) (keep : Node → Held) where
      abbrev ch : Node → Node
      ch n = change which keep target.id n

      places : (n : Node) → IsSamePlace (ch n) n
      places = change_place which keep target.id

      now : node_at (with_each a ch) (ch target).id ≡ Some (ch target)
      now =
          cc (
            (places target).number,
            node_at-with_each a ch (keeps_places a ch places) target.id,
            there,
          )

      overwritten : with_held which held (ch target) ≡ with_held which held target
      overwritten = grind (arith, nat_tests)

      -- what becomes of each object
      abbrev pub both : Node → Node
      both n = only (ch target).id (with_held which held) (ch n)

      pub both_places : (n : Node) → IsSamePlace (both n) n
      both_places n = grind (arith, nat_tests, ch, only_place, place-with_held, places)

      pub list_each : with_node (with_each a (change which keep target.id))
          (with_held which held target) ≡ with_each a both
      list_each =
          cc (
            overwritten,
            put_only (with_each a ch) (rises-with_each a ch (keeps_places a ch places) numbered)
                (ch target) now (with_held which held) (place-with_held which held),
            with_each-with_each a ch (only (ch target).id (with_held which held)),
          )

      pub list_view : ((n : Node) → keep n ≡ keep (unnumbered n)) → (q : List (List ℕ))
          → view (with_node (with_each a (change which keep target.id))
          (with_held which held target)) q
          ≡ option_map (λ (v : Seen). (relisted which held keep q v.0, v.1)) (view a q)
      list_view unseen q =
          cc (list_each, each_view a both both_places (relisted which held keep) known q)
        where
          known : (p : List (List ℕ)) (n : Node) → found a p ≡ Some n
              → unnumbered (both n) ≡ relisted which held keep p (unnumbered n)
          known p n is = grind (arith, nat_tests, child_path, number_path, same_names)
