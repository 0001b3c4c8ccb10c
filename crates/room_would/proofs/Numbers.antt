-- The object of a number, among those that are told of a room.
use Rattle.std.proofs.Common.{◌≡◌, ℕ, ◌==◌, ◌&&◌, ◌||◌, Bool, true, false, cond, List, [], ◌∷◌}
use Rattle.std.proofs.Common.{◌++◌, filter, length, Option, Some, None, refl, sym, ap, subst, ◌∙◌}
use Rattle.std.proofs.{Common.arith, lemmas.{Bool.{false≢true, eq-eqb, eqb-true}, Option.none-some}}
use Rattle.std.{proofs.lemmas.Option.same_Some, specs.List.{AllByRecursion as Each, find, flat_map}}
use Rattle.std.specs.{List.list_any, Option.{option_map, option_map_or}, Prelude.option_and_then}
use Rattle.room_entry.{specs.Pieces.same_text, proofs.Facts.Members.each_weaker}
use Rattle.room_rows.specs.{declared.node.Node.Node, Content.{Content, child_of, children_of}}
use Rattle.room_rows.specs.{Content.{has_parent, node_at, root_of}, Meaning.{kept_node, meaning}}
use Rattle.room_rows.specs.{Rows.{AreRows, Rows, numbers_of}, Sound.AreSound}
use Rattle.room_machine.specs.{Site.site_at, Stored.stored_site}
use Rattle.room_dump.{specs.{Dump.tree_of, Visits.{IsThere, Reached}}, proofs.Counting.each_found}
use Rattle.room_dump.proofs.Reached.{all_there, goes_down, reached_child, reached_first}
use Rattle.room_laws.{specs.Outside.{found, found_from}, proofs.Behind.target_found}
use Rattle.room_laws.proofs.OnePlace.{found_there, one_place}
use Rattle.room_inherit.proofs.Children.{any_sorted}
use Rattle.room_piece.{specs.Laws.{StandsAt, Stood}, proofs.Followed.{found_so, numbered_so}}
use Rattle.room_piece.proofs.Followed.{stands_so}
use Rattle.room_review.specs.{Laws.{told_at, told_of, stored_above}, Table.{Place, place_below}}
use Rattle.room_review.{specs.Table.place_of, proofs.Visited.Stands}
use Rattle.room_turns.{specs.Turns.{object_of, objects_from}, proofs.Reviewed.all_stand}

-- ---- whether one of many passes

any_append : {X : Type 0} (p : X → Bool) (xs ys : List X)
    → list_any p (xs ++ ys) ≡ list_any p xs || list_any p ys
any_append p [] ys = refl
any_append p (x ∷ xs) ys = ap (λ b. p x || b) (any_append p xs ys) ∙ on (p x)
  where
    on : (t : Bool) → t || (list_any p xs || list_any p ys) ≡ (t || list_any p xs) || list_any p ys
    on true = refl
    on false = refl

pub any_flat : {X Y : Type 0} (p : Y → Bool) (f : X → List Y) (xs : List X)
    → list_any p (flat_map f xs) ≡ list_any (λ x. list_any p (f x)) xs
any_flat p f [] = refl
any_flat p f (x ∷ xs) =
    any_append p (f x) (flat_map f xs) ∙ ap (λ b. list_any p (f x) || b) (any_flat p f xs)

-- one that two tests find passes the second among those that pass the first
any_kept : (p q s : Node → Bool) (xs : List Node) (x : Node) → find (λ n. q n && s n) xs ≡ Some x
    → p x ≡ true → list_any p (filter q xs) ≡ true
any_kept p q s [] x is passes = absurd (none-some x is)
any_kept p q s (y ∷ ys) x is passes =
    on (q y) (s y) is (λ rest. any_kept p q s ys x rest passes)
  where
    on : (t u : Bool) → cond (t && u) (Some y) (find (λ n. q n && s n) ys) ≡ Some x
        → (find (λ n. q n && s n) ys ≡ Some x → list_any p (filter q ys) ≡ true)
        → list_any p (cond t (y ∷ filter q ys) (filter q ys)) ≡ true
    on true true is rest =
        ap (λ b. b || list_any p (filter q ys)) (ap p (same_Some y x is) ∙ passes)
    on true false is rest = ap (λ b. p y || b) (rest is) ∙ or_true (p y)
      where
        or_true : (b : Bool) → b || true ≡ true
        or_true true = refl
        or_true false = refl
    on false u is rest = rest is

any_some : {X : Type 0} (p : X → Bool) (xs : List X) → list_any p xs ≡ true
    → (x : X) × (find p xs ≡ Some x) × (p x ≡ true)
any_some p [] is = absurd (false≢true is)
any_some p (x ∷ xs) is = on (p x) refl is (λ rest. any_some p xs rest)
  where
    on : (t : Bool) → p x ≡ t → t || list_any p xs ≡ true
        → (list_any p xs ≡ true → (y : _) × (find p xs ≡ Some y) × (p y ≡ true))
        → (y : _) × (cond t (Some x) (find p xs) ≡ Some y) × (p y ≡ true)
    on true passes is rest = (x, refl, passes)
    on false fails is rest = rest is

-- ---- each object is told

module _ (content : Content) (there : Each (IsThere content) content.nodes) (most : ℕ) where
  abbrev objects : Place → Node → List (Place × Node)
  objects place node = tree_of place_below (λ p n. (p, n) ∷ []) most content place node

  told_from : (names : List (List ℕ)) (place : Place) (node : Node)
      → Reached content (node ∷ []) most → (last : Node)
      → found_from content node names ≡ Some last
      → list_any (λ (it : Place × Node). it.1.id == last.id) (objects place node) ≡ true
  told_from [] place node r last is =
      ap (list_any (λ (it : Place × Node). it.1.id == last.id)) (down [] place node r)
      ∙ ap (λ b. b || list_any (λ (it : Place × Node). it.1.id == last.id)
      (flat_map (λ child. objects (place_below place node child) child)
      (children_of content node.id)))
      (eq-eqb node.id last.id (ap (λ (n : Node). n.id) (same_Some node last is)))
    where
      down : (names : List (List ℕ)) (place : Place) (node : Node)
          → Reached content (node ∷ []) most
          → objects place node ≡ (place, node)
          ∷ flat_map (λ child. objects (place_below place node child) child)
          (children_of content node.id)
      down names place node r =
          goes_down content there [] node most r place_below (λ p n. (p, n) ∷ []) place most
          (omega arith)
  told_from (name ∷ names) place node r last is =
      on (child_of content node.id name) refl is
      (λ child r' is'. told_from names (place_below place node child) child r' last is')
    where
      test : Place × Node → Bool
      test it = it.1.id == last.id

      below : Node → List (Place × Node)
      below child = objects (place_below place node child) child

      on : (o : Option Node) → child_of content node.id name ≡ o
          → option_and_then (λ child. found_from content child names) o ≡ Some last
          → ((child : Node) → Reached content (child ∷ []) most
          → found_from content child names ≡ Some last → list_any test (below child) ≡ true)
          → list_any test (objects place node) ≡ true
      on None at is next = absurd (none-some last is)
      on (Some child) at is next =
          let passes = next child (reached_child content there node child name most r at) is in
          ap (list_any test)
          (goes_down content there [] node most r place_below (λ p n. (p, n) ∷ []) place most
          (omega arith))
          ∙ ap (λ b. (node.id == last.id) || b)
          (any_flat test below (children_of content node.id)
          ∙ any_sorted (λ c. list_any test (below c)) (filter (has_parent node.id) content.nodes)
          ∙ any_kept (λ c. list_any test (below c)) (has_parent node.id)
          (λ n. same_text n.name name) content.nodes child at passes)
          ∙ or_true (node.id == last.id)
        where
          or_true : (b : Bool) → b || true ≡ true
          or_true true = refl
          or_true false = refl

module _ (rows : Rows) (are : AreRows rows) (sound : AreSound rows) where
  abbrev room : Content
  room = meaning rows.read

  abbrev objects_all : List (Place × Node)
  objects_all = objects_from rows []

  -- an object that stands somewhere is told
  told_there : (path : List (List ℕ)) (last : Node) → found rows.read path ≡ Some last
      → list_any (λ (it : Place × Node). it.1.id == last.id) objects_all ≡ true
  told_there path last is = on (root_of rows.read) refl is
    where
      on : (o : Option Node) → root_of rows.read ≡ o
          → option_and_then (λ root. found_from rows.read root path) o ≡ Some last
          → list_any (λ (it : Place × Node). it.1.id == last.id)
          (option_map_or (told_at rows [])
          (site_at (option_map_or (λ root. stored_site [] root ∷ []) o []) []) []) ≡ true
      on None at is = absurd (none-some last is)
      on (Some root) at is =
          told_from rows.read (all_there rows are) (length (numbers_of rows)) path
          (place_of (stored_above rows []) (stored_site [] root)) root
          (reached_first rows are root at) last is

  abbrev Is : Place × Node → Type 0
  Is it = Stands rows.read it.0 it.1

  -- it stands where it is told
  pub stands_told : (path : List (List ℕ))
      → Each (λ (it : Place × Node). StandsAt room it.1.id it.0.path) (objects_from rows path)
  stands_told path =
      each_weaker Is (λ (it : Place × Node). StandsAt room it.1.id it.0.path)
      (λ it stands. stands_so rows are sound it.0.path it.1 stands.at) (objects_from rows path)
      (all_stand rows are sound path)

  told_stands : (id : ℕ) (it : Place × Node) → object_of objects_all id ≡ Some it
      → StandsAt room it.1.id it.0.path
  told_stands id it is =
      each_found (λ (it : Place × Node). StandsAt room it.1.id it.0.path) (λ it. it.1.id == id)
      objects_all it (stands_told []) is

  number_of : (id : ℕ) (it : Place × Node) (objects : List (Place × Node))
      → object_of objects id ≡ Some it → it.1.id ≡ id
  number_of id it [] is = absurd (none-some it is)
  number_of id it (x ∷ xs) is =
      on (x.1.id == id) refl is (λ rest. number_of id it xs rest)
    where
      on : (t : Bool) → (x.1.id == id) ≡ t → cond t (Some x) (object_of xs id) ≡ Some it
          → (object_of xs id ≡ Some it → it.1.id ≡ id) → it.1.id ≡ id
      on true same is rest =
          ap (λ (y : Place × Node). y.1.id) (sym (same_Some x it is)) ∙ eqb-true x.1.id id same
      on false differ is rest = rest is

  -- where an object of the number stands, it is told; and where there is none, none is
  pub told_by : (id : ℕ) (o : Option (List (List ℕ))) → Stood room id o
      → option_map (λ (it : Place × Node). it.0.path) (object_of objects_all id) ≡ o
  told_by id None none = on (object_of objects_all id) refl
    where
      on : (o : Option (Place × Node)) → object_of objects_all id ≡ o
          → option_map (λ (it : Place × Node). it.0.path) o ≡ None
      on None is = refl
      on (Some it) is =
          let (site, at, same) = told_stands id it is in
          absurd (none-some site.node
          (sym (ap (node_at room) (same ∙ number_of id it objects_all is) ∙ none)
          ∙ found_there room (numbered_so rows are sound) it.0.path site.node
          (target_found room it.0.path site at)))
  told_by id (Some path) (site, at, same) =
      on (found rows.read path) refl (sym (found_so rows are sound path) ∙ target_found room path site at)
    where
      here : found room path ≡ Some site.node
      here = target_found room path site at

      on : (o : Option Node) → found rows.read path ≡ o
          → option_map (kept_node rows.read) o ≡ Some site.node
          → option_map (λ (it : Place × Node). it.0.path) (object_of objects_all id) ≡ Some path
      on None none is = absurd (none-some site.node is)
      on (Some last) there is =
          let number : last.id ≡ id =
          ap (λ (n : Node). n.id) (same_Some (kept_node rows.read last) site.node is) ∙ same in
          let told = any_some (λ (it : Place × Node). it.1.id == id) objects_all
          (subst (λ (i : ℕ). list_any (λ (it : Place × Node). it.1.id == i) objects_all ≡ true)
          number (told_there path last there)) in
          let (other, at', same') = told_stands id told.0 told.1 in
          ap (option_map (λ (it : Place × Node). it.0.path)) told.1
          ∙ ap (λ p. Some p)
          (one_place room (numbered_so rows are sound) told.0.0.path path other.node site.node
          (target_found room told.0.0.path other at') here
          (same' ∙ number_of id told.0 objects_all told.1 ∙ sym same))
