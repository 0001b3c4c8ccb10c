-- Objects of rows that are changed by their numbers, and the children of an object renewed so.
use Rattle.std.proofs.Common.{◌≡◌, ℕ, ◌+◌, ◌==◌, Bool, true, false, cond, not, ◌&&◌, ◌||◌, List, []}
use Rattle.std.proofs.Common.{◌∷◌, map, filter, length, Option, Some, None, refl, sym, ap, ◌∙◌}
use Rattle.std.proofs.{Common.{arith, rules}, lemmas.Bool.{and_parts, and_from, Decides.nat_tests}}
use Rattle.std.{proofs.lemmas.{List.{map-id, length-map}, Option.same_Some}, specs.Prelude.IsTrue}
use Rattle.std.specs.{Prelude.is_some, List.{AllByRecursion as Each, list_any}, Option.option_map}
use Rattle.room_entry.specs.{Valid.is_document, declared.object.ObjKind.ObjKind}
use Rattle.room_entry.specs.declared.object.{ObjKind.TheVariants.{Document, Folder}, Which.Which}
use Rattle.room_entry.proofs.Facts.Members.{all_each, any_map, count, count_either, count_length}
use Rattle.room_entry.proofs.Facts.Members.{each_filter, each_map}
use Rattle.room_rows.specs.{declared.node.Node.Node, Content.{Content, node_at, children_of}}
use Rattle.room_rows.specs.{Content.{has_parent, with_each}, Finding.find_id, Held.held_of}
use Rattle.room_rows.specs.{Keep.{are_there, with_changed, with_content, with_inh}, Rows.Rows}
use Rattle.room_rows.proofs.{Frames.Rises, InPlace.{keeps_places, node_at-with_each}}
use Rattle.room_rows.proofs.{InPlace.{place-with_inh, with_each-with_each}, SamePlace.IsSamePlace}
use Rattle.room_rows.proofs.SamePlace.{same_place}
use Rattle.room_inherit.specs.declared.{by_kind.ByKind.ByKind, passed.Passed.Passed}
use Rattle.room_inherit.specs.Turn.{IsPassed, count_of, is_kind, is_outdated, of_kind, outdated_of}
use Rattle.room_inherit.specs.Turn.{renewals, renewed_below, renewed_node, to_kind, with_passed}
use Rattle.room_inherit.proofs.Children.{apart_rising, each_child, each_there, is_such_child}

-- two facts of each member, taken together, are one fact of each
pub each_both : {A : Type 0} (P Q : A → Type 0) (xs : List A) → Each P xs → Each Q xs
    → Each (λ x. P x × Q x) xs
each_both P Q [] ps qs = tt
each_both P Q (x ∷ xs) ps qs = ((ps.0, qs.0), each_both P Q xs ps.1 qs.1)

-- changes that do the same to each member of a list give the same list
pub map_agree : {A B : Type 0} (f g : A → B) (xs : List A) → Each (λ x. f x ≡ g x) xs
    → map f xs ≡ map g xs
map_agree f g [] all = refl
map_agree f g (x ∷ xs) all = λ i. all.0 i ∷ map_agree f g xs all.1 i

-- a list mapped by g and then by f is mapped once, by f after g
pub map_map : {A B C : Type 0} (f : B → C) (g : A → B) (xs : List A)
    → map f (map g xs) ≡ map (λ x. f (g x)) xs
map_map f g [] = refl
map_map f g (x ∷ xs) = ap (λ ys. f (g x) ∷ ys) (map_map f g xs)

-- two objects that stand under one number are one
pub one_object : (nodes : List Node) (x y : Node) → find_id x.id nodes ≡ Some x
    → find_id y.id nodes ≡ Some y → x.id ≡ y.id → x ≡ y
one_object nodes x y there there' same =
    same_Some x y (sym there ∙ ap (λ i. find_id i nodes) same ∙ there')

-- two changes that do the same to each object of rows give the same content
same_change : (content : Content) (f g : Node → Node) → Rises content
    → ((n : Node) → node_at content n.id ≡ Some n → f n ≡ g n)
    → with_each content f ≡ with_each content g
same_change content f g rises same = grind (arith, nat_tests, apart_rising, each_there, map_agree)

-- ---- objects that are changed by their numbers

module _ (change : Node → Node) (same : (n : Node) → IsSamePlace (change n) n) where
  -- an object is changed if its number is among these
  abbrev changed : List ℕ → Node → Node
  changed ids node = cond (list_any (λ id. id == node.id) ids) (change node) node

  stays : (ids : List ℕ) (n : Node) → IsSamePlace (changed ids n) n
  stays ids n = grind (arith, nat_tests, same_place)

  pub changes_none : (rows : Rows) → rows ≡ with_content rows (with_changed [] change rows.read)
  changes_none rows = search (map-id)

  -- objects that are there are there still
  pub still_there : (ids more : List ℕ) (content : Content) → IsTrue (are_there more content)
      → IsTrue (are_there more (with_changed ids change content))
  still_there ids [] content there = there
  still_there ids (id ∷ more) content there =
      let parts = and_parts (is_some (node_at content id)) (are_there more content) there in
      and_from (is_some (node_at (with_changed ids change content) id))
      (are_there more (with_changed ids change content))
      (ap is_some (node_at-with_each content (changed ids)
      (keeps_places content (changed ids) (stays ids)) id) ∙ mapped (node_at content id) ∙ parts.0)
      (still_there ids more content parts.1)
    where
      mapped : (o : Option Node) → is_some (option_map (changed ids) o) ≡ is_some o
      mapped None = refl
      mapped (Some node) = refl

-- ---- the outdated children of an object, by kind

-- as many as are outdated at all
count_kinds : (which : Which) (above : Node) (nodes : List Node)
    → length (outdated_of which above Document nodes)
    + length (outdated_of which above Folder nodes)
    ≡ length (renewals which above nodes)
count_kinds which above nodes =
    (λ i. counted Document i + counted Folder i)
    ∙ sym (search (count_either, every, passes))
    ∙ sym (count_length (is_outdated which above) nodes)
    ∙ sym (length-map (filter (is_outdated which above) nodes) (renewed_node which above))
  where
    passes : ObjKind → Node → Bool
    passes kind n = is_outdated which above n && is_kind kind n.kind

    counted : (kind : ObjKind)
        → length (outdated_of which above kind nodes) ≡ count (passes kind) nodes
    counted kind = search (count_length, length-map, passes)

    split : (t d : Bool) → t ≡ ((t && d) || (t && not d))
    split t d = grind (arith, nat_tests)

    apart : (t d : Bool) → (t && not d) ≡ true → (t && d) ≡ false
    apart t d is = grind (arith, nat_tests)

    every : (xs : List Node)
        → Each (λ n. (is_outdated which above n ≡ (passes Document n || passes Folder n))
        × (passes Folder n ≡ true → passes Document n ≡ false)) xs
    every [] = tt
    every (x ∷ xs) = (
      search (apart, split),
      every xs,
    )

module _ (which : Which) (above : Node) (content : Content) (rises : Rises content)
    (numbers : ByKind)
    (all : (kind : ObjKind)
    → of_kind numbers kind ≡ outdated_of which above kind (children_of content above.id)) where
  abbrev is_stale : ObjKind → Node → Bool
  is_stale kind n = is_outdated which above n && is_kind kind n.kind

  -- they are counted
  pub count_gathered : count_of numbers
      ≡ length (renewals which above (children_of content above.id))
  count_gathered =
      search (rules, count_kinds, all)

  -- and there
  pub gathered_there : (kind : ObjKind) → IsTrue (are_there (of_kind numbers kind) content)
  gathered_there kind =
      ap (λ ids. are_there ids content) (all kind)
      ∙ all_each (λ id. is_some (node_at content id))
      (outdated_of which above kind (children_of content above.id))
      (each_map (λ id. is_some (node_at content id) ≡ true) (λ (n : Node). n.id)
      (filter (is_stale kind) (children_of content above.id))
      (each_filter (λ n. is_some (node_at content n.id) ≡ true) (is_stale kind)
      (children_of content above.id)
      (each_child content (apart_rising 0 content.nodes rises)
      (λ n. is_stale kind n ≡ true → is_some (node_at content n.id) ≡ true) above.id
      (λ n there is stale. ap is_some there))))

  gathers : (kind : ObjKind) (n : Node) → node_at content n.id ≡ Some n
      → list_any (λ id. id == n.id) (of_kind numbers kind)
      ≡ (has_parent above.id n && is_stale kind n)
  gathers kind n there =
      ap (list_any (λ id. id == n.id)) (all kind)
      ∙ any_map (λ id. id == n.id) (λ (m : Node). m.id)
      (filter (is_stale kind) (children_of content above.id))
      ∙ is_such_child content (apart_rising 0 content.nodes rises) (is_stale kind) above.id n there

  module _ (passed : Passed) (is : IsPassed (held_of which above) passed) where
    abbrev given : ObjKind → Node → Node
    given kind n =
        cond (list_any (λ id. id == n.id) (of_kind numbers kind))
        (with_inh which (to_kind passed kind) n) n

    -- an object gets what is passed to its kind, if it is an outdated child
    once : (n : Node) → node_at content n.id ≡ Some n
        → given Folder (given Document n) ≡ renewed_below which above n
    once n there =
        rw (
          gathers Document n there,
          number (is_document n.kind),
          gathers Folder n there,
          second (has_parent above.id n) (is_outdated which above n) n.kind,
          is.entries n.kind,
        )
      where
        first : Bool → Node
        first d = cond (has_parent above.id n && (is_outdated which above n && d))
            (with_inh which (to_kind passed Document) n) n

        number : (d : Bool) → (first d).id ≡ n.id
        number d = grind (arith, nat_tests, place-with_inh)

        second : (h o : Bool) (kind : ObjKind)
            → (let m = cond (h && (o && is_document kind))
            (with_inh which (to_kind passed Document) n) n in
            cond (h && (o && not (is_document kind)))
            (with_inh which (to_kind passed Folder) m) m)
            ≡ cond (h && o) (with_inh which (to_kind passed kind) n) n
        second h o kind = grind (arith, nat_tests)

    -- so what is written is what a turn makes of the rows
    pub turn_becomes : with_passed which passed numbers Folder
        (with_passed which passed numbers Document content)
        ≡ with_each content (renewed_below which above)
    turn_becomes = search (once, same_change, with_each-with_each)
