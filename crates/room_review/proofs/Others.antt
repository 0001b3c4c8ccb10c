-- A name that has no rows in a table is a stranger to each of its objects.
use Rattle.std.proofs.Common.{rules, ℕ, zero, suc, ◌≡◌, ◌<◌, ◌&&◌, Bool, true, false, List, [], ◌∷◌}
use Rattle.std.proofs.Common.{◌++◌, length, take, Option, Some, None, refl, sym, ap, subst, ◌∙◌}
use Rattle.std.proofs.{Common.{arith, map, append_assoc}, lemmas.Bool.{and_from, and_parts}}
use Rattle.std.proofs.lemmas.{Bool.{or_from, or_parts, Decides.nat_tests}, List.append-nil}
use Rattle.std.{proofs.lemmas.List.Folds.list_any-append, specs.List.{flat_map, list_all, list_any}}
use Rattle.std.specs.{List.AllByRecursion as Each, Option.{option_map, option_map_or}}
use Rattle.room_entry.specs.{Ace.Ace, Pieces.same_text, declared.entry.Who.{Who, TheVariants.Owner}}
use Rattle.room_entry.specs.declared.entry.Who.TheVariants.{Group, Everyone, Anonymous}
use Rattle.room_entry.specs.declared.entry.Who.TheVariants.{Authenticated, User, Members}
use Rattle.room_entry.proofs.Facts.Members.{any_filter, any_map, each_fails, each_weaker}
use Rattle.room_entry.proofs.Texts.{same_text-sym}
use Rattle.room_rows.specs.{HeldList.Held, declared.node.Node.Node, Content.{Content, child_of}}
use Rattle.room_rows.specs.{Content.{children_of, has_parent}, Held.full_of, Meaning.kept_held}
use Rattle.room_rows.specs.{Meaning.{kept_node, meaning}, Rows.Rows, Walk.{behind, walk_from}}
use Rattle.room_rows.{specs.Walk.walk_of, proofs.InPlace.{KeepsPlaces, child_of-with_each}}
use Rattle.room_rows.proofs.{InPlace.{keeps_places, root_of-with_each}, Lookups.found_passes}
use Rattle.room_inherit.proofs.Children.{any_sorted}
use Rattle.room_dump.{specs.Dump.tree_of, proofs.Counting.{each_always, each_found}}
use Rattle.room_machine.specs.{Site.{Site, site_at}, Stored.{stored_along, stored_from}}
use Rattle.room_review.specs.Laws.{OthersAreStrangers, is_known_to, is_paired, is_user_named}
use Rattle.room_review.specs.{Laws.{stored_above, users_on}, Table.{Place, place_below}}
use Rattle.room_review.specs.{Table.users_below, Users.{is_listed, user_in, users_at}}
use Rattle.room_review.proofs.{Everywhere.{is_free, unknown_chain}, Visited.{each_flat, ends_along}}
use Rattle.room_review.proofs.Visited.{some_same}

module _ (name : List ℕ) where
  -- ---- names that aren't listed

  abbrev pub IsNew : List (List ℕ) → Type 0
  IsNew names = is_listed name names ≡ false

  pub new_parts : (xs ys : List (List ℕ)) → IsNew (xs ++ ys) → IsNew xs × IsNew ys
  new_parts xs ys new = grind (arith, nat_tests, list_any-append)

  listed_flat : {X : Type 0} (f : X → List (List ℕ)) (xs : List X)
      → is_listed name (flat_map f xs) ≡ list_any (λ x. is_listed name (f x)) xs
  listed_flat f [] = refl
  listed_flat f (x ∷ xs) = grind (arith, nat_tests, list_any-append, listed_flat f xs)

  pub new_each : {X : Type 0} (f : X → List (List ℕ)) (xs : List X) → IsNew (flat_map f xs)
      → Each (λ x. IsNew (f x)) xs
  new_each f xs new = each_fails (λ x. is_listed name (f x)) xs (sym (listed_flat f xs) ∙ new)

  -- ---- an object that doesn't list the name

  abbrev names : Ace → Bool
  names entry = is_user_named name entry.who

  unnamed_by : (who : Who) → IsNew (user_in who) → is_user_named name who ≡ false
  unnamed_by Owner new = refl
  unnamed_by Group new = refl
  unnamed_by Everyone new = refl
  unnamed_by Anonymous new = refl
  unnamed_by Authenticated new = refl
  unnamed_by (User other) new =
      same_text-sym name other ∙ (or_parts (same_text other name) false new).0
  unnamed_by (Members group) new = refl

  unnamed : (entries : List Ace) → IsNew (flat_map (λ entry. user_in entry.who) entries)
      → list_any names entries ≡ false
  unnamed [] new = refl
  unnamed (entry ∷ entries) new =
      let parts =
      new_parts (user_in entry.who) (flat_map (λ (e : Ace). user_in e.who) entries) new in
      or_from (names entry) (list_any names entries) (unnamed_by entry.who parts.0)
      (unnamed entries parts.1)

  kept_unnamed : (linked : Bool) (held : Held) → list_any names (full_of held) ≡ false
      → list_any names (full_of (kept_held linked held)) ≡ false
  kept_unnamed false held none = none
  kept_unnamed true held none = grind (arith, nat_tests, list_any-append)

  pub new_to : (node : Node) → IsNew (users_at node) → is_known_to name node ≡ false
  new_to node new = grind (arith, nat_tests, same_text-sym, unnamed)

  -- nor does what it keeps
  kept_free : (content : Content) (node : Node) → IsNew (users_at node)
      → is_free name (kept_node content node) ≡ true
  kept_free content node new = grind (arith, nat_tests, kept_unnamed, new_to)

  -- ---- walks

  module _ (content : Content) where
    abbrev kept : Node → Node
    kept node = kept_node content node

    abbrev room : Content
    room = meaning content

    same_places : KeepsPlaces content kept
    same_places =
        keeps_places content kept (λ n. record { number = refl; parent = refl; name = refl })

    -- no object of the walk knows the name
    abbrev IsFree : Node → List (List ℕ) → Type 0
    IsFree node path = list_all (is_free name) (walk_from room (kept node) path).chain ≡ true

    abbrev step : Node → List ℕ → List (List ℕ) → Option Node → List Node
    step node next path o =
        (option_map_or (λ child. behind (kept node) (walk_from room child path)) o
        (record { chain = kept node ∷ []; rest = length (next ∷ path) })).chain

    free_step : (node : Node) (next : List ℕ) (path : List (List ℕ)) → IsNew (users_at node)
        → ((child : Node) → child_of content node.id next ≡ Some child → IsFree child path)
        → IsFree node (next ∷ path)
    free_step node next path new later =
        ap (λ o. list_all (is_free name) (step node next path o))
        (child_of-with_each content kept same_places node.id next)
        ∙ on (child_of content node.id next) later
      where
        here : is_free name (kept node) ≡ true
        here = kept_free content node new

        on : (o : Option Node) → ((child : Node) → o ≡ Some child → IsFree child path)
            → list_all (is_free name) (step node next path (option_map kept o)) ≡ true
        on None rest = and_from (is_free name (kept node)) true here refl
        on (Some child) rest =
            and_from (is_free name (kept node))
            (list_all (is_free name) (walk_from room (kept child) path).chain) here
            (rest child refl)

    -- the users at an object and at all below it, no deeper than the number says
    abbrev pub users_deep : ℕ → Node → List (List ℕ)
    users_deep depth node =
        tree_of (λ (place : Unit {0}) above child. place) (λ place object. users_at object) depth
        content tt node

    child_new : (depth id : ℕ)
        → IsNew (flat_map (λ child. users_deep depth child) (children_of content id))
        → (next : List ℕ) (child : Node) → child_of content id next ≡ Some child
        → IsNew (users_deep depth child)
    child_new depth id new next child found =
        let listed = λ (n : Node). is_listed name (users_deep depth n) in
        let all = each_fails (λ (n : Node). has_parent id n && listed n) content.nodes
        (search (rules, any_filter, listed, any_sorted, listed_flat, new)) in
        search (rules, and_parts, child, child.name, found_passes, found, listed, each_found)

    -- from an object, along fewer names than the number says
    free_below : (depth : ℕ) (node : Node) → IsNew (users_deep depth node) → (path : List (List ℕ))
        → length path < depth → IsFree node path
    free_below zero node new path short = absurd (let wrong : ⊥ = omega (arith, short) in wrong)
    free_below (suc depth) node new [] short =
        search (rules, new_parts, node, node.id, new, and_from, is_free, kept_free)
    free_below (suc depth) node new (next ∷ path) short =
        let parts = new_parts (users_at node)
        (flat_map (λ child. users_deep depth child) (children_of content node.id)) new in
        free_step node next path parts.0 (λ child found.
        free_below depth child (child_new depth node.id parts.1 next child found) path
        (less_one (length path) depth short))
      where
        less_one : (n m : ℕ) → suc n < suc m → n < m
        less_one n m e = omega (arith, e)

    abbrev AreNew : List Site → Type 0
    AreNew sites = Each (λ (site : Site). IsNew (users_at site.node)) sites

    -- to an object, and on from there
    module _ (target : Site) (more : List (List ℕ)) (free : IsFree target.node more) where
      free_from : (path at : List (List ℕ)) (node : Node)
          → site_at (stored_from content at node path) path ≡ Some target
          → AreNew (take (length path) (stored_from content at node path))
          → IsFree node (path ++ more)
      free_from [] at node found new = search (rules, some_same, node, found)
      free_from (next ∷ path) at node found new =
          free_step node next (path ++ more) new.0 (λ child is.
          free_from path (at ++ next ∷ []) child
          (sym (ap (λ o. site_at (later o) path) is) ∙ found)
          (subst (λ o. AreNew (take (length path) (later o))) is new.1))
        where
          later : Option Node → List Site
          later o = option_map_or (λ c. stored_from content (at ++ next ∷ []) c path) o []

      free_along : (path : List (List ℕ))
          → site_at (stored_along content path) path ≡ Some target
          → AreNew (take (length path) (stored_along content path))
          → list_all (is_free name) (walk_of room (path ++ more)).chain ≡ true
      free_along path found new =
          grind (arith, nat_tests, free_from, is_free, root_of-with_each, same_places)

-- ---- the paths of a table

-- the path of an object goes on from another one, by fewer names than the number says
abbrev pub GoesOn : ℕ → List (List ℕ) → Place × Node → Type 0
GoesOn depth path it =
    (names : List (List ℕ)) × ((it.0.path ≡ path ++ names) × (length names < depth))

pub all_go_on : (content : Content) (depth : ℕ) (place : Place) (node : Node)
    → Each (GoesOn depth place.path)
    (tree_of place_below (λ p n. (p, n) ∷ []) depth content place node)
all_go_on content zero place node = tt
all_go_on content (suc depth) place node = (
  ([], (sym (append-nil place.path), first depth)),
  each_flat (GoesOn (suc depth) place.path) (λ child. below child) (children_of content node.id)
      (each_always (λ child. Each (GoesOn (suc depth) place.path) (below child))
      (λ child. each_weaker (GoesOn depth (place_below place node child).path)
      (GoesOn (suc depth) place.path)
      (λ it on. (
        child.name ∷ on.0,
        search (rules, append_assoc, place.path),
      )) (below child) (all_go_on content depth (place_below place node child) child))
      (children_of content node.id)),
)
  where
    below : Node → List (Place × Node)
    below child =
        tree_of place_below (λ p n. (p, n) ∷ []) depth content (place_below place node child) child

    first : (n : ℕ) → 0 < suc n
    first n = omega arith

    one_more : (n m : ℕ) → n < m → suc n < suc m
    one_more n m e = omega (arith, e)

-- ---- the law

-- a name that isn't among the users of a table
pub record IsOther (rows : Rows) (path : List (List ℕ)) (target : Site) (name : List ℕ) : Type 0
  where
    pub unpaired : is_paired rows.read name ≡ false
    pub above : Each (λ (site : Site). IsNew name (users_at site.node)) (stored_above rows path)
    pub below : IsNew name (users_below rows target.node)

pub is_other : (rows : Rows) (path : List (List ℕ)) (target : Site) (name : List ℕ)
    → IsNew name (users_on rows path target) → IsOther rows path target name
is_other rows path target name new =
    let second = λ (pair : List ℕ × List ℕ). pair.1 in
    let above = flat_map (λ (site : Site). users_at site.node) (stored_above rows path) in
    let parts =
    new_parts name (map second rows.read.members) (above ++ users_below rows target.node) new in
    let others = new_parts name above (users_below rows target.node) parts.1 in
    record {
      unpaired = search (rules, any_map, second, rows.read.members, parts.0);
      above = new_each name (λ (site : Site). users_at site.node) (stored_above rows path) others.0;
      below = others.1;
    }

pub others_are_strangers : OthersAreStrangers
others_are_strangers rows path target name found new =
    grind (
      arith,
      nat_tests,
      all_go_on,
      each_weaker,
      ends_along,
      free_along,
      free_below,
      is_other,
      unknown_chain,
    )
