-- Objects that are changed, all in the same way.
use Rattle.std.proofs.Common.{◌≡◌, ℕ, ◌==◌, ◌||◌, ◌++◌, Bool, true, false, List, [], ◌∷◌, map}
use Rattle.std.proofs.Common.{Option, None, Some, refl, sym, ap, ◌∙◌, inl, inr, arith}
use Rattle.std.proofs.lemmas.Bool.{and_parts, cases_Bool, cond-false, cond-true, eq-eqb}
use Rattle.std.proofs.lemmas.{Bool.Decides.nat_tests, List.{map-id, Folds.list_all-append}}
use Rattle.std.proofs.lemmas.List.{Folds.list_any-append, Sorted.All-permutation}
use Rattle.std.proofs.lemmas.List.{Sorted.list_any-IsPermutation, Sums.AllPass-from_list_all}
use Rattle.std.proofs.lemmas.{List.Sums.list_all-from_AllPass}
use Rattle.std.specs.{Prelude.{is_some, if◌then◌else◌}, List.{AllByRecursion, list_any}}
use Rattle.std.specs.{List.Sorted.IsPermutation, Option.option_map}
use Rattle.room_entry.specs.{Ace.Ace, declared.object.Which.{Which, TheVariants.{Dacl, Sacl}}}
use Rattle.room_rows.specs.{declared.node.Node.Node, Content.{Content, node_at}, Keep.Changes}
use Rattle.room_rows.specs.Keep.{ChangesAll, are_there, with_changed, with_content, with_inh}
use Rattle.room_rows.specs.Rows.{AreRows, Rows}
use Rattle.room_rows.proofs.{Frames.{node_at-number, rows-rise}, InPlace.node_at-with_each}
use Rattle.room_rows.proofs.InPlace.{keeps_places, with_each-with_each, with_node-replaces}
use Rattle.room_rows.proofs.{Lookups.{each-weaker, each_found}, SamePlace.{IsSamePlace, replaced}}
use Rattle.room_rows.proofs.SamePlace.{replaced_here, replaced_elsewhere, same_place}

-- the object, changed if it is one of these
abbrev pub changed_among : List ℕ → (Node → Node) → Node → Node
changed_among ids change node =
    if list_any (λ (id : ℕ). id == node.id) ids then change node else node

map_each : (f g : Node → Node) (nodes : List Node)
    → AllByRecursion (λ (n : Node). f n ≡ g n) nodes → map f nodes ≡ map g nodes
map_each f g [] same = refl
map_each f g (x ∷ xs) same = grind (arith, nat_tests, map_each f g xs same.1)

map_all : (f g : Node → Node) (nodes : List Node) → ((n : Node) → f n ≡ g n)
    → map f nodes ≡ map g nodes
map_all f g nodes same = grind (arith, nat_tests)

is_some_mapped : (f : Node → Node) (o : Option Node) → is_some (option_map f o) ≡ is_some o
is_some_mapped f (Some n) = refl
is_some_mapped f None = refl

-- none is changed
pub none_changed : (change : Node → Node) (rows : Rows) → ChangesAll [] change rows rows
none_changed change rows there = search (map-id)

-- an object that is changed again is as it was changed at first
abbrev pub IsOnce : (Node → Node) → Type 0
IsOnce change = (n : Node) → change (change n) ≡ change n

module _ (change : Node → Node) where
  among_yes : (ids : List ℕ) (n : Node) → list_any (λ (id : ℕ). id == n.id) ids ≡ true
      → changed_among ids change n ≡ change n
  among_yes ids n is = cond-true _ _ _ is

  among_no : (ids : List ℕ) (n : Node) → list_any (λ (id : ℕ). id == n.id) ids ≡ false
      → changed_among ids change n ≡ n
  among_no ids n isnt = cond-false _ _ _ isnt

  module _ (stays : (n : Node) → IsSamePlace (change n) n) where
    place_among : (ids : List ℕ) (n : Node) → IsSamePlace (changed_among ids change n) n
    place_among ids n = grind (arith, nat_tests, same_place)

    -- the same objects are there as before
    pub there_after : (content : Content) (ids among : List ℕ)
        → are_there among (with_changed ids change content) ≡ are_there among content
    there_after content ids [] = refl
    there_after content ids (id ∷ more) =
        search (
          is_some_mapped,
          keeps_places,
          node_at-with_each,
          place_among,
          there_after content ids more,
        )

    -- one object is changed
    pub one_changed : (id : ℕ) (old new : Rows) → AreRows old → Changes id change old new
        → ChangesAll (id ∷ []) change old new
    one_changed id old new are changes there = by (node_at old.read id) refl
        (and_parts (is_some (node_at old.read id)) true there).0
      where
        by : (o : Option Node) → node_at old.read id ≡ o → is_some o ≡ true
            → new ≡ with_content old (with_changed (id ∷ []) change old.read)
        by None found some = absurd (let e = some in cc)
        by (Some node) found some =
            cc (
              changes node found,
              with_node-replaces old.read (rows-rise old are) id node (change node) found
                  (stays node),
              map_each (replaced (change node)) (changed_among (id ∷ []) change) old.read.nodes
                  (each-weaker _ _ one old.read.nodes (each_found 0 old.read.nodes are.numbers)),
            )
          where
            number : (change node).id ≡ id
            number = (stays node).number ∙ node_at-number old.read id node found

            one : (n : Node) → node_at old.read n.id ≡ Some n
                → replaced (change node) n ≡ changed_among (id ∷ []) change n
            one n itself = elim (cases_Bool (id == n.id)) [
              | inl is ↦ grind (arith, nat_tests, among_yes, replaced_here)
              | inr isnt ↦
                  replaced_elsewhere (change node) n
                  (λ e. absurd (let no' = sym isnt ∙ eq-eqb id n.id (sym (e ∙ number)) in cc))
                  ∙ sym (among_no (id ∷ []) n (ap (λ (b : Bool). b || false) isnt))
            ]

    -- some objects are changed, and then some more
    pub then_changed : IsOnce change → (first more : List ℕ) (old mid new : Rows)
        → ChangesAll first change old mid → ChangesAll more change mid new
        → ChangesAll (first ++ more) change old new
    then_changed once first more old mid new before after there =
        grind (
          arith,
          nat_tests,
          both,
          list_all-append,
          map_all,
          there_after,
          with_each-with_each,
        )
      where
        both : (n : Node) → changed_among more change (changed_among first change n)
            ≡ changed_among (first ++ more) change n
        both n = grind (arith, nat_tests, among_no, among_yes, list_any-append)

  -- the same objects in another order
  pub in_any_order : (ids others : List ℕ) (old new : Rows) → IsPermutation ids others
      → ChangesAll others change old new → ChangesAll ids change old new
  in_any_order ids others old new same changes there =
      let is_there = λ (id : ℕ). is_some (node_at old.read id) in
      changes (list_all-from_AllPass is_there others
      (All-permutation (λ id. is_there id ≡ true) ids others same
      (AllPass-from_list_all is_there ids there)))
      ∙ ap (λ (l : List Node). with_content old (record old.read { nodes = l }))
      (grind (arith, nat_tests, list_any-IsPermutation, map_all))

-- the inherited entries that are written last stay
pub with_inh-once : (which : Which) (entries : List Ace) → IsOnce (with_inh which entries)
with_inh-once Dacl entries n = refl
with_inh-once Sacl entries n = refl
