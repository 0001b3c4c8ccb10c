-- What sound rows mean is a content.
use Rattle.std.proofs.Common.{rules, ◌≡◌, ℕ, ◌+◌, ◌<◌, ◌≤◌, ◌==◌, Bool, true, false, cond, not}
use Rattle.std.proofs.Common.{◌&&◌, ◌||◌, List, [], ◌∷◌, map, filter, length, Option, Some, None}
use Rattle.std.proofs.{Common.{refl, sym, ap, ◌∙◌, inl, inr, arith}, lemmas.Bool.cases_Bool}
use Rattle.std.proofs.lemmas.Bool.{and_parts, and_from, or_from, false≢true, eqb-true, eq-eqb}
use Rattle.std.proofs.lemmas.{Bool.{ne_eqb, ltb-true, lt-ltb, Decides.nat_tests}, List.length-map}
use Rattle.std.specs.{Prelude.{is_none, is_some, nat_lt, nat_le}, List.{find, list_all, list_any}}
use Rattle.std.specs.{List.AllByRecursion as Each, Option.{option_map, option_map_or}}
use Rattle.room_entry.specs.{Pieces.{is_among, same_text}, Valid.is_document}
use Rattle.room_entry.specs.declared.object.Which.{Which, TheVariants.{Dacl, Sacl}}
use Rattle.room_rows.specs.{declared.node.Node.Node, Content.{Content, are_names_apart, body_at}}
use Rattle.room_rows.specs.Content.{body_of, has_folder_above, is_folder, is_linked_in, is_rising}
use Rattle.room_rows.specs.Content.{is_root, keeps_none_linked, parent_of, root_of, same_parent}
use Rattle.room_rows.specs.{Finding.find_id, Held.held_of, Meaning.{kept_held, kept_node, meaning}}
use Rattle.room_rows.specs.{Paths.is_object_name, Rows.{AreRows, Rows, numbers_of}, Sound.bad_root}
use Rattle.room_rows.specs.Sound.{has_sound_name, reaches, same_place}
use Rattle.room_rows.proofs.InPlace.{KeepsPlaces, numbers-with_each, root_of-with_each}
use Rattle.room_rows.proofs.{SamePlace.{IsSamePlace, filter-changed}, Lookups.found_number}
use Rattle.room_inherit.specs.Laws.{HasNoFault, SoundIsContent}
use Rattle.room_inherit.proofs.Children.{apart_rising, each_above, each_found, each_there, ids_of}
use Rattle.room_inherit.proofs.{NoFault.{no_fault, none_bad, root_alone}, Stored.all_found}
use Rattle.room_inherit.proofs.{Stored.linked_kept, Whole.{among_found, none_unreadable}}
use Rattle.room_entry.proofs.Facts.Members.{any_map, any_none, count, count_length, each_fails}
use Rattle.room_entry.proofs.Facts.Members.{one_if}
use Rattle.room_inherit.proofs.Unmoved as unmoved

-- ---- lists

tail_rises : (k : ℕ) (ids : List ℕ) → is_rising (k ∷ ids) ≡ true → is_rising ids ≡ true
tail_rises k ids rises = grind (arith, nat_tests)

all_of : (p : Node → Bool) → ((n : Node) → p n ≡ true) → (nodes : List Node)
    → list_all p nodes ≡ true
all_of p each [] = refl
all_of p each (x ∷ xs) = and_from (p x) _ (each x) (all_of p each xs)

each_passes : (p : Node → Bool) (nodes : List Node) → list_all p nodes ≡ true
    → Each (λ n. p n ≡ true) nodes
each_passes p [] all = tt
each_passes p (x ∷ xs) all = let parts = and_parts (p x) (list_all p xs) all in
    (parts.0, each_passes p xs parts.1)

first_is : (p : Node → Bool) (nodes : List Node) (x : Node) (xs : List Node)
    → filter p nodes ≡ x ∷ xs → find p nodes ≡ Some x
first_is p [] x xs is = absurd (let wrong : ⊥ = cc in wrong)
first_is p (n ∷ ns) x xs is = grind (arith, nat_tests, first_is p ns x xs)

-- ---- numbers in rising order

not_among : (k : ℕ) (ids : List ℕ) (id : ℕ) → is_rising (k ∷ ids) ≡ true → id ≤ k
    → is_among ids id ≡ false
not_among k [] id rises low = refl
not_among k (x ∷ xs) id rises low =
    let parts = and_parts (nat_lt k x) (is_rising (x ∷ xs)) rises in
    let above = ltb-true k x parts.0 in
    or_from (x == id) (is_among xs id)
    (ne_eqb x id (λ e. absurd (let wrong : ⊥ = omega (arith, above, low, e) in wrong)))
    (not_among x xs id parts.1 (omega (arith, above, low)))

-- two such lists of the same numbers are one
same_rising : (k : ℕ) (xs ys : List ℕ) → is_rising (k ∷ xs) ≡ true → is_rising (k ∷ ys) ≡ true
    → ((id : ℕ) → is_among xs id ≡ is_among ys id) → xs ≡ ys
same_rising k [] [] up up' same = refl
same_rising k [] (y ∷ ys) up up' same =
    absurd (false≢true (same y ∙ ap (λ t. t || is_among ys y) (eq-eqb y y refl)))
same_rising k (x ∷ xs) [] up up' same =
    absurd (false≢true (sym (same x) ∙ ap (λ t. t || is_among xs x) (eq-eqb x x refl)))
same_rising k (x ∷ xs) (y ∷ ys) up up' same =
    let ups = (and_parts (nat_lt k x) (is_rising (x ∷ xs)) up).1 in
    let ups' = (and_parts (nat_lt k y) (is_rising (y ∷ ys)) up').1 in
    let head : x ≡ y = grind (arith, nat_tests, least) in
    let ups'' : is_rising (x ∷ ys) ≡ true = ap (λ i. is_rising (i ∷ ys)) head ∙ ups' in
    λ i. head i ∷ same_rising x xs ys ups ups''
    (λ id. later x xs ys ups ups'' id (same id ∙ ap (λ j. (j == id) || is_among ys id) (sym head)))
    i
  where
    least : (x y : ℕ) (xs ys : List ℕ) → is_rising (x ∷ xs) ≡ true → is_rising (y ∷ ys) ≡ true
        → ((y == x) || is_among ys x) ≡ true → ((x == y) || is_among xs y) ≡ true → x ≡ y
    least x y xs ys up up' has has' =
        elim (cases_Bool (x == y)) [
          | inl is ↦ eqb-true x y is
          | inr isnt ↦
              let above = found_above x xs y up (sym (ap (λ t. t || is_among xs y) isnt) ∙ has') in
              elim (cases_Bool (y == x)) [
                | inl is ↦ sym (eqb-true y x is)
                | inr isnt' ↦
                    (let above' =
                    found_above y ys x up' (sym (ap (λ t. t || is_among ys x) isnt') ∙ has) in
                    absurd (let wrong : ⊥ = omega (arith, above, above') in wrong))
              ]
        ]
      where
        found_above : (k : ℕ) (ids : List ℕ) (id : ℕ) → is_rising (k ∷ ids) ≡ true
            → is_among ids id ≡ true → k < id
        found_above k [] id up has = absurd (false≢true has)
        found_above k (z ∷ zs) id up has =
            let parts = and_parts (nat_lt k z) (is_rising (z ∷ zs)) up in
            let first = ltb-true k z parts.0 in
            elim (cases_Bool (z == id)) [
              | inl is ↦ (let e = eqb-true z id is in omega (arith, first, e))
              | inr isnt ↦
                  (let more =
                  found_above z zs id parts.1 (sym (ap (λ t. t || is_among zs id) isnt) ∙ has) in
                  omega (arith, first, more))
            ]

    later : (x : ℕ) (xs ys : List ℕ) → is_rising (x ∷ xs) ≡ true → is_rising (x ∷ ys) ≡ true
        → (id : ℕ) → ((x == id) || is_among xs id) ≡ ((x == id) || is_among ys id)
        → is_among xs id ≡ is_among ys id
    later x xs ys up up' id both = grind (arith, nat_tests, not_among)

-- ---- objects with kept entries

module _ (rows : Content) where
  abbrev kept : Node → Node
  kept = kept_node rows

  abbrev means : Content
  means = meaning rows

  place : (node : Node) → IsSamePlace (kept node) node
  place node = record { number = refl; parent = refl; name = refl }

  places : KeepsPlaces rows kept
  places = unmoved.places rows kept place

  above : (node : Node) → parent_of means node ≡ option_map kept (parent_of rows node)
  above node = unmoved.above rows kept place node

  -- a linked object keeps no entries
  kept_list : (which : Which) (node : Node)
      → held_of which (kept node) ≡ kept_held (is_linked_in rows which node) (held_of which node)
  kept_list which node = grind (arith, nat_tests)

  linked_same : (which : Which) (node : Node)
      → is_linked_in means which (kept node) ≡ is_linked_in rows which node
  linked_same which node = grind (arith, nat_tests, above, kept_list, linked_kept)

  keeps_none : (which : Which) (node : Node) → keeps_none_linked means which (kept node) ≡ true
  keeps_none which node = grind (arith, nat_tests, kept_list, linked_same)

  -- ---- the root

  lone : (roots : List Node) → bad_root roots ≡ None → (root : Node) × (roots ≡ root ∷ [])
      × (is_folder root ≡ true)
  lone roots none = grind (arith, nat_tests)

  one_root : bad_root (filter is_root rows.nodes) ≡ None
      → (option_map_or is_folder (root_of means) false
      && (length (filter is_root means.nodes) == 1)) ≡ true
  one_root none =
      grind (
        arith,
        nat_tests,
        filter-changed,
        first_is,
        length-map,
        lone,
        place,
        places,
        root_of-with_each,
      )

  -- ---- names

  abbrev There : Node → Type 0
  There node = find_id node.id rows.nodes ≡ Some node

  names_differ : (x other : Node) → There x → x.id < other.id → has_sound_name rows other ≡ true
      → (is_root x && is_root other) ≡ false → same_place x other ≡ false
  names_differ x other there low sound roots = on x.parent refl other.parent refl
    where
      by_name : is_root other ≡ false → same_place x other ≡ false
      by_name below =
          let test = and_parts (is_object_name other.name) _
          (grind (arith, nat_tests, below, sound)) in
          let none : list_any (λ (o : Node). nat_lt o.id other.id && same_place o other) rows.nodes
          ≡ false =
          not_true
          (list_any (λ (o : Node). nat_lt o.id other.id && same_place o other) rows.nodes)
          test.1 in
          let here : (nat_lt x.id other.id && same_place x other) ≡ false = each_found
          (λ o. (nat_lt o.id other.id && same_place o other) ≡ false) x.id rows.nodes x
          (search (each_fails)) there in
          sym (ap (λ t. t && same_place x other) (lt-ltb x.id other.id low)) ∙ here
        where
          not_true : (t : Bool) → not t ≡ true → t ≡ false
          not_true t is = grind (arith, nat_tests)

      on : (p : Option ℕ) → x.parent ≡ p → (q : Option ℕ) → other.parent ≡ q
          → same_place x other ≡ false
      on None is None is' =
          absurd
          (grind (arith, nat_tests))
      on None is (Some q) is' = by_name (ap is_none is')
      on (Some p) is None is' = cc (is, is')
      on (Some p) is (Some q) is' = by_name (ap is_none is')

  roots_none : (nodes : List Node) → count is_root nodes ≡ 0 → Each (λ n. is_root n ≡ false) nodes
  roots_none [] none = tt
  roots_none (x ∷ xs) none = grind (arith, nat_tests, count, one_if, roots_none xs)

  names_apart : (nodes : List Node) → (k : ℕ) → is_rising (k ∷ ids_of nodes) ≡ true
      → Each There nodes → Each (λ n. has_sound_name rows n ≡ true) nodes → count is_root nodes ≤ 1
      → are_names_apart (map kept nodes) ≡ true
  names_apart [] k rises there sound few = refl
  names_apart (x ∷ xs) k rises there sound few =
      let up = (and_parts (nat_lt k x.id) (is_rising (x.id ∷ ids_of xs)) rises).1 in
      and_from _ _
      (ap not (any_map (λ (o : Node). same_parent x.parent o.parent && same_text x.name o.name) kept
      xs ∙ any_none (λ (o : Node). same_place x o) xs
      (differ xs (each_above x.id xs up) sound.1 (roots (is_root x) refl few))))
      (names_apart xs x.id up there.1 sound.1 (fewer (is_root x) few))
    where
      fewer : (t : Bool) → one_if t + count is_root xs ≤ 1 → count is_root xs ≤ 1
      fewer t c = grind (arith, nat_tests)

      plain : (nodes : List Node) → is_root x ≡ false
          → Each (λ n. (is_root x && is_root n) ≡ false) nodes
      plain [] is = tt
      plain (n ∷ ns) is = (ap (λ t. t && is_root n) is, plain ns is)

      beside : (nodes : List Node) → Each (λ n. is_root n ≡ false) nodes
          → Each (λ n. (is_root x && is_root n) ≡ false) nodes
      beside [] all = tt
      beside (n ∷ ns) all = (ap (λ t. is_root x && t) all.0 ∙ never (is_root x), beside ns all.1)
        where
          never : (t : Bool) → (t && false) ≡ false
          never t = grind (arith, nat_tests)

      roots : (t : Bool) → is_root x ≡ t → one_if t + count is_root xs ≤ 1
          → Each (λ n. (is_root x && is_root n) ≡ false) xs
      roots true is c = beside xs (roots_none xs (omega (arith, c)))
      roots false is c = plain xs is

      differ : (nodes : List Node) → Each (λ n. x.id < n.id) nodes
          → Each (λ n. has_sound_name rows n ≡ true) nodes
          → Each (λ n. (is_root x && is_root n) ≡ false) nodes
          → Each (λ n. same_place x n ≡ false) nodes
      differ [] low sound roots = tt
      differ (n ∷ ns) low sound roots =
          (names_differ x n there.0 low.0 sound.0 roots.0, differ ns low.1 sound.1 roots.1)

  -- ---- bytes

  documents : (nodes : List Node)
      → map (λ (n : Node). n.id) (filter (λ (n : Node). is_document n.kind) (map kept nodes))
      ≡ ids_of (filter (λ (n : Node). is_document n.kind) nodes)
  documents [] = refl
  documents (x ∷ xs) = grind (arith, nat_tests, ids_of, documents xs)

filter_rises : (q : Node → Bool) (k : ℕ) (nodes : List Node) → is_rising (k ∷ ids_of nodes) ≡ true
    → (j : ℕ) → j ≤ k → is_rising (j ∷ ids_of (filter q nodes)) ≡ true
filter_rises q k [] rises j low = refl
filter_rises q k (x ∷ xs) rises j low =
    let parts = and_parts (nat_lt k x.id) (is_rising (x.id ∷ ids_of xs)) rises in
    let above = ltb-true k x.id parts.0 in
    on (q x) (omega (arith, above, low)) (λ i less. filter_rises q x.id xs parts.1 i less)
  where
    on : (t : Bool) → j < x.id → ((i : ℕ) → i ≤ x.id → is_rising (i ∷ ids_of (filter q xs)) ≡ true)
        → is_rising (j ∷ ids_of (cond t (x ∷ filter q xs) (filter q xs))) ≡ true
    on t above more = grind (arith, nat_tests)

-- a number among those of the objects that pass
among_passing : (q : Node → Bool) (k : ℕ) (nodes : List Node) → is_rising (k ∷ ids_of nodes) ≡ true
    → (id : ℕ) → is_among (ids_of (filter q nodes)) id ≡ option_map_or q (find_id id nodes) false
among_passing q k [] rises id = refl
among_passing q k (x ∷ xs) rises id =
    on (q x) refl (x.id == id) refl (among_passing q x.id xs up id)
  where
    up : is_rising (x.id ∷ ids_of xs) ≡ true
    up = (and_parts (nat_lt k x.id) (is_rising (x.id ∷ ids_of xs)) rises).1

    on : (s : Bool) → q x ≡ s → (t : Bool) → (x.id == id) ≡ t
        → is_among (ids_of (filter q xs)) id ≡ option_map_or q (find_id id xs) false
        → is_among (ids_of (cond s (x ∷ filter q xs) (filter q xs))) id
        ≡ option_map_or q (cond t (Some x) (find_id id xs)) false
    on s is t here rest = grind (arith, nat_tests, filter_rises, ids_of, not_among)

among_bodies : (bodies : List (ℕ × List ℕ)) (id : ℕ)
    → is_among (map (λ row. row.0) bodies) id ≡ is_some (body_at bodies id)
among_bodies [] id = refl
among_bodies (x ∷ xs) id = grind (arith, nat_tests, among_bodies xs id)

in_use : (ids : List ℕ) (bodies : List (ℕ × List ℕ)) (id : ℕ)
    → list_all (λ row. is_among ids row.0) bodies ≡ true
    → is_among (map (λ row. row.0) bodies) id ≡ true → is_among ids id ≡ true
in_use ids [] id all has = absurd (false≢true has)
in_use ids (x ∷ xs) id all has =
    let parts = and_parts (is_among ids x.0) _ all in
    elim (cases_Bool (x.0 == id)) [
      | inl is ↦ ap (is_among ids) (sym (eqb-true x.0 id is)) ∙ parts.0
      | inr isnt ↦
          in_use ids xs id parts.1
          (sym (ap (λ t. t || is_among (map (λ row. row.0) xs) id) isnt) ∙ has)
    ]

module _ (rows : Rows) (are : AreRows rows) (none : HasNoFault rows)
    (readable : rows.unreadable ≡ []) where
  body_there : (id : ℕ)
      → is_some (body_of rows.read id)
      ≡ option_map_or (λ (n : Node). is_document n.kind) (find_id id rows.read.nodes) false
  body_there id = on (find_id id rows.read.nodes) refl
    where
      fitting : (d : Bool) (body : Option (List ℕ))
          → cond d (option_map_or (λ bytes. nat_le (length bytes) 1048576) body false)
          (is_none body) ≡ true → is_some body ≡ d
      fitting d body fits = grind (arith, nat_tests)

      listed : is_some (body_of rows.read id) ≡ true → is_some (find_id id rows.read.nodes) ≡ true
      listed has =
          cc (
            among_found rows.read.nodes id,
            readable,
            in_use (numbers_of rows) rows.read.bodies id are.bodies
                (among_bodies rows.read.bodies id ∙ has),
          )

      on : (o : Option Node) → find_id id rows.read.nodes ≡ o
          → is_some (body_of rows.read id)
          ≡ option_map_or (λ (n : Node). is_document n.kind) o false
      on None found = grind (arith, nat_tests, listed)
      on (Some n) found = grind (arith, nat_tests, all_found, fitting, found_number)

  bodies : map (λ row. row.0) rows.read.bodies
      ≡ map (λ (n : Node). n.id)
      (filter (λ (n : Node). is_document n.kind) (meaning rows.read).nodes)
  bodies =
      same_rising 0 (map (λ row. row.0) rows.read.bodies)
      (ids_of (filter (λ (n : Node). is_document n.kind) rows.read.nodes)) are.body_numbers
      (grind (arith, nat_tests, filter_rises))
      (λ id. among_bodies rows.read.bodies id ∙ body_there id
      ∙ sym (among_passing (λ (n : Node). is_document n.kind) 0 rows.read.nodes are.numbers id))
      ∙ sym (documents rows.read rows.read.nodes)

pub sound_is_content : SoundIsContent
sound_is_content rows are sound =
    let none = no_fault rows sound in
    let content = rows.read in
    let lone_root : count is_root content.nodes ≡ 1 =
    grind (arith, nat_tests, count_length, root_alone) in
    record {
      numbers = search (ids_of, numbers-with_each, places, tail_rises);
      one_root = one_root content none.root;
      parents =
          unmoved.all_kept (kept content) (has_folder_above (meaning content))
          (has_folder_above content)
          (unmoved.folder_above content (kept content) (place content) (λ n. refl)) content.nodes
          none.parents;
      connected =
          unmoved.all_kept (kept content) (reaches (meaning content)) (reaches content)
          (unmoved.reach_all content (kept content) (place content)) content.nodes none.reach;
      names =
          search (rules, names_apart, apart_rising, each_there, each_passes, lone_root, none.names);
      bodies = bodies rows are none (none_unreadable rows (none_bad rows none));
      kept =
          unmoved.all_kept (kept content)
          (λ (node : Node). keeps_none_linked (meaning content) Dacl node
          && keeps_none_linked (meaning content) Sacl node) (λ n. true)
          (search (and_from, keeps_none)) content.nodes
          (all_of (λ n. true) (λ n. refl) content.nodes);
      members = are.members;
    }
