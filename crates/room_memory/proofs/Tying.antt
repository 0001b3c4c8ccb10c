-- Objects at their numbers that are listed at their places, after a change too.
use Rattle.std.proofs.Common.{rules, ◌≡◌, ℕ, ◌<◌, ◌≤◌, ◌+◌, ◌==◌, ◌&&◌, true, false, not, List, []}
use Rattle.std.proofs.Common.{◌∷◌, ◌++◌, append_assoc, map, filter, Option, Some, None, Result, Ok}
use Rattle.std.proofs.Common.{Err, OnOk, OnErr, refl, sym, ap, subst, ◌∙◌, arith, inl, inr}
use Rattle.std.proofs.{Common.{if◌then◌else◌, String, string_bytes}, lemmas.Bool.cases_Bool}
use Rattle.std.proofs.lemmas.Bool.{false≢true, and_parts, and_from, eqb-true, eqb-false, eq-eqb}
use Rattle.std.proofs.lemmas.Bool.{cond-true, cond-false, false_from_ne_true, Decides.nat_tests}
use Rattle.std.proofs.lemmas.Map.Keys.{ge_from_not_lt}
use Rattle.std.specs.{Prelude.{is_none, is_some, option_and_then}, BTreeMap.insert_entry}
use Rattle.std.specs.{List.{Sorted.IsStrictlySortedBy}, Map.{lookup, remove_entry}}
use Rattle.std.specs.{Map.{keys_of, values_of}, Option.{IsSome, SomeIff, MatchOption, option_map}}
use Rattle.std.specs.{Option.{option_map_or, option_to_list}, Ordering.{nat_cmp, is_eq, is_lt}}
use Rattle.room_entry.specs.{Pieces.same_text, declared.object.ObjKind.ObjKind}
use Rattle.room_rows.specs.{declared.node.Node.Node, Content.{put_node, has_parent}}
use Rattle.room_rows.specs.{Content.sorted_by_name, Finding.{find_id, find_named}}
use Rattle.room_memory.specs.Objects.{AreTied, StandsAsBefore, greatest, has_object, named_kind}
use Rattle.room_memory.specs.{Objects.place_of, Places.{text_place, standing, standing_under}}
use Rattle.room_memory.specs.Places.{is_same_place, id_at, places_under, Lists, KeepsOtherPlaces}
use Rattle.room_memory.proofs.Found.{found_above, found_put, found_without, some_passes, put_rises}
use Rattle.room_memory.proofs.{Found.{filter_rises, failing}, Listed.{all_listed, named_none}}
use Rattle.room_memory.proofs.{Listed.{named_some, children_are, place_cmp}, Numbered.is_keyed}
use Rattle.room_memory.proofs.Numbered.{lookup_at, inserted, inserted_keyed, removed, removed_keyed}
use Rattle.room_rows.proofs.{Lookups.found_number, Frames.has_its_parent}
use Rattle.room_entry.proofs.{Texts.same_text-true, Alike.text_itself}

-- what holds after a call, whether it was refused or not
pub settled : {X E P Q : Type 0} (r : Result X E) → OnOk r P → OnErr r Q → (Q → P) → P
settled (Ok x) done refused so = done
settled (Err e) done refused so = so refused

pub not_none : {X : Type 0} (o : Option X) → is_some o ≡ true → o ≡ None → ⊥
not_none o some none = false≢true (sym (ap is_some none) ∙ some)

-- one more, where that fits
pub next_is : (r : Option ℕ) (last most : ℕ) → last ≡ most
    → SomeIff r (last + 1 < 18446744073709551616) (last + 1)
    → MatchOption r (18446744073709551616 ≤ most + 1) (λ n. n ≡ most + 1)
next_is None last most same fits = grind (arith, nat_tests)
next_is (Some n) last most same fits = let e = fits.1 in omega (arith, e, same)

-- no object that is there stands at a place where none is found
free_place : (parent : ℕ) (name : List ℕ) (nodes : List Node) → find_named parent name nodes ≡ None
    → (id p : ℕ) (m : Node) → find_id id nodes ≡ Some m → m.parent ≡ Some p
    → is_same_place p m.name parent name ≡ false
free_place parent name nodes free id p m found has =
    false_from_ne_true (is_same_place p m.name parent name) (λ is.
    let parts = and_parts (parent == p) (same_text name m.name) is in
    let has' : m.parent ≡ Some parent = has ∙ ap Some (sym (eqb-true parent p parts.0)) in
    let named : same_text m.name name ≡ true = subst (λ (t : List ℕ). same_text m.name t ≡ true)
    (sym (same_text-true name m.name parts.1)) (text_itself m.name) in
    search (rules, some_passes, m, found, and_from, has_its_parent, has', named, free))

other_place : (p : ℕ) (n : List ℕ) (parent : ℕ) (name : List ℕ)
    → is_same_place p n parent name ≡ true → (parent ≡ p) × (name ≡ n)
other_place p n parent name is = grind (arith, nat_tests, same_text-true)

one_parent : (node : Node) (parent p : ℕ) → node.parent ≡ Some parent → node.parent ≡ Some p
    → parent ≡ p
one_parent node parent p is has = let e : Some parent ≡ Some p = sym is ∙ has in cc

free_apart : (parent : ℕ) (name : List ℕ) (nodes : List Node) (id : ℕ)
    (before : Option (ℕ × List ℕ)) → find_named parent name nodes ≡ None
    → before ≡ option_and_then place_of (find_id id nodes)
    → option_map_or (λ (at : ℕ × List ℕ). is_same_place parent name at.0 at.1) before false ≡ false
free_apart parent name nodes id before free is =
    grind (arith, nat_tests, free_place, other_place, text_itself)

pub no_less : (id : ℕ) (xs : List Node) (n : Node) → find_id id xs ≡ Some n → id ≤ greatest xs
no_less id [] n found = absurd (false≢true (sym (ap is_none found)))
no_less id (x ∷ xs) n found = elim (cases_Bool (x.id == id)) [
  | inl here ↦ let e = eqb-true x.id id here in omega (arith, e)
  | inr isnt ↦ let rest = no_less id xs n (sym (cond-false _ _ _ isnt) ∙ found) in
      omega (arith, rest)
]

no_more : (last : ℕ) (xs : List Node) → ((id : ℕ) → is_some (find_id id xs) ≡ true → id ≤ last)
    → greatest xs ≤ last
no_more last [] up = omega arith
no_more last (x ∷ xs) up =
    let here = up x.id (ap is_some (cond-true _ (Some x) _ (eq-eqb x.id x.id refl))) in
    let rest = no_more last xs (search (rules, up, cond-true, cond-false)) in
    omega (arith, here, rest)

module _ {Y : Type 0} where
  -- ---- looking up

  pub found_at : (id : ℕ) (es : List (ℕ × Node)) (places : List ((ℕ × String Y) × ℕ))
      (nodes : List Node) (o : Option Node) → AreTied es places → values_of es ≡ nodes
      → o ≡ lookup (λ k. is_eq (nat_cmp id k)) es → o ≡ find_id id nodes
  found_at id es places nodes o tied view is =
      is ∙ lookup_at id es tied.keyed ∙ ap (find_id id) view

  pub nothing_named : (es : List (ℕ × Node)) (places : List ((ℕ × String Y) × ℕ))
      (nodes : List Node) (parent : ℕ) (name : List ℕ) → AreTied es places → values_of es ≡ nodes
      → id_at parent name places ≡ None → find_named parent name nodes ≡ None
  nothing_named es places nodes parent name tied view none =
      ap (find_named parent name) (sym view)
      ∙ named_none places parent name (values_of es)
      (all_listed places 0 (values_of es) tied.rising tied.listed) none

  pub something_named : (es : List (ℕ × Node)) (places : List ((ℕ × String Y) × ℕ))
      (nodes : List Node) (parent : ℕ) (name : List ℕ) (id : ℕ) → AreTied es places
      → values_of es ≡ nodes → id_at parent name places ≡ Some id
      → standing id parent name nodes ≡ find_named parent name nodes
  something_named es places nodes parent name id tied view at =
      ap (standing id parent name) (sym view)
      ∙ named_some places parent name id (values_of es)
      (all_listed places 0 (values_of es) tied.rising tied.listed) at
      ∙ ap (find_named parent name) view

  pub children_listed : (es : List (ℕ × Node)) (places some : List ((ℕ × String Y) × ℕ))
      (nodes : List Node) (parent : ℕ) → AreTied es places → values_of es ≡ nodes
      → IsStrictlySortedBy place_cmp (keys_of places)
      → places_under parent some ≡ places_under parent places
      → standing_under parent nodes some ≡ sorted_by_name (filter (has_parent parent) nodes)
  children_listed es places some nodes parent tied view sorted same =
      grind (arith, nat_tests, all_listed, children_are)

  -- one more child, if one stands where it is listed
  with_next : (parent : ℕ) (nodes : List Node) (e : (ℕ × String Y) × ℕ)
      (left rest : List ((ℕ × String Y) × ℕ)) (next : Option Node) → left ≡ e ∷ rest
      → e.0.0 ≡ parent → standing e.1 parent (string_bytes e.0.1) nodes ≡ next
      → standing_under parent nodes left ≡ option_to_list next ++ standing_under parent nodes rest
  with_next parent nodes e left rest next step under stands = grind (arith, nat_tests)

  pub child_more : (found : List Node) (parent : ℕ) (nodes : List Node) (e : (ℕ × String Y) × ℕ)
      (left rest : List ((ℕ × String Y) × ℕ)) (next : Option Node) (all : List Node)
      → left ≡ e ∷ rest → e.0.0 ≡ parent → standing e.1 parent (string_bytes e.0.1) nodes ≡ next
      → found ++ standing_under parent nodes left ≡ all
      → (found ++ option_to_list next) ++ standing_under parent nodes rest ≡ all
  child_more found parent nodes e left rest next all step under stands sofar =
      search (rules, append_assoc, rest, with_next, e, left, step, under, stands, sofar)

  pub named_more : (found : List (List ℕ × ObjKind)) (parent : ℕ) (nodes : List Node)
      (e : (ℕ × String Y) × ℕ) (left rest : List ((ℕ × String Y) × ℕ)) (next : Option Node)
      (all : List (List ℕ × ObjKind)) → left ≡ e ∷ rest → e.0.0 ≡ parent
      → standing e.1 parent (string_bytes e.0.1) nodes ≡ next
      → found ++ map named_kind (standing_under parent nodes left) ≡ all
      → (found ++ map named_kind (option_to_list next))
      ++ map named_kind (standing_under parent nodes rest) ≡ all
  named_more found parent nodes e left rest next all step under stands sofar =
      append_assoc found (map named_kind (option_to_list next))
      (map named_kind (standing_under parent nodes rest))
      ∙ ap (λ (l : List (List ℕ × ObjKind)). found ++ l) (apart next)
      ∙ ap (λ (l : List Node). found ++ map named_kind l)
      (sym (with_next parent nodes e left rest next step under stands))
      ∙ sofar
    where
      apart : (o : Option Node)
          → map named_kind (option_to_list o) ++ map named_kind (standing_under parent nodes rest)
          ≡ map named_kind (option_to_list o ++ standing_under parent nodes rest)
      apart None = refl
      apart (Some n) = refl

  -- the place of an object
  pub place_is : (place : ℕ × String Y) (nodes : List Node) (id : ℕ) (node : Node) (parent : ℕ)
      → find_id id nodes ≡ Some node → node.parent ≡ Some parent → place.0 ≡ parent
      → string_bytes place.1 ≡ node.name
      → Some (text_place place) ≡ option_and_then place_of (find_id id nodes)
  place_is place nodes id node parent found has number name = grind (arith, nat_tests)

  pub stands_not : (es : List (ℕ × Node)) (places : List ((ℕ × String Y) × ℕ)) (nodes : List Node)
      (id parent : ℕ) (name : List ℕ) (node : Node) → AreTied es places → values_of es ≡ nodes
      → find_id id nodes ≡ Some node
      → (has_parent parent node && same_text node.name name) ≡ false
      → standing id parent name nodes ≡ None
  stands_not es places nodes id parent name node tied view found isnt =
      failing (λ (m : Node). has_parent parent m && same_text m.name name) id 0 nodes node
      (search (rules, view, tied.rising)) found isnt

  -- a number that no other number exceeds is the greatest
  pub last_is : (es : List (ℕ × Node)) (places : List ((ℕ × String Y) × ℕ)) (nodes : List Node)
      (last : ℕ) (node : Node) → AreTied es places → values_of es ≡ nodes
      → lookup (λ k. is_eq (nat_cmp last k)) es ≡ Some node
      → ((q : ℕ) → IsSome (lookup (λ k. is_eq (nat_cmp q k)) es) → is_lt (nat_cmp last q) ≡ false)
      → last ≡ greatest nodes
  last_is es places nodes last node tied view at least =
      let up = no_less last nodes node
      (sym (found_at last es places nodes (Some node) tied view (sym at))) in
      let down = no_more last nodes
      (λ id is. ge_from_not_lt last id
      (least id
      (ap is_some (found_at id es places nodes
      (lookup (λ k. is_eq (nat_cmp id k)) es) tied view refl) ∙ is))) in
      omega (arith, up, down)

  -- ---- changes

  -- an object is put at its number
  tied_put : (es new_es : List (ℕ × Node)) (places new_places : List ((ℕ × String Y) × ℕ))
      (node : Node) → AreTied es places → 0 < node.id
      → new_es ≡ insert_entry nat_cmp es node.id node → IsStrictlySortedBy nat_cmp (keys_of new_es)
      → ((p : ℕ) → node.parent ≡ Some p → id_at p node.name new_places ≡ Some node.id)
      → ((id p : ℕ) (m : Node) → find_id id (values_of es) ≡ Some m → (node.id == id) ≡ false
      → m.parent ≡ Some p → id_at p m.name new_places ≡ Some id)
      → AreTied new_es new_places
  tied_put es new_es places new_places node tied above is sorted own others =
      grind (arith, nat_tests, found_put, inserted, inserted_keyed, is_keyed, put_rises)

  still_listed : (es : List (ℕ × Node)) (places new_places : List ((ℕ × String Y) × ℕ)) (parent : ℕ)
      (name : List ℕ) (id : ℕ) → AreTied es places → Lists parent name id places new_places
      → find_named parent name (values_of es) ≡ None
      → (i p : ℕ) (m : Node) → find_id i (values_of es) ≡ Some m → m.parent ≡ Some p
      → id_at p m.name new_places ≡ Some i
  still_listed es places new_places parent name id tied lists free i p m found has =
      search (rules, lists, m.name, cond-false, free_place, es, free, m, found, has, tied.listed)

  -- a number is listed at a place where no object stands
  pub tied_listed : (es new_es : List (ℕ × Node)) (places new_places : List ((ℕ × String Y) × ℕ))
      (nodes : List Node) (parent : ℕ) (name : List ℕ) (id : ℕ) → AreTied es places
      → values_of es ≡ nodes → new_es ≡ es → Lists parent name id places new_places
      → find_named parent name nodes ≡ None → AreTied new_es new_places
  tied_listed es new_es places new_places nodes parent name id tied view same lists free =
      let free' : find_named parent name (values_of es) ≡ None = search (rules, view, free) in
      search (rules, same, tied.keyed, tied.sorted, tied.rising, still_listed, tied, lists, free')

  own_listed : (places new_places : List ((ℕ × String Y) × ℕ)) (parent : ℕ) (name : List ℕ) (id : ℕ)
      → Lists parent name id places new_places → id_at parent name new_places ≡ Some id
  own_listed places new_places parent name id lists = grind (arith, nat_tests, text_itself)

  -- an object is added at a place where none stands
  pub tied_added : (es new_es : List (ℕ × Node)) (places new_places : List ((ℕ × String Y) × ℕ))
      (nodes : List Node) (node : Node) (parent : ℕ) (name : List ℕ) → AreTied es places
      → values_of es ≡ nodes → 0 < node.id
      → node.parent ≡ Some parent → name ≡ node.name → find_named parent node.name nodes ≡ None
      → new_es ≡ insert_entry nat_cmp es node.id node → IsStrictlySortedBy nat_cmp (keys_of new_es)
      → Lists parent name node.id places new_places → AreTied new_es new_places
  tied_added es new_es places new_places nodes node parent name tied view above is named free
      entries sorted lists =
      let free' : find_named parent name (values_of es) ≡ None = ap (find_named parent name) view
      ∙ ap (λ (t : List ℕ). find_named parent t nodes) named ∙ free in
      tied_put es new_es places new_places node tied above entries sorted
      (λ p has. subst (λ (q : ℕ). id_at q node.name new_places ≡ Some node.id)
      (one_parent node parent p is has)
      (subst (λ (t : List ℕ). id_at parent t new_places ≡ Some node.id) named
      (own_listed places new_places parent name node.id lists)))
      (λ i p m found other has.
      still_listed es places new_places parent name node.id tied lists free' i p m found has)

  -- what the objects are after one is put at its number
  pub put_view : (es new_es : List (ℕ × Node)) (places : List ((ℕ × String Y) × ℕ))
      (nodes : List Node) (node : Node) → AreTied es places → values_of es ≡ nodes
      → new_es ≡ insert_entry nat_cmp es node.id node → values_of new_es ≡ put_node node nodes
  put_view es new_es places nodes node tied view entries =
      ap values_of entries ∙ inserted node es tied.keyed ∙ ap (put_node node) view

  -- a call at a number that is there can't fail because no object is there
  pub there : (es : List (ℕ × Node)) (places : List ((ℕ × String Y) × ℕ)) (nodes : List Node)
      (id : ℕ) → AreTied es places → values_of es ≡ nodes → is_some (find_id id nodes) ≡ true
      → lookup (λ k. is_eq (nat_cmp id k)) es ≡ None → ⊥
  there es places nodes id tied view is none =
      false≢true (ap is_some (found_at id es places nodes None tied view (sym none)) ∙ is)

  pub still_there : (es : List (ℕ × Node)) (places : List ((ℕ × String Y) × ℕ)) (nodes : List Node)
      (id : ℕ) → AreTied es places → values_of es ≡ nodes → is_some (find_id id nodes) ≡ true
      → has_object id es ≡ true
  still_there es places nodes id tied view is =
      ap is_some (found_at id es places nodes _ tied view refl) ∙ is

  above_zero : (es : List (ℕ × Node)) (places : List ((ℕ × String Y) × ℕ)) (nodes : List Node)
      (id : ℕ) → AreTied es places → values_of es ≡ nodes → is_some (find_id id nodes) ≡ true
      → 0 < id
  above_zero es places nodes id tied view is = grind (arith, nat_tests, found_above, found_number)

  -- an object takes the place of one that has its parent and name
  pub tied_replaced : (es new_es : List (ℕ × Node)) (places : List ((ℕ × String Y) × ℕ))
      (nodes : List Node) (node : Node) → AreTied es places → values_of es ≡ nodes
      → StandsAsBefore node nodes
      → new_es ≡ insert_entry nat_cmp es node.id node → IsStrictlySortedBy nat_cmp (keys_of new_es)
      → AreTied new_es places
  tied_replaced es new_es places nodes node tied view stood entries sorted =
      tied_put es new_es places places node tied
      (above_zero es places nodes node.id tied view (ap is_some stood.is_there)) entries sorted
      (λ p has. subst (λ (t : List ℕ). id_at p t places ≡ Some node.id) (sym stood.same_name)
      (search (rules, tied.listed, node.id, stood.before, view, stood.is_there, stood.same_parent)))
      (λ i p m found other has. tied.listed i p m found has)

  -- no other object stands at the place of one
  others_place : (es : List (ℕ × Node)) (places : List ((ℕ × String Y) × ℕ)) (id : ℕ) (x : Node)
      (parent : ℕ) → AreTied es places → find_id id (values_of es) ≡ Some x → x.parent ≡ Some parent
      → (i p : ℕ) (m : Node) → find_id i (values_of es) ≡ Some m → m.parent ≡ Some p
      → (id == i) ≡ false → is_same_place p m.name parent x.name ≡ false
  others_place es places id x parent tied at is i p m found has other =
      false_from_ne_true (is_same_place p m.name parent x.name) (λ same.
      let e = other_place p m.name parent x.name same in
      let a : id_at p m.name places ≡ Some id = subst
      (λ (q : ℕ). id_at q m.name places ≡ Some id) e.0
      (search (rules, places, e.1, tied.listed, x, is)) in
      search (rules, a, tied.listed, m, found, has, eqb-false, other))

  others_apart : (es : List (ℕ × Node)) (places : List ((ℕ × String Y) × ℕ)) (id : ℕ)
      (before : Option (ℕ × List ℕ)) → AreTied es places
      → before ≡ option_and_then place_of (find_id id (values_of es))
      → (i p : ℕ) (m : Node) → find_id i (values_of es) ≡ Some m → m.parent ≡ Some p
      → (id == i) ≡ false
      → option_map_or (λ (at : ℕ × List ℕ). is_same_place p m.name at.0 at.1) before false ≡ false
  others_apart es places id before tied is i p m found has other =
      ap (λ o. option_map_or (λ (at : ℕ × List ℕ). is_same_place p m.name at.0 at.1) o false) is
      ∙ by (find_id id (values_of es)) refl
    where
      at_parent : (x : Node) (o : Option ℕ) → find_id id (values_of es) ≡ Some x → x.parent ≡ o
          → option_map_or (λ (at : ℕ × List ℕ). is_same_place p m.name at.0 at.1)
          (option_map (λ parent. (parent, x.name)) o) false ≡ false
      at_parent x None at is = refl
      at_parent x (Some parent) at is =
          others_place es places id x parent tied at is i p m found has other

      by : (o : Option Node) → find_id id (values_of es) ≡ o
          → option_map_or (λ (at : ℕ × List ℕ). is_same_place p m.name at.0 at.1)
          (option_and_then place_of o) false ≡ false
      by None at = refl
      by (Some x) at = at_parent x x.parent at refl

  -- an object that is there goes to a place where none stands
  pub tied_placed : (es new_es : List (ℕ × Node))
      (places more_places new_places : List ((ℕ × String Y) × ℕ)) (nodes : List Node) (node : Node)
      (parent : ℕ) (name : List ℕ) (before : Option (ℕ × List ℕ)) → AreTied es places
      → values_of es ≡ nodes
      → is_some (find_id node.id nodes) ≡ true → node.parent ≡ Some parent → name ≡ node.name
      → find_named parent node.name nodes ≡ None
      → before ≡ option_and_then place_of (find_id node.id nodes)
      → new_es ≡ insert_entry nat_cmp es node.id node → IsStrictlySortedBy nat_cmp (keys_of new_es)
      → Lists parent name node.id places more_places
      → KeepsOtherPlaces before more_places new_places → AreTied new_es new_places
  tied_placed es new_es places more_places new_places nodes node parent name before tied view there
      is named free stood entries sorted lists leaves =
      let free' : find_named parent name (values_of es) ≡ None = ap (find_named parent name) view
      ∙ ap (λ (t : List ℕ). find_named parent t nodes) named ∙ free in
      let stood' : before ≡ option_and_then place_of (find_id node.id (values_of es)) = stood
      ∙ ap (λ (l : List Node). option_and_then place_of (find_id node.id l)) (sym view) in
      tied_put es new_es places new_places node tied
      (above_zero es places nodes node.id tied view there) entries sorted
      (λ p has. subst (λ (q : ℕ). id_at q node.name new_places ≡ Some node.id)
      (one_parent node parent p is has)
      (subst (λ (t : List ℕ). id_at parent t new_places ≡ Some node.id) named
      (leaves parent name (free_apart parent name (values_of es) node.id before free' stood')
      ∙ own_listed places more_places parent name node.id lists)))
      (λ i p m found other has. leaves p m.name
      (others_apart es places node.id before tied stood' i p m found has other)
      ∙ still_listed es places more_places parent name node.id tied lists free' i p m found has)

  -- an object is removed
  pub tied_taken : (es new_es : List (ℕ × Node)) (places new_places : List ((ℕ × String Y) × ℕ))
      (nodes : List Node) (id : ℕ) (before : Option (ℕ × List ℕ)) → AreTied es places
      → values_of es ≡ nodes
      → before ≡ option_and_then place_of (find_id id nodes)
      → new_es ≡ remove_entry (λ k. is_eq (nat_cmp id k)) es
      → IsStrictlySortedBy nat_cmp (keys_of new_es) → KeepsOtherPlaces before places new_places
      → AreTied new_es new_places
  tied_taken es new_es places new_places nodes id before tied view stood entries sorted leaves =
      let stood' : before ≡ option_and_then place_of (find_id id (values_of es)) = stood
      ∙ ap (λ (l : List Node). option_and_then place_of (find_id id l)) (sym view) in
      let rest : values_of new_es ≡ filter (λ node. not (node.id == id)) (values_of es) =
      ap values_of entries ∙ removed id es tied.keyed tied.sorted in
      record {
        keyed = search (rules, is_keyed, entries, removed_keyed, es, tied.keyed);
        sorted = sorted;
        rising = search (rules, rest, filter_rises, es, tied.rising);
        listed = λ i p m found has.
            let found' : (if id == i then None else find_id i (values_of es)) ≡ Some m =
            sym (found_without id i (values_of es)) ∙ ap (find_id i) (sym rest) ∙ found in
            elim (cases_Bool (id == i)) [
              | inl gone ↦ search (rules, false≢true, cond-true, gone, found')
              | inr other ↦
                  let found'' = sym (cond-false _ _ _ other) ∙ found' in
                  leaves p m.name
                  (others_apart es places id before tied stood' i p m found'' has other)
                  ∙ tied.listed i p m found'' has
            ];
      }

  pub taken_view : (es new_es : List (ℕ × Node)) (places : List ((ℕ × String Y) × ℕ))
      (nodes : List Node) (id : ℕ) → AreTied es places → values_of es ≡ nodes
      → new_es ≡ remove_entry (λ k. is_eq (nat_cmp id k)) es
      → values_of new_es ≡ filter (λ node. not (node.id == id)) nodes
  taken_view es new_es places nodes id tied view entries = grind (arith, nat_tests, removed)
