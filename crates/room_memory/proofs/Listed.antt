-- Objects and the places where they are listed.
use Rattle.std.proofs.Common.{rules, ◌≡◌, ℕ, ◌==◌, ◌&&◌, true, false, List, [], ◌∷◌, map, filter}
use Rattle.std.proofs.Common.{Option, Some, None, nat_lt, refl, sym, ap, subst, ◌∙◌, arith, inl}
use Rattle.std.proofs.{Common.{inr, String, string_bytes}, lemmas.Bool.{cases_Bool, false≢true}}
use Rattle.std.proofs.lemmas.Bool.{true≢false, and_parts, and_from, and_right, eqb-true, ne_eqb}
use Rattle.std.proofs.lemmas.Bool.{eq-eqb, cond-true, cond-false, false_from_ne_true}
use Rattle.std.proofs.lemmas.{Bool.Decides.nat_tests, Cmp.{nat_list_cmp_total, tied_itself}}
use Rattle.std.{proofs.lemmas.Map.Keys.{sorted_head, sorted_tail}, specs.Prelude.is_none}
use Rattle.std.specs.{List.{cons_option, AllByRecursion, Sorted.IsStrictlySortedBy}, Map.keys_of}
use Rattle.std.specs.Ordering.{nat_cmp, ordering_then, ordering_reverse, is_lt, is_eq}
use Rattle.std.specs.{Cmp.Lexicographic.slice_cmp, String.string_cmp}
use Rattle.std.specs.declared.cmp.Ordering.{Ordering, TheVariants.Less}
use Rattle.room_entry.{specs.Pieces.same_text, proofs.{Texts.same_text-true, Alike.text_itself}}
use Rattle.room_rows.specs.{declared.node.Node.Node, Content.{is_rising, has_parent, is_before}}
use Rattle.room_rows.specs.{Content.{put_by_name, sorted_by_name}, Finding.{find_id, find_named}}
use Rattle.room_rows.proofs.{Lookups.{found_number, found_passes}, Frames.parent_is}
use Rattle.room_memory.specs.Places.{is_standing, standing, standing_all, standing_under, is_place}
use Rattle.room_memory.{specs.Places.{id_at, places_under}, proofs.Found.{found_above, none_above}}
use Rattle.room_memory.proofs.Numbered.{cmp_equal}

pub same_back : (a b : List ℕ) → same_text a b ≡ false → same_text b a ≡ false
same_back a b apart =
    search (rules, false_from_ne_true, true≢false, same_text-true, text_itself, apart)

not_less_itself : (a : List ℕ) → slice_cmp nat_cmp a a ≡ Less → ⊥
not_less_itself a less = true≢false (ap is_eq (sym (tied_itself nat_list_cmp_total a) ∙ less))

after : (a b : List ℕ) → slice_cmp nat_cmp a b ≡ Less → is_before b a ≡ false
after a b less =
    ap is_lt (nat_list_cmp_total.antisymm b a) ∙ ap (λ o. is_lt (ordering_reverse o)) less

standing_name : (id parent : ℕ) (name : List ℕ) (nodes : List Node) (m : Node)
    → standing id parent name nodes ≡ Some m → m.name ≡ name
standing_name id parent name nodes m found = grind (arith, nat_tests, found_passes, same_text-true)

abbrev pub place_cmp : {Y : Type 0} → ℕ × String Y → ℕ × String Y → Ordering
place_cmp x y = ordering_then (nat_cmp x.0 y.0) (string_cmp x.1 y.1)

module _ {Y : Type 0} where
  abbrev pub IsListed : List ((ℕ × String Y) × ℕ) → Node → Type 0
  IsListed places node = (parent : ℕ) → node.parent ≡ Some parent
      → id_at parent node.name places ≡ Some node.id

  -- every object that is found by its number is listed, so each of them is
  pub all_listed : (places : List ((ℕ × String Y) × ℕ)) (k : ℕ) (nodes : List Node)
      → is_rising (k ∷ map (λ (n : Node). n.id) nodes) ≡ true
      → ((id parent : ℕ) (node : Node) → find_id id nodes ≡ Some node → node.parent ≡ Some parent
      → id_at parent node.name places ≡ Some id)
      → AllByRecursion (IsListed places) nodes
  all_listed places k [] rises listed = tt
  all_listed places k (n ∷ ns) rises listed =
      let parts = and_parts (nat_lt k n.id)
      (is_rising (n.id ∷ map (λ (m : Node). m.id) ns)) rises in (
        λ parent has. listed n.id parent n (cond-true _ _ _ (eq-eqb n.id n.id refl)) has,
        all_listed places n.id ns parts.1 (λ id parent node found has.
            let up = found_above (λ (m : Node). m.id == id) n.id ns node parts.1 found in
            let is = found_number id ns node found in
            listed id parent node
            (cond-false _ _ _ (ne_eqb n.id id (λ e. absurd (omega (arith, up, is, e)))) ∙ found)
            has),
      )

  -- ---- one object by its place

  pub named_none : (places : List ((ℕ × String Y) × ℕ)) (parent : ℕ) (name : List ℕ)
      (nodes : List Node) → AllByRecursion (IsListed places) nodes → id_at parent name places ≡ None
      → find_named parent name nodes ≡ None
  named_none places parent name [] all none = refl
  named_none places parent name (n ∷ ns) all none =
      elim (cases_Bool (has_parent parent n && same_text n.name name)) [
        | inl is ↦
            let parts = and_parts (has_parent parent n) (same_text n.name name) is in
            let listed : id_at parent name places ≡ Some n.id = subst
            (λ (t : List ℕ). id_at parent t places ≡ Some n.id) (same_text-true n.name name parts.1)
            (all.0 parent (parent_is parent n parts.0)) in
            absurd (false≢true (ap is_none (sym listed ∙ none)))
        | inr isnt ↦ cond-false _ _ _ isnt ∙ named_none places parent name ns all.1 none
      ]

  pub named_some : (places : List ((ℕ × String Y) × ℕ)) (parent : ℕ) (name : List ℕ) (id : ℕ)
      (nodes : List Node) → AllByRecursion (IsListed places) nodes
      → id_at parent name places ≡ Some id
      → standing id parent name nodes ≡ find_named parent name nodes
  named_some places parent name id [] all at = refl
  named_some places parent name id (n ∷ ns) all at =
      elim (cases_Bool (has_parent parent n && same_text n.name name)) [
        | inl is ↦
            let parts = and_parts (has_parent parent n) (same_text n.name name) is in
            let listed : id_at parent name places ≡ Some n.id = subst
            (λ (t : List ℕ). id_at parent t places ≡ Some n.id) (same_text-true n.name name parts.1)
            (all.0 parent (parent_is parent n parts.0)) in
            search (rules, listed, cond-true, and_from, eq-eqb, is)
        | inr isnt ↦ cond-false _ _ _ (and_right (n.id == id) _ isnt)
            ∙ named_some places parent name id ns all.1 at ∙ sym (cond-false _ _ _ isnt)
      ]

  -- ---- children in order

  picks_is : (parent : ℕ) (nodes : List Node) (es : List ((ℕ × String Y) × ℕ))
      → standing_all parent nodes (places_under parent es) ≡ standing_under parent nodes es
  picks_is parent nodes [] = refl
  picks_is parent nodes (e ∷ es) = grind (arith, nat_tests, picks_is parent nodes es)

  picks_none : (parent : ℕ) (es : List ((ℕ × String Y) × ℕ)) → standing_under parent [] es ≡ []
  picks_none parent [] = refl
  picks_none parent (e ∷ es) = grind (arith, nat_tests, picks_none parent es)

  -- an object that stands at none of the places isn't picked
  abbrev StandsAtNone : ℕ → Node → List ((ℕ × String Y) × ℕ) → Type 0
  StandsAtNone parent n es =
      AllByRecursion (λ (e : (ℕ × String Y) × ℕ). (e.0.0 == parent) ≡ true
      → is_standing e.1 parent (string_bytes e.0.1) n ≡ false) es

  picks_other : (parent : ℕ) (n : Node) (nodes : List Node) (es : List ((ℕ × String Y) × ℕ))
      → StandsAtNone parent n es
      → standing_under parent (n ∷ nodes) es ≡ standing_under parent nodes es
  picks_other parent n nodes [] none = refl
  picks_other parent n nodes (e ∷ es) none =
      grind (arith, nat_tests, picks_other parent n nodes es none.1)

  no_child : (parent : ℕ) (n : Node) (es : List ((ℕ × String Y) × ℕ)) → has_parent parent n ≡ false
      → StandsAtNone parent n es
  no_child parent n [] isnt = tt
  no_child parent n (e ∷ es) isnt = grind (arith, nat_tests, no_child parent n es isnt)

  -- the names of places under one parent rise
  name_less : (a b : ℕ × String Y) → a.0 ≡ b.0 → place_cmp a b ≡ Less
      → slice_cmp nat_cmp (string_bytes a.1) (string_bytes b.1) ≡ Less
  name_less a b same less =
      ap (λ o. ordering_then o (string_cmp a.1 b.1)) (sym (cmp_equal a.0 b.0 same)) ∙ less

  -- no place after its own is that of an object
  behind : (parent : ℕ) (n : Node) (at : ℕ × String Y) (es : List ((ℕ × String Y) × ℕ))
      → at.0 ≡ parent → string_bytes at.1 ≡ n.name
      → AllByRecursion (λ y. place_cmp at y ≡ Less) (keys_of es) → StandsAtNone parent n es
  behind parent n at [] is named later = tt
  behind parent n at (e ∷ es) is named later = (
    λ under. and_right (n.id == e.1) _
        (and_right (has_parent parent n) _
        (false_from_ne_true (same_text n.name (string_bytes e.0.1)) (λ same.
        let less = name_less at e.0 (is ∙ sym (eqb-true e.0.0 parent under)) later.0 in
        search (rules, not_less_itself, string_bytes, at.1, named, same_text-true, n.name, less)))),
    behind parent n at es is named later.1,
  )

  -- an object whose place is before all others comes first
  comes_first : (parent : ℕ) (n : Node) (at : ℕ × String Y) (nodes : List Node)
      (es : List ((ℕ × String Y) × ℕ)) → at.0 ≡ parent → string_bytes at.1 ≡ n.name
      → AllByRecursion (λ y. place_cmp at y ≡ Less) (keys_of es)
      → put_by_name n (standing_under parent nodes es) ≡ n ∷ standing_under parent nodes es
  comes_first parent n at nodes [] is named later = refl
  comes_first parent n at nodes (e ∷ es) is named later =
      grind (
        arith,
        nat_tests,
        after,
        name_less,
        standing_name,
        comes_first parent n at nodes es is
            named later.1,
      )

  -- the name of a place that is listed further on
  later_name : (at : ℕ × String Y) (parent : ℕ) (name : List ℕ) (id : ℕ)
      (es : List ((ℕ × String Y) × ℕ)) → at.0 ≡ parent
      → AllByRecursion (λ y. place_cmp at y ≡ Less) (keys_of es) → id_at parent name es ≡ Some id
      → slice_cmp nat_cmp (string_bytes at.1) name ≡ Less
  later_name at parent name id [] is later found = absurd (false≢true (sym (ap is_none found)))
  later_name at parent name id (e ∷ es) is later found =
      elim (cases_Bool (is_place parent name e.0)) [
        | inl here ↦
            let parts = and_parts (e.0.0 == parent) (same_text (string_bytes e.0.1) name) here in
            subst (λ (t : List ℕ). slice_cmp nat_cmp (string_bytes at.1) t ≡ Less)
            (same_text-true (string_bytes e.0.1) name parts.1)
            (name_less at e.0 (is ∙ sym (eqb-true e.0.0 parent parts.0)) later.0)
        | inr isnt ↦
            later_name at parent name id es is later.1 (sym (cond-false _ _ _ isnt) ∙ found)
      ]

  -- one more child is put among the others by its name
  picks_more : (parent : ℕ) (n : Node) (nodes : List Node) (es : List ((ℕ × String Y) × ℕ))
      → IsStrictlySortedBy place_cmp (keys_of es) → has_parent parent n ≡ true
      → id_at parent n.name es ≡ Some n.id
      → is_rising (n.id ∷ map (λ (m : Node). m.id) nodes) ≡ true
      → standing_under parent (n ∷ nodes) es ≡ put_by_name n (standing_under parent nodes es)
  picks_more parent n nodes [] sorted has listed rises =
      absurd (false≢true (sym (ap is_none listed)))
  picks_more parent n nodes (e ∷ es) sorted has listed rises =
      elim (cases_Bool (is_place parent n.name e.0)) [
        | inl here ↦
            let parts = and_parts (e.0.0 == parent) (same_text (string_bytes e.0.1) n.name) here in
            let is : e.0.0 ≡ parent = eqb-true e.0.0 parent parts.0 in
            let named : string_bytes e.0.1 ≡ n.name = same_text-true _ _ parts.1 in
            let its : e.1 ≡ n.id = search (rules, n.id, cond-true, here, listed) in
            let later = sorted_head place_cmp e.0 (keys_of es) sorted in
            let stands : is_standing e.1 parent (string_bytes e.0.1) n ≡ true = and_from
            (n.id == e.1) _
            (eq-eqb n.id e.1 (sym its))
            (search (rules, and_from, n, has, n.name, named, text_itself)) in
            let gone : standing e.1 parent (string_bytes e.0.1) nodes ≡ None = none_above
            (λ (m : Node). has_parent parent m && same_text m.name (string_bytes e.0.1)) e.1 n.id
            nodes rises (omega (arith, its)) in
            cond-true _ _ _ parts.0
            ∙ ap (λ o. cons_option o (standing_under parent (n ∷ nodes) es))
            (cond-true _ _ _ stands)
            ∙ ap (λ (l : List Node). n ∷ l)
            (picks_other parent n nodes es (behind parent n e.0 es is named later))
            ∙ sym (ap (put_by_name n) (search (rules, cond-true, parts.0, gone))
            ∙ comes_first parent n e.0 nodes es is named later)
        | inr isnt ↦
            let tail = sorted_tail place_cmp e.0 (keys_of es) sorted in
            let listed' : id_at parent n.name es ≡ Some n.id = sym (cond-false _ _ _ isnt)
            ∙ listed in
            let more = picks_more parent n nodes es tail has listed' rises in
            elim (cases_Bool (e.0.0 == parent)) [
              | inl under ↦
                  let is : e.0.0 ≡ parent = eqb-true e.0.0 parent under in
                  let apart : same_text (string_bytes e.0.1) n.name ≡ false = false_from_ne_true _
                  (λ same. true≢false (sym (and_from (e.0.0 == parent) _ under same) ∙ isnt)) in
                  let other : is_standing e.1 parent (string_bytes e.0.1) n ≡ false = and_right
                  (n.id == e.1) _ (and_right (has_parent parent n) _
                  (same_back (string_bytes e.0.1) n.name apart)) in
                  let less = later_name e.0 parent n.name n.id es is
                  (sorted_head place_cmp e.0 (keys_of es) sorted) listed' in
                  cond-true _ _ _ under
                  ∙ ap (λ o. cons_option o (standing_under parent (n ∷ nodes) es))
                  (cond-false _ _ _ other)
                  ∙ ap (cons_option (standing e.1 parent (string_bytes e.0.1) nodes)) more
                  ∙ passes (standing e.1 parent (string_bytes e.0.1) nodes) refl less
                  ∙ ap (put_by_name n) (sym (cond-true _ _ _ under))
              | inr elsewhere ↦ search (rules, cond-false, elsewhere, more)
            ]
      ]
    where
      passes : (o : Option Node) → standing e.1 parent (string_bytes e.0.1) nodes ≡ o
          → slice_cmp nat_cmp (string_bytes e.0.1) n.name ≡ Less
          → cons_option o (put_by_name n (standing_under parent nodes es))
          ≡ put_by_name n (cons_option o (standing_under parent nodes es))
      passes None o-is less = refl
      passes (Some m) o-is less =
          search (rules, standing_name, string_bytes, cond-true, n.name, less)

  picks_sorted : (parent : ℕ) (es : List ((ℕ × String Y) × ℕ)) (nodes : List Node) (k : ℕ)
      → IsStrictlySortedBy place_cmp (keys_of es)
      → is_rising (k ∷ map (λ (m : Node). m.id) nodes) ≡ true
      → AllByRecursion (λ (n : Node). (p : ℕ) → n.parent ≡ Some p
      → id_at p n.name es ≡ Some n.id) nodes
      → standing_under parent nodes es ≡ sorted_by_name (filter (has_parent parent) nodes)
  picks_sorted parent es [] k sorted rises all = picks_none parent es
  picks_sorted parent es (n ∷ ns) k sorted rises all =
      let parts = and_parts (nat_lt k n.id)
      (is_rising (n.id ∷ map (λ (m : Node). m.id) ns)) rises in
      elim (cases_Bool (has_parent parent n)) [
        | inl has ↦
            picks_more parent n ns es sorted has (all.0 parent (parent_is parent n has)) parts.1
            ∙ ap (put_by_name n) (picks_sorted parent es ns n.id sorted parts.1 all.1)
            ∙ ap sorted_by_name (sym (cond-true _ (n ∷ filter (has_parent parent) ns) _ has))
        | inr hasnt ↦
            picks_other parent n ns es (no_child parent n es hasnt)
            ∙ picks_sorted parent es ns n.id sorted parts.1 all.1
            ∙ ap sorted_by_name (sym (cond-false _ (n ∷ filter (has_parent parent) ns) _ hasnt))
      ]

  -- the objects that stand where they are listed under a parent are its children in order of name
  pub children_are : (parent : ℕ) (es some : List ((ℕ × String Y) × ℕ)) (nodes : List Node) (k : ℕ)
      → IsStrictlySortedBy place_cmp (keys_of es)
      → is_rising (k ∷ map (λ (m : Node). m.id) nodes) ≡ true
      → AllByRecursion (IsListed es) nodes → places_under parent some ≡ places_under parent es
      → standing_under parent nodes some ≡ sorted_by_name (filter (has_parent parent) nodes)
  children_are parent es some nodes k sorted rises all same =
      search (rules, picks_is, some, same, es, picks_sorted, sorted, rises)
