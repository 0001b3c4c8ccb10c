-- Places listed, removed and looked up.
use Rattle.std.proofs.Common.{◌≡◌, ℕ, ◌≤◌, ◌==◌, ◌+◌, Bool, true, false, List, [], ◌∷◌, filter}
use Rattle.std.proofs.Common.{Some, refl, sym, ap, subst, ◌∙◌, arith, if◌then◌else◌, String}
use Rattle.std.proofs.{Common.string_bytes, lemmas.Bool.{false≢true, and_parts, and_from, eqb-true}}
use Rattle.std.proofs.lemmas.Bool.{eq-eqb, false_from_ne_true, Decides.nat_tests}
use Rattle.std.proofs.lemmas.{Cmp.nat_list_eq_equiv, Map.Text.is_eq-slice_cmp}
use Rattle.std.specs.{BTreeMap.{insert_entry, Range.range_contains}, Map.{lookup, remove_entry}}
use Rattle.std.specs.{Ordering.{nat_cmp, ordering_then, is_eq, is_le}, Cmp.Lexicographic.slice_cmp}
use Rattle.std.specs.{String.string_cmp, declared.cmp.Ordering.TheVariants.Greater}
use Rattle.std.specs.declared.ops.Bound.TheVariants.{Included, Excluded, Unbounded}
use Rattle.room_entry.specs.Pieces.{same_text}
use Rattle.room_memory.specs.Places.{text_place, is_place, id_at, places_under, Lists}
use Rattle.room_memory.specs.Places.{KeepsOtherPlaces}
use Rattle.room_memory.proofs.{Numbered.{cmp_less, cmp_equal, cmp_greater}, Listed.place_cmp}
use Rattle.room_entry.proofs.{Facts.Lists.filter_weaker, Texts.same_text-true}

lookup_same : {K X : Type 0} (t u : K → Bool) → ((k : K) → t k ≡ u k) → (es : List (K × X))
    → lookup t es ≡ lookup u es
lookup_same t u same [] = refl
lookup_same t u same (e ∷ es) = grind (arith, nat_tests, lookup_same t u same es)

empty_first : (t : List ℕ) → is_le (slice_cmp nat_cmp [] t) ≡ true
empty_first [] = refl
empty_first (x ∷ xs) = refl

module _ {Y : Type 0} where
  -- a place compares as equal to a key where both are the same
  pub is_place_key : (place key : ℕ × String Y)
      → is_eq (ordering_then (nat_cmp place.0 key.0) (string_cmp place.1 key.1))
      ≡ is_place place.0 (string_bytes place.1) key
  is_place_key place key =
      grind (arith, nat_tests, cmp_equal, cmp_greater, cmp_less, is_eq-slice_cmp, nat_list_eq_equiv)

  pub looked_up : (place : ℕ × String Y) (es : List ((ℕ × String Y) × ℕ))
      → lookup (λ key. is_eq (ordering_then (nat_cmp place.0 key.0) (string_cmp place.1 key.1))) es
      ≡ id_at place.0 (string_bytes place.1) es
  looked_up place es =
      lookup_same _ (is_place place.0 (string_bytes place.1)) (is_place_key place) es

  equal_places : (place key : ℕ × String Y)
      → is_eq (ordering_then (nat_cmp place.0 key.0) (string_cmp place.1 key.1)) ≡ true
      → (key.0 ≡ place.0) × (string_bytes key.1 ≡ string_bytes place.1)
  equal_places place key is = grind (arith, nat_tests, is_place_key, same_text-true)

  same_test : (p : ℕ) (n : List ℕ) (place key : ℕ × String Y)
      → is_eq (ordering_then (nat_cmp place.0 key.0) (string_cmp place.1 key.1)) ≡ true
      → is_place p n key ≡ is_place p n place
  same_test p n place key is = grind (arith, nat_tests, equal_places)

  -- two places that pass the same test are equal
  apart_tests : (p : ℕ) (n : List ℕ) (place key : ℕ × String Y)
      → ordering_then (nat_cmp place.0 key.0) (string_cmp place.1 key.1) ≡ Greater
      → is_place p n key ≡ true → is_place p n place ≡ false
  apart_tests p n place key greater is = false_from_ne_true (is_place p n place) (λ its.
      let a = and_parts (key.0 == p) _ is in
      let b = and_parts (place.0 == p) _ its in
      let number : key.0 ≡ place.0 = eqb-true key.0 p a.0 ∙ sym (eqb-true place.0 p b.0) in
      let name : string_bytes key.1 ≡ n = same_text-true (string_bytes key.1) n a.1 in
      let name' : string_bytes place.1 ≡ n = same_text-true (string_bytes place.1) n b.1 in
      let same : is_place place.0 (string_bytes place.1) key ≡ true = and_from (key.0 == place.0) _
      (eq-eqb key.0 place.0 number)
      (subst (λ (t : List ℕ). same_text (string_bytes key.1) t ≡ true) (sym name') a.1) in
      false≢true (sym (ap is_eq greater) ∙ is_place_key place key ∙ same))

  put_listed : (p : ℕ) (n : List ℕ) (place : ℕ × String Y) (id : ℕ) (es : List ((ℕ × String Y) × ℕ))
      → id_at p n
      (insert_entry (λ x y. ordering_then (nat_cmp x.0 y.0) (string_cmp x.1 y.1)) es place id)
      ≡ (if is_place p n place then Some id else id_at p n es)
  put_listed p n place id [] = refl
  put_listed p n place id (e ∷ es) =
      grind (arith, nat_tests, apart_tests, place_cmp, same_test, put_listed p n place id es)

  pub puts : (place : ℕ × String Y) (id : ℕ) (old new : List ((ℕ × String Y) × ℕ))
      → new ≡ insert_entry (λ x y. ordering_then (nat_cmp x.0 y.0) (string_cmp x.1 y.1)) old place
      id → Lists place.0 (string_bytes place.1) id old new
  puts place id old new is p n = ap (id_at p n) is ∙ put_listed p n place id old

  take_others : (p : ℕ) (n : List ℕ) (place : ℕ × String Y) (es : List ((ℕ × String Y) × ℕ))
      → is_place p n place ≡ false
      → id_at p n
      (remove_entry
      (λ key. is_eq (ordering_then (nat_cmp place.0 key.0) (string_cmp place.1 key.1))) es)
      ≡ id_at p n es
  take_others p n place [] apart = refl
  take_others p n place (e ∷ es) apart =
      grind (arith, nat_tests, same_test, take_others p n place es apart)

  pub takes : (place : ℕ × String Y) (old new : List ((ℕ × String Y) × ℕ))
      → new
      ≡ remove_entry
      (λ key. is_eq (ordering_then (nat_cmp place.0 key.0) (string_cmp place.1 key.1))) old
      → KeepsOtherPlaces (Some (text_place place)) old new
  takes place old new is p n apart = ap (id_at p n) is ∙ take_others p n place old apart

  -- ---- what stands between two places

  from_start : (start key : ℕ × String Y) → string_bytes start.1 ≡ [] → start.0 ≤ key.0
      → is_le (ordering_then (nat_cmp start.0 key.0) (string_cmp start.1 key.1)) ≡ true
  from_start start key empty up = grind (arith, nat_tests, cmp_equal, cmp_less, empty_first)

  pub between : (parent : ℕ) (start end : ℕ × String Y) (es : List ((ℕ × String Y) × ℕ))
      → start.0 ≡ parent → string_bytes start.1 ≡ [] → end.0 ≡ parent + 1
      → places_under parent
      (filter (λ e. range_contains (λ x y. ordering_then (nat_cmp x.0 y.0) (string_cmp x.1 y.1))
      (Included start) (Excluded end) e.0) es) ≡ places_under parent es
  between parent start end es from empty to =
      grind (arith, nat_tests, cmp_greater, filter_weaker, from_start)

  pub from : (parent : ℕ) (start : ℕ × String Y) (es : List ((ℕ × String Y) × ℕ)) → start.0 ≡ parent
      → string_bytes start.1 ≡ []
      → places_under parent
      (filter (λ e. range_contains (λ x y. ordering_then (nat_cmp x.0 y.0) (string_cmp x.1 y.1))
      (Included start) Unbounded e.0) es) ≡ places_under parent es
  from parent start es is empty = grind (arith, nat_tests, filter_weaker, from_start)
