-- What a table says of a name that has no rows in it is what it says of `*`.
use Rattle.std.proofs.Common.{rules, ℕ, zero, suc, ◌≡◌, ◌&&◌, true, false, not, List, [], ◌∷◌, ◌++◌}
use Rattle.std.proofs.Common.{filter, length, map, take, Option, Some, None, refl, sym, ap, subst}
use Rattle.std.proofs.{Common.{◌∙◌, arith, length-append}, lemmas.Bool.and_from}
use Rattle.std.proofs.lemmas.{Bool.Decides.nat_tests, List.{take_all, Folds.list_all-append}}
use Rattle.std.specs.{Prelude.if◌then◌else◌, List.{flat_map, list_all, AllByRecursion as Each}}
use Rattle.std.specs.Option.{option_map_or}
use Rattle.room_entry.{specs.Bits.all_bits, proofs.Facts.Members.{all_each, any_map, each_weaker}}
use Rattle.room_rows.specs.{declared.node.Node.Node, Content.{Content, child_of, children_of}}
use Rattle.room_rows.specs.Rows.{Rows}
use Rattle.room_dump.{specs.Dump.tree_of, proofs.Counting.each_both}
use Rattle.room_machine.specs.{Judge.passes, Plan.Deletion, Site.Site, Step.caller_in}
use Rattle.room_machine.specs.{Stored.{stored_along, stored_from}, Rights.{last_of, reaches}}
use Rattle.room_review.specs.{declared.parties.Party.Party, Laws.{SaysAlike, StarSpeaksForOthers}}
use Rattle.room_review.specs.Laws.{is_known_at, stored_above, told_at, told_there}
use Rattle.room_review.specs.{Standing.granted, Table.{Place, named, nameless, other_name}}
use Rattle.room_review.specs.{Table.{place_below, site_of}, Users.{is_listed, users_at}}
use Rattle.room_review.proofs.{Ending.IsStored, Others.{IsNew, IsOther, is_other, new_each}}
use Rattle.room_review.proofs.{Others.{new_parts, new_to, users_deep}, Strangers.{IsUnknown, alone}}
use Rattle.room_review.proofs.{Strangers.{are_unknown, is_alone}, Visited.each_flat}
use Rattle.room_review.proofs.Strangers as strangers

-- ---- two names that no object on a way knows

module _ (a b : List ℕ) where
  granted_alike : (above : List Site) (target : Site) → are_unknown a b above
      → IsUnknown a b target → granted (alone a) above target ≡ granted (alone b) above target
  granted_alike above target before at =
      let reach = ap (reaches (alone a)) (sym whole)
      ∙ strangers.same_reach a b (length above) above before ∙ ap (reaches (alone b)) whole in
      let here = strangers.granted a b target at in
      let rule = on (last_of above) refl in
      λ i. ((if reach i then filter (λ right. here right i) all_bits else []), reach i && rule i)
    where
      whole : take (length above) above ≡ above
      whole = take_all (length above) above (omega arith)

      on : (o : Option Site) → last_of above ≡ o
          → option_map_or (λ folder. passes (alone a) (Deletion target folder)) o false
          ≡ option_map_or (λ folder. passes (alone b) (Deletion target folder)) o false
      on None none = refl
      on (Some folder) last =
          strangers.deleted a b target folder at
          (strangers.last_unknown a b (length above) above folder before (ap last_of whole ∙ last))

-- ---- the sites of a table have the lists that are stored

all_stored : (content : Content) (names path : List (List ℕ)) (node : Node)
    → Each IsStored (stored_from content path node names)
all_stored content [] path node = (refl, tt)
all_stored content (name ∷ names) path node = (
  refl,
  on (child_of content node.id name)
      (λ child. all_stored content names (path ++ name ∷ []) child),
)
  where
    on : (o : Option Node)
        → ((child : Node) → Each IsStored (stored_from content (path ++ name ∷ []) child names))
        → Each IsStored
        (option_map_or (λ child. stored_from content (path ++ name ∷ []) child names) o [])
    on None each = tt
    on (Some child) each = each child

stored_on_way : (content : Content) (path : List (List ℕ))
    → Each IsStored (stored_along content path)
stored_on_way content path = grind (arith, nat_tests, all_stored)

each_take : {A : Type 0} (P : A → Type 0) (n : ℕ) (xs : List A) → Each P xs → Each P (take n xs)
each_take P zero xs all = tt
each_take P (suc n) [] all = tt
each_take P (suc n) (x ∷ xs) all = (all.0, each_take P n xs all.1)

-- ---- a name that no object of a table lists

module _ (name : List ℕ) where
  unseen : (site : Site) → IsStored site → IsNew name (users_at site.node)
      → is_known_at name site ≡ false
  unseen site stored new = ap (is_known_at name) stored ∙ new_to name site.node new

  abbrev AreUnseen : List Site → Type 0
  AreUnseen sites = list_all (λ site. not (is_known_at name site)) sites ≡ true

  abbrev IsUnseen : Place × Node → Type 0
  IsUnseen it = AreUnseen it.0.above × (is_known_at name (site_of it.0 it.1) ≡ false)

  unseen_before : (rows : Rows) (path : List (List ℕ)) (target : Site)
      → IsOther rows path target name → AreUnseen (stored_above rows path)
  unseen_before rows path target other =
      grind (arith, nat_tests, all_each, each_both, each_take, stored_on_way, unseen)

  all_unseen : (content : Content) (depth : ℕ) (place : Place) (node : Node)
      → AreUnseen place.above → IsNew name (users_deep name content depth node)
      → Each IsUnseen (tree_of place_below (λ p n. (p, n) ∷ []) depth content place node)
  all_unseen content zero place node before new = tt
  all_unseen content (suc depth) place node before new =
      let parts = new_parts name (users_at node)
      (flat_map (λ child. users_deep name content depth child) (children_of content node.id)) new in
      let here = unseen (site_of place node) refl parts.0 in
      let behind = list_all-append (λ site. not (is_known_at name site)) place.above
      (site_of place node ∷ [])
      ∙ and_from _ _ before
      (and_from (not (is_known_at name (site_of place node))) true (ap not here) refl) in (
        (before, here),
        each_flat IsUnseen (λ child. below child) (children_of content node.id)
            (each_weaker (λ child. IsNew name (users_deep name content depth child))
            (λ child. Each IsUnseen (below child))
            (λ child more.
            all_unseen content depth (place_below place node child) child behind more)
            (children_of content node.id) (search (rules, new_each, parts.1))),
      )
    where
      below : Node → List (Place × Node)
      below child =
          let there = place_below place node child in
          tree_of place_below (λ p n. (p, n) ∷ []) depth content there child

  unseen_there : (rows : Rows) (path : List (List ℕ)) (target : Site)
      → IsOther rows path target name → Each IsUnseen (told_at rows path target)
  unseen_there rows path target other = grind (arith, nat_tests, all_unseen, unseen_before)

-- ---- two such names

alike_there : (rows : Rows) (path : List (List ℕ)) (target : Site) (a b : List ℕ)
    → IsOther rows path target a → IsOther rows path target b
    → Each (SaysAlike (caller_in rows.read (Some a)) (caller_in rows.read (Some b)))
    (told_at rows path target)
alike_there rows path target a b first second =
    each_both (IsUnseen a) (IsUnseen b)
    (SaysAlike (caller_in rows.read (Some a)) (caller_in rows.read (Some b)))
    (λ it one two.
    ap (λ caller. told_there caller it) (is_alone rows.read a first.unpaired)
    ∙ granted_alike a b it.0.above (site_of it.0 it.1) (one.0, two.0) (one.1, two.1)
    ∙ ap (λ caller. told_there caller it) (sym (is_alone rows.read b second.unpaired)))
    (told_at rows path target) (unseen_there a rows path target first)
    (unseen_there b rows path target second)

-- ---- the callers of a table

-- the front and the last but one of a list
ends_same : (xs ys : List Party) (a b c d : Party) → xs ++ a ∷ b ∷ [] ≡ ys ++ c ∷ d ∷ []
    → (xs ≡ ys) × (a ≡ c)
ends_same [] [] a b c d same = (refl, let first : a ≡ c = cc in first)
ends_same [] (y ∷ ys) a b c d same = absurd (too_long ys c d (ap length same))
  where
    too_long : (ys : List Party) (c d : Party) → 2 ≡ suc (length (ys ++ c ∷ d ∷ [])) → ⊥
    too_long ys c d e = omega (arith, e, length-append ys (c ∷ d ∷ []))
ends_same (x ∷ xs) [] a b c d same = absurd (too_long xs a b (ap length same))
  where
    too_long : (xs : List Party) (a b : Party) → suc (length (xs ++ a ∷ b ∷ [])) ≡ 2 → ⊥
    too_long xs a b e = omega (arith, e, length-append xs (a ∷ b ∷ []))
ends_same (x ∷ xs) (y ∷ ys) a b c d same =
    let first : x ≡ y = cc in
    let rest = ends_same xs ys a b c d (let r : xs ++ a ∷ b ∷ [] ≡ ys ++ c ∷ d ∷ [] = cc in r) in
    ((λ i. first i ∷ rest.0 i), rest.1)

-- a name that labels none of the users is none of them
no_user : (content : Content) (users : List Party) (names : List (List ℕ)) (name : List ℕ)
    → users ≡ map (named content) names
    → is_listed name (map (λ (user : Party). user.label) users) ≡ false
    → is_listed name names ≡ false
no_user content users names name are new = grind (arith, nat_tests, any_map)

pub star_speaks_for_others : StarSpeaksForOthers
star_speaks_for_others rows path target users star nobody name found all new =
    let content = rows.read in
    let ends = ends_same users (map (named content) all.users) star nobody
    (other_name content all.stranger) (nameless content) all.parties_are in
    let other = λ (text : List ℕ) (is : is_listed text all.users ≡ false).
    is_other rows path target text (sym (all.are.same text) ∙ is) in (
      ap (λ (p : Party). p.label) ends.1,
      subst
          (λ (p : Party). Each (SaysAlike p.caller (caller_in content (Some name)))
          (told_at rows path target)) (sym ends.1)
          (alike_there rows path target all.stranger name (other all.stranger all.is_other)
          (other name (no_user content users all.users name ends.0 new))),
    )
