-- Documents below which nothing stands, left out of the objects that wait.
use Rattle.std.proofs.Common.{◌≡◌, ℕ, ◌≤◌, ◌==◌, Bool, true, false, cond, ◌&&◌, List, [], ◌∷◌, ◌++◌}
use Rattle.std.proofs.Common.{filter, length, Some, refl, sym, ap, subst, ◌∙◌, inl, inr, arith}
use Rattle.std.proofs.{Common.rules, lemmas.Bool.{cases_Bool, or_cases, or_parts, false≢true}}
use Rattle.std.{proofs.lemmas.Bool.Decides.nat_tests, specs.List.{AllByRecursion, list_any}}
use Rattle.room_entry.{specs.{Ace.Ace, declared.object.Which.Which}, proofs.Facts.Members.any_agree}
use Rattle.room_entry.proofs.Facts.Members.{any_filter, any_map, each_fails, each_filter}
use Rattle.room_rows.specs.{declared.node.Node.Node, Content.{Content, has_parent, is_folder}}
use Rattle.room_rows.{specs.{Content.sorted_by_name, Finding.find_id}, proofs.InPlace.with_inh-id}
use Rattle.room_inherit.specs.{declared.descent.Descent.Descent, Spread.with_lists, Turn.LeavesOut}
use Rattle.room_inherit.{specs.Turn.{TellsWaiting, brought_up, next_of}, proofs.Kinship.same_kind}
use Rattle.room_inherit.proofs.{Children.{Apart, any_sorted, each_found, has_id}, Frontier.Frontier}
use Rattle.room_inherit.proofs.Frontier.{set, set_parent}

-- ---- what stands below an object

-- an object that is found is one of those with its parent
found_below : (id i : ℕ) (nodes : List Node) (node : Node) → find_id i nodes ≡ Some node
    → has_parent id node ≡ true → list_any (has_parent id) nodes ≡ true
found_below id i nodes node found has = elim (cases_Bool (list_any (has_parent id) nodes)) [
  | inl some ↦ some
  | inr none ↦
      absurd (false≢true (sym (each_found (λ n. has_parent id n ≡ false) i nodes node
      (each_fails (has_parent id) nodes none) found) ∙ has))
]

-- an object without children has none with it as their parent
pub none_below : (id : ℕ) (nodes : List Node)
    → sorted_by_name (filter (has_parent id) nodes) ≡ [] → list_any (has_parent id) nodes ≡ false
none_below id nodes none =
    sym (any_agree (λ n. has_parent id n && true) (has_parent id) nodes (every nodes))
    ∙ sym (any_filter (λ _. true) (has_parent id) nodes)
    ∙ sym (any_sorted (λ _. true) (filter (has_parent id) nodes)) ∙ ap (list_any (λ _. true)) none
  where
    and_true : (t : Bool) → (t && true) ≡ t
    and_true t = grind (arith, nat_tests)

    every : (xs : List Node) → AllByRecursion (λ n. (has_parent id n && true) ≡ has_parent id n) xs
    every [] = tt
    every (x ∷ xs) = (and_true (has_parent id x), every xs)

-- other lists leave below which objects something stands
pub below_lists : (which : Which) (f : Node → List Ace) (old : Content) (id : ℕ)
    → list_any (has_parent id) (with_lists which f old).nodes
    ≡ list_any (has_parent id) old.nodes
below_lists which f old id = grind (arith, nat_tests, any_agree, any_map, set, set_parent)

-- ---- lists without some documents

-- nothing is left out
pub all_chosen : (rows : Content) (nodes : List Node) → LeavesOut rows nodes nodes
all_chosen rows [] = refl
all_chosen rows (x ∷ xs) = (xs, all_chosen rows xs, inl refl)

-- what is left out of each of two lists is left out of both, one after the other
pub chosen_append : (rows : Content) (nodes more next last : List Node)
    → LeavesOut rows nodes next → LeavesOut rows more last
    → LeavesOut rows (nodes ++ more) (next ++ last)
chosen_append rows [] more next last none rest = grind (arith, nat_tests)
chosen_append rows (x ∷ xs) more next last (front, chosen, how) rest =
    grind (arith, nat_tests, chosen_append rows xs more front last chosen rest)

-- the same in rows where something stands below the same objects
pub chosen_there : (rows now : Content)
    → ((id : ℕ) → list_any (has_parent id) now.nodes ≡ list_any (has_parent id) rows.nodes)
    → (nodes next : List Node) → LeavesOut rows nodes next → LeavesOut now nodes next
chosen_there rows now same [] next chosen = chosen
chosen_there rows now same (x ∷ xs) next (rest, chosen, how) =
    grind (arith, nat_tests, chosen_there rows now same xs rest chosen)

-- no more are left than there were
pub chosen_length : (rows : Content) (nodes next : List Node) → LeavesOut rows nodes next
    → length next ≤ length nodes
chosen_length rows [] next none = let e = ap length none in omega (arith, e)
chosen_length rows (x ∷ xs) next (rest, chosen, how) =
    search (rules, nat_tests, chosen_length rows xs rest chosen)

-- of folders none is left out
pub folders_chosen : (rows : Content) (nodes next : List Node)
    → LeavesOut rows (filter is_folder nodes) next → next ≡ filter is_folder nodes
folders_chosen rows nodes next chosen = search (each_filter, every, none_left)
  where
    every : (xs : List Node) → AllByRecursion (λ n. is_folder n ≡ true → is_folder n ≡ true) xs
    every [] = tt
    every (x ∷ xs) = (λ is. is, every xs)

    none_left : (xs next : List Node) → AllByRecursion (λ n. is_folder n ≡ true) xs → LeavesOut rows xs next
        → next ≡ xs
    none_left [] next all none = none
    none_left (x ∷ xs) next all (rest, chosen, how) =
        let same = none_left xs rest all.1 chosen in
        grind (arith, nat_tests)

-- ---- the objects that wait

each_chosen : (P : Node → Type 0) (rows : Content) (nodes next : List Node)
    → LeavesOut rows nodes next → AllByRecursion P nodes → AllByRecursion P next
each_chosen P rows [] next none all = subst (AllByRecursion P) (sym none) tt
each_chosen P rows (x ∷ xs) next (rest, chosen, how) all =
    search (rules, nat_tests, all, all.1, each_chosen P rows xs rest chosen all.1)

unmet : (id : ℕ) (rows : Content) (nodes next : List Node) → LeavesOut rows nodes next
    → has_id id nodes ≡ false → has_id id next ≡ false
unmet id rows [] next none is = ap (has_id id) none
unmet id rows (x ∷ xs) next (rest, chosen, how) is =
    let parts = or_parts (x.id == id) (has_id id xs) is in
    search (rules, nat_tests, has_id, parts, parts.1, unmet id rows xs rest chosen parts.1)

apart_chosen : (rows : Content) (nodes next : List Node) → LeavesOut rows nodes next → Apart nodes
    → Apart next
apart_chosen rows [] next none apart = subst Apart (sym none) tt
apart_chosen rows (x ∷ xs) next (rest, chosen, how) apart =
    search (rules, nat_tests, unmet, apart, apart.1, apart_chosen rows xs rest chosen apart.1)

-- an object below which something stands still waits
still_waits : (id : ℕ) (rows : Content) (nodes next : List Node) → LeavesOut rows nodes next
    → list_any (has_parent id) rows.nodes ≡ true → has_id id nodes ≡ true → has_id id next ≡ true
still_waits id rows [] next none some is = absurd (false≢true is)
still_waits id rows (x ∷ xs) next (rest, chosen, how) some is =
    elim (or_cases (x.id == id) (has_id id xs) is) [
      | inl here ↦ grind (arith, nat_tests, has_id)
      | inr later ↦
          let few = still_waits id rows xs rest chosen some later in
          grind (arith, nat_tests, has_id)
    ]

module _ (which : Which) (start : ℕ) (old : Content) (f : Node → List Ace) where
  -- documents below which nothing stands needn't wait
  pub frontier_chosen : (nodes next : List Node) → LeavesOut old nodes next
      → Frontier which start old f nodes → Frontier which start old f next
  frontier_chosen nodes next chosen front =
      grind (arith, nat_tests, apart_chosen, each_chosen, found_below, still_waits, unmet)

-- ---- one child

-- one child waits next, or is left out
pub one_chosen : (rows : Content) (d : Descent) (above child : Node) (waits : Bool)
    → TellsWaiting rows d.reach d.which above child waits
    → LeavesOut rows (next_of d.reach d.which above (child ∷ []))
    (cond waits (brought_up d.which above child ∷ []) [])
one_chosen rows d above child waits given =
    grind (arith, nat_tests, all_chosen, same_kind, with_inh-id)
