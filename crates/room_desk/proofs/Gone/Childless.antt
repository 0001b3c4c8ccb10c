-- Objects without children, and lists of objects without one of them.
use Rattle.std.proofs.Common.{◌≡◌, ℕ, ◌==◌, Bool, true, false, not, List, [], ◌∷◌, map, filter}
use Rattle.std.proofs.{Common.{Some, None, refl, arith}, lemmas.Bool.Decides.nat_tests}
use Rattle.std.specs.{List.{find, AllByRecursion}, Option.option_map_or}
use Rattle.room_rows.specs.{declared.node.Node.Node, Content.{Content, body_at, children_of}}
use Rattle.room_rows.specs.{Content.{has_parent, sorted_by_name}, Finding.find_id}
use Rattle.room_rows.{specs.Sound.has_sound_lists, proofs.Lookups.put_is_some}

-- ---- objects without children

none_sorted : (nodes : List Node) → sorted_by_name nodes ≡ [] → nodes ≡ []
none_sorted [] none = refl
none_sorted (x ∷ xs) none = let some = put_is_some x (sorted_by_name xs) in grind arith

none_chosen : (p : Node → Bool) (nodes : List Node) → filter p nodes ≡ []
    → AllByRecursion (λ n. p n ≡ false) nodes
none_chosen p [] none = tt
none_chosen p (x ∷ xs) none = (grind arith, none_chosen p xs (grind arith))

-- no object stands below it
pub childless : (content : Content) (id : ℕ) → children_of content id ≡ []
    → AllByRecursion (λ n. has_parent id n ≡ false) content.nodes
childless content id none = none_chosen _ content.nodes (none_sorted _ none)

-- ---- lists without an object

pub each_both : (P Q : Node → Type 0) (nodes : List Node) → AllByRecursion P nodes
    → AllByRecursion Q nodes → AllByRecursion (λ n. P n × Q n) nodes
each_both P Q [] first second = tt
each_both P Q (x ∷ xs) first second = ((first.0, second.0), each_both P Q xs first.1 second.1)

-- what passes one test passes another
pub still_pass : (test other : Node → Bool) (P : Node → Type 0)
    → ((n : Node) → P n → test n ≡ true → other n ≡ true) → (nodes : List Node)
    → AllByRecursion P nodes → find (λ n. not (test n)) nodes ≡ None
    → find (λ n. not (other n)) nodes ≡ None
still_pass test other P next [] each none = refl
still_pass test other P next (x ∷ xs) each none =
    grind (arith, next x each.0, still_pass test other P next xs each.1)

pub map_kept : (f : Node → Node) (keep : Node → Bool) → ((n : Node) → keep (f n) ≡ keep n)
    → (nodes : List Node) → filter keep (map f nodes) ≡ map f (filter keep nodes)
map_kept f keep same [] = refl
map_kept f keep same (x ∷ xs) = grind (arith, same x, map_kept f keep same xs)

-- those that are chosen are all kept
pub chosen_kept : (p keep : Node → Bool) (nodes : List Node)
    → AllByRecursion (λ n. p n ≡ true → keep n ≡ true) nodes
    → filter p (filter keep nodes) ≡ filter p nodes
chosen_kept p keep [] each = refl
chosen_kept p keep (x ∷ xs) each = grind (arith, each.0, chosen_kept p keep xs each.1)

-- the bytes of others stay
pub body_kept : (id other : ℕ) → (other ≡ id → ⊥) → (bodies : List (ℕ × List ℕ))
    → body_at (filter (λ row. not (row.0 == id)) bodies) other ≡ body_at bodies other
body_kept id other isnt [] = refl
body_kept id other isnt (row ∷ rows) = grind (arith, nat_tests, body_kept id other isnt rows)

-- ---- the lists by their objects

module _ (all : List Node) where
  abbrev pub bad_at : ℕ → Bool
  bad_at x = option_map_or (λ (n : Node). not (has_sound_lists n)) (find_id x all) false

  pub by_objects : (nodes : List Node) → AllByRecursion (λ n. find_id n.id all ≡ Some n) nodes
      → find (λ n. not (has_sound_lists n)) nodes ≡ None
      → find bad_at (map (λ (n : Node). n.id) nodes) ≡ None
  by_objects [] each none = refl
  by_objects (x ∷ xs) each none = grind (arith, each.0, by_objects xs each.1)

  pub of_objects : (nodes : List Node) → AllByRecursion (λ n. find_id n.id all ≡ Some n) nodes
      → find bad_at (map (λ (n : Node). n.id) nodes) ≡ None
      → find (λ n. not (has_sound_lists n)) nodes ≡ None
  of_objects [] each none = refl
  of_objects (x ∷ xs) each none = grind (arith, each.0, of_objects xs each.1)
