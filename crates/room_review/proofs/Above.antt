-- All callers at the objects on a way, one after the other.
use Rattle.std.proofs.Common.{rules, ◌≡◌, ℕ, zero, suc, ◌+◌, ◌<◌, List, [], ◌∷◌, ◌++◌, map, length}
use Rattle.std.proofs.Common.{take, Some, refl, sym, ap, subst, ◌∙◌, append_assoc, arith, get_or}
use Rattle.std.proofs.lemmas.{List.append-nil, Bool.Decides.nat_tests}
use Rattle.std.specs.{Prelude.{◌-◌, slice_get}, List.AllByRecursion as Each}
use Rattle.room_rows.specs.declared.node.Node.{Node}
use Rattle.room_machine.specs.{Site.Site, Stored.stored_site}
use Rattle.room_review.specs.declared.{parties.Party.Party, standing.Standing.Standing}
use Rattle.room_review.specs.{Standing.{folder_standings, standings}, Telling.{AreOn, along}}
use Rattle.room_review.proofs.Ending.{IsStored, before_after, last_after}

abbrev nodes_at : List Site → List Node
nodes_at sites = map (λ (s : Site). s.node) sites

less_one : (n m : ℕ) → suc n < suc m → n < m
less_one n m e = omega (arith, e)

-- one more object
one_more : (sites : List Site) (i : ℕ) (node : Node) → Each IsStored sites
    → i < length (nodes_at sites) → node ≡ get_or (nodes_at sites) i node
    → (path : List (List ℕ)) × (take (suc i) sites ≡ take i sites ++ stored_site path node ∷ [])
one_more [] i node stored below is = absurd (let wrong : ⊥ = omega (arith, below) in wrong)
one_more (site ∷ sites) zero node stored below is =
    (site.path, ap (λ (s : Site). s ∷ []) (stored.0 ∙ ap (stored_site site.path) (sym is)))
one_more (site ∷ sites) (suc i) node stored below is =
    let more = one_more sites i node stored.1 (less_one i (length (nodes_at sites)) below) is in
    (more.0, ap (λ (l : List Site). site ∷ l) more.1)

-- all callers at the last one
pub folder_last : (parties : List Party) (above : List Site) (site : Site)
    → folder_standings parties (above ++ site ∷ []) ≡ Some (standings parties above site)
folder_last parties above site = grind (arith, nat_tests, before_after, last_after)

next_is : (i : ℕ) → i + 1 ≡ suc i
next_is i = omega arith

-- ---- one after the other

pub along_on : (parties : List Party) (before sites : List Site) (site : Site)
    → along parties before (sites ++ site ∷ [])
    ≡ along parties before sites ++ standings parties (before ++ sites) site ∷ []
along_on parties before [] site =
    ap (λ (l : List Site). standings parties l site ∷ []) (sym (append-nil before))
along_on parties before (first ∷ sites) site =
    ap (λ (l : List (List Standing)). standings parties before first ∷ l)
    (along_on parties (before ++ first ∷ []) sites site
    ∙ ap (λ (l : List Site).
    along parties (before ++ first ∷ []) sites ++ standings parties l site ∷ [])
    (append_assoc before (first ∷ []) sites))

length_along : (parties : List Party) (before sites : List Site)
    → length (along parties before sites) ≡ length sites
length_along parties before [] = refl
length_along parties before (site ∷ sites) =
    ap (λ (n : ℕ). suc n) (length_along parties (before ++ site ∷ []) sites)

last_from : (parties : List Party) (before : List Site) (site : Site) (sites : List Site)
    → slice_get (along parties before (site ∷ sites)) (length sites)
    ≡ folder_standings parties (before ++ site ∷ sites)
last_from parties before site [] = sym (folder_last parties before site)
last_from parties before site (next ∷ sites) =
    last_from parties (before ++ site ∷ []) next sites
    ∙ ap (folder_standings parties) (append_assoc before (site ∷ []) (next ∷ sites))

one_back : (n m : ℕ) → n ≡ m → suc n - 1 ≡ m
one_back n m is = omega (arith, is)

-- the last one
pub last_along : (parties : List Party) (sites : List Site) (way : List (List Standing))
    → way ≡ along parties [] sites
    → slice_get way (length way - 1) ≡ folder_standings parties sites
last_along parties [] way is = ap (λ (l : List (List Standing)). slice_get l (length l - 1)) is
last_along parties (site ∷ sites) way is =
    ap (λ (l : List (List Standing)). slice_get l (length l - 1)) is
    ∙ ap (slice_get (along parties [] (site ∷ sites))) (search (rules, one_back, length_along))
    ∙ last_from parties [] site sites

-- and the next object on the way
pub along_next : (parties : List Party) (above : List Node) (sites : List Site) (i : ℕ)
    (node : Node) (way : List (List Standing)) (next : List Standing) → AreOn above sites
    → i < length above → node ≡ get_or above i node → way ≡ along parties [] (take i sites)
    → ((path : List (List ℕ)) → next ≡ standings parties (take i sites) (stored_site path node))
    → way ++ next ∷ [] ≡ along parties [] (take (i + 1) sites)
along_next parties above sites i node way next on below is same given =
    let more = one_more sites i node on.1
    (subst (λ (l : List Node). i < length l) on.0 below)
    (is ∙ ap (λ (l : List Node). get_or l i node) on.0) in
    search (rules, same, given, more.0, along_on, node, more.1, next_is)
