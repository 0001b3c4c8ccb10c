-- Objects where a walk finds them: whether a way meets one is seen from paths alone.
use Rattle.std.proofs.Common.{ℕ, ◌==◌, ◌≡◌, Bool, true, List, [], ◌∷◌, Option, Some, refl, map}
use Rattle.std.proofs.{Common.arith, lemmas.Slice.Eq.{slice_eq-Decides, bytes_eq-Decides}}
use Rattle.std.{proofs.lemmas.Bool.Decides.nat_tests, specs.Cmp.Lexicographic.pointwise}
use Rattle.std.specs.{List.{list_any, AllByRecursion}, Option.option_map_or}
use Rattle.room_entry.{specs.Pieces.same_text, proofs.Facts.Booleans.same_truth}
use Rattle.room_entry.proofs.Facts.Members.{any_agree, any_map}
use Rattle.room_rows.specs.{Content.{Content, child_of}, declared.node.Node.Node}
use Rattle.room_rows.proofs.Frames.{child_of-name}
use Rattle.room_machine.specs.{Plan.way, Site.{Site, site_below, sites_along}}
use Rattle.room_laws.{specs.{Outside.found, Tidy.IsNumbered}, proofs.OnePlace.found_snoc}
use Rattle.room_laws.proofs.{OnePlace.one_place, Seen.{along_from, blank, sites_from}}

-- each stands where its path says
abbrev IsPlaced : Content → Site → Type 0
IsPlaced content site = found content site.path ≡ Some site.node

placed_from : (content : Content) (site : Site) (names : List (List ℕ)) → IsPlaced content site
    → AllByRecursion (IsPlaced content) (sites_from content site names)
placed_from content site [] placed = (placed, tt)
placed_from content site (name ∷ names) placed = (
  placed,
  on (child_of content site.node.id name) refl
      (λ child at. placed_from content (site_below site child) names at),
)
  where
    on : (o : Option Node) → child_of content site.node.id name ≡ o
        → ((child : Node) → IsPlaced content (site_below site child)
        → AllByRecursion (IsPlaced content) (sites_from content (site_below site child) names))
        → AllByRecursion (IsPlaced content)
        (option_map_or (λ child. sites_from content (site_below site child) names) o [])
    on o is more = grind (arith, nat_tests, child_of-name, found_snoc)

all_placed : (content : Content) (path : List (List ℕ))
    → AllByRecursion (IsPlaced content) (sites_along content path)
all_placed content path = grind (arith, nat_tests, along_from, placed_from, sites_from)

abbrev pub same_names : List (List ℕ) → List (List ℕ) → Bool
same_names p q = pointwise same_text p q

pub names_decide : (p q : List (List ℕ)) → (same_names p q ≡ true → p ≡ q)
    × (p ≡ q → same_names p q ≡ true)
names_decide p q = slice_eq-Decides bytes_eq-Decides p q (pointwise same_text p q) refl

-- objects of one number stand at one path
same_number : (content : Content) → IsNumbered content → (path : List (List ℕ)) (node : Node)
    → found content path ≡ Some node → (site : Site) → IsPlaced content site
    → (site.node.id == node.id) ≡ same_names site.path path
same_number content numbered path node there site placed =
    grind (arith, nat_tests, names_decide, one_place, same_truth)

each_same : (P : Site → Type 0) (p q : Site → Bool) → ((s : Site) → P s → p s ≡ q s)
    → (sites : List Site) → AllByRecursion P sites → AllByRecursion (λ s. p s ≡ q s) sites
each_same P p q same [] all = tt
each_same P p q same (s ∷ ss) all = (same s all.0, each_same P p q same ss all.1)

-- whether a way meets an object is seen from paths alone
pub meets : (content : Content) → IsNumbered content → (path : List (List ℕ)) (node : Node)
    → found content path ≡ Some node → (way : List (List ℕ))
    → list_any (λ (s : Site). s.node.id == node.id) (sites_along content way)
    ≡ list_any (λ (s : Site). same_names s.path path) (map blank (sites_along content way))
meets content numbered path node there way =
    grind (arith, nat_tests, all_placed, any_agree, any_map, blank, each_same, same_number)
