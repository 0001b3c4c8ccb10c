-- Objects that are seen along a path, without their numbers and audits.
use Rattle.std.proofs.Common.{ℕ, ◌≡◌, List, take, refl, ap, map, arith}
use Rattle.std.{proofs.lemmas.Bool.Decides.nat_tests, specs.Option.option_map}
use Rattle.room_rows.specs.{Content.Content, declared.node.Node.Node}
use Rattle.room_machine.specs.Site.{Site, site_below, root_site, sites_along}
use Rattle.room_laws.specs.{Outside.found, WhoChanged.{deciding, deciding_site}}
use Rattle.room_laws.proofs.Seen.{like_along}

-- ---- sites without numbers and audits

-- the same up to numbers
abbrev pub IsLike : Site → Site → Type 0
IsLike s t = deciding_site s ≡ deciding_site t

below_deciding : (site : Site) (node : Node)
    → deciding_site (site_below site node)
    ≡ deciding_site (site_below (deciding_site site) (deciding node))
below_deciding site node = refl

like_below : (s t : Site) (c d : Node) → IsLike s t → deciding c ≡ deciding d
    → IsLike (site_below s c) (site_below t d)
like_below s t c d same nodes = grind (arith, nat_tests, below_deciding)

root_like : (c d : Node) → deciding c ≡ deciding d → IsLike (root_site c) (root_site d)
root_like c d nodes = ap (λ (n : Node). deciding_site (root_site n)) nodes

-- where the same is seen at each part of a path, the same objects are along it
pub deciding_along : (a b : Content) (path : List (List ℕ))
    → ((i : ℕ) → option_map deciding (found a (take i path))
    ≡ option_map deciding (found b (take i path)))
    → map deciding_site (sites_along a path) ≡ map deciding_site (sites_along b path)
deciding_along a b path seen =
    like_along deciding deciding_site root_like like_below a b path seen
