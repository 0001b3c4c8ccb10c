-- Rights at a path follow from the objects down to it.
use Rattle.std.proofs.Common.{ℕ, ◌≡◌, Bool, false, ◌&&◌, List, [], ◌∷◌, length, refl, sym, ap, ◌∙◌}
use Rattle.std.proofs.{Common.{map, take, arith}, lemmas.{List.take-map, Bool.Decides.nat_tests}}
use Rattle.std.specs.Option.{option_map, option_map_or}
use Rattle.room_entry.specs.declared.parties.Caller.{Caller}
use Rattle.room_machine.specs.{Judge.passes, Plan.Deletion, Rights.{rights, may_remove, reaches}}
use Rattle.room_machine.specs.{Rights.{lets_through, last_of}, Site.{Site, site_at, sites_along}}
use Rattle.room_machine.specs.Step.{caller_in}
use Rattle.room_laws.proofs.{PlansAlike.members_same, Seen.map_at}
use Rattle.room_laws.specs.WhoChanged.{deciding_site, RightsFollow}

reaches_same : (caller : Caller) (above : List Site)
    → reaches caller (map deciding_site above) ≡ reaches caller above
reaches_same caller [] = refl
reaches_same caller (s ∷ ss) = ap (λ t. lets_through caller s && t) (reaches_same caller ss)

last_same : (above : List Site) → last_of (map deciding_site above)
    ≡ option_map deciding_site (last_of above)
last_same [] = refl
last_same (s ∷ []) = refl
last_same (s ∷ t ∷ more) = last_same (t ∷ more)

-- the verdict of a removal by what decides it
removal_same : (caller : Caller) (s d : Site)
    → passes caller (Deletion (deciding_site s) (deciding_site d)) ≡ passes caller (Deletion s d)
removal_same caller s d = grind (arith, nat_tests)

-- rights and removal by the objects on the way
abbrev rights_by : Caller → List Site → List (List ℕ) → List ℕ
rights_by caller sites path =
    option_map_or (rights caller (take (length path) sites)) (site_at sites path) []

abbrev removal_by : Caller → List Site → List (List ℕ) → Bool
removal_by caller sites path =
    option_map_or (may_remove caller (take (length path) sites)) (site_at sites path) false

rights_same : (caller : Caller) (sites : List Site) (path : List (List ℕ))
    → rights_by caller (map deciding_site sites) path ≡ rights_by caller sites path
rights_same caller sites path = grind (arith, nat_tests, map_at, reaches_same, take-map)

removals_same : (caller : Caller) (sites : List Site) (path : List (List ℕ))
    → removal_by caller (map deciding_site sites) path ≡ removal_by caller sites path
removals_same caller sites path =
    grind (arith, nat_tests, last_same, map_at, reaches_same, removal_same, take-map)

pub rights_follow : RightsFollow
rights_follow path a b same = record {
  rights = λ user.
      ap (λ c. rights_by c (sites_along a path) path) (members_same a b user same.members)
      ∙ sym (rights_same (caller_in b user) (sites_along a path) path)
      ∙ ap (λ l. rights_by (caller_in b user) l path) same.objects
      ∙ rights_same (caller_in b user) (sites_along b path) path;
  removal = λ user.
      ap (λ c. removal_by c (sites_along a path) path) (members_same a b user same.members)
      ∙ sym (removals_same (caller_in b user) (sites_along a path) path)
      ∙ ap (λ l. removal_by (caller_in b user) l path) same.objects
      ∙ removals_same (caller_in b user) (sites_along b path) path;
}
