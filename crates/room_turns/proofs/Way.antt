-- All callers at the objects on a way, one after the other.
use Rattle.std.proofs.Common.{◌≡◌, ℕ, zero, suc, ◌+◌, ◌<◌, List, [], ◌∷◌, ◌++◌, length, take}
use Rattle.std.proofs.Common.{Some, refl, sym, ap, ◌∙◌, append_assoc, arith, get_or}
use Rattle.std.{proofs.lemmas.List.append-nil, specs.Prelude.{◌-◌, Option, slice_get}}
use Rattle.std.specs.{List.AllByRecursion as Each, Option.option_map}
use Rattle.std.proofs.lemmas.List.{get_or-map, length-map, take_more}
use Rattle.room_rows.specs.declared.node.Node.{Node}
use Rattle.room_machine.specs.{Site.Site, Stored.stored_site, Rights.last_of}
use Rattle.room_review.specs.{declared.parties.Party.Party, Standing.before_last, Telling.AreOn}
use Rattle.room_review.proofs.Ending.{IsStored, before_after, last_after}
use Rattle.room_turns.specs.{Turns.View, Stands.{along, spot_of}, declared.spot.Spot.Spot}

-- an object on a way is found as its list is stored
stored_at : (sites : List Site) (i : ℕ) (site : Site) → Each IsStored sites → IsStored site
    → IsStored (get_or sites i site)
stored_at [] i site all is = is
stored_at (first ∷ sites) zero site all is = all.0
stored_at (first ∷ sites) (suc i) site all is = stored_at sites i site all.1 is

module _ (view : View) (parties : List Party) where
  -- all callers at the last of these
  abbrev pub folder_of : List Site → Option Spot
  folder_of above = option_map (spot_of view parties (before_last above)) (last_of above)

  folder_last : (above : List Site) (site : Site)
      → folder_of (above ++ site ∷ []) ≡ Some (spot_of view parties above site)
  folder_last above site =
      (λ i. option_map (spot_of view parties (before_after above site i)) (last_after above site i))

  pub along_on : (before sites : List Site) (site : Site)
      → along view parties before (sites ++ site ∷ [])
      ≡ along view parties before sites ++ spot_of view parties (before ++ sites) site ∷ []
  along_on before [] site =
      ap (λ (l : List Site). spot_of view parties l site ∷ []) (sym (append-nil before))
  along_on before (first ∷ sites) site =
      ap (λ (l : List Spot). spot_of view parties before first ∷ l)
      (along_on (before ++ first ∷ []) sites site
      ∙ ap (λ (l : List Site). along view parties (before ++ first ∷ []) sites
      ++ spot_of view parties l site ∷ [])
      (append_assoc before (first ∷ []) sites))

  length_along : (before sites : List Site)
      → length (along view parties before sites) ≡ length sites
  length_along before [] = refl
  length_along before (site ∷ sites) =
      ap (λ (n : ℕ). suc n) (length_along (before ++ site ∷ []) sites)

  last_from : (before : List Site) (site : Site) (sites : List Site)
      → slice_get (along view parties before (site ∷ sites)) (length sites)
      ≡ folder_of (before ++ site ∷ sites)
  last_from before site [] = sym (folder_last before site)
  last_from before site (next ∷ sites) =
      last_from (before ++ site ∷ []) next sites
      ∙ ap folder_of (append_assoc before (site ∷ []) (next ∷ sites))

  -- the last one
  pub last_along : (sites : List Site) (way : List Spot) → way ≡ along view parties [] sites
      → slice_get way (length way - 1) ≡ folder_of sites
  last_along [] way is = ap (λ (l : List Spot). slice_get l (length l - 1)) is
  last_along (site ∷ sites) way is =
      ap (λ (l : List Spot). slice_get l (length l - 1)) is
      ∙ ap (slice_get (along view parties [] (site ∷ sites)))
      (let many = length_along (site ∷ []) sites in omega (arith, many))
      ∙ last_from [] site sites

  -- and the next object on the way
  pub along_next : (above : List Node) (sites : List Site) (i : ℕ) (node : Node)
      (way : List Spot) (next : Spot) → AreOn above sites → i < length above
      → node ≡ get_or above i node → way ≡ along view parties [] (take i sites)
      → ((path : List (List ℕ))
      → next ≡ spot_of view parties (take i sites) (stored_site path node))
      → way ++ next ∷ [] ≡ along view parties [] (take (i + 1) sites)
  along_next above sites i node way next on below is same given =
      let many : length above ≡ length sites =
      ap length on.0 ∙ length-map sites (λ (s : Site). s.node) in
      let short : i < length sites = omega (arith, below, many) in
      let other = stored_site [] node in
      let site = get_or sites i other in
      let nodes : node ≡ site.node =
      is ∙ ap (λ (l : List Node). get_or l i node) on.0
      ∙ get_or-map (λ (s : Site). s.node) sites i other node short in
      let same_site : stored_site site.path node ≡ site =
      ap (stored_site site.path) nodes ∙ sym (stored_at sites i other on.1 refl) in
      (λ j. same j ++ given site.path j ∷ [])
      ∙ sym (along_on [] (take i sites) (stored_site site.path node))
      ∙ ap (λ (s : Site). along view parties [] (take i sites ++ s ∷ [])) same_site
      ∙ ap (along view parties []) (sym (take_more sites i other short))

  -- the first of them
  pub along_front : (n : ℕ) (before sites : List Site)
      → take n (along view parties before sites) ≡ along view parties before (take n sites)
  along_front zero before sites = refl
  along_front (suc n) before [] = refl
  along_front (suc n) before (site ∷ sites) =
      ap (λ (l : List Spot). spot_of view parties before site ∷ l)
      (along_front n (before ++ site ∷ []) sites)
