-- Names that nothing on a way knows have the same rights at its end.
use Rattle.std.proofs.Common.{rules, ℕ, zero, suc, ◌≡◌, ◌+◌, ◌&&◌, Bool, true, false, cond, not}
use Rattle.std.proofs.Common.{List, [], ◌∷◌, filter, length, take, Option, Some, None, refl, sym}
use Rattle.std.proofs.{Common.{ap, subst, ◌∙◌, arith}, lemmas.Bool.{false≢true, or_parts}}
use Rattle.std.proofs.lemmas.Bool.Decides.{nat_tests}
use Rattle.std.specs.{List.{list_all, list_any}, Option.option_map_or}
use Rattle.room_entry.specs.{Ace.Ace, Matching.is_named, Pieces.same_text, Rights.execute}
use Rattle.room_entry.specs.declared.entry.Who.{Who, TheVariants.{Owner, Group, Everyone}}
use Rattle.room_entry.specs.declared.entry.Who.TheVariants.{Anonymous, Authenticated, User, Members}
use Rattle.room_entry.specs.declared.{object.Which.TheVariants.Dacl, parties.Caller.Caller}
use Rattle.room_entry.specs.declared.parties.Owners.{Owners}
use Rattle.room_eval.specs.Verdict.{is_allowed, ruling_from, ruling_of}
use Rattle.room_rows.specs.Content.{Content, is_folder}
use Rattle.room_machine.specs.{Site.{Site, full_at, site_at, sites_along}, Judge.passes}
use Rattle.room_machine.specs.{Plan.Deletion, Step.caller_in, Rights.{grants, last_of, may_remove}}
use Rattle.room_machine.specs.Rights.{reaches, rights, sites_above}
use Rattle.room_review.specs.Laws.{IsStranger, StrangersAlike, is_known_at, is_paired}
use Rattle.room_review.specs.Laws.{is_user_named}

pub is_not : (t : Bool) → not t ≡ true → t ≡ false
is_not true wrong = absurd (false≢true wrong)
is_not false is = refl

none_chosen : {A : Type 0} (p : A → Bool) (xs : List A) → list_any p xs ≡ false → filter p xs ≡ []
none_chosen p [] none = refl
none_chosen p (x ∷ xs) none =
    let parts = or_parts (p x) (list_any p xs) none in
    ap (λ t. cond t (x ∷ filter p xs) (filter p xs)) parts.0 ∙ none_chosen p xs parts.1

-- ---- a caller in no group

abbrev pub alone : List ℕ → Caller
alone name = record { user = Some name; groups = [] }

pub is_alone : (content : Content) (name : List ℕ) → is_paired content name ≡ false
    → caller_in content (Some name) ≡ alone name
is_alone content name none = grind (arith, nat_tests, none_chosen)

module _ (a b : List ℕ) where
  module _ (owners : Owners) (one : same_text a owners.owner ≡ false)
      (two : same_text b owners.owner ≡ false) where
    named : (who : Who) → is_user_named a who ≡ false → is_user_named b who ≡ false
        → is_named who (alone a) owners ≡ is_named who (alone b) owners
    named Owner first second = one ∙ sym two
    named Group first second = refl
    named Everyone first second = refl
    named Anonymous first second = refl
    named Authenticated first second = refl
    named (User name) first second = first ∙ sym second
    named (Members group) first second = refl

    same_ruling : (place : ℕ) (entries : List Ace)
        → list_any (λ entry. is_user_named a entry.who) entries ≡ false
        → list_any (λ entry. is_user_named b entry.who) entries ≡ false → (bit : ℕ)
        → ruling_from place entries (alone a) owners bit
        ≡ ruling_from place entries (alone b) owners bit
    same_ruling place [] first second bit = refl
    same_ruling place (entry ∷ entries) first second bit =
        let here = or_parts (is_user_named a entry.who)
        (list_any (λ e. is_user_named a e.who) entries) first in
        let there = or_parts (is_user_named b entry.who)
        (list_any (λ e. is_user_named b e.who) entries) second in
        let matched = named entry.who here.0 there.0 in
        let rest = same_ruling (place + 1) entries here.1 there.1 bit in
        search (rules, matched, rest)

  -- neither name is known at the site
  abbrev pub IsUnknown : Site → Type 0
  IsUnknown site = (is_known_at a site ≡ false) × (is_known_at b site ≡ false)

  pub rulings : (site : Site) → IsUnknown site → (bit : ℕ)
      → ruling_of (full_at Dacl site) (alone a) site.node.owners bit
      ≡ ruling_of (full_at Dacl site) (alone b) site.node.owners bit
  rulings site unknown bit = grind (arith, nat_tests, same_ruling)

  pub granted : (site : Site) → IsUnknown site → (right : ℕ)
      → grants (alone a) right site ≡ grants (alone b) right site
  granted site unknown right = ap is_allowed (rulings site unknown right)

  pub deleted : (target folder : Site) → IsUnknown target → IsUnknown folder
      → passes (alone a) (Deletion target folder) ≡ passes (alone b) (Deletion target folder)
  deleted target folder at above = grind (arith, nat_tests, rulings)

  -- ---- along a way

  abbrev pub are_unknown : List Site → Type 0
  are_unknown sites =
      (list_all (λ site. not (is_known_at a site)) sites ≡ true)
      × (list_all (λ site. not (is_known_at b site)) sites ≡ true)

  pub first_unknown : (site : Site) (sites : List Site) → are_unknown (site ∷ sites)
      → IsUnknown site
  first_unknown site sites all = grind (arith, nat_tests, is_not)

  pub others_unknown : (site : Site) (sites : List Site) → are_unknown (site ∷ sites)
      → are_unknown sites
  others_unknown site sites all = grind (arith, nat_tests)

  pub same_reach : (n : ℕ) (sites : List Site) → are_unknown sites
      → reaches (alone a) (take n sites) ≡ reaches (alone b) (take n sites)
  same_reach zero sites all = refl
  same_reach (suc n) [] all = refl
  same_reach (suc n) (site ∷ sites) all =
      let here = granted site (first_unknown site sites all) execute in
      let rest = same_reach n sites (others_unknown site sites all) in
      λ i. (is_folder site.node && here i) && rest i

  pub at_unknown : (sites : List Site) (names : List (List ℕ)) (target : Site) → are_unknown sites
      → site_at sites names ≡ Some target → IsUnknown target
  at_unknown [] names target all found = absurd (let wrong : ⊥ = cc in wrong)
  at_unknown (site ∷ sites) [] target all found =
      subst IsUnknown (ap (λ o. option_map_or (λ s. s) o site) found) (first_unknown site sites all)
  at_unknown (site ∷ sites) (name ∷ names) target all found =
      at_unknown sites names target (others_unknown site sites all) found

  pub last_unknown : (n : ℕ) (sites : List Site) (folder : Site) → are_unknown sites
      → last_of (take n sites) ≡ Some folder → IsUnknown folder
  last_unknown zero sites folder all found = absurd (let wrong : ⊥ = cc in wrong)
  last_unknown (suc n) [] folder all found = absurd (let wrong : ⊥ = cc in wrong)
  last_unknown (suc zero) (site ∷ sites) folder all found =
      subst IsUnknown (ap (λ o. option_map_or (λ s. s) o site) found) (first_unknown site sites all)
  last_unknown (suc (suc n)) (site ∷ []) folder all found =
      subst IsUnknown (ap (λ o. option_map_or (λ s. s) o site) found) (first_unknown site [] all)
  last_unknown (suc (suc n)) (site ∷ other ∷ sites) folder all found =
      last_unknown (suc n) (other ∷ sites) folder (others_unknown site (other ∷ sites) all) found

  -- ---- at a path

  module _ (content : Content) (path : List (List ℕ)) (first : IsStranger content path a)
      (second : IsStranger content path b) where
    abbrev sites : List Site
    sites = sites_along content path

    abbrev above : List Site
    above = sites_above content path

    all_unknown : are_unknown sites
    all_unknown = (first.1, second.1)

    same_way : reaches (alone a) above ≡ reaches (alone b) above
    same_way = same_reach (length path) sites all_unknown

    same_rights : (o : Option Site) → site_at sites path ≡ o
        → option_map_or (rights (alone a) above) o [] ≡ option_map_or (rights (alone b) above) o []
    same_rights None none = refl
    same_rights (Some target) found =
        search (rules, granted, at_unknown, all_unknown, found, same_way)

    same_removal : (target : Site) → IsUnknown target → (o : Option Site) → last_of above ≡ o
        → option_map_or (λ folder. passes (alone a) (Deletion target folder)) o false
        ≡ option_map_or (λ folder. passes (alone b) (Deletion target folder)) o false
    same_removal target at None none = refl
    same_removal target at (Some folder) last =
        deleted target folder at (last_unknown (length path) sites folder all_unknown last)

    same_remove : (o : Option Site) → site_at sites path ≡ o
        → option_map_or (may_remove (alone a) above) o false
        ≡ option_map_or (may_remove (alone b) above) o false
    same_remove None none = refl
    same_remove (Some target) found =
        let rule = same_removal target (at_unknown sites path target all_unknown found)
        (last_of above) refl in
        λ i. same_way i && rule i

pub strangers_alike : StrangersAlike
strangers_alike content path a b first second =
    search (rules, is_alone, content, is_not, first.0, second.0, same_rights, second, same_remove)
