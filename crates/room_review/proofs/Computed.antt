-- In sound rows, what the stored lists grant is what the lists grant that are computed from the
-- root.
use Rattle.std.proofs.Common.{◌≡◌, ℕ, zero, suc, ◌&&◌, false, List, [], ◌∷◌, map, length, take}
use Rattle.std.proofs.Common.{Option, Some, None, refl, sym, ap, ◌∙◌, arith}
use Rattle.std.{proofs.lemmas.Bool.Decides.nat_tests, specs.Option.{option_map, option_map_or}}
use Rattle.room_entry.specs.declared.parties.Caller.{Caller}
use Rattle.room_rows.specs.{Meaning.meaning, Rows.{AreRows, Rows}, Sound.AreSound}
use Rattle.room_machine.specs.{Judge.passes, Plan.Deletion, Site.{Site, site_at, sites_along}}
use Rattle.room_machine.specs.{Step.caller_in, Stored.stored_along, Rights.{last_of, lets_through}}
use Rattle.room_machine.specs.Rights.{may_remove, may_remove_at, reaches, rights, rights_at}
use Rattle.room_sound.proofs.{Filled.site_filled, Sites.{fill, sites_filled}}
use Rattle.room_sound.proofs.SoundParts.{sound_parts}
use Rattle.room_review.specs.Standing.{granted}

module _ (caller : Caller) where
  same_reach : (sites : List Site) → reaches caller (map fill sites) ≡ reaches caller sites
  same_reach [] = refl
  same_reach (site ∷ sites) = ap (λ b. lets_through caller site && b) (same_reach sites)

  same_last : (sites : List Site) → last_of (map fill sites) ≡ option_map fill (last_of sites)
  same_last [] = refl
  same_last (site ∷ []) = refl
  same_last (site ∷ next ∷ sites) = same_last (next ∷ sites)

  same_pass : (target folder : Site)
      → passes caller (Deletion (fill target) (fill folder)) ≡ passes caller (Deletion target folder)
  same_pass target folder = grind (arith, nat_tests, fill)

  same_grant : (above : List Site) (target : Site)
      → granted caller (map fill above) (fill target) ≡ granted caller above target
  same_grant above target = grind (arith, nat_tests, fill, same_last, same_pass, same_reach)

take_filled : (n : ℕ) (sites : List Site) → take n (map fill sites) ≡ map fill (take n sites)
take_filled zero sites = refl
take_filled (suc n) [] = refl
take_filled (suc n) (site ∷ sites) = ap (λ (l : List Site). fill site ∷ l) (take_filled n sites)

-- the object at a path
pub stored_grants : (rows : Rows) → AreRows rows → AreSound rows → (user : Option (List ℕ))
    (path : List (List ℕ)) (target : Site)
    → site_at (stored_along rows.read path) path ≡ Some target
    → granted (caller_in rows.read user)
    (take (length path) (stored_along rows.read path)) target
    ≡ (rights_at (meaning rows.read) user path, may_remove_at (meaning rows.read) user path)
stored_grants rows are sound user path target found =
    on (site_at sites path) refl
    (sym (site_filled sites path) ∙ ap (λ l. site_at l path) filled ∙ found)
  where
    caller : Caller
    caller = caller_in rows.read user

    sites : List Site
    sites = sites_along (meaning rows.read) path

    filled : map fill sites ≡ stored_along rows.read path
    filled = sites_filled rows are (sound_parts rows sound) path

    on : (o : Option Site) → site_at sites path ≡ o → option_map fill o ≡ Some target
        → granted caller (take (length path) (stored_along rows.read path)) target
        ≡ (rights_at (meaning rows.read) user path, may_remove_at (meaning rows.read) user path)
    on None at is = absurd (let wrong : ⊥ = cc in wrong)
    on (Some site) at is =
        let same : fill site ≡ target = cc in
        ap (granted caller (take (length path) (stored_along rows.read path))) (sym same)
        ∙ ap (λ l. granted caller (take (length path) l) (fill site)) (sym filled)
        ∙ ap (λ l. granted caller l (fill site)) (take_filled (length path) sites)
        ∙ same_grant caller (take (length path) sites) site
        ∙ ap (λ o. (
          option_map_or (rights caller (take (length path) sites)) o [],
          option_map_or (may_remove caller (take (length path) sites)) o false,
        )) (sym at)
