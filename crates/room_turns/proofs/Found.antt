-- One caller at an object, by the same caller at the folder, and earlier at the object.
use Rattle.std.proofs.Common.{◌≡◌, ℕ, ◌&&◌, Bool, true, false, List, [], map, Option, Some, None}
use Rattle.std.proofs.{Common.{refl, sym, ap, ◌∙◌}, Math.Bool.and-false}
use Rattle.std.specs.{Prelude.if◌then◌else◌, Option.{option_map, option_map_or}}
use Rattle.room_entry.specs.{Pieces.is_among, declared.parties.Caller.Caller}
use Rattle.room_rows.specs.declared.node.Node.{Node}
use Rattle.room_machine.specs.{Site.Site, Stored.stored_site, Rights.last_of}
use Rattle.room_review.specs.{Standing.{before_last, standing}, Table.Place}
use Rattle.room_turns.specs.Turns.{View, claimed, found_by, follows_clear, is_said, says_alike}
use Rattle.room_turns.specs.{Turns.turn_at, Stands.{grant_of, granted_by, stand_of, standing_to}}
use Rattle.room_turns.{specs.{Stands.turn_of, declared.spot.Stand.Stand}, proofs.Behind.before_map}
use Rattle.room_turns.proofs.Behind.{last_map, map_twice}

-- ---- the caller at an object

module _ (own : List ℕ) (caller : Caller) where
  abbrev found : Site → Site
  found site = found_by own caller site

  -- at the folder, as the caller finds it
  pub folder_found : (above : List Site)
      → option_map (standing_to own caller (before_last above)) (last_of above)
      ≡ option_map (standing caller (before_last (map found above))) (last_of (map found above))
  folder_found above =
      ap (λ (sites : List Site). option_map (λ site. standing caller sites (found site))
      (last_of above)) (sym (before_map found above))
      ∙ sym (map_twice found (standing caller (before_last (map found above))) (last_of above))
      ∙ ap (option_map (standing caller (before_last (map found above))))
      (sym (last_map found above))

  module _ (above : List Site) (path : List (List ℕ)) (node : Node) where
    -- an object that it would have made itself
    pub claimed_standing : true ≡ is_among own node.id
        → standing caller (map found above) (stored_site path (claimed caller node))
        ≡ standing_to own caller above (stored_site path node)
    claimed_standing is =
        ap (λ t. standing caller (map found above)
        (stored_site path (if t then claimed caller node else node))) is

    -- another one
    pub kept_standing : false ≡ is_among own node.id
        → standing caller (map found above) (stored_site path node)
        ≡ standing_to own caller above (stored_site path node)
    kept_standing is =
        ap (λ t. standing caller (map found above)
        (stored_site path (if t then claimed caller node else node))) is

-- ---- beside the earlier state

module _ (view : View) (caller : Caller) (above : List Site) (target : Site) where
  -- what the caller could do
  pub had_is : (stand : Option Stand)
      → option_map grant_of stand
      ≡ option_map (granted_by view.own caller) (view.earlier target.node.id)
      → (
        option_map_or (λ (s : Stand). s.standing.rights) stand [],
        option_map_or (λ (s : Stand). s.standing.remove) stand false,
      ) ≡ (turn_at view caller above target).had
  had_is stand is = on stand (view.earlier target.node.id) is
    where
      on : (stand : Option Stand) (o : Option (Place × Node))
          → option_map grant_of stand ≡ option_map (granted_by view.own caller) o
          → (
            option_map_or (λ (s : Stand). s.standing.rights) stand [],
            option_map_or (λ (s : Stand). s.standing.remove) stand false,
          ) ≡ option_map_or (granted_by view.own caller) o ([], false)
      on None None is = refl
      on None (Some object) is = absurd (let wrong : ⊥ = cc in wrong)
      on (Some s) None is = absurd (let wrong : ⊥ = cc in wrong)
      on (Some s) (Some object) is =
          ap (λ (o : Option (List ℕ × Bool)). option_map_or (λ grant. grant) o ([], false)) is

  -- whether the folder's row says it already
  pub said_is : (follows looks : Bool) (folder : Option Stand) (stand : Stand)
      → follows ≡ follows_clear view above → looks ≡ view.looks
      → folder ≡ option_map (stand_of view caller (before_last above)) (last_of above)
      → turn_of stand ≡ turn_at view caller above target
      → (follows && option_map_or (λ (f : Stand). says_alike looks (turn_of stand) (turn_of f))
      folder false)
      ≡ is_said view caller above target
  said_is follows looks folder stand clear same at turns =
      (λ i. clear i && option_map_or (λ (f : Stand). says_alike (same i) (turns i) (turn_of f))
      (at i) false)
      ∙ on (last_of above)
    where
      on : (o : Option Site)
          → (follows_clear view above && option_map_or (λ (f : Stand). says_alike view.looks
          (turn_at view caller above target) (turn_of f))
          (option_map (stand_of view caller (before_last above)) o) false)
          ≡ option_map_or (λ folder. follows_clear view above && says_alike view.looks
          (turn_at view caller above target) (turn_at view caller (before_last above) folder))
          o false
      on None = and-false (follows_clear view above)
      on (Some site) = refl
