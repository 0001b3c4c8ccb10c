-- Where nothing is changed, the rows are those of a review.
use Rattle.std.proofs.Common.{◌≡◌, ℕ, ◌&&◌, Bool, true, false, cond, not, List, [], map, length}
use Rattle.std.proofs.{Common.{take, Option, Some, None, refl, sym, ap, ◌∙◌}, Math.Bool.and-false}
use Rattle.std.{proofs.lemmas.List.take-map, specs.Option.option_map_or}
use Rattle.room_entry.specs.{Pieces.same_text, declared.parties.Caller.Caller}
use Rattle.room_entry.proofs.Facts.Members.{each_weaker}
use Rattle.room_rows.specs.{declared.node.Node.Node, Rows.Rows}
use Rattle.room_machine.specs.{Site.Site, Stored.stored_along, Rights.last_of}
use Rattle.room_change.specs.Changes.{says_same}
use Rattle.room_review.specs.Standing.{before_last, granted, repeats, same_answer, same_grant}
use Rattle.room_review.{specs.Table.{Place, site_of}, proofs.Visited.Stands}
use Rattle.room_turns.specs.{Laws.LookIsTheReview, Turns.{View, follows_clear, granted_to, is_said}}
use Rattle.room_turns.specs.Turns.{objects_from, says_alike, turn_at, view_of}
use Rattle.room_turns.proofs.{Behind.{before_map, last_map, or_mapped}, Reviewed.{all_stand, found}}
use Rattle.room_turns.proofs.Reviewed.{found_along}

same_flags : (a b : Bool) → cond a b (not b) ≡ same_answer a b
same_flags true b = refl
same_flags false b = refl

same_said : (a b : List ℕ × Bool) → says_same a b ≡ same_grant a b
same_said a b = ap (λ t. same_text a.0 b.0 && t) (same_flags a.1 b.1)

-- what holds before each holds before all
pulled : {A : Type 0} (t : Bool) (p : A → Bool) (o : Option A)
    → option_map_or (λ x. t && p x) o false ≡ (t && option_map_or p o false)
pulled t p None = sym (and-false t)
pulled t p (Some x) = refl

module _ (view : View) (none : view.own ≡ []) (looks : view.looks ≡ true) (caller : Caller)
    (above : List Site) (target : Site) (kept : map (found caller) above ≡ above)
    (same : found caller target ≡ target) where
  has_is : (turn_at view caller above target).has ≡ granted caller above target
  has_is =
      ap (λ (own : List ℕ). granted_to own caller above target) none
      ∙ (λ i. granted caller (kept i) (same i))

  said_is : is_said view caller above target
      ≡ (follows_clear view above && repeats caller above target)
  said_is =
      let clear = follows_clear view above in
      let f = found caller in
      let here = granted caller above target in
      (λ i. option_map_or (λ folder. clear && says_alike (looks i)
      (turn_at view caller above target) (turn_at view caller (before_last above) folder))
      (last_of above) false)
      ∙ (λ i. option_map_or (λ folder. clear && says_same (has_is i)
      (granted_to (none i) caller (before_last above) folder)) (last_of above) false)
      ∙ pulled clear (λ folder.
      says_same here (granted caller (map f (before_last above)) (f folder))) (last_of above)
      ∙ ap (λ t. clear && t)
      (ap (λ (sites : List Site). option_map_or (λ folder.
      says_same here (granted caller sites (f folder))) (last_of above) false)
      (sym (before_map f above))
      ∙ sym (or_mapped f (λ folder.
      says_same here (granted caller (before_last (map f above)) folder)) false (last_of above))
      ∙ ap (λ (o : Option Site). option_map_or (λ folder.
      says_same here (granted caller (before_last (map f above)) folder)) o false)
      (sym (last_map f above))
      ∙ ap (λ (sites : List Site). option_map_or (λ folder.
      says_same here (granted caller (before_last sites) folder)) (last_of sites) false) kept
      ∙ (λ i. option_map_or (λ folder.
      same_said here (granted caller (before_last above) folder) i) (last_of above) false))

-- the objects on the way are found as they are
kept_above : (rows : Rows) (caller : Caller) (place : Place) (node : Node)
    → Stands rows.read place node → map (found caller) place.above ≡ place.above
kept_above rows caller place node stands =
    ap (map (found caller)) (sym stands.way)
    ∙ sym (take-map (found caller) (length place.path) (stored_along rows.read place.path))
    ∙ ap (take (length place.path)) (found_along caller rows.read place.path) ∙ stands.way

pub look_is_the_review : LookIsTheReview
look_is_the_review asked before after are sound none looks caller =
    each_weaker (λ (it : Place × Node). Stands after.read it.0 it.1) Looks
    (λ it stands.
    let kept = kept_above after caller it.0 it.1 stands in
    let target = site_of it.0 it.1 in (
      has_is view none looks caller it.0.above target kept refl,
      said_is view none looks caller it.0.above target kept refl,
    ))
    (objects_from after asked.path) (all_stand after are sound asked.path)
  where
    view : View
    view = view_of asked before

    Looks : Place × Node → Type 0
    Looks it =
        ((turn_at view caller it.0.above (site_of it.0 it.1)).has
        ≡ granted caller it.0.above (site_of it.0 it.1))
        × (is_said view caller it.0.above (site_of it.0 it.1)
        ≡ (follows_clear view it.0.above && repeats caller it.0.above (site_of it.0 it.1)))
