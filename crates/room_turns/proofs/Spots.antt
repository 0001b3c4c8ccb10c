-- All callers at an object, by those at the folder, and earlier at the object.
use Rattle.std.proofs.Common.{◌≡◌, ℕ, ◌&&◌, Bool, true, not, List, [], ◌∷◌, ◌++◌, map, Option, Some}
use Rattle.std.proofs.{Common.{None, refl, sym, ap, ◌∙◌, arith}, Math.Bool.{and-true, true-and}}
use Rattle.std.proofs.lemmas.{List.Folds.list_all-append, Option.{slice_get-map, slice_get_past}}
use Rattle.std.specs.{List.{list_all, slice_get}, Option.{option_map, option_map_or}}
use Rattle.room_entry.specs.Pieces.{is_among}
use Rattle.room_machine.specs.{Site.Site, Rights.last_of}
use Rattle.room_review.specs.{declared.parties.Party.Party, Standing.before_last, Table.site_of}
use Rattle.room_review.proofs.Kept.{none_last}
use Rattle.room_turns.specs.{Turns.{View, follows_clear, is_known}, Stands.{AreBeside, grant_of}}
use Rattle.room_turns.specs.Stands.{granted_by, noted, noted_by, spot_of, stand_of, stands_of}
use Rattle.room_turns.{specs.declared.spot.{Spot.Spot, Stand.Stand}, proofs.Behind.or_mapped}
use Rattle.room_turns.proofs.Behind.{last_joined}

-- ---- what is known

module _ (view : View) (parties : List Party) (above : List Site) (target : Site) where
  abbrev seen : Site → Bool
  seen site = not (is_among view.hidden site.node.id)

  pub known_is : (folder : Option Spot)
      → folder ≡ option_map (spot_of view parties (before_last above)) (last_of above)
      → (option_map_or (λ (s : Spot). s.known) folder true && seen target)
      ≡ is_known view.hidden above target
  known_is folder is =
      ap (λ (f : Option Spot). option_map_or (λ (s : Spot). s.known) f true && seen target) is
      ∙ on (last_of above) refl
    where
      on : (o : Option Site) → last_of above ≡ o
          → (option_map_or (λ (s : Spot). s.known)
          (option_map (spot_of view parties (before_last above)) o) true && seen target)
          ≡ is_known view.hidden above target
      on None last =
          (true-and (seen target) ∙ sym (and-true (seen target)))
          ∙ ap (λ (sites : List Site). list_all seen (sites ++ target ∷ []))
          (sym (none_last above last))
      on (Some site) last =
          ap (λ (sites : List Site). list_all seen sites && seen target)
          (last_joined above site last)
          ∙ ap (λ t. list_all seen above && t) (sym (and-true (seen target)))
          ∙ sym (list_all-append seen above (target ∷ []))

  pub follows_is : (folder : Option Spot)
      → folder ≡ option_map (spot_of view parties (before_last above)) (last_of above)
      → option_map_or (λ (s : Spot). s.clear) folder true ≡ follows_clear view above
  follows_is folder is =
      ap (λ (f : Option Spot). option_map_or (λ (s : Spot). s.clear) f true) is
      ∙ or_mapped (spot_of view parties (before_last above)) (λ (s : Spot). s.clear) true
      (last_of above)

  -- what was noted of the object
  module _ (earlier : Option Spot)
      (is : option_map noted earlier
      ≡ option_map (noted_by view.own view.hidden_earlier parties) (view.earlier target.node.id))
    where
      pub was_known : option_map_or (λ (s : Spot). s.known) earlier true
          ≡ option_map_or (λ object. is_known view.hidden_earlier object.0.above
          (site_of object.0 object.1)) (view.earlier target.node.id) true
      was_known =
          sym (or_mapped noted (λ it. it.0) true earlier)
          ∙ ap (λ (o : Option (Bool × List (List ℕ × Bool))). option_map_or (λ it. it.0) o true) is
          ∙ or_mapped (noted_by view.own view.hidden_earlier parties) (λ it. it.0) true
          (view.earlier target.node.id)

      stood : (o : Option Spot)
          → map grant_of (option_map_or (λ (s : Spot). s.stands) o [])
          ≡ option_map_or (λ (it : Bool × List (List ℕ × Bool)). it.1) (option_map noted o) []
      stood None = refl
      stood (Some spot) = refl

      pub were_there : map grant_of (option_map_or (λ (s : Spot). s.stands) earlier [])
          ≡ option_map_or (λ object. map (λ party. granted_by view.own party.caller object) parties)
          (view.earlier target.node.id) []
      were_there =
          stood earlier
          ∙ ap (λ (o : Option (Bool × List (List ℕ × Bool))). option_map_or (λ it. it.1) o []) is
          ∙ or_mapped (noted_by view.own view.hidden_earlier parties) (λ it. it.1) []
          (view.earlier target.node.id)

  pub at_folder : (folder : Option Spot)
      → folder ≡ option_map (spot_of view parties (before_last above)) (last_of above)
      → option_map_or (λ (s : Spot). s.stands) folder []
      ≡ option_map_or (stands_of view parties (before_last above)) (last_of above) []
  at_folder folder is =
      ap (λ (f : Option Spot). option_map_or (λ (s : Spot). s.stands) f []) is
      ∙ or_mapped (spot_of view parties (before_last above)) (λ (s : Spot). s.stands) []
      (last_of above)

-- ---- one of the callers

none_at : {B : Type 0} (i : ℕ) → slice_get {X = B} [] i ≡ None
none_at {B} i = slice_get_past {X = B} [] i (omega arith)

-- the one at its place in a list that may not be there
at_place : {A B : Type 0} (i : ℕ) (f : A → List Party → List B) (g : A → Party → B)
    → ((x : A) (parties : List Party) → f x parties ≡ map (g x) parties)
    → (parties : List Party) (party : Party) → slice_get parties i ≡ Some party → (o : Option A)
    → slice_get (option_map_or (λ x. f x parties) o []) i ≡ option_map (λ x. g x party) o
at_place i f g each parties party at None = none_at i
at_place {A} {B} i f g each parties party at (Some x) =
    ap (λ (l : List B). slice_get l i) (each x parties) ∙ slice_get-map (g x) parties i
    ∙ ap (option_map (g x)) at

module _ (view : View) (parties : List Party) (above : List Site) (number : ℕ)
    (folder earlier : List Stand) (beside : AreBeside view parties above number folder earlier)
    (i : ℕ) (party : Party) (at : slice_get parties i ≡ Some party) where
  pub one_at_folder : slice_get folder i
      ≡ option_map (stand_of view party.caller (before_last above)) (last_of above)
  one_at_folder =
      ap (λ (l : List Stand). slice_get l i) beside.at_folder
      ∙ at_place i (λ site all. stands_of view all (before_last above) site)
      (λ site one. stand_of view one.caller (before_last above) site) (λ x all. refl) parties party
      at (last_of above)

  pub one_was : option_map grant_of (slice_get earlier i)
      ≡ option_map (granted_by view.own party.caller) (view.earlier number)
  one_was =
      sym (slice_get-map grant_of earlier i)
      ∙ ap (λ (l : List (List ℕ × Bool)). slice_get l i) beside.were
      ∙ at_place i (λ object all. map (λ one. granted_by view.own one.caller object) all)
      (λ object one. granted_by view.own one.caller object) (λ x all. refl) parties party at
      (view.earlier number)
