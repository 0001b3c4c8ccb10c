-- A move is a step.
use Rattle.std.proofs.Common.{rules, ◌≡◌, ℕ, ◌<◌, ◌==◌, Bool, true, false, List, [], ◌∷◌, ◌++◌}
use Rattle.std.proofs.Common.{length, take, Option, Some, None, refl, sym, ap, subst, ◌∙◌, arith}
use Rattle.std.proofs.{Common.{Result, Ok, Err}, Math.Seq.take-length}
use Rattle.std.{proofs.lemmas.Bool.Decides.nat_tests, specs.Option.option_map_or}
use Rattle.room_rows.specs.{declared.node.{Node.Node, AuditRow.AuditRow}, Content.Content}
use Rattle.room_rows.specs.{Content.{is_empty, root_of, with_node, with_records}, Keep.IsDamaged}
use Rattle.room_rows.specs.{Keep.IsUnreadable, Meaning.meaning, Paths.is_object_name, Rows.Rows}
use Rattle.room_rows.specs.{Rows.AreRows, Sound.AreSound}
use Rattle.room_judge.specs.declared.{arrival.{Found.Found, Both.Both}, asker.Asker.Asker}
use Rattle.room_judge.specs.{Stored.found_site, Spot.{IsPaired, pair_of}, Closed.IsServed}
use Rattle.room_judge.specs.Judged.{CarriesOut, FromRoot, IsJudged, IsReached, with_notes}
use Rattle.room_judge.proofs.{Closing.{closed_done, closed_failed}, Judging.failure_of_parts}
use Rattle.room_judge.proofs.Judging.{fails_first, passes_first, passes_on, refuses}
use Rattle.room_judge.proofs.Spots.{last_of}
use Rattle.room_machine.specs.declared.reply.Reply.{Reply, TheVariants.{Done, Refused}}
use Rattle.room_machine.specs.declared.reply.Reason.TheVariants.{Exists, Root}
use Rattle.room_machine.specs.{declared.request.Request.TheVariants.Move, Site.{Site, site_at}}
use Rattle.room_machine.specs.{Site.{parent_at, front, last_name}, Plan.{Item, Deletion, Refusal}}
use Rattle.room_machine.specs.{Plan.{plan_of, way, where_found}, Judge.first_failure}
use Rattle.room_machine.specs.{Judge.records_of_plan, Effect.moved_node, Stored.stored_site}
use Rattle.room_machine.specs.Stored.{stored_from, stored_along, stored_plan, to_stored}
use Rattle.room_desk.specs.Moving.{CanGo, CanPlace, FailsToPlace, IsMovedOnly, IsPlaced, at_place}
use Rattle.room_desk.{specs.Moving.begins, proofs.Lists.HandedDown.{beside, moved_noted}}
use Rattle.room_desk.proofs.Moves.MovingFacts.{IsFree, all_passed, goable, placeable}
use Rattle.room_desk.proofs.Moves.MovingPlan.{along_noted, at_found, move_judged, move_stored}
use Rattle.room_desk.proofs.Moves.MovingPlan.{stored_items, stored_move, way_noted}
use Rattle.room_desk.proofs.Steps.{Serving.none_both, Stepping.{changed_step, refused_step}}
use Rattle.room_sound.proofs.{Filled.{IsTarget, target_there}, Blamed.noted_unread, Sites.fill}
use Rattle.room_sound.proofs.SoundParts.{sound_parts}

-- ---- at the root, and where the way ends

module _ (asker : Asker) (path to : List (List ℕ)) where
  pub root_stays : (root : Node) (old new : Rows) (reply : Reply) → AreRows old → path ≡ []
      → root_of old.read ≡ Some root → reply ≡ Refused (take 0 path) Root → new ≡ old
      → IsServed asker (Move path to) old reply new
  root_stays root old new reply are is is_root replies same =
      search (closed_failed, judged, move_judged, move_stored, refused_step, sound_parts)
    where
      at_root : IsJudged asker (stored_move old.read [] to) old (Some reply) new
      at_root =
          subst
          (λ o. IsJudged asker
          (way false (option_map_or (λ r. stored_from old.read [] r []) o []) []
          ++ where_found (site_at (option_map_or (λ r. stored_from old.read [] r []) o []) [])
          (at_found old.read [] to)) old (Some reply) new) (sym is_root)
          (refuses asker [] Root true [] old new reply
          (replies ∙ ap (λ p. Refused (take 0 p) Root) is) refl same)

      judged : IsJudged asker (stored_move old.read path to) old (Some reply) new
      judged = search (at_root, stored_move)

  pub way_halted : (old new : Rows) (reply : Reply) → AreRows old
      → IsPaired asker path old (Err reply) new → IsServed asker (Move path to) old reply new
  way_halted old new reply are paired =
      search (
        at_found,
        closed_failed,
        fails_first,
        move_judged,
        move_stored,
        refused_step,
        sound_parts,
      )

-- ---- once the object was found

pub some_name : (sites : List Site) (path : List (List ℕ)) (site : Site)
    → parent_at sites path ≡ Some site → 0 < length path
some_name sites [] site is = absurd (let wrong : ⊥ = cc in wrong)
some_name sites (name ∷ names) site is = omega arith

pub items_there : (rows : Content) (to : List (List ℕ)) (is_below : Bool) (target from : Site)
    → 0 < length to → stored_items rows to is_below target from
    ≡ to_stored rows (front to) (at_place rows to is_below target from)
items_there rows [] is_below target from some = absurd (let wrong : ⊥ = omega arith in wrong)
items_there rows (name ∷ names) is_below target from some = refl

module _ (asker : Asker) (path to : List (List ℕ)) (from target : Found) (old mid : Rows)
    (are : AreRows old) (paired : IsPaired asker path old (pair_of from target) mid) where
  abbrev target_site : Site
  target_site = found_site path target

  abbrev from_site : Site
  from_site = found_site path from

  -- the new folder would be the object, or below it
  abbrev is_below : Bool
  is_below = begins path (front to)

  -- the records of the way to the object
  abbrev on_way : List AuditRow
  on_way = records_of_plan asker.caller asker.moment (way false (stored_along old.read path) path)

  some : 0 < length path
  some = some_name (stored_along old.read path) path from_site paired.folder

  whole : take target.depth path ≡ path
  whole = ap (λ (d : ℕ). take d path) paired.depth ∙ take-length path

  target_is : site_at (stored_along old.read path) path ≡ Some target_site
  target_is = paired.target ∙ ap (λ p. Some (stored_site p target.node)) (sym whole)

  not_root : is_empty path ≡ false
  not_root = grind (arith, nat_tests, some)

  with_items : (new : Rows) (answer : Option Reply)
      → IsJudged asker (stored_items old.read to is_below target_site from_site) mid answer new
      → IsJudged asker (stored_move old.read path to) old answer new
  with_items new answer judged =
      passes_first asker (way false (stored_along old.read path) path)
      (where_found (site_at (stored_along old.read path) path) (at_found old.read path to)) old mid
      new answer paired.judged
      (grind (arith, nat_tests, at_found, not_root, passes_on, stored_items, target_is))

  ended : (new : Rows) (reply : Reply)
      → IsJudged asker (stored_items old.read to is_below target_site from_site) mid
      (Some reply) new → IsServed asker (Move path to) old reply new
  ended new reply judged =
      search (closed_failed, move_judged, move_stored, refused_step, sound_parts, with_items)

  pub root_refused : (new : Rows) (reply : Reply) → to ≡ []
      → IsJudged asker (Deletion target_site from_site ∷ Refusal [] Exists true ∷ []) mid
      (Some reply) new → IsServed asker (Move path to) old reply new
  root_refused new reply is judged = search (rules, ended, new, reply, stored_items, is, judged)

  pub never_unread : (row : ℕ) → IsUnreadable mid row → IsDamaged old row
  never_unread row h = noted_unread old mid on_way row paired.judged.notes h

  module _ (some_to : 0 < length to) where
    at_first : to_stored mid.read (front to) (at_place mid.read to is_below target_site from_site)
        ≡ to_stored old.read (front to) (at_place old.read to is_below target_site from_site)
    at_first = grind (arith, nat_tests, way_noted)

    pub place_ended : (new : Rows) (reply : Reply)
        → IsReached asker (front to) (at_place mid.read to is_below target_site from_site) mid
        (Err reply) new → IsServed asker (Move path to) old reply new
    place_ended new reply reached =
        ended new reply (grind (arith, nat_tests, at_first, items_there))

    -- ---- once the new folder was reached

    module _ (folder : Node) (last : Rows) (name : List ℕ) (is_last : name ≡ last_name to)
        (named : is_object_name name ≡ true)
        (reached : IsReached asker (front to)
        (at_place mid.read to is_below target_site from_site) mid (Ok folder) last) where
      abbrev folder_site : Site
      folder_site = stored_site (front to) folder

      folder_is : site_at (stored_along old.read (front to)) (front to) ≡ Some folder_site
      folder_is = grind (arith, nat_tests, along_noted)

      judged_here : IsJudged asker
          (to_stored old.read (front to) (at_place old.read to is_below target_site from_site)) mid
          None last
      judged_here = subst (λ items. IsJudged asker items mid None last) at_first reached.judged

      judged_all : IsJudged asker (stored_move old.read path to) old None last
      judged_all = search (items_there, judged_here, with_items)

      free : IsFree old.read to is_below folder
      free =
          let front_way : List Item = way false (stored_along old.read (front to)) (front to) in
          let none : None ≡ first_failure asker.caller
          (front_way ++ at_place old.read to is_below target_site from_site folder_site) =
          cc (judged_here.answers, folder_is) in
          all_passed asker.caller old.read to is_below target_site from_site folder_site
          (none_both (first_failure asker.caller front_way)
          (first_failure asker.caller
          (at_place old.read to is_below target_site from_site folder_site))
          (none ∙ failure_of_parts asker.caller asker.moment front_way
          (at_place old.read to is_below target_site from_site folder_site))).1

      abbrev judgements : List AuditRow
      judgements = records_of_plan asker.caller asker.moment (stored_move old.read path to)

      can_go : CanGo target.node folder (last_name to) (with_notes old judgements)
      can_go = goable old judgements path to target.node folder are paired.target folder_is free

      can : AreSound old → CanPlace target.node folder name last
      can sound =
          subst (λ (r : Rows). CanPlace target.node folder name r) (sym judged_all.notes)
          (subst (λ n. CanPlace target.node folder n (with_notes old judgements)) (sym is_last)
          (placeable old judgements path to from_site target.node folder sound some paired.folder
          paired.target (ap is_object_name (sym is_last) ∙ named) can_go))

      go_on : CanGo target.node folder name last
      go_on = grind (arith, nat_tests, can_go, judged_all)

      pub never_unplaced : (row : ℕ) → FailsToPlace target.node folder name last row
          → IsDamaged old row
      never_unplaced row fails = noted_unread old last judgements row judged_all.notes (fails go_on)

      moves_on : (new : Rows)
          → (CanPlace target.node folder name last → IsPlaced target.node folder name last new)
          → CarriesOut asker (Move path to) old Done new
      moves_on new places known sound =
          changed_step asker (Move path to) old known sound last new Done
          (with_node means (moved_node t.planned f.planned (last_name to))) planned
          (grind (arith, nat_tests, f, means, t))
          (placed.means
          ∙ ap (λ (r : Rows). with_node (meaning r.read)
          (moved_node (stored_site [] target.node) (stored_site [] folder) name)) planned.notes
          ∙ ap (λ (n : Node). with_records (with_node means n)
          (records_of_plan asker.caller asker.moment (plan_of means (Move path to)))) moved_as)
          placed.sound
        where
          means : Content
          means = meaning old.read

          t : IsTarget old.read path (stored_site path target.node)
          t = search (sound_parts, target_there)

          f : IsTarget old.read (front to) folder_site
          f = target_there old are (sound_parts old sound) (front to) folder_site folder_is

          planned : IsJudged asker (plan_of means (Move path to)) old None last
          planned = move_judged old are (sound_parts old sound) asker path to last None judged_all

          placed : IsPlaced target.node folder name last new
          placed = places (can sound)

          moved_as : moved_node (stored_site [] target.node) (stored_site [] folder) name
              ≡ moved_node t.planned f.planned (last_name to)
          moved_as = grind (arith, nat_tests, f, fill, t)

      pub moves : (new : Rows)
          → (CanPlace target.node folder name last → IsPlaced target.node folder name last new)
          → (CanGo target.node folder name last → IsMovedOnly target.node folder name last new)
          → IsServed asker (Move path to) old Done new
      moves new places goes =
          let judged = move_stored old are asker path to last None judged_all in
          let records = records_of_plan asker.caller asker.moment
          (stored_plan old.read (Move path to)) in
          let moved = moved_noted target.node folder (last_name to) old new records
          (grind (arith, nat_tests, go_on)) in search (beside, closed_done, folder_is, moves_on)

-- ---- in terms of the calls

pub empty_path : (path : List (List ℕ)) (is_root : Bool) → is_root ≡ (length path == 0)
    → is_root ≡ true → path ≡ []
empty_path [] is_root is root = refl
empty_path (name ∷ names) is_root is root = grind (arith, nat_tests)

pub some_last : (to rest : List (List ℕ)) (name : List ℕ) → to ≡ rest ++ name ∷ [] → 0 < length to
some_last to rest name is = subst (λ (p : List (List ℕ)). 0 < length p) (sym is) (on rest)
  where
    on : (l : List (List ℕ)) → 0 < length (l ++ name ∷ [])
    on [] = omega arith
    on (first ∷ others) = omega arith

pub name_is : (to rest : List (List ℕ)) (name text : List ℕ) → to ≡ rest ++ name ∷ [] → text ≡ name
    → text ≡ last_name to
name_is to rest name text is same = same ∙ sym (ap last_name is ∙ last_of rest name)

-- the root that was read, and the walk from it
pub rooted_pair : (asker : Asker) (path : List (List ℕ)) (root : Node) (pair : Result Both Reply)
    (old mid new : Rows) → root_of old.read ≡ Some root → mid ≡ old
    → FromRoot root (IsPaired asker path) mid pair new → IsPaired asker path old pair new
rooted_pair asker path root pair old mid new is same paired = grind (arith, nat_tests)

-- records leave the root where it was
pub root_after : (asker : Asker) (path : List (List ℕ)) (root : Node) (pair : Result Both Reply)
    (old mid : Rows) → root_of old.read ≡ Some root → IsPaired asker path old pair mid
    → root_of mid.read ≡ Some root
root_after asker path root pair old mid is paired = grind (arith, nat_tests)
