-- A request that removes an object is a step.
use Rattle.std.proofs.Common.{rules, ◌≡◌, ℕ, Bool, true, false, not, List, [], ◌∷◌, ◌++◌, map}
use Rattle.std.proofs.{Common.{Option, Some, None, refl, ap, arith, Err}, Math.Seq.take-length}
use Rattle.std.proofs.lemmas.{List.map-append, Bool.Decides.nat_tests}
use Rattle.room_rows.specs.{declared.node.Node.Node, Content.{Content, children_of, is_empty}}
use Rattle.room_rows.specs.{Content.{node_at, root_of, with_records, without_node}, Keep.CanRemove}
use Rattle.room_rows.specs.{Keep.{HasChildren, Removes, with_content}, Meaning.{kept_node, meaning}}
use Rattle.room_rows.specs.{Rows.{Rows, AreRows}, Sound.AreSound}
use Rattle.room_rows.proofs.InPlace.{children_of-with_each, keeps_places}
use Rattle.room_judge.specs.{declared.{arrival.Found.Found, asker.Asker.Asker}, Closed.IsClosed}
use Rattle.room_judge.specs.{Closed.IsServed, Stored.found_site, Judged.{CarriesOut, IsJudged}}
use Rattle.room_judge.specs.Spot.{IsPaired, pair_of}
use Rattle.room_machine.specs.declared.reply.Reply.{Reply, TheVariants.{Done, Refused}}
use Rattle.room_machine.specs.declared.reply.Reason.TheVariants.{NotEmpty, Root}
use Rattle.room_machine.specs.{declared.request.Request.TheVariants.Remove, Site.{Site, site_at}}
use Rattle.room_machine.specs.{Site.parent_at, Plan.{Item, Deletion, Refusal, plan_of, way}}
use Rattle.room_machine.specs.{Plan.where_found, Judge.records_of_plan, Stored.stored_along}
use Rattle.room_machine.specs.Stored.{stored_from, stored_plan, stored_site}
use Rattle.room_desk.specs.{Made.Ends, Removed.{RemovesFrom, RemovesIfGranted, refused_where}}
use Rattle.room_judge.proofs.Closing.{closed_done, closed_failed, closed_more}
use Rattle.room_judge.proofs.Judging.{fails_first, passes_first, passes_on, refuses}
use Rattle.room_sound.proofs.{SoundParts.{none_unreadable, sound_noted, sound_parts}, Sites.fill}
use Rattle.room_sound.proofs.{Sites.sites_filled, Filled.{fill_item, judged_filled, site_filled}}
use Rattle.room_sound.proofs.Filled.{target_there, way_filled}
use Rattle.room_desk.proofs.Gone.SoundRemoved.{CanGo, removed_means, sound_removed}
use Rattle.room_desk.proofs.{Gone.Childless.childless, Made.Pairs.parent_along}
use Rattle.room_desk.proofs.{Made.FolderPlans.parent_filled, Steps.Stepping.changed_step}
use Rattle.room_desk.proofs.Steps.{Stepping.refused_step, Serving.along_there}

-- what is stored and what is meant agree on whether there are children
empty_kept : (content : Content) (id : ℕ)
    → is_empty (children_of content id) ≡ is_empty (children_of (meaning content) id)
empty_kept content id =
    let each = children_of-with_each content (kept_node content)
    (search (rules, keeps_places, content)) id in grind arith

module _ (asker : Asker) (path : List (List ℕ)) where
  -- the items at a target in a folder
  abbrev items_at : Content → Option Site → Site → List Item
  items_at content parent target =
      Refusal path Root (is_empty path)
      ∷ where_found parent
      (λ folder. Deletion target folder
      ∷ Refusal path NotEmpty (not (is_empty (children_of content target.node.id))) ∷ [])

  abbrev items_behind : Content → List Site → List Item
  items_behind content sites =
      where_found (site_at sites path) (items_at content (parent_at sites path))

  abbrev items_along : Content → List Site → List Item
  items_along content sites = way false sites path ++ items_behind content sites

  items_filled : (content : Content) (sites : List Site)
      → items_along content (map fill sites) ≡ map fill_item (items_along (meaning content) sites)
  items_filled content sites =
      grind (
        arith,
        nat_tests,
        empty_kept,
        fill,
        fill_item,
        map-append,
        parent_filled,
        site_filled,
        way_filled,
      )

  -- what is judged at the stored lists is judged by the plan
  planned : (old new : Rows) (answer : Option Reply) → AreRows old → AreSound old
      → IsJudged asker (stored_plan old.read (Remove path)) old answer new
      → IsJudged asker (plan_of (meaning old.read) (Remove path)) old answer new
  planned old new answer are sound judged =
      judged_filled asker (plan_of (meaning old.read) (Remove path)) old new answer
      (rw (← sites_filled old are (sound_parts old sound) path, items_filled old.read) at judged)

  -- an item fails
  not_removed : (old new : Rows) (reply : Reply) → AreRows old
      → IsJudged asker (stored_plan old.read (Remove path)) old (Some reply) new
      → IsServed asker (Remove path) old reply new
  not_removed old new reply are judged = search (closed_failed, planned, refused_step)

  pub remove_halted : (old new : Rows) (reply : Reply) → AreRows old
      → IsPaired asker path old (Err reply) new → IsServed asker (Remove path) old reply new
  remove_halted old new reply are paired = search (fails_first, not_removed)

  module _ (old mid : Rows) (folder target : Found) (are : AreRows old)
      (named : is_empty path ≡ false)
      (paired : IsPaired asker path old (pair_of folder target) mid) where
    abbrev id : ℕ
    id = target.node.id

    -- the refusal of an object that has children
    abbrev has_children : Rows → Item
    has_children rows = Refusal path NotEmpty (not (is_empty (children_of rows.read id)))

    -- the items at them
    abbrev removal : Rows → Site → List Item
    removal rows site = Deletion site (found_site path folder) ∷ has_children rows ∷ []

    removal_is : removal mid (found_site path target) ≡ removal old (stored_site path target.node)
    removal_is = rw (paired.judged.notes, paired.depth, take-length)

    items_are : items_behind old.read (stored_along old.read path)
        ≡ Refusal path Root (is_empty path) ∷ removal old (stored_site path target.node)
    items_are = rw (paired.target, paired.folder)

    at_stored : (new : Rows) (answer : Option Reply)
        → IsJudged asker (removal mid (found_site path target)) mid answer new
        → IsJudged asker (stored_plan old.read (Remove path)) old answer new
    at_stored new answer judged =
        passes_first asker _ (items_behind old.read (stored_along old.read path)) old mid new answer
        paired.judged (rw items_are (passes_on asker path Root (is_empty path)
        (removal old (stored_site path target.node)) mid new answer named (rw removal_is at judged)))

    there : node_at old.read id ≡ Some target.node
    there = along_there old.read are.numbers path (stored_site path target.node) paired.target

    below : target.node.parent ≡ Some folder.node.id
    below = grind (arith, nat_tests, parent_along)

    -- the deletion may be refused
    denied : (last new : Rows) (refusal reply : Reply)
        → IsJudged asker (Deletion (found_site path target) (found_site path folder) ∷ []) mid
        (Some refusal) last → reply ≡ refusal → new ≡ last → IsServed asker (Remove path) old reply new
    denied last new refusal reply judged replies same =
        not_removed old new reply are
        (at_stored new (Some reply) (search (rules, fails_first, new, judged, replies, same)))

    -- the deletion is granted
    module _ (last : Rows) (granted : IsJudged asker
        (Deletion (found_site path target) (found_site path folder) ∷ []) mid None last) where
      then_children : (new : Rows) (answer : Option Reply)
          → IsJudged asker (has_children mid ∷ []) last answer new
          → IsJudged asker (stored_plan old.read (Remove path)) old answer new
      then_children new answer judged =
          at_stored new answer
          (passes_first asker _ (has_children mid ∷ []) mid last new answer granted judged)

      -- where there are none, nothing fails
      none_fails : (new : Rows) → new ≡ last → is_empty (children_of mid.read id) ≡ true
          → IsJudged asker (stored_plan old.read (Remove path)) old None new
      none_fails new same none = search (rules, then_children, new, none, same)

      childless_then : children_of last.read id ≡ [] → is_empty (children_of mid.read id) ≡ true
      childless_then none = grind (arith, nat_tests)

      module _ (none : children_of last.read id ≡ []) where
        all : IsJudged asker (stored_plan old.read (Remove path)) old None last
        all = none_fails last refl (childless_then none)

        may : CanRemove id last
        may = record {
          node = target.node;
          is_there = rw all.notes there;
          parent = folder.node.id;
          has_parent = below;
          no_children = none;
        }

        removed : (new : Rows) → Removes id last new → CarriesOut asker (Remove path) old Done new
        removed new removes known sound =
            let plan = planned old last None are sound all in
            let records = records_of_plan asker.caller asker.moment
            (plan_of (meaning old.read) (Remove path)) in
            let site = target_there old are (sound_parts old sound) path
            (stored_site path target.node) paired.target in
            let can : CanGo old.read id = grind (arith, nat_tests, all, below, childless, there) in
            changed_step asker (Remove path) old known sound last new Done
            (without_node (meaning old.read) id) plan
            (λ number. rw (site.at, site.kept))
            (rw (removes may, plan.notes)
            (ap (λ (c : Content). with_records c records) (removed_means old.read id can)))
            (rw (removes may, plan.notes)
            (sound_noted (with_content old (without_node old.read id)) records
            (sound_removed old id sound can)))

        removed_closed : (new : Rows) → Removes id last new
            → IsClosed asker (Remove path) old Done new
        removed_closed new removes =
            closed_done asker (Remove path) old Done last new all refl refl
            (without_node old.read id) refl
            (rw (removes may, all.notes))
            (stored_site path target.node, paired.target, refl)
            (stored_site path target.node, paired.target, refl)

      -- a child that can't be read
      unread : (new : Rows) (reply : Reply) → HasChildren id last true
          → is_empty (children_of mid.read id) ≡ true → reply ≡ Refused path NotEmpty → new ≡ last
          → IsServed asker (Remove path) old reply new
      unread new reply answer none replies same =
          let hidden : old.unreadable ≡ [] → ⊥ = grind (arith, nat_tests) in (
            λ known sound. absurd (hidden (none_unreadable old (sound_parts old sound))),
            closed_more asker (Remove path) old reply new path (stored_site path target.node)
                (none_fails new same none) refl paired.target replies hidden,
          )

      on_children : (has_some : Bool) → HasChildren id last has_some → (new : Rows) (reply : Reply)
          → Ends Done (Removes id) (refused_where has_some path) last reply new
          → IsServed asker (Remove path) old reply new
      on_children false answer new reply ends =
          rw ends.0 (removed (answer.0 refl) new ends.1, removed_closed (answer.0 refl) new ends.1)
      on_children true answer new reply ends =
          on (is_empty (children_of mid.read id)) refl
        where
          on : (t : Bool) → is_empty (children_of mid.read id) ≡ t
              → IsServed asker (Remove path) old reply new
          on true none = unread new reply answer none ends.0 ends.1
          on false some =
              not_removed old new reply are
              (then_children new (Some reply)
              (refuses asker path NotEmpty (not (is_empty (children_of mid.read id)))
              [] last new reply ends.0 (ap not some) ends.1))

    removed_if : (answer : Option Reply) (last new : Rows) (reply : Reply)
        → IsJudged asker (Deletion (found_site path target) (found_site path folder) ∷ []) mid
        answer last → RemovesIfGranted answer path id last reply new
        → IsServed asker (Remove path) old reply new
    removed_if (Some refusal) last new reply judged ends = search (denied)
    removed_if None last new reply judged ends = search (on_children)

    pub remove_done : (new : Rows) (reply : Reply)
        → RemovesFrom asker path (found_site path target) (found_site path folder) mid reply new
        → IsServed asker (Remove path) old reply new
    remove_done new reply removes = search (removed_if)

-- ---- the root

pub root_kept : (asker : Asker) (root : Node) (old new : Rows) (reply : Reply) → AreRows old
    → root_of old.read ≡ Some root → reply ≡ Refused [] Root → new ≡ old
    → IsServed asker (Remove []) old reply new
root_kept asker root old new reply are is replies same =
    not_removed asker [] old new reply are
    (search (rules, asker, old, reply, new, refuses, replies, same))
  where
    plan_is : items_along asker [] old.read (stored_from old.read [] root [])
        ≡ stored_plan old.read (Remove [])
    plan_is = cc (is)
