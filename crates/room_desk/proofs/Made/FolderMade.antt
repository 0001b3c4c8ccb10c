-- A request that makes a folder is a step.
use Rattle.std.proofs.Common.{rules, ◌≡◌, ℕ, ◌<◌, Bool, true, cond, List, [], length, take, Option}
use Rattle.std.proofs.{Common.{Some, None, refl, ap, ◌∙◌, Err, arith}, lemmas.Bool.false≢true}
use Rattle.std.{proofs.lemmas.Bool.Decides.nat_tests, specs.Prelude.{is_none, is_some}}
use Rattle.std.specs.Option.{option_map}
use Rattle.room_entry.specs.declared.object.ObjKind.TheVariants.{Folder}
use Rattle.room_rows.specs.{declared.node.Node.Node, Content.child_of, Meaning.meaning, Rows.Rows}
use Rattle.room_rows.specs.Rows.{AreRows}
use Rattle.room_judge.specs.{declared.{arrival.Found.Found, asker.Asker.Asker}, Closed.IsClosed}
use Rattle.room_judge.specs.{Closed.IsServed, Stored.found_site, Judged.{IsJudged, CarriesOut}}
use Rattle.room_judge.{specs.Spot.{IsSpotted, spot_of}, proofs.Closing.{closed_done, closed_failed}}
use Rattle.room_judge.proofs.Judging.{fails_first, passes_first, refuses}
use Rattle.room_machine.specs.declared.reply.Reply.{Reply, TheVariants.{Made, Refused}}
use Rattle.room_machine.specs.declared.reply.Reason.TheVariants.{Exists}
use Rattle.room_machine.specs.{declared.request.Request.TheVariants.MakeFolder, Site.last_name}
use Rattle.room_machine.specs.{Site.{parent_at, site_at}, Plan.{plan_of, where_found}}
use Rattle.room_machine.specs.{Judge.records_of_plan, Stored.{stored_site, stored_along}}
use Rattle.room_machine.specs.{Stored.stored_plan, Changed.new_child}
use Rattle.room_desk.specs.Made.{Ends, IsMade, IsNameOf, IsJudgedAndDone}
use Rattle.room_desk.proofs.Steps.{Serving.none_both, Stepping.{made_step, refused_step}}
use Rattle.room_desk.proofs.Made.{FolderFound.{IsFoundFolder, found_folder}, FolderPlans.folder_at}
use Rattle.room_desk.proofs.Made.FolderPlans.{folder_judged, folder_plan, making, planned_parent}
use Rattle.room_desk.proofs.Made.{NewStep.{made_adds, made_new}, PutMade.is_none_none}
use Rattle.room_desk.proofs.Made.ServedItems.{judged_refused}
use Rattle.room_sound.proofs.SoundParts.{sound_parts}

not_there : (path : List (List ℕ)) (o : Option Node)
    → None ≡ cond (is_some o) (Some (Refused path Exists)) None → is_none o ≡ true
not_there path None passes = refl
not_there path (Some node) passes = absurd (let wrong : ⊥ = cc in wrong)

same_there : (path : List (List ℕ)) (o : Option Node)
    → is_some (option_map (stored_site path) o) ≡ is_some o
same_there path None = refl
same_there path (Some node) = refl

module _ (asker : Asker) (path : List (List ℕ)) where
  pub folder_root : (old new : Rows) (reply : Reply) → path ≡ [] → reply ≡ Refused [] Exists
      → new ≡ old → IsServed asker (MakeFolder path) old reply new
  folder_root old new reply root replies same = (
    search (rules, refused_step, old, new, root, refuses, replies, same),
    search (rules, closed_failed, old, new, root, refuses, replies, same),
  )

  -- what is judged at the stored lists is the plan by them
  as_stored : 0 < length path → (old new : Rows) (answer : Option Reply)
      → IsJudged asker (folder_at path (stored_along old.read path)) old answer new
      → IsJudged asker (stored_plan old.read (MakeFolder path)) old answer new
  as_stored some old new answer judged = search (folder_plan)

  -- an item fails
  not_made : 0 < length path → (old new : Rows) (reply : Reply) → AreRows old
      → IsJudged asker (folder_at path (stored_along old.read path)) old (Some reply) new
      → IsServed asker (MakeFolder path) old reply new
  not_made some old new reply are judged =
      search (as_stored, closed_failed, folder_judged, refused_step, sound_parts)

  pub folder_barred : 0 < length path → (old new : Rows) (reply : Reply) → AreRows old
      → IsSpotted asker path old (Err reply) new
      → IsServed asker (MakeFolder path) old reply new
  folder_barred some old new reply are spotted = search (fails_first, making, not_made)

  module _ (old mid : Rows) (folder : Found) (child : Option Node) (name : List ℕ)
      (named : IsNameOf path name) (are : AreRows old)
      (spotted : IsSpotted asker path old (spot_of folder child) mid) where
    items_are : where_found (parent_at (stored_along old.read path) path)
        (making path (is_some (site_at (stored_along old.read path) path)))
        ≡ making path (is_some child) (found_site path folder)
    items_are = grind (arith, nat_tests, making, same_there)

    at_stored : (new : Rows) (answer : Option Reply)
        → IsJudged asker (making path (is_some child) (found_site path folder)) mid answer new
        → IsJudged asker (folder_at path (stored_along old.read path)) old answer new
    at_stored new answer judged = search (items_are, making, passes_first)

    found : IsFoundFolder old path folder.node child
    found = found_folder asker path named.some old mid folder child are spotted

    no_child : (last : Rows)
        → IsJudged asker (making path (is_some child) (found_site path folder)) mid None last
        → is_none child ≡ true
    no_child last judged = grind (arith, nat_tests, none_both, not_there)

    absent : (last : Rows)
        → IsJudged asker (making path (is_some child) (found_site path folder)) mid None last
        → child_of old.read folder.node.id name ≡ None
    absent last judged = grind (arith, nat_tests, found, is_none_none, no_child)

    folder_made : (last new : Rows)
        → IsJudged asker (making path (is_some child) (found_site path folder)) mid None last
        → IsMade (new_child asker.caller Folder folder.node name []) last new
        → CarriesOut asker (MakeFolder path) old Made new
    folder_made last new judged made known sound =
        let plan = folder_judged asker old last None are (sound_parts old sound) path named.some
        (at_stored last None judged) in
        let new_step = made_new old are sound asker.caller Folder folder.node name
        [] found.there found.folds (absent last judged)
        (records_of_plan asker.caller asker.moment (plan_of (meaning old.read) (MakeFolder path)))
        (take folder.depth path) last new plan.notes named.sound
        (λ document. absurd (false≢true document)) made in
        let place = planned_parent old are (sound_parts old sound) path
        (found_site path folder) spotted.folder in
        grind (arith, nat_tests, made_step)

    folder_closed : (last new : Rows)
        → IsJudged asker (making path (is_some child) (found_site path folder)) mid None last
        → IsMade (new_child asker.caller Folder folder.node name []) last new
        → IsClosed asker (MakeFolder path) old Made new
    folder_closed last new judged made =
        let all = as_stored named.some old last None (at_stored last None judged) in
        let adds = made_adds asker.caller Folder folder.node name (last_name path) [] old last new _
        found.there found.folds (absent last judged) named.last all.notes made in
        let nothing = spotted.child
        ∙ ap (option_map (stored_site path)) (is_none_none child (no_child last judged)) in
        search (closed_done)

    made_on : (answer : Option Reply) (last new : Rows) (reply : Reply)
        → IsJudged asker (making path (is_some child) (found_site path folder)) mid answer last
        → Ends Made (IsMade (new_child asker.caller Folder folder.node name [])) answer last reply
        new
        → IsServed asker (MakeFolder path) old reply new
    made_on None last new reply judged ends =
        search (rules, new, ends.0, folder_made, judged, ends.1, folder_closed)
    made_on (Some refusal) last new reply judged ends =
        search (at_stored, judged_refused, making, not_made)

    pub make_in : (there : Bool) → there ≡ is_some child → (new : Rows) (reply : Reply)
        → IsJudgedAndDone asker (making path there (found_site path folder)) Made
        (IsMade (new_child asker.caller Folder folder.node name [])) mid reply new
        → IsServed asker (MakeFolder path) old reply new
    make_in there is new reply served =
        made_on served.answer served.mid new reply
        (search (making)) served.ends
