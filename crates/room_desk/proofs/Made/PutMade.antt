-- A request that puts a document is a step.
use Rattle.std.proofs.Common.{rules, ◌≡◌, ℕ, Bool, true, false, cond, List, [], ◌∷◌, length, take}
use Rattle.std.proofs.Common.{Option, Some, None, nat_lt, refl, inl, inr, Ok, Err, arith}
use Rattle.std.proofs.{Math.Seq.take-length, lemmas.Bool.Decides.nat_tests}
use Rattle.std.specs.Prelude.{is_none, nat_le}
use Rattle.room_entry.specs.{Rights.write_data, Valid.is_document}
use Rattle.room_entry.specs.declared.object.ObjKind.TheVariants.{Document}
use Rattle.room_rows.specs.{declared.node.Node.Node, Content.{node_at, child_of, with_body}}
use Rattle.room_rows.specs.{Keep.{SetsBody, with_content}, Meaning.meaning, Rows.{Rows, AreRows}}
use Rattle.room_judge.specs.{declared.{arrival.Found.Found, asker.Asker.Asker}, Closed.IsClosed}
use Rattle.room_judge.specs.{Closed.IsServed, Stored.found_site, Judged.{IsJudged, IsReached}}
use Rattle.room_judge.specs.{Judged.CarriesOut, Spot.{IsSpotted, spot_of}}
use Rattle.room_machine.specs.declared.reply.Reply.{Reply, TheVariants.{Done, Made, Refused}}
use Rattle.room_machine.specs.declared.reply.Reason.TheVariants.{TooLarge}
use Rattle.room_machine.specs.{declared.request.Request.TheVariants.Put, Site.{Site, last_name}}
use Rattle.room_machine.specs.{Site.{parent_at, site_at}, Plan.{Item, Check, no_folder, not_over}}
use Rattle.room_machine.specs.{Plan.{plan_of, put_items, way}, Judge.records_of_plan}
use Rattle.room_machine.specs.{Stored.{stored_site, stored_along, to_stored}, Changed.new_child}
use Rattle.room_desk.specs.Made.{Ends, IsMade, IsNameOf, IsJudgedAndDone}
use Rattle.room_judge.proofs.{Closing.{closed_done, closed_failed}, Judging.fails_first}
use Rattle.room_judge.proofs.Judging.{passes_first}
use Rattle.room_desk.proofs.Steps.Serving.{none_both, along_there, folder_fails}
use Rattle.room_desk.proofs.Steps.Stepping.{changed_step, made_step, refused_step}
use Rattle.room_desk.proofs.{Bytes.SoundBytes.sound_bytes, Made.FolderFound.IsFoundFolder}
use Rattle.room_desk.proofs.Made.{FolderFound.found_folder, FolderPlans.planned_none}
use Rattle.room_desk.proofs.Made.FolderPlans.{planned_parent, put_at, put_judged}
use Rattle.room_desk.proofs.Made.{NewStep.{made_adds, made_new}, ServedItems.judged_refused}
use Rattle.room_sound.proofs.{SoundParts.{sound_parts, sound_noted}, Filled.target_there}

-- ---- what passes

pub is_none_none : (o : Option Node) → is_none o ≡ true → o ≡ None
is_none_none = grind arith

not_too_large : (path : List (List ℕ)) (t : Bool)
    → None ≡ cond t (Some (Refused path TooLarge)) None → t ≡ false
not_too_large = grind arith

pub few_bytes : (bytes : List ℕ) → nat_lt 1048576 (length bytes) ≡ false
    → nat_le (length bytes) 1048576 ≡ true
few_bytes bytes few = grind (arith, nat_tests)

module _ (asker : Asker) (path : List (List ℕ)) (bytes : List ℕ) where
  abbrev size : ℕ
  size = length bytes

  -- an item fails
  not_put : (old new : Rows) (reply : Reply) → AreRows old
      → IsJudged asker (put_at path size (stored_along old.read path)) old (Some reply) new
      → IsServed asker (Put path bytes) old reply new
  not_put old new reply are judged = search (closed_failed, put_judged, refused_step, sound_parts)

  not_reached : (old new : Rows) (reply : Reply) → AreRows old
      → IsJudged asker (way true (stored_along old.read path) path) old (Some reply) new
      → IsServed asker (Put path bytes) old reply new
  not_reached old new reply are judged = search (fails_first, not_put)

  pub put_barred : (old new : Rows) (reply : Reply) → AreRows old
      → IsSpotted asker path old (Err reply) new → IsServed asker (Put path bytes) old reply new
  put_barred old new reply are spotted = not_reached old new reply are spotted.judged

  -- the items behind the way
  abbrev items : Rows → List Item
  items old =
      put_items path size (site_at (stored_along old.read path) path)
      (parent_at (stored_along old.read path) path)

  -- what is judged after the way
  at_stored : (old mid new : Rows) (list : List Item) (answer : Option Reply)
      → IsJudged asker (way true (stored_along old.read path) path) old None mid
      → items old ≡ list → IsJudged asker list mid answer new
      → IsJudged asker (put_at path size (stored_along old.read path)) old answer new
  at_stored old mid new list answer before same judged =
      passes_first asker _ (items old) old mid new answer before (rw same judged)

  -- ---- a document that is there

  abbrev there_items : Site → List Item
  there_items site = no_folder site ∷ Check site (write_data ∷ []) ∷ not_over path size ∷ []

  module _ (old mid : Rows) (node : Node) (are : AreRows old)
      (before : IsJudged asker (way true (stored_along old.read path) path) old None mid)
      (is : site_at (stored_along old.read path) path ≡ Some (stored_site path node)) where
    items_there : items old ≡ there_items (stored_site path node)
    items_there = rw is

    there : node_at old.read node.id ≡ Some node
    there = along_there old.read are.numbers path (stored_site path node) is

    -- what is known of items that pass
    passed : (last : Rows) → IsJudged asker (there_items (stored_site path node)) mid None last
        → (is_document node.kind ≡ true) × (nat_lt 1048576 (length bytes) ≡ false)
    passed last judged = grind (arith, nat_tests, folder_fails, none_both, not_too_large)

    all_judged : (last : Rows) (answer : Option Reply)
        → IsJudged asker (there_items (stored_site path node)) mid answer last
        → IsJudged asker (put_at path size (stored_along old.read path)) old answer last
    all_judged last answer judged = search (at_stored, items_there)

    bytes_set : (last new : Rows)
        → IsJudged asker (there_items (stored_site path node)) mid None last
        → SetsBody node.id bytes last new
        → new ≡ with_content last (with_body last.read node.id bytes)
    bytes_set last new judged sets = grind (arith, nat_tests, all_judged, passed, there)

    put_set : (last new : Rows) → IsJudged asker (there_items (stored_site path node)) mid None last
        → SetsBody node.id bytes last new → CarriesOut asker (Put path bytes) old Done new
    put_set last new judged sets known sound =
        let passing = passed last judged in
        let plan = put_judged asker old last None are (sound_parts old sound) path bytes
        (all_judged last None judged) in
        let new_is = bytes_set last new judged sets in
        let target = target_there old are (sound_parts old sound) path
        (stored_site path node) is in
        changed_step asker (Put path bytes) old known sound last new Done
        (with_body (meaning old.read) node.id bytes) plan (search (rules, target.at, target.filled))
        (rw (new_is, plan.notes))
        (rw (new_is, plan.notes)
        (sound_noted (with_content old (with_body old.read node.id bytes)) _
        (sound_bytes old node.id node bytes are sound there passing.0 (few_bytes bytes passing.1))))

    set_closed : (last new : Rows)
        → IsJudged asker (there_items (stored_site path node)) mid None last
        → SetsBody node.id bytes last new → IsClosed asker (Put path bytes) old Done new
    set_closed last new judged sets =
        closed_done asker (Put path bytes) old Done last new (all_judged last None judged) refl refl
        (with_body old.read node.id bytes) refl
        (rw (bytes_set last new judged sets, (all_judged last None judged).notes))
        (inl (stored_site path node, is, refl)) (inl (stored_site path node, is, refl))

    on_answer : (answer : Option Reply) (last new : Rows) (reply : Reply)
        → IsJudged asker (there_items (stored_site path node)) mid answer last
        → Ends Done (SetsBody node.id bytes) answer last reply new
        → IsServed asker (Put path bytes) old reply new
    on_answer None last new reply judged ends =
        rw ends.0 (put_set last new judged ends.1, set_closed last new judged ends.1)
    on_answer (Some refusal) last new reply judged ends =
        search (all_judged, judged_refused, not_put)

    put_over : (depth : ℕ) → depth ≡ length path → (new : Rows) (reply : Reply)
        → IsJudgedAndDone asker
        (there_items (found_site path (record { node = node; depth = depth }))) Done
        (SetsBody node.id bytes) mid reply new → IsServed asker (Put path bytes) old reply new
    put_over depth deep new reply served = grind (arith, nat_tests, on_answer, take-length)

  pub put_on : (old mid : Rows) (folder : Found) (node : Node) → AreRows old
      → IsSpotted asker path old (spot_of folder (Some node)) mid → (depth : ℕ)
      → depth ≡ length path → (new : Rows) (reply : Reply) → IsJudgedAndDone asker
      (there_items (found_site path (record { node = node; depth = depth }))) Done
      (SetsBody node.id bytes) mid reply new → IsServed asker (Put path bytes) old reply new
  put_on old mid folder node are spotted = search (put_over)

  -- ---- the root

  -- a walk to the root judges nothing
  module _ (root : path ≡ []) where
    no_way : (old : Rows) → to_stored old.read path (λ _. [])
        ≡ way true (stored_along old.read path) path
    no_way old = grind (arith, nat_tests)

    pub root_barred : (old new : Rows) (reply : Reply) → AreRows old
        → IsReached asker path (λ _. []) old (Err reply) new
        → IsServed asker (Put path bytes) old reply new
    root_barred old new reply are reached = grind (arith, nat_tests, no_way, not_reached)

    -- where the root is a document, it is put as any that is there
    pub put_root : (old mid : Rows) (node : Node) → AreRows old
        → IsReached asker path (λ _. []) old (Ok node) mid → (new : Rows) (reply : Reply)
        → IsJudgedAndDone asker
        (there_items (found_site path (record { node = node; depth = 0 }))) Done
        (SetsBody node.id bytes) mid reply new → IsServed asker (Put path bytes) old reply new
    put_root old mid node are reached =
        put_over old mid node are
        (rw no_way at reached.judged) reached.found 0 (rw root)

  -- ---- a new document

  abbrev new_items : Site → List Item
  new_items site = Check site (write_data ∷ []) ∷ not_over path size ∷ []

  module _ (old mid : Rows) (folder : Found) (name : List ℕ) (named : IsNameOf path name)
      (are : AreRows old) (spotted : IsSpotted asker path old (spot_of folder None) mid) where
    items_new : items old ≡ new_items (found_site path folder)
    items_new = rw (spotted.child, spotted.folder)

    new_judged : (last : Rows) (answer : Option Reply)
        → IsJudged asker (new_items (found_site path folder)) mid answer last
        → IsJudged asker (put_at path size (stored_along old.read path)) old answer last
    new_judged last answer judged = search (at_stored, items_new)

    found : IsFoundFolder old path folder.node None
    found = found_folder asker path named.some old mid folder None are spotted

    absent : child_of old.read folder.node.id name ≡ None
    absent = grind (arith, nat_tests, found, is_none_none)

    few_new : (last : Rows) → IsJudged asker (new_items (found_site path folder)) mid None last
        → nat_le size 1048576 ≡ true
    few_new last judged = grind (arith, nat_tests, few_bytes, none_both, not_too_large)

    put_made : (last new : Rows) → IsJudged asker (new_items (found_site path folder)) mid None last
        → IsMade (new_child asker.caller Document folder.node name bytes) last new
        → CarriesOut asker (Put path bytes) old Made new
    put_made last new judged made known sound =
        let few = few_new last judged in
        let plan = put_judged asker old last None are (sound_parts old sound) path bytes
        (new_judged last None judged) in
        let new_step =
        made_new old are sound asker.caller Document folder.node name bytes found.there
        found.folds absent (records_of_plan asker.caller asker.moment
        (plan_of (meaning old.read) (Put path bytes)))
        (take folder.depth path) last new plan.notes named.sound (λ _. few) made in
        let place = planned_parent old are (sound_parts old sound) path
        (found_site path folder) spotted.folder in
        grind (arith, nat_tests, made_step, planned_none, sound_parts)

    made_closed : (last new : Rows)
        → IsJudged asker (new_items (found_site path folder)) mid None last
        → IsMade (new_child asker.caller Document folder.node name bytes) last new
        → IsClosed asker (Put path bytes) old Made new
    made_closed last new judged made =
        let all = new_judged last None judged in
        let adds = made_adds asker.caller Document folder.node name (last_name path) bytes old last
        new _ found.there found.folds absent named.last all.notes made in
        closed_done asker (Put path bytes) old Made last new all refl refl adds.next adds.audits
        adds.becomes (inr (found_site path folder, spotted.folder, spotted.child, refl))
        (inr (found_site path folder, spotted.folder, spotted.child, adds.adds))

    new_on : (answer : Option Reply) (last new : Rows) (reply : Reply)
        → IsJudged asker (new_items (found_site path folder)) mid answer last
        → Ends Made (IsMade (new_child asker.caller Document folder.node name bytes)) answer last
        reply new
        → IsServed asker (Put path bytes) old reply new
    new_on None last new reply judged ends =
        rw ends.0 (put_made last new judged ends.1, made_closed last new judged ends.1)
    new_on (Some refusal) last new reply judged ends = search (judged_refused, new_judged, not_put)

    pub put_in : (new : Rows) (reply : Reply)
        → IsJudgedAndDone asker (new_items (found_site path folder)) Made
        (IsMade (new_child asker.caller Document folder.node name bytes)) mid reply new
        → IsServed asker (Put path bytes) old reply new
    put_in new reply served = new_on served.answer served.mid new reply served.judged served.ends
