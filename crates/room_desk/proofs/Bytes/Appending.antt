-- A request that gives a document other bytes is a step.
use Rattle.std.proofs.Common.{rules, ◌≡◌, ℕ, ◌+◌, ◌==◌, Bool, true, false, cond, List, [], ◌∷◌}
use Rattle.std.proofs.Common.{◌++◌, length, Option, Some, None, Result, Ok, Err, refl, sym, ap}
use Rattle.std.proofs.Common.{subst, ◌∙◌, append_assoc, length-append, arith}
use Rattle.std.proofs.lemmas.{Bool.{ltb-false, le-leb, Decides.nat_tests}, List.append-nil}
use Rattle.std.specs.Prelude.{IfOk, unwrap_or, nat_lt, nat_le}
use Rattle.room_entry.specs.{Rights.append_data, Valid.is_document}
use Rattle.room_rows.specs.{declared.node.Node.Node, Content.{node_at, body_of, with_body}}
use Rattle.room_rows.specs.{Keep.{IsDamaged, KeepLaws, SetsBody, with_content}, Meaning.meaning}
use Rattle.room_rows.{specs.{Rows.{Rows, AreRows}, Sound.AreSound}, proofs.InPlace.with_body-there}
use Rattle.room_judge.specs.{declared.{asker.Asker.Asker, halt.Halt.Halt}, Closed.IsClosed}
use Rattle.room_judge.specs.{Closed.IsServed, Extent.{Extent, OnlyRecords}, Halted.replied}
use Rattle.room_judge.specs.{Halted.settled, Judged.{IsDone, IsJudged, IsReached, CarriesOut}}
use Rattle.room_judge.proofs.{Calls.{HasDone, finish, memory}, Closing.{closed_done, closed_failed}}
use Rattle.room_judge.proofs.Judging.{fails_first, passes_first, refuses, passes_on, judged_none}
use Rattle.room_machine.specs.declared.reply.Reply.{Reply, TheVariants.{Done, Refused}}
use Rattle.room_machine.specs.declared.reply.Reason.TheVariants.{TooLarge}
use Rattle.room_machine.specs.{declared.request.Request.TheVariants.Append, Site.{Site, site_at}}
use Rattle.room_machine.specs.{Plan.{Item, plan_of, not_over, way, where_found}, Stored.stored_site}
use Rattle.room_machine.specs.Stored.{stored_along, stored_plan, to_stored}
use Rattle.room_desk.specs.Written.{Answers, HasNoBytes, IsAppended, IsPut, TakesBytes, sized_reply}
use Rattle.room_desk.proofs.{Bytes.SoundBytes.sound_bytes, Steps.Stepping.refused_step}
use Rattle.room_desk.proofs.Steps.{Stepping.changed_step, Serving.{DocumentAt, document_there}}
use Rattle.room_desk.proofs.Steps.Serving.{no_bytes}
use Rattle.room_sound.proofs.{SoundParts.{sound_parts, sound_noted}, Filled.plan_judged}
use Rattle.room_sound.proofs.Filled.{target_there}

pub put_refused : (path : List (List ℕ)) (id : ℕ) (bytes : List ℕ) (old new : Rows) (reply : Reply)
    → nat_lt 1048576 (length bytes) ≡ true → reply ≡ Refused path TooLarge → new ≡ old
    → IsPut path id bytes old reply new
put_refused path id bytes old new reply many replies same = grind (arith, nat_tests)

pub put_set : (path : List (List ℕ)) (id : ℕ) (bytes : List ℕ) (old new : Rows)
    → nat_lt 1048576 (length bytes) ≡ false → SetsBody id bytes old new
    → IsPut path id bytes old Done new
put_set path id bytes old new few sets = grind (arith, nat_tests)

pub no_bytes_more : (bytes items : List ℕ) (t : Bool) → items ≡ bytes → t ≡ (length items == 0)
    → t ≡ true → bytes ≡ []
no_bytes_more [] items t same is holds = refl
no_bytes_more (byte ∷ more) items t same is holds = grind (arith, nat_tests)

-- adding no bytes changes nothing
pub put_kept : (path : List (List ℕ)) (id : ℕ) (before bytes : List ℕ) (old new : Rows)
    (reply : Reply) → AreRows old → body_of old.read id ≡ Some before → bytes ≡ []
    → reply ≡ sized_reply path (length before) → new ≡ old
    → IsPut path id (before ++ bytes) old reply new
put_kept path id before bytes old new reply are were none replies same =
    grind (arith, nat_tests, append-nil, with_body-there)

pub put_joined : (path : List (List ℕ)) (id : ℕ) (before bytes given : List ℕ) (old mid new : Rows)
    (reply : Reply) → given ≡ before ++ bytes → mid ≡ old → IsPut path id given mid reply new
    → IsPut path id (before ++ bytes) old reply new
put_joined path id before bytes given old mid new reply is same put = grind (arith, nat_tests)

pub if_ok : {X E P : Type 0} (r : Result X E) → P → IfOk r (λ x. P)
if_ok (Ok x) p = p
if_ok (Err e) p = tt

module _ {S : Type 0} {rows : S → Rows} {failures writes : S → ℕ}
    {Follows IsTrusted : S → S → Type 0}
    (laws : KeepLaws rows failures writes Follows IsTrusted) where
  -- the calls end with this reply, or memory ran out as it was made
  pub answers : {extent : Result Reply Reply → Extent} {a b : S} {Before : Rows → Rows → Type 0}
      {Blames : Rows → ℕ → Type 0} (Becomes : Rows → Reply → Rows → Type 0)
      → HasDone rows writes Follows IsTrusted OnlyRecords a b Before
      → (r : Result Reply Halt) (wanted : Reply) → Answers r wanted
      → ((old new : Rows) → AreRows old → Before old new → Becomes old wanted new)
      → IsDone rows failures writes Follows IsTrusted extent a b (settled r) Blames
      (λ old outcome new. Becomes old (replied outcome) new)
  answers Becomes before r wanted is becomes = grind (arith, nat_tests, finish, memory)

-- ---- items after others at the target

pub more_items : (first more : Site → List Item) (front : List Item) (o : Option Site)
    → front ++ where_found o (λ s. first s ++ more s) ≡ (front ++ where_found o first)
    ++ where_found o more
more_items first more front None = sym (append-nil (front ++ []))
more_items first more front (Some site) = sym (append_assoc front (first site) (more site))

module _ (asker : Asker) (path : List (List ℕ)) (bytes : List ℕ) where
  -- the size after the request
  abbrev sized : Rows → Site → List Item
  sized old site =
      not_over path (length (unwrap_or (body_of old.read site.node.id) []) + length bytes) ∷ []

  abbrev items : Rows → Site → List Item
  items old site = DocumentAt (append_data ∷ []) site ++ sized old site

  -- what is judged in parts is the plan by the stored lists
  as_stored : (old new : Rows) (answer : Option Reply)
      → IsJudged asker (to_stored old.read path (DocumentAt (append_data ∷ []))
      ++ where_found (site_at (stored_along old.read path) path) (sized old)) old answer new
      → IsJudged asker (stored_plan old.read (Append path bytes)) old answer new
  as_stored old new answer judged =
      subst (λ list. IsJudged asker list old answer new)
      (sym (more_items (DocumentAt (append_data ∷ [])) (sized old)
      (way false (stored_along old.read path) path) (site_at (stored_along old.read path) path)))
      judged

  planned : (old new : Rows) (answer : Option Reply) → AreRows old → AreSound old
      → IsJudged asker (stored_plan old.read (Append path bytes)) old answer new
      → IsJudged asker (plan_of (meaning old.read) (Append path bytes)) old answer new
  planned old new answer are sound judged = search (plan_judged, sound_parts)

  -- an item fails
  not_appended : (old new : Rows) (reply : Reply) → AreRows old
      → IsJudged asker (stored_plan old.read (Append path bytes)) old (Some reply) new
      → IsServed asker (Append path bytes) old reply new
  not_appended old new reply are judged = search (closed_failed, planned, refused_step)

  pub append_ended : (old new : Rows) (reply : Reply) → AreRows old
      → IsReached asker path (DocumentAt (append_data ∷ [])) old (Err reply) new
      → IsServed asker (Append path bytes) old reply new
  append_ended old new reply are reached = search (as_stored, fails_first, not_appended)

  module _ (old mid : Rows) (node : Node) (are : AreRows old)
      (reached : IsReached asker path (DocumentAt (append_data ∷ [])) old (Ok node) mid) where
    abbrev limit : ℕ → Item
    limit size = not_over path size

    -- what the item of the size answers
    sized_judged : (before : List ℕ) (new : Rows) (answer : Option Reply)
        → body_of old.read node.id ≡ Some before
        → IsJudged asker (limit (length (before ++ bytes)) ∷ []) mid answer new
        → IsJudged asker (stored_plan old.read (Append path bytes)) old answer new
    sized_judged before new answer were judged =
        as_stored old new answer
        (passes_first asker (to_stored old.read path (DocumentAt (append_data ∷ [])))
        (where_found (site_at (stored_along old.read path) path) (sized old)) old mid new answer
        reached.judged (search (rules, new, length-append, were, judged)))

    few_judged : (before : List ℕ) → body_of old.read node.id ≡ Some before
        → nat_lt 1048576 (length (before ++ bytes)) ≡ false
        → IsJudged asker (stored_plan old.read (Append path bytes)) old None mid
    few_judged before were few = search (judged_none, passes_on, sized_judged)

    there : (node_at old.read node.id ≡ Some node) × (is_document node.kind ≡ true)
    there = document_there asker path (append_data ∷ []) old mid node are reached

    bytes_set : (after : List ℕ) (new : Rows) → SetsBody node.id after mid new
        → new ≡ with_content mid (with_body mid.read node.id after)
    bytes_set after new sets = grind (arith, nat_tests, there)

    append_set : (before : List ℕ) (new : Rows) → body_of old.read node.id ≡ Some before
        → nat_lt 1048576 (length (before ++ bytes)) ≡ false
        → SetsBody node.id (before ++ bytes) mid new
        → CarriesOut asker (Append path bytes) old Done new
    append_set before new were few sets known sound =
        let judged = planned old mid None are sound (few_judged before were few) in
        let new_is = bytes_set (before ++ bytes) new sets in
        let fits : nat_le (length (before ++ bytes)) 1048576 ≡ true = le-leb
        (length (before ++ bytes)) 1048576 (ltb-false 1048576 (length (before ++ bytes)) few) in
        let target = target_there old are (sound_parts old sound) path
        (stored_site path node) reached.found in
        changed_step asker (Append path bytes) old known sound mid new Done
        (with_body (meaning old.read) node.id (before ++ bytes)) judged
        (grind (arith, nat_tests)) (search (rules, new_is, judged.notes))
        (subst AreSound
        (sym (new_is
        ∙ ap (λ (r : Rows). with_content r (with_body r.read node.id (before ++ bytes)))
        judged.notes))
        (sound_noted (with_content old (with_body old.read node.id (before ++ bytes))) _
        (sound_bytes old node.id node (before ++ bytes) are sound there.0 there.1 fits)))

    append_closed : (before : List ℕ) (new : Rows) → body_of old.read node.id ≡ Some before
        → nat_lt 1048576 (length (before ++ bytes)) ≡ false
        → SetsBody node.id (before ++ bytes) mid new
        → IsClosed asker (Append path bytes) old Done new
    append_closed before new were few sets =
        let judged = few_judged before were few in
        closed_done asker (Append path bytes) old Done mid new judged refl refl
        (with_body old.read node.id (before ++ bytes)) refl
        (cc (bytes_set (before ++ bytes) new sets, judged.notes))
        (stored_site path node, reached.found, refl)
        (stored_site path node, reached.found, (before, were, refl))

    on_size : (before : List ℕ) (t : Bool) (new : Rows) (reply : Reply)
        → body_of old.read node.id ≡ Some before → nat_lt 1048576 (length (before ++ bytes)) ≡ t
        → reply ≡ cond t (Refused path TooLarge) Done
        → TakesBytes t node.id (before ++ bytes) mid new
        → IsServed asker (Append path bytes) old reply new
    on_size before true new reply were many replies takes =
        search (not_appended, refuses, sized_judged)
    on_size before false new reply were few replies takes =
        search (rules, new, replies, append_set, were, few, takes, append_closed)

    pub append_done : (new : Rows) (reply : Reply) → IsAppended path node.id bytes mid reply new
        → IsServed asker (Append path bytes) old reply new
    append_done new reply appended =
        on_size appended.before (nat_lt 1048576 (length (appended.before ++ bytes))) new reply
        (sym (ap (λ (r : Rows). body_of r.read node.id) reached.judged.notes) ∙ appended.were) refl
        appended.put.replies appended.put.becomes

    pub append_blames : (row : ℕ) → HasNoBytes node.id mid row → IsDamaged old row
    append_blames row h = no_bytes asker path (append_data ∷ []) old mid node row are reached h
