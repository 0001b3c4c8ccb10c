-- A request that gives an object other owners is a step.
use Rattle.std.proofs.Common.{◌≡◌, ℕ, ◌⊎◌, ◌&&◌, true, List, [], ◌∷◌, Some, None, refl, sym, ap}
use Rattle.std.proofs.{Common.{subst, ◌∙◌, inl, inr, Ok, arith}, lemmas.Slice.Eq.bytes_eq-Decides}
use Rattle.std.proofs.lemmas.Bool.Decides.{nat_tests}
use Rattle.room_entry.specs.{Pieces.same_text, Rights.write_owner, declared.parties.Owners.Owners}
use Rattle.room_rows.specs.{declared.node.Node.Node, Content.{node_at, with_each, with_node}}
use Rattle.room_rows.specs.{Keep.{Changes, with_content, with_owners}, Meaning.{kept_node, meaning}}
use Rattle.room_rows.{specs.Rows.{Rows, AreRows}, proofs.{Frames.Rises, InPlace.keeps_places}}
use Rattle.room_rows.proofs.InPlace.{node_at-with_each, rises-with_each, with_node-there}
use Rattle.room_judge.specs.{declared.asker.Asker.Asker, Judged.{IsReached, CarriesOut}}
use Rattle.room_judge.{specs.Closed.IsServed, proofs.Closing.closed_done}
use Rattle.room_machine.specs.declared.reply.Reply.TheVariants.{Done}
use Rattle.room_machine.specs.{declared.request.Request.TheVariants.SetOwners, Stored.stored_site}
use Rattle.room_sound.proofs.{SoundParts.{sound_parts, sound_noted}, Filled.plan_judged}
use Rattle.room_sound.proofs.Filled.{target_there}
use Rattle.room_desk.proofs.Owned.SoundOwners.{owned, owned_means, put_owned, sound_owned}
use Rattle.room_desk.proofs.Steps.{Stepping.changed_step, Serving.{CheckAt, along_there}}

-- ---- owners that are the same

pub equal_owners : (a b : Owners) → (same_text a.owner b.owner && same_text a.group b.group) ≡ true
    → a ≡ b
equal_owners a b same = grind (arith, nat_tests, bytes_eq-Decides)

pub owners_themselves : (a b : Owners) → a ≡ b
    → (same_text a.owner b.owner && same_text a.group b.group) ≡ true
owners_themselves a b same = grind (arith, nat_tests, bytes_eq-Decides)

-- to give an object the owners that it has changes nothing
unchanged : (rows new : Rows) (owners : Owners) (node : Node) → Rises rows.read
    → node_at rows.read node.id ≡ Some node → owners ≡ node.owners → new ≡ rows
    → Changes node.id (with_owners owners) rows new
unchanged rows new owners node rises there same stays other found =
    grind (arith, nat_tests, with_node-there)

-- ---- the request

owners_changed : (asker : Asker) (path : List (List ℕ)) (owners : Owners) (old mid new : Rows)
    (node : Node) → AreRows old
    → IsReached asker path (CheckAt (write_owner ∷ [])) old (Ok node) mid
    → Changes node.id (with_owners owners) mid new
    → IsServed asker (SetOwners path owners) old Done new
owners_changed asker path owners old mid new node are reached changes = (
  carried,
  closed_done asker (SetOwners path owners) old Done mid new reached.judged refl refl
      (with_node old.read (with_owners owners node)) refl
      (grind (arith, nat_tests, there_mid))
      (stored_site path node, reached.found, refl) (stored_site path node, reached.found, refl),
)
  where
    there : node_at old.read node.id ≡ Some node
    there = along_there old.read are.numbers path (stored_site path node) reached.found

    there_mid : node_at mid.read node.id ≡ Some node
    there_mid = ap (λ (r : Rows). node_at r.read node.id) reached.judged.notes ∙ there

    new_is : new ≡ with_content mid (with_each mid.read (owned node.id owners))
    new_is =
        changes node there_mid
        ∙ ap (with_content mid)
        (put_owned mid.read (subst (λ (r : Rows). Rises r.read)
        (sym reached.judged.notes) are.numbers) node.id owners node there_mid)

    means_owned : with_node (meaning old.read) (with_owners owners (kept_node old.read node))
        ≡ with_each (meaning old.read) (owned node.id owners)
    means_owned = search (keeps_places, node_at-with_each, put_owned, rises-with_each, there)

    carried : CarriesOut asker (SetOwners path owners) old Done new
    carried known sound =
        let target = target_there old are (sound_parts old sound) path
        (stored_site path node) reached.found in
        let judged = plan_judged asker path (CheckAt (write_owner ∷ [])) old mid None are
        (sound_parts old sound) (λ site. refl) reached.judged in
        changed_step asker (SetOwners path owners) old known sound mid new Done
        (with_each (meaning old.read) (owned node.id owners)) judged
        (grind (arith, nat_tests, means_owned))
        (ap (λ (r : Rows). meaning r.read) new_is ∙ owned_means mid.read node.id owners
        ∙ ap (λ (r : Rows). with_each (meaning r.read) (owned node.id owners)) judged.notes)
        (grind (arith, nat_tests, new_is, owned, sound_noted, sound_owned))

pub owners_set : (asker : Asker) (path : List (List ℕ)) (owners : Owners) (old mid new : Rows)
    (node : Node) → AreRows old
    → IsReached asker path (CheckAt (write_owner ∷ [])) old (Ok node) mid
    → ((owners ≡ node.owners) × (new ≡ mid)) ⊎ Changes node.id (with_owners owners) mid new
    → IsServed asker (SetOwners path owners) old Done new
owners_set asker path owners old mid new node are reached (inl same) =
    let there = ap (λ (r : Rows). node_at r.read node.id) reached.judged.notes
    ∙ along_there old.read are.numbers path (stored_site path node) reached.found in
    let rises = subst (λ (r : Rows). Rises r.read) (sym reached.judged.notes) are.numbers in
    owners_changed asker path owners old mid new node are reached
    (unchanged mid new owners node rises there same.0 same.1)
owners_set asker path owners old mid new node are reached (inr changes) = search (owners_changed)
