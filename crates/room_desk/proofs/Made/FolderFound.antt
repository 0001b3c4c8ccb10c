-- The folder that a walk came to is there, and is one, and what isn't found under it isn't there.
use Rattle.std.proofs.Common.{◌≡◌, ℕ, ◌<◌, Bool, true, false, cond, not, List, [], ◌∷◌, ◌++◌}
use Rattle.std.{proofs.Common.{length, Option, Some, None, refl, ◌∙◌}, specs.Prelude.is_none}
use Rattle.room_entry.specs.Rights.{execute}
use Rattle.room_rows.specs.{declared.node.Node.Node, Content.{node_at, child_of, is_folder}}
use Rattle.room_rows.specs.Rows.{Rows, AreRows}
use Rattle.room_judge.specs.{declared.{arrival.Found.Found, asker.Asker.Asker}, Stored.found_site}
use Rattle.room_judge.specs.{Judged.through, Spot.{IsSpotted, spot_of}}
use Rattle.room_judge.proofs.{Judging.failure_of_parts, Spots.folder_along, Folders.stem_of}
use Rattle.room_judge.proofs.Folders.{folder_is, lacks}
use Rattle.room_machine.specs.declared.reply.Reply.TheVariants.{Refused}
use Rattle.room_machine.specs.{declared.reply.Reason.TheVariants.NotFolder, Site.{Site, front}}
use Rattle.room_machine.specs.{Site.last_name, Plan.{Item, Check, Refusal, way}, Judge.failure}
use Rattle.room_machine.specs.{Judge.first_failure, Stored.stored_along}
use Rattle.room_desk.proofs.Steps.Serving.{none_both, along_there}

pub record IsFoundFolder (old : Rows) (path : List (List ℕ)) (folder : Node)
    (child : Option Node) : Type 0 where
  pub there : node_at old.read folder.id ≡ Some folder
  pub folds : is_folder folder ≡ true
  pub lacks : is_none (child_of old.read folder.id (last_name path)) ≡ is_none child

not_refused : (t : Bool) (path : List (List ℕ))
    → None ≡ cond (not t) (Some (Refused path NotFolder)) None → t ≡ true
not_refused true path passes = refl
not_refused false path passes = absurd (let wrong : ⊥ = cc in wrong)

pub found_folder : (asker : Asker) (path : List (List ℕ)) → 0 < length path
    → (old mid : Rows) (folder : Found) (child : Option Node) → AreRows old
    → IsSpotted asker path old (spot_of folder child) mid → IsFoundFolder old path folder.node child
found_folder asker path some old mid folder child are spotted =
    let site : Site = found_site path folder in
    let at : folder_along old.read path ≡ Some (found_site path folder) =
    folder_is asker path some old mid folder child spotted in
    let begin : List Item = way false (stored_along old.read (front path)) (front path) in
    let passes : None ≡ first_failure asker.caller
    (way false (stored_along old.read (front path)) (front path)
    ++ through (found_site path folder)) =
    cc ((stem_of asker path some old mid None spotted.judged).answers, at) in
    let passing = none_both
    (first_failure asker.caller (way false (stored_along old.read (front path)) (front path)))
    (first_failure asker.caller (through (found_site path folder)))
    (passes ∙ failure_of_parts asker.caller asker.moment begin (through site)) in
    let first = none_both
    (failure asker.caller
    (Refusal (found_site path folder).path NotFolder (not (is_folder folder.node))))
    (first_failure asker.caller (Check (found_site path folder) (execute ∷ []) ∷ [])) passing.1
    in
    record {
      there = along_there old.read are.numbers (front path) site at;
      folds = not_refused (is_folder folder.node) (found_site path folder).path first.0;
      lacks = lacks asker path some old mid folder child spotted;
    }
