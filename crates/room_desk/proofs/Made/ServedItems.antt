-- What is judged before an object is changed or made, in terms of the calls.
use Rattle.std.proofs.Common.{rules, ◌≡◌, ℕ, Bool, true, false, List, [], ◌∷◌, ◌++◌, length, Option}
use Rattle.std.proofs.Common.{Some, None, arith, length-append, Result}
use Rattle.std.proofs.lemmas.Bool.Decides.{nat_tests}
use Rattle.room_entry.specs.Rights.{write_data}
use Rattle.room_rows.specs.Keep.{Addition, IsDamaged, IsUnreadable, SetsBody}
use Rattle.room_rows.specs.{Paths.is_object_name, Rows.Rows}
use Rattle.room_judge.specs.{declared.{asker.Asker.Asker, arrival.Under.Under}, Judged.IsJudged}
use Rattle.room_judge.{specs.Spot.IsSpotted, proofs.Judging.{blames_first, judged_none}}
use Rattle.room_judge.proofs.{Judging.{passes_first, passes_on, refuses}, Spots.last_of}
use Rattle.room_machine.specs.declared.reply.Reply.{Reply, TheVariants.{Done, Made}}
use Rattle.room_machine.specs.{declared.reply.Reason.Reason, Site.Site, Plan.{Check, Item, Refusal}}
use Rattle.room_machine.specs.Plan.{no_folder, not_over}
use Rattle.room_desk.specs.{Made.{IsMade, IsNameOf, IsJudgedAndDone}, Written.IsPut}

-- the last part of a path that was split
pub name_of_parts : (path names : List (List ℕ)) (name : List ℕ) → path ≡ names ++ name ∷ []
    → is_object_name name ≡ true → IsNameOf path name
name_of_parts path names name parts sound = search (rules, parts, length-append, last_of)

-- a row that can't be read after the way
pub spotted_blames : (asker : Asker) (path : List (List ℕ)) (spot : Result Under Reply)
    (old mid : Rows) (row : ℕ) → IsSpotted asker path old spot mid → IsUnreadable mid row
    → IsDamaged old row
spotted_blames asker path spot old mid row spotted h = grind (arith, nat_tests, blames_first)

module _ (asker : Asker) where
  -- a refusal that is handed on
  pub judged_refused : (items : List Item) (old mid new : Rows) (refusal reply : Reply)
      → IsJudged asker items old (Some refusal) mid → reply ≡ refusal → new ≡ mid
      → IsJudged asker items old (Some reply) new
  judged_refused items old mid new refusal reply judged replies same = grind (arith, nat_tests)

  -- a check passed, and what a refusal asks for isn't so
  pub added_behind : (site : Site) (mask bits : List ℕ) (path : List (List ℕ)) (why : Reason)
      (holds : Bool) (node : Addition) (old mid new : Rows) (answer : Option Reply) (reply : Reply)
      → mask ≡ bits → answer ≡ None → holds ≡ false
      → IsJudged asker (Check site mask ∷ []) old answer mid → (reply ≡ Made) × IsMade node mid new
      → IsJudgedAndDone asker (Check site bits ∷ Refusal path why holds ∷ []) Made
      (IsMade node) old reply new
  added_behind site mask bits path why holds node old mid new answer reply same passes isnt judged
      made = grind (arith, nat_tests, judged_none, passes_first, passes_on)

  -- a document that is there passed, and gets the bytes if there aren't too many
  pub put_behind : (site : Site) (mask : List ℕ) (path : List (List ℕ)) (id : ℕ)
      (bytes given : List ℕ) (old mid new : Rows) (answer : Option Reply) (reply : Reply)
      → mask ≡ write_data ∷ [] → answer ≡ None → given ≡ bytes
      → IsJudged asker (no_folder site ∷ Check site mask ∷ []) old answer mid
      → IsPut path id given mid reply new
      → IsJudgedAndDone asker
      (no_folder site ∷ Check site (write_data ∷ []) ∷ not_over path (length bytes) ∷ []) Done
      (SetsBody id bytes) old reply new
  put_behind site mask path id bytes given old mid new answer reply same passes are judged put =
      grind (arith, nat_tests, judged_none, passes_first, passes_on, refuses)
