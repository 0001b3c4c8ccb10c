-- What is judged of a new name in a folder.
use Rattle.std.proofs.Common.{◌≡◌, ℕ, ◌+◌, Bool, true, false, List, [], ◌∷◌, ◌++◌, take, length}
use Rattle.std.proofs.{Common.{Option, Some, None, ap, subst, ◌∙◌, arith}, Math.Seq.take-length}
use Rattle.std.{proofs.lemmas.Bool.Decides.nat_tests, specs.Prelude.is_some}
use Rattle.room_rows.specs.{declared.node.Node.Node, Content.child_of, Rows.Rows}
use Rattle.room_judge.specs.{declared.asker.Asker.Asker, Judged.{IsJudged, name_after}}
use Rattle.room_judge.proofs.Judging.{judged_none, passes_first, passes_on, refuses}
use Rattle.room_judge.proofs.Spots.{name_is_last, take_front}
use Rattle.room_machine.specs.declared.reply.{Reply.{Reply, TheVariants.Refused}, Reason.Reason}
use Rattle.room_machine.specs.{declared.reply.Reason.TheVariants.{Exists, Loop}, Site.front}
use Rattle.room_machine.specs.{Site.last_name, Plan.{Item, Refusal}}
use Rattle.room_desk.specs.Moving.{IsTaken, JudgesAll, begins, free_place}

-- ---- in terms of the calls

module _ (to : List (List ℕ)) (is_below : Bool) (folder : Node) where
  abbrev items : Rows → List Item
  items rows = free_place rows.read to is_below folder

  whole : (why : Reason) (reply : Reply) (names : List (List ℕ)) → names ≡ to
      → reply ≡ Refused (take (length names) to) why → reply ≡ Refused to why
  whole why reply names are replies = grind (arith, nat_tests, take-length)

  taken_is : (depth : ℕ) (name : List ℕ) (old : Rows) (taken : Bool) → length to ≡ depth + 1
      → name ≡ name_after to depth → IsTaken folder.id name old taken
      → is_some (child_of old.read folder.id (last_name to)) ≡ taken
  taken_is depth name old taken deep named is = grind (arith, nat_tests, name_is_last)

  pub exists_refused : (old new : Rows) (reply : Reply) (taken : Bool) (names : List (List ℕ))
      (depth : ℕ) (name : List ℕ) → length to ≡ depth + 1 → name ≡ name_after to depth
      → IsTaken folder.id name old taken
      → taken ≡ true → names ≡ to → reply ≡ Refused (take (length names) to) Exists → new ≡ old
      → JudgesAll items old (Some reply) new
  exists_refused old new reply taken names depth name deep named is holds are replies same asker =
      refuses asker to Exists (is_some (child_of old.read folder.id (last_name to)))
      (Refusal to Loop is_below ∷ []) old new reply (whole Exists reply names are replies)
      (taken_is depth name old taken deep named is ∙ holds) same

  -- nothing has the name
  free : (old new : Rows) (answer : Option Reply) (taken : Bool) (depth : ℕ) (name : List ℕ)
      → length to ≡ depth + 1 → name ≡ name_after to depth → IsTaken folder.id name old taken
      → taken ≡ false
      → ((asker : Asker) → IsJudged asker (Refusal to Loop is_below ∷ []) old answer new)
      → JudgesAll items old answer new
  free old new answer taken depth name deep named is absent judged asker =
      passes_on asker to Exists (is_some (child_of old.read folder.id (last_name to)))
      (Refusal to Loop is_below ∷ []) old new answer
      (taken_is depth name old taken deep named is ∙ absent) (judged asker)

  pub loop_refused : (old new : Rows) (reply : Reply) (taken : Bool) (names : List (List ℕ))
      (depth : ℕ) (name : List ℕ) → length to ≡ depth + 1 → name ≡ name_after to depth
      → IsTaken folder.id name old taken → taken ≡ false
      → is_below ≡ true → names ≡ to → reply ≡ Refused (take (length names) to) Loop → new ≡ old
      → JudgesAll items old (Some reply) new
  loop_refused old new reply taken names depth name deep named is absent below are replies same =
      search (free, refuses, whole)

  pub all_free : (old new : Rows) (taken : Bool) (depth : ℕ) (name : List ℕ) → length to ≡ depth + 1
      → name ≡ name_after to depth → IsTaken folder.id name old taken → taken ≡ false
      → is_below ≡ false → new ≡ old → JudgesAll items old None new
  all_free old new taken depth name deep named is absent apart same =
      search (free, judged_none, passes_on)

  -- after items that passed
  pub free_after : (asker : Asker) (first : List Item) (old mid new : Rows) (answer : Option Reply)
      → IsJudged asker first old None mid → JudgesAll items mid answer new
      → IsJudged asker (first ++ items old) old answer new
  free_after asker first old mid new answer judged free =
      passes_first asker first (items old) old mid new answer judged
      (subst (λ list. IsJudged asker list mid answer new) (ap (λ (r : Rows). items r) judged.notes)
      (free asker))

-- the way to the new folder, compared with the object's path
pub begun_as : (path to names others : List (List ℕ)) (depth : ℕ) (answer : Bool)
    → length to ≡ depth + 1 → names ≡ path → others ≡ take depth to → answer ≡ begins names others
    → begins path (front to) ≡ answer
begun_as path to names others depth answer deep are is compared =
    grind (arith, nat_tests, take_front)
