-- A request that changes nothing but records is a step.
use Rattle.std.proofs.Common.{◌≡◌, ℕ, List, Option, Some, None, refl, arith}
use Rattle.std.proofs.lemmas.Bool.Decides.{nat_tests}
use Rattle.room_entry.specs.declared.parties.Caller.{Caller}
use Rattle.room_rows.specs.{Content.{Content, with_records}, Meaning.meaning, Rows.Rows}
use Rattle.room_rows.specs.Sound.{AreSound}
use Rattle.room_judge.specs.{declared.asker.Asker.Asker, Judged.{IsJudged, IsKnown, IsStepOfRows}}
use Rattle.room_judge.specs.Judged.{with_notes}
use Rattle.room_machine.specs.{declared.{reply.Reply.Reply, request.Request.Request}, Plan.plan_of}
use Rattle.room_machine.specs.{Judge.{first_failure, records_of_plan}, Effect.effect, Step.Step}
use Rattle.room_machine.specs.Step.{caller_in, failure_or, done_with_records}
use Rattle.room_machine.proofs.Free.{some_free}
use Rattle.room_sound.proofs.SoundParts.{sound_noted}

-- the rows and what they mean have the same pairs
caller_kept : (rows : Content) (user : Option (List ℕ))
    → caller_in (meaning rows) user ≡ caller_in rows user
caller_kept rows None = refl
caller_kept rows (Some name) = refl

module _ (asker : Asker) (request : Request) (old : Rows) (known : IsKnown asker old)
    (sound : AreSound old) where
  abbrev content : Content
  content = meaning old.read

  -- what the step makes of a caller
  abbrev made : ℕ → Caller → Reply × Content
  made id caller =
      done_with_records (failure_or (first_failure caller (plan_of content request)) content
      (effect content caller id request))
      (records_of_plan caller asker.moment (plan_of content request))

  by_records : (id : ℕ) → Rattle.room_machine.specs.Step.IsFree content id
      → (new : Rows) (reply : Reply)
      → made id asker.caller
      ≡ (
        reply,
        meaning (with_notes old
            (records_of_plan asker.caller asker.moment (plan_of content request))).read,
      )
      → new ≡ with_notes old (records_of_plan asker.caller asker.moment (plan_of content request))
      → IsStepOfRows asker.caller.user asker.moment request old reply new
  by_records id free new reply makes notes = grind (arith, nat_tests, caller_kept, sound_noted)

  pub refused_step : (new : Rows) (reply : Reply)
      → IsJudged asker (plan_of content request) old (Some reply) new
      → IsStepOfRows asker.caller.user asker.moment request old reply new
  refused_step new reply judged =
      let free = some_free content in
      by_records free.0 free.1 new reply
      (cc (judged.answers))
      judged.notes

  pub served_step : (new : Rows) (reply : Reply)
      → ((id : ℕ) → effect content asker.caller id request ≡ (reply, content))
      → IsJudged asker (plan_of content request) old None new
      → IsStepOfRows asker.caller.user asker.moment request old reply new
  served_step new reply serves judged =
      let free = some_free content in
      by_records free.0 free.1 new reply
      (grind (arith, nat_tests))
      judged.notes

  -- none fails, and the request changes more than records, with this number for a new object
  pub made_step : (id : ℕ) → Rattle.room_machine.specs.Step.IsFree content id
      → (mid new : Rows) (reply : Reply) (after : Content)
      → IsJudged asker (plan_of content request) old None mid
      → effect content asker.caller id request ≡ (reply, after)
      → meaning new.read
      ≡ with_records after (records_of_plan asker.caller asker.moment (plan_of content request))
      → AreSound new → IsStepOfRows asker.caller.user asker.moment request old reply new
  made_step id free mid new reply after judged changes means stays =
      grind (arith, nat_tests, caller_kept)

  -- the same, where the number doesn't matter
  pub changed_step : (mid new : Rows) (reply : Reply) (after : Content)
      → IsJudged asker (plan_of content request) old None mid
      → ((id : ℕ) → effect content asker.caller id request ≡ (reply, after))
      → meaning new.read
      ≡ with_records after (records_of_plan asker.caller asker.moment (plan_of content request))
      → AreSound new → IsStepOfRows asker.caller.user asker.moment request old reply new
  changed_step mid new reply after judged changes means stays =
      let free = some_free content in
      made_step free.0 free.1 mid new reply after judged (changes free.0) means stays
