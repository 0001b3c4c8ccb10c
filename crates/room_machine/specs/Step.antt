-- One step of the room machine.
use Rattle.std.specs.Prelude.{◌≡◌, ℕ, ℤ, ◌<◌, Bool, true, false, List, [], filter, Option, Some}
use Rattle.std.specs.Prelude.{None, is_none, IsTrue}
use Rattle.room_entry.specs.declared.object.Which.{Which}
use Rattle.room_entry.specs.declared.parties.Caller.{Caller}
use Rattle.room_rows.specs.Content.{Content, node_at, groups_for, with_records, with_members}
use Rattle.room_rows.specs.declared.node.AuditRow.{AuditRow}
use Rattle.room_ace.specs.Sent.{Sent}
use Rattle.room_machine.specs.declared.request.Request.{Request}
use Rattle.room_machine.specs.declared.request.Request.TheVariants.{SetList}
use Rattle.room_machine.specs.declared.reply.Reply.{Reply}
use Rattle.room_machine.specs.Plan.{Item, Check, Deletion, Refusal, plan_of}
use Rattle.room_machine.specs.Judge.{first_failure, records_of_plan}
use Rattle.room_machine.specs.Effect.{effect}

-- the caller of this name, or without one, with the groups of the content
abbrev pub caller_in : Content → Option (List ℕ) → Caller
caller_in content user = record { user = user; groups = groups_for content user }

-- the first failure is the reply, and changes nothing; else the request has its effect
abbrev pub failure_or : Option Reply → Content → Reply × Content → Reply × Content
failure_or (Some reply) content done = (reply, content)
failure_or None content done = done

abbrev pub done_with_records : Reply × Content → List AuditRow → Reply × Content
done_with_records done rows = (done.0, with_records done.1 rows)

-- the reply and the content after, where a new object gets this number
abbrev pub step : Content → Option (List ℕ) → ℤ → Request → ℕ → Reply × Content
step content user moment request id =
    let caller = caller_in content user in
    let plan = plan_of content request in
    done_with_records
    (failure_or (first_failure caller plan) content (effect content caller id request))
    (records_of_plan caller moment plan)

-- the number isn't in use
abbrev pub IsFree : Content → ℕ → Type 0
IsFree content id = (0 < id) × IsTrue (is_none (node_at content id))

-- From the content, the machine may give this reply to the request of the caller at that moment and
-- go on to the other content. A new object gets any number that isn't in use.
abbrev pub Step : Content → Option (List ℕ) → ℤ → Request → Reply → Content → Type 0
Step content user moment request reply after = (id : ℕ) × IsFree content id
    × (step content user moment request id ≡ (reply, after))

-- ---- the operator's steps

abbrev pub is_refusal : Item → Bool
is_refusal (Check site bits) = false
is_refusal (Deletion target parent) = false
is_refusal (Refusal path why holds) = true

-- A list is set as by a request, with the refusals of its plan alone. No rights are checked, and no
-- record is left.
abbrev pub reset : Content → List (List ℕ) → Which → Sent → Reply × Content
reset content path which sent =
    let caller : Caller = record { user = None; groups = [] } in
    failure_or
    (first_failure caller (filter is_refusal (plan_of content (SetList path which sent))))
    content (effect content caller 0 (SetList path which sent))

abbrev pub Reset : Content → List (List ℕ) → Which → Sent → Reply → Content → Type 0
Reset content path which sent reply after = reset content path which sent ≡ (reply, after)

-- The pairs are replaced by the given ones.
abbrev pub ReplaceMembers : Content → List (List ℕ × List ℕ) → Content → Type 0
ReplaceMembers content pairs after = after ≡ with_members content pairs
