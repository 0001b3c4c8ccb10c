-- What calls that may be refused answer, and what they leave.
use Rattle.std.specs.Prelude.{◌≡◌, ℕ, List, length, Option, Some, None, Result, Ok, Err}
use Rattle.room_rows.specs.declared.keep.Keep.{Ghosts}
use Rattle.room_rows.specs.declared.keep.KeepFault.{KeepFault}
use Rattle.room_rows.specs.declared.keep.KeepFault.TheVariants.{Memory}
use Rattle.room_rows.specs.declared.node.Node.{Node}
use Rattle.room_rows.specs.Rows.{Rows}
use Rattle.room_machine.specs.declared.reply.Reply.{Reply}
use Rattle.room_machine.specs.declared.reply.Reply.TheVariants.{Refused as RefusedWith}
use Rattle.room_machine.specs.declared.reply.Reason.TheVariants.{NoSuch}
use Rattle.room_machine.specs.declared.request.Request.{Request}
use Rattle.room_machine.specs.Closed.{failure_told}
use Rattle.room_machine.specs.Plan.{Item}
use Rattle.room_judge.specs.declared.arrival.Both.{Both}
use Rattle.room_judge.specs.declared.arrival.Found.{Found}
use Rattle.room_judge.specs.declared.asker.Asker.{Asker}
use Rattle.room_judge.specs.declared.halt.Halt.{Halt}
use Rattle.room_judge.specs.declared.halt.Halt.TheVariants.{Refused, Fault}
use Rattle.room_judge.specs.Closed.{IsServed}
use Rattle.room_judge.specs.Extent.{Extent, OnlyRecords, Unless}
use Rattle.room_judge.specs.Judged.{DoesWithin, IsJudged, refusal_of}
use Rattle.room_judge.specs.Spot.{pair_of}

-- A refusal is an outcome, as an answer is. A fault isn't.
abbrev pub settled : {X : Type 0} → Result X Halt → Result (Result X Reply) KeepFault
settled (Ok x) = Ok (Ok x)
settled (Err (Refused reply)) = Ok (Err reply)
settled (Err (Fault fault)) = Err fault

-- a refusal is a reply
abbrev pub replied : Result Reply Reply → Reply
replied (Ok reply) = reply
replied (Err reply) = reply

-- unless the reply tells a denial or a refusal, so many writes suffice
abbrev pub served_up_to : (Rows → Rows → ℕ → Type 0) → Reply → Extent
served_up_to Suffices reply = Unless (failure_told reply) Suffices

-- The same where calls may be refused: the relation says what each outcome leaves.
module _ {S : Type 0} (k : Ghosts S) {X : Type 0} (old new : S) (result : Result X Halt) where
  abbrev pub TriesWithin : (Result X Reply → Extent) → (Rows → ℕ → Type 0)
      → (Rows → Result X Reply → Rows → Type 0) → Type 0
  TriesWithin extent Blames Becomes = DoesWithin k old new (settled result) extent Blames Becomes

  abbrev pub Tries : (Rows → ℕ → Type 0) → (Rows → Result X Reply → Rows → Type 0) → Type 0
  Tries Blames Becomes = TriesWithin (λ outcome. OnlyRecords) Blames Becomes

-- calls that end with a reply
module _ {S : Type 0} (k : Ghosts S) (old new : S) where
  abbrev pub TriesUpTo : Result Reply Halt → (Rows → Rows → ℕ → Type 0) → (Rows → ℕ → Type 0)
      → (Rows → Result Reply Reply → Rows → Type 0) → Type 0
  TriesUpTo result Suffices Blames Becomes =
      TriesWithin k old new result (λ outcome. served_up_to Suffices (replied outcome)) Blames
      Becomes

  abbrev pub RepliesUpTo : Result Reply KeepFault → (Rows → Rows → ℕ → Type 0)
      → (Rows → ℕ → Type 0) → (Rows → Reply → Rows → Type 0) → Type 0
  RepliesUpTo result Suffices Blames Becomes =
      DoesWithin k old new result (served_up_to Suffices) Blames Becomes

-- The refusal is the reply for the first item that fails, and the records of the items up to it
-- come after the others.
abbrev pub Judges : {X : Type 0} → Asker → List Item → Rows → Result X Reply → Rows → Type 0
Judges asker items old outcome new = IsJudged asker items old (refusal_of outcome) new

-- this refusal, or out of memory
abbrev pub Refuses : Halt → Option Reply → Type 0
Refuses (Refused reply) wanted = Some reply ≡ wanted
Refuses (Fault fault) wanted = fault ≡ Memory

-- granted, or this refusal, or out of memory
abbrev pub Grants : {X : Type 0} → Result X Halt → Option Reply → Type 0
Grants (Ok x) wanted = None ≡ wanted
Grants (Err halt) wanted = Refuses halt wanted

-- the folder and the object at the path, where there is one
abbrev pub both_with : List (List ℕ) → Found → Option Node → Result Both Reply
both_with path folder (Some node) =
    pair_of folder (record { node = node; depth = length path })
both_with path folder None = Err (RefusedWith path NoSuch)

-- this outcome, or out of memory
abbrev pub Comes : {X : Type 0} → Result X Halt → Result X Reply → Type 0
Comes (Ok x) wanted = Ok x ≡ wanted
Comes (Err (Refused reply)) wanted = Err reply ≡ wanted
Comes (Err (Fault fault)) wanted = fault ≡ Memory

-- ---- a request

abbrev pub Serves : Asker → Request → Rows → Result Reply Reply → Rows → Type 0
Serves asker request old outcome new = IsServed asker request old (replied outcome) new

-- what a request answers in the end
abbrev pub reply_of : Result Reply Halt → Result Reply KeepFault
reply_of (Ok reply) = Ok reply
reply_of (Err (Refused reply)) = Ok reply
reply_of (Err (Fault fault)) = Err fault
