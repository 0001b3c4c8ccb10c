-- Why a piece can't be built or changed as it is asked (own).
use Rattle.std.specs.Prelude.{◌≡◌, ℕ, List, ◌++◌, Option, Some, None, codes, decimal}
use Rattle.room_entry.specs.Faults.{list_fault_text}
use Rattle.room_entry.specs.declared.failure.Failure.{Failure}
use Rattle.room_entry.specs.declared.failure.Failure.TheVariants.{OutOfMemory, Fault}
use Rattle.room_machine.specs.declared.reply.Reason.{Reason}
use Rattle.room_machine.specs.declared.reply.Reason.TheVariants as reason
use Rattle.room_machine.specs.declared.reply.Reply.{Reply}
use Rattle.room_machine.specs.declared.reply.Reply.TheVariants.{Refused}
use Rattle.room_piece.specs.declared.refusal.Refusal.{Refusal}
use Rattle.room_piece.specs.declared.refusal.RefusalWhy.{RefusalWhy}
use Rattle.room_piece.specs.declared.refusal.RefusalWhy.TheVariants.{NotPassedDown, Room}

-- what a failure says of its fault; of memory that ran out it says nothing
abbrev pub Blames : (Refusal → Type 0) → Failure Refusal → Type 0
Blames says OutOfMemory = Unit {0}
Blames says (Fault refusal) = says refusal

-- memory ran out
abbrev pub IsMemory : Failure Refusal → Type 0
IsMemory failure = failure ≡ OutOfMemory

-- why a reply refuses, if it does
abbrev pub why_of : Reply → Option RefusalWhy
why_of (Refused path why) = Some (Room why)
why_of _ = None

-- ---- the words

abbrev pub reason_text : Reason → List ℕ
reason_text reason.NoSuch = codes "N1 no-such"
reason_text reason.NotFolder = codes "N2 not-folder"
reason_text reason.WrongKind = codes "N3 wrong-kind"
reason_text reason.Exists = codes "N4 exists"
reason_text reason.NotEmpty = codes "N5 not-empty"
reason_text reason.Root = codes "N6 root"
reason_text reason.Loop = codes "N7 loop"
reason_text (reason.BadList place why) = codes "N8 bad-list"
reason_text reason.TooLarge = codes "N9 too-large"

-- where a list may not stand, its first entry that may not
abbrev pub why_text : RefusalWhy → List ℕ
why_text NotPassedDown = codes "W5 not what is passed down"
why_text (Room (reason.BadList place why)) =
    codes "entry " ++ (decimal place ++ (codes ": " ++ list_fault_text why))
why_text (Room why) = reason_text why

-- the line, and what is wrong with it
abbrev pub refusal_text : Refusal → List ℕ
refusal_text refusal =
    codes "line " ++ (decimal refusal.line ++ (codes ": " ++ why_text refusal.why))
