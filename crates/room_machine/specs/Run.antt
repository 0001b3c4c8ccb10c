-- Runs of the room machine.
use Rattle.std.specs.Prelude.{◌≡◌, ℕ, ℤ, List, [], ◌∷◌, ◌++◌, Option, Result, Ok, Err}
use Rattle.room_entry.specs.declared.object.Which.{Which}
use Rattle.room_rows.specs.Content.{Content, with_members}
use Rattle.room_rows.specs.Keep.{with_content}
use Rattle.room_rows.specs.Rows.{Rows}
use Rattle.room_ace.specs.Sent.{Sent}
use Rattle.room_machine.specs.declared.request.Request.{Request}
use Rattle.room_machine.specs.declared.reply.Reply.{Reply}
use Rattle.room_machine.specs.Closed.{FailsClosed, IsResetClosed}
use Rattle.room_machine.specs.Step.{Step, Reset, ReplaceMembers}

-- What happens: a request at a moment, of a user or of a caller without a name, and its reply; or a
-- step of the operator.
pub data Event : Type 0 where
  Asked : Option (List ℕ) → ℤ → Request → Reply → Event
  WasReset : List (List ℕ) → Which → Sent → Reply → Event
  Replaced : List (List ℕ × List ℕ) → Event

-- what a call asks for: what happens if it gets this reply
abbrev pub Asking : Type 0
Asking = Reply → Event

-- what happened by a call: no event at a fault
abbrev pub event_of : {X E : Type 0} → Result X E → (X → Event) → List Event
event_of (Ok answer) happens = happens answer ∷ []
event_of (Err fault) happens = []

-- what a call asked for that got no answer
abbrev pub unanswered : {X E : Type 0} → Result X E → Asking → List Asking
unanswered (Ok answer) happens = []
unanswered (Err fault) happens = happens ∷ []

abbrev pub Happens : Content → Event → Content → Type 0
Happens content (Asked user moment request reply) after =
    Step content user moment request reply after
Happens content (WasReset path which sent reply) after = Reset content path which sent reply after
Happens content (Replaced pairs) after = ReplaceMembers content pairs after

-- From one content to another by these events, one after the other.
abbrev pub Run : Content → List Event → Content → Type 0
Run content [] after = after ≡ content
Run content (event ∷ events) after = (mid : Content) × Happens content event mid
    × Run mid events after

-- ---- on any rows

-- What happens where the rows needn't be sound: a request is judged by the lists as they are
-- stored.
abbrev pub HappensClosed : Rows → Event → Rows → Type 0
HappensClosed rows (Asked user moment request reply) next =
    FailsClosed user moment request rows reply next
HappensClosed rows (WasReset path which sent reply) next =
    IsResetClosed path which sent rows reply next
HappensClosed rows (Replaced pairs) next = next ≡ with_content rows (with_members rows.read pairs)

-- From one set of rows to another by these events, one after the other.
abbrev pub ClosedRun : Rows → List Event → Rows → Type 0
ClosedRun rows [] next = next ≡ rows
ClosedRun rows (event ∷ events) next = (mid : Rows) × HappensClosed rows event mid
    × ClosedRun mid events next

-- ---- laws

-- Two runs that meet are one run.
abbrev pub RunsMeet : Type 0
RunsMeet = (content mid after : Content) (events others : List Event) → Run content events mid
    → Run mid others after → Run content (events ++ others) after

-- The same on any rows.
abbrev pub ClosedRunsMeet : Type 0
ClosedRunsMeet = (rows mid next : Rows) (events others : List Event) → ClosedRun rows events mid
    → ClosedRun mid others next → ClosedRun rows (events ++ others) next
