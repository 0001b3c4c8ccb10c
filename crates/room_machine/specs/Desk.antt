-- What a desk does at a request, and what it counts.
use Rattle.std.specs.Prelude.{ℕ, ℤ, Bool, true, false, List, [], ◌++◌, Option, Result, Ok, Err}
use Rattle.room_rows.specs.Content.{Content}
use Rattle.room_rows.specs.Keep.{one_more}
use Rattle.room_rows.specs.Rows.{Rows}
use Rattle.room_machine.specs.Closed.{FailsClosed}
use Rattle.room_machine.specs.declared.reply.Reply.{Reply}
use Rattle.room_machine.specs.declared.request.Request.{Request}
use Rattle.room_machine.specs.Run.{Asking, ClosedRun, Event}
use Rattle.room_machine.specs.Step.{Step}

-- A reply is that of a step from the content before to the content after. A fault leaves the
-- content as it was.
abbrev pub Steps : {E : Type 0} → (Content → Type 0) → Option (List ℕ) → ℤ → Request
    → Result Reply E → (Content → Type 0) → Type 0
Steps old user moment request (Ok reply) new = (room : Content) → old room → (next : Content)
    × Step room user moment request reply next × new next
Steps old user moment request (Err fault) new = (room : Content) → old room → new room

-- The same for the rows that are stored, sound or not: a reply is judged by the lists that they
-- store, and a fault leaves them as they were.
abbrev pub Closes : {E : Type 0} → (Rows → Type 0) → Option (List ℕ) → ℤ → Request
    → Result Reply E → (Rows → Type 0) → Type 0
Closes old user moment request (Ok reply) new = (rows : Rows) → old rows → (next : Rows)
    × FailsClosed user moment request rows reply next × new next
Closes old user moment request (Err fault) new = (rows : Rows) → old rows → new rows

-- From the rows that are stored before, sound or not, these events lead to those that are stored
-- after.
abbrev pub RunsClosed : (Rows → Type 0) → List Event → (Rows → Type 0) → Type 0
RunsClosed old events new = (rows : Rows) → old rows → (next : Rows)
    × ClosedRun rows events next × new next

-- the count of faults after one more answer
abbrev pub fault_counted : {A E : Type 0} → Result A E → ℕ → ℕ
fault_counted (Ok answer) count = count
fault_counted (Err fault) count = one_more count

-- what a test of a fact has told: that the fact holds, or that it doesn't, where there is trust
abbrev pub Agrees : Type 0 → Type 0 → Bool → Type 0
Agrees trusted fact true = fact
Agrees trusted fact false = trusted → ¬ fact

-- What holds of the states of a desk, where a relation says of two of them what was asked for and
-- got no answer in between, and what happened: nothing between a state and itself, and between a
-- state and a third one what was asked for, and what happened, up to the second and after it.
pub record DeskLaws {D : Type 0} (Outlasts : D → List Asking → List Event → D → Type 0)
    : Type 0 where
  pub itself : (a : D) → Outlasts a [] [] a
  pub on : (a b c : D) (asked later : List Asking) (events others : List Event)
      → Outlasts a asked events b → Outlasts b later others c
      → Outlasts a (asked ++ later) (events ++ others) c
