-- How many calls of a keeper read for one request.
use Rattle.std.specs.Prelude.{ℕ, ◌+◌, ◌*◌, ◌-◌, ◌^◌, ◌<◌, ◌≤◌, Bool, true, false, length, Result}
use Rattle.std.specs.Prelude.{IfOk}
use Rattle.room_rows.specs.declared.keep.Keep.{Ghosts}
use Rattle.room_rows.specs.declared.keep.KeepFault.{KeepFault}
use Rattle.room_machine.specs.declared.request.Request.{Request}
use Rattle.room_machine.specs.declared.request.Request.TheVariants.{Read, List as ListFolder, Put}
use Rattle.room_machine.specs.declared.request.Request.TheVariants.{Append, MakeFolder, Remove}
use Rattle.room_machine.specs.declared.request.Request.TheVariants.{Move, ReadList, SetList}
use Rattle.room_machine.specs.declared.request.Request.TheVariants.{ReadAttr, SetOwners, Can}

-- the requests that hand a list down
abbrev pub hands_down : Request → Bool
hands_down (SetList path which sent) = true
hands_down (Move path to) = true
hands_down (Read path) = false
hands_down (ListFolder path) = false
hands_down (ReadList path which) = false
hands_down (ReadAttr path) = false
hands_down (Can path mask) = false
hands_down (Put path bytes) = false
hands_down (Append path bytes) = false
hands_down (MakeFolder path) = false
hands_down (Remove path) = false
hands_down (SetOwners path owners) = false

-- One call for each name of a request's paths, and so many others, once the caller's groups are
-- known: the root; the bytes, the names or the children of what was reached. For each list that is
-- handed down it is the first children and all numbers, and for a move the object too.
abbrev pub calls_for : Request → ℕ
calls_for (Read path) = length path + 2
calls_for (ListFolder path) = length path + 2
calls_for (Append path bytes) = length path + 2
calls_for (Remove path) = length path + 2
calls_for (ReadList path which) = length path + 1
calls_for (ReadAttr path) = length path + 1
calls_for (Can path mask) = length path + 1
calls_for (Put path bytes) = length path + 1
calls_for (MakeFolder path) = length path + 1
calls_for (SetOwners path owners) = length path + 1
calls_for (SetList path which sent) = length path + 3
calls_for (Move path to) = length path + length to + 7

module _ {S : Type 0} (k : Ghosts S) where
  -- No more calls read than so many, and two for each object or record that was written. It isn't
  -- said where the count of what was written is at its end.
  abbrev pub ReadsBeside : ℕ → S → S → Type 0
  ReadsBeside count old new =
      k.writes new < 2 ^ 64 - 1
      → k.reads new + 2 * k.writes old ≤ k.reads old + 2 * k.writes new + count

  -- No more calls read than so many, whatever the result is; or where a list is handed down, no
  -- more beside those for what was written, unless there is a fault.
  abbrev pub ReadsFew : Bool → ℕ → S → S → {X : Type 0} → Result X KeepFault → Type 0
  ReadsFew false count old new result = k.reads new ≤ k.reads old + count
  ReadsFew true count old new result = IfOk result (λ _. ReadsBeside count old new)
