-- The rulings that a caller asks for.
use Rattle.std.specs.Prelude.{ℕ, List, [], ◌∷◌, map}
use Rattle.room_entry.specs.Ace.{Ace}
use Rattle.room_entry.specs.declared.parties.Caller.{Caller}
use Rattle.room_entry.specs.declared.parties.Owners.{Owners}
use Rattle.room_eval.specs.Verdict.{ruling_of}
use Rattle.room_eval.specs.declared.outcome.Ruling.{Ruling}
use Rattle.room_rows.specs.Held.{full_of}
use Rattle.room_rows.specs.declared.node.Node.{Node}
use Rattle.room_judge.specs.declared.asker.Asker.{Asker}

-- each of these bits with its ruling by a list
abbrev pub rulings_by : List Ace → Caller → Owners → List ℕ → List (List ℕ × Ruling)
rulings_by entries caller owners mask =
    map (λ bit. (bit ∷ [], ruling_of entries caller owners bit)) mask

-- the same by the dacl of an object
abbrev pub rulings_at : Asker → Node → List ℕ → List (List ℕ × Ruling)
rulings_at asker node mask = rulings_by (full_of node.dacl) asker.caller node.owners mask
