-- How much a request writes beside records.
use Rattle.std.specs.Prelude.{ℕ, ◌+◌, ◌≤◌, ◌||◌, Bool, true, false, not, count_by, is_some}
use Rattle.std.specs.Prelude.{if◌then◌else◌}
use Rattle.std.specs.Option.{option_map_or}
use Rattle.room_entry.specs.Same.{same_entries}
use Rattle.room_entry.specs.declared.object.Which.{Which}
use Rattle.room_entry.specs.declared.object.Which.TheVariants.{Dacl, Sacl}
use Rattle.room_rows.specs.declared.node.Node.{Node}
use Rattle.room_rows.specs.Content.{Content, node_at}
use Rattle.room_rows.specs.Held.{held_of}
use Rattle.room_rows.specs.Rows.{Rows}
use Rattle.room_machine.specs.declared.request.Request.{Request}
use Rattle.room_machine.specs.Closed.{failure_told, only_reads}
use Rattle.room_machine.specs.declared.reply.Reply.{Reply}
use Rattle.room_judge.specs.Extent.{Extent, OnlyRecords}
use Rattle.room_judge.specs.Halted.{served_up_to}

-- an object of this number is there, with other inherited entries
abbrev pub has_other_list : Which → Content → Node → Bool
has_other_list which new node = option_map_or
    (λ now. not (same_entries (held_of which now).inh (held_of which node).inh))
    (node_at new node.id) false

-- how many objects store other inherited entries than they did
abbrev pub changed_lists : Which → Rows → Rows → ℕ
changed_lists which old new = count_by (has_other_list which new.read) old.read.nodes

-- ---- so many writes suffice

abbrev pub OneWrite : Rows → Rows → ℕ → Type 0
OneWrite old new more = 1 ≤ more

-- one for each list of this attribute whose inherited entries changed
abbrev pub EachList : Which → Rows → Rows → ℕ → Type 0
EachList which old new more = changed_lists which old new ≤ more

-- and one more
abbrev pub OneAndEach : Which → Rows → Rows → ℕ → Type 0
OneAndEach which old new more = changed_lists which old new + 1 ≤ more

-- the same of both attributes
abbrev pub OneAndBoth : Rows → Rows → ℕ → Type 0
OneAndBoth old new more = changed_lists Dacl old new + changed_lists Sacl old new + 1 ≤ more

-- The caller has to know that the rows were so before.
abbrev pub Provided : (Rows → Type 0) → (Rows → Rows → ℕ → Type 0) → Rows → Rows → ℕ → Type 0
Provided Given Suffices old new more = Given old × Suffices old new more

-- ---- a request

abbrev pub extent_if : Bool → Reply → Extent
extent_if true reply = OnlyRecords
extent_if false reply = served_up_to OneAndBoth reply

-- A request that only reads, or is denied or refused, writes nothing but records. Any other writes
-- at most one object more, and each list whose inherited entries change.
abbrev pub extent_of : Request → Reply → Extent
extent_of request reply = extent_if (only_reads request) reply

-- how many writes beside records suffice for a request with this reply, from rows to rows
abbrev pub most_writes : Request → Reply → Rows → Rows → ℕ
most_writes request reply old new =
    if only_reads request || is_some (failure_told reply) then 0
    else changed_lists Dacl old new + changed_lists Sacl old new + 1
