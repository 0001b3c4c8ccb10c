-- What the functions of a dump promise one another.
use Rattle.std.specs.Prelude.{◌≡◌, ℕ, ◌⊎◌, Bool, List, ◌++◌, length, Some, None, IsTrue, true}
use Rattle.std.specs.List.{flat_map, list_all}
use Rattle.room_entry.specs.Valid.{is_document}
use Rattle.room_rows.specs.declared.node.Node.{Node}
use Rattle.room_rows.specs.Content.{Content, body_of}
use Rattle.room_rows.specs.Rows.{Rows, is_unreadable}
use Rattle.room_rows.specs.Keep.{IsDamaged}
use Rattle.room_dump.specs.declared.visiting.Below.{Below}
use Rattle.room_dump.specs.declared.visiting.Visit.{Visit}
use Rattle.room_dump.specs.Dump.{has_bytes, object_lines, size_of}
use Rattle.room_dump.specs.Visits.{GoesOn, coming}

-- there are no bytes of this number
abbrev pub LacksBytesAt : ℕ → Rows → ℕ → Type 0
LacksBytesAt id rows row = (row ≡ id) × (body_of rows.read id ≡ None)

-- the bytes of this number are there, and this many
abbrev pub IsLength : ℕ → Rows → ℕ → Type 0
IsLength id rows size =
    (bytes : List ℕ) × (body_of rows.read id ≡ Some bytes) × (size ≡ length bytes)

-- a row that can't be read, or the object is a document without bytes
abbrev pub IsUntellable : Node → Rows → ℕ → Type 0
IsUntellable node rows row =
    IsTrue (is_unreadable rows row)
    ⊎ ((row ≡ node.id) × IsTrue (is_document node.kind) × (body_of rows.read node.id ≡ None))

-- the number of the object's bytes, which a document has
abbrev pub IsSize : Node → Rows → ℕ → Type 0
IsSize node rows size = (size ≡ size_of rows.read node) × (has_bytes rows.read node ≡ true)

abbrev pub visit_lines : Content → Visit → List ℕ
visit_lines content visit = object_lines content visit.path visit.node

abbrev pub has_its_bytes : Content → Visit → Bool
has_its_bytes content visit = has_bytes content visit.node

-- the text of the object, which has its bytes
abbrev pub AddsOne : Visit → List ℕ → List ℕ → Rows → Unit {0} → Type 0
AddsOne visit text more rows answer =
    (more ≡ text ++ visit_lines rows.read visit) × (has_bytes rows.read visit.node ≡ true)

-- the text of all that is still to come, of which each document has bytes
abbrev pub AddsAll : Below → List ℕ → List ℕ → Rows → Unit {0} → Type 0
AddsAll walk text more rows answer =
    GoesOn rows walk
    → (more ≡ text ++ flat_map (visit_lines rows.read) (coming rows walk))
    × (list_all (has_its_bytes rows.read) (coming rows walk) ≡ true)

abbrev pub IsHole : Below → Rows → ℕ → Type 0
IsHole walk rows row = GoesOn rows walk → IsDamaged rows row
