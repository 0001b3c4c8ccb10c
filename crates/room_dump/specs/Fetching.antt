-- What a path leads to (own).
use Rattle.std.specs.Prelude.{◌≡◌, ℕ, ◌-◌, ◌<◌, List, [], ◌∷◌, ◌++◌, length, take, Some, None}
use Rattle.std.specs.Prelude.{IsTrue}
use Rattle.room_entry.specs.Valid.{is_document}
use Rattle.room_entry.specs.declared.object.ObjKind.{ObjKind}
use Rattle.room_entry.specs.declared.object.ObjKind.TheVariants.{Document, Folder}
use Rattle.room_rows.specs.declared.node.Node.{Node}
use Rattle.room_rows.specs.Content.{body_of}
use Rattle.room_rows.specs.Rows.{Rows}
use Rattle.room_rows.specs.Walk.{walk_of}
use Rattle.room_dump.specs.declared.fetching.Fetched.{Fetched}
use Rattle.room_dump.specs.declared.fetching.Fetched.TheVariants.{Bytes, NoSuch, NotFolder, WrongKind}

-- The path without so many names at its end.
abbrev pub without_last : ℕ → List (List ℕ) → List (List ℕ)
without_last count path = take (length path - count) path

-- Why there is no document, where a walk along the path ends at an object of this kind with so many
-- names left over: it is a folder and lacks the next name, it is a document and has nothing below
-- it, or it is a folder and is the object at the path.
abbrev pub IsRefusal : List (List ℕ) → ObjKind → ℕ → Fetched → Type 0
IsRefusal path kind rest (Bytes bytes) = ⊥
IsRefusal path kind rest (NoSuch at) =
    (0 < rest) × (kind ≡ Folder) × (at ≡ without_last (rest - 1) path)
IsRefusal path kind rest (NotFolder at) =
    (0 < rest) × (kind ≡ Document) × (at ≡ without_last rest path)
IsRefusal path kind rest (WrongKind at) = (rest ≡ 0) × (kind ≡ Folder) × (at ≡ path)

-- What is fetched, where a walk along the path ends at this object with so many names left over:
-- the bytes of a document with none left over, or a refusal.
abbrev pub IsFetchedAt : List (List ℕ) → Node → ℕ → Rows → Fetched → Type 0
IsFetchedAt path last rest rows (Bytes bytes) =
    (rest ≡ 0) × (last.kind ≡ Document) × (body_of rows.read last.id ≡ Some bytes)
IsFetchedAt path last rest rows other = IsRefusal path last.kind rest other

-- A walk along the path ends at this object, with so many of its names left over.
abbrev pub EndsAt : List (List ℕ) → Rows → Node → ℕ → Type 0
EndsAt path rows last rest =
    (above : List Node)
    × (walk_of rows.read path ≡ record { chain = above ++ last ∷ []; rest = rest })

-- The bytes of the document that is at the path, or why there is none.
abbrev pub IsFetched : List (List ℕ) → Rows → Fetched → Type 0
IsFetched path rows fetched =
    (last : Node) × (rest : ℕ) × EndsAt path rows last rest × IsFetchedAt path last rest rows fetched

-- ---- what the functions promise one another

-- the bytes of this number
abbrev pub HoldsBytes : ℕ → Rows → Fetched → Type 0
HoldsBytes id rows fetched =
    (bytes : List ℕ) × (fetched ≡ Bytes bytes) × (body_of rows.read id ≡ Some bytes)

-- the object is a document without bytes
abbrev pub LacksItsBytes : Node → Rows → ℕ → Type 0
LacksItsBytes node rows row =
    (row ≡ node.id) × IsTrue (is_document node.kind) × (body_of rows.read node.id ≡ None)
