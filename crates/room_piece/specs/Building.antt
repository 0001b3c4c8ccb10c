-- A piece that is built of a question (own).
use Rattle.std.specs.Prelude.{◌≡◌, ℕ, ◌+◌, ◌==◌, ◌&&◌, Bool, false, not, List, [], ◌∷◌, length}
use Rattle.std.specs.Prelude.{Option, Some, None, if◌then◌else◌}
use Rattle.room_entry.specs.Valid.{is_document}
use Rattle.room_entry.specs.declared.object.ObjKind.{ObjKind}
use Rattle.room_rows.specs.HeldList.{Held}
use Rattle.room_rows.specs.declared.node.Node.{Node}
use Rattle.room_rows.specs.Content.{parent_of, set_of, with_members}
use Rattle.room_rows.specs.Keep.{with_content}
use Rattle.room_rows.specs.Rows.{AreRows, Rows}
use Rattle.room_memory.specs.Memory.{memory_rows, root_node, rows_in}
use Rattle.room_memory.specs.declared.memory.MemKeep.{MemKeep}
use Rattle.room_question.specs.declared.question.Listed.{Listed}
use Rattle.room_question.specs.declared.question.Object.{Object}
use Rattle.room_question.specs.declared.question.Question.{Question}
use Rattle.room_piece.specs.Coming.{CannotCome, HasCome, IsAt}
use Rattle.room_piece.specs.Holding.{IsWell}
use Rattle.room_piece.specs.InTurn.{StopsInTurn}
use Rattle.room_piece.specs.Marking.{is_unread, with_mark}
use Rattle.room_piece.specs.Owning.{is_each, owners_of}
use Rattle.room_piece.specs.Storing.{listed, root_list, root_misfit, silent}
use Rattle.room_piece.specs.declared.piece.Piece.{Piece}
use Rattle.room_piece.specs.declared.refusal.Refusal.{Refusal}

-- ---- the root alone

abbrev pub JoinsAll : List (List ℕ × List ℕ) → MemKeep → MemKeep → Type 0
JoinsAll pairs old new = AreRows (rows_in old) → (rows_in old).read.members ≡ []
    → (rows_in new ≡ with_content (rows_in old) (with_members (rows_in old).read pairs))
    × AreRows (rows_in new)

pub record IsRooted (root : Object) (keep : MemKeep) (piece : Piece) : Type 0 where
  pub keeps : piece.keep ≡ keep
  pub each : piece.each ≡ with_mark (is_each root.owner) 1 []
  pub unknown : piece.unknown ≡ with_mark (is_unread root.list) 1 []

-- the root alone, and the pairs, in order, each once
abbrev pub root_rows : List ℕ → Object → List (List ℕ × List ℕ) → Rows
root_rows unread root pairs = memory_rows
    (root_node (owners_of unread root) (root_list root.list) silent ∷ []) [] (set_of pairs) []

pub record IsStarted (unread : List ℕ) (root : Object) (pairs : List (List ℕ × List ℕ))
    (piece : Piece) : Type 0 where
  pub rows : rows_in piece.keep ≡ root_rows unread root pairs
  pub well : IsWell piece.keep
  pub fits : root_misfit root ≡ None
  pub each : piece.each ≡ with_mark (is_each root.owner) 1 []
  pub unknown : piece.unknown ≡ with_mark (is_unread root.list) 1 []

-- ---- the objects of a question

-- the list of an object in this folder; the root has none
abbrev pub list_in : Listed → ObjKind → Option Node → Held
list_in list kind None = root_list list
list_in list kind (Some folder) = listed list kind folder.dacl

-- It stands at its path, by this number, with its kind, its owners and its list.
pub record Stands (unread : List ℕ) (rows : Rows) (id : ℕ) (object : Object) : Type 0 where
  pub node : Node
  pub numbered : node.id ≡ id
  pub at : IsAt object.path node rows
  pub kind : node.kind ≡ object.kind
  pub owners : node.owners ≡ owners_of unread object
  pub list : node.dacl ≡ list_in object.list object.kind (parent_of rows.read node)

-- each of the objects does, by the numbers from this one on
abbrev pub AllStand : List ℕ → Rows → ℕ → List Object → Type 0
AllStand unread rows id [] = Unit {0}
AllStand unread rows id (object ∷ objects) =
    Stands unread rows id object × AllStand unread rows (id + 1) objects

-- the numbers of those of which the test is true, from this one on
abbrev pub numbers_of : (Object → Bool) → ℕ → List Object → List ℕ
numbers_of test id [] = []
numbers_of test id (object ∷ objects) =
    if test object then id ∷ numbers_of test (id + 1) objects
    else numbers_of test (id + 1) objects

-- The rows are sound. Each object of the question stands in them, and nothing else, and the pairs
-- are those of the question.
pub record IsPiece (unread : List ℕ) (question : Question) (piece : Piece) : Type 0 where
  pub well : IsWell piece.keep
  pub objects : AllStand unread (rows_in piece.keep) 1 question.objects
  pub no_others : length (rows_in piece.keep).read.nodes ≡ length question.objects
  pub members : (rows_in piece.keep).read.members ≡ set_of question.members
  pub each : piece.each ≡ numbers_of (λ object. is_each object.owner) 1 question.objects
  pub unknown : piece.unknown ≡ numbers_of (λ object. is_unread object.list) 1 question.objects

-- ---- why it can't be built

-- the first object is the root, a folder
abbrev pub is_top : Object → Bool
is_top object = (length object.path == 0) && not (is_document object.kind)

abbrev pub begins_at_root : List Object → Bool
begins_at_root [] = false
begins_at_root (root ∷ objects) = is_top root

-- The root's list can't stand; or the piece of the objects before one is built, and that one can't
-- come to it.
pub data CannotGoOn (unread : List ℕ) (root : Object) (pairs : List (List ℕ × List ℕ))
    (objects : List Object) (refusal : Refusal) : Type 0 where
  AtRoot : refusal.line ≡ root.line → root_misfit root ≡ Some refusal.why
      → CannotGoOn unread root pairs objects refusal
  Below : (start : Piece) → IsStarted unread root pairs start
      → StopsInTurn (HasCome unread) CannotCome objects start refusal
      → CannotGoOn unread root pairs objects refusal

-- The objects don't begin with the root, or those that follow it can't come.
pub data CannotBuild (unread : List ℕ) (question : Question) (refusal : Refusal) : Type 0 where
  NoRoot : begins_at_root question.objects ≡ false → CannotBuild unread question refusal
  GoesOn : (root : Object) (objects : List Object) → question.objects ≡ root ∷ objects
      → CannotGoOn unread root question.members objects refusal
      → CannotBuild unread question refusal
