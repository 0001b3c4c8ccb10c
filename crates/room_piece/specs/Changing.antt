-- A piece that is changed (own).
use Rattle.std.specs.Prelude.{◌≡◌, ℕ, List, None, Some}
use Rattle.room_entry.specs.declared.object.Which.TheVariants.{Dacl}
use Rattle.room_rows.specs.Meaning.{meaning}
use Rattle.room_machine.specs.Step.{reset}
use Rattle.room_memory.specs.Memory.{rows_in}
use Rattle.room_memory.specs.declared.memory.MemKeep.{MemKeep}
use Rattle.room_change.specs.Changes.{Sets as IsSetTo, Moves as IsMovedTo, changed}
use Rattle.room_desk.specs.Relocating.{relocate}
use Rattle.room_question.specs.declared.question.Change.{Change}
use Rattle.room_question.specs.declared.question.Change.TheVariants.{Sets, Moves, Comes}
use Rattle.room_question.specs.declared.question.Moving.{Moving}
use Rattle.room_question.specs.declared.question.Setting.{Setting}
use Rattle.room_piece.specs.Coming.{CannotCome, HasCome}
use Rattle.room_piece.specs.Holding.{IsWell}
use Rattle.room_piece.specs.Marking.{IsMovedFrom, IsSetAt}
use Rattle.room_piece.specs.Refusing.{why_of}
use Rattle.room_piece.specs.declared.piece.Piece.{Piece}
use Rattle.room_piece.specs.declared.refusal.Refusal.{Refusal}
use Rattle.room_piece.specs.declared.refusal.RefusalWhy.{RefusalWhy}

-- ---- which changes can be done

-- the room wouldn't refuse it, rights apart
abbrev pub CanSet : Setting → MemKeep → Type 0
CanSet setting old =
    why_of (reset (meaning (rows_in old).read) setting.path Dacl setting.list).0 ≡ None

abbrev pub CanMove : Moving → MemKeep → Type 0
CanMove moving old =
    why_of (relocate (meaning (rows_in old).read) moving.path moving.to).0 ≡ None

-- ---- what becomes of the piece

-- The room, which wouldn't refuse it, means what the change makes of it, and its rows are sound
-- again. What each caller is to have made stays so.
pub record IsSet (setting : Setting) (old new : Piece) : Type 0 where
  pub can : CanSet setting old.keep
  pub means : meaning (rows_in new.keep).read
      ≡ changed (meaning (rows_in old.keep).read) (IsSetTo setting.path setting.list)
  pub well : IsWell new.keep
  pub each : new.each ≡ old.each
  pub unknown : IsSetAt setting.path (rows_in new.keep) old.unknown new.unknown

pub record IsMoved (moving : Moving) (old new : Piece) : Type 0 where
  pub can : CanMove moving old.keep
  pub means : meaning (rows_in new.keep).read
      ≡ changed (meaning (rows_in old.keep).read) (IsMovedTo moving.path moving.to)
  pub well : IsWell new.keep
  pub each : new.each ≡ old.each
  pub unknown : IsMovedFrom moving.path (rows_in old.keep) old.unknown new.unknown

abbrev pub IsDone : List ℕ → Change → Piece → Piece → Type 0
IsDone unread (Sets setting) old new = IsSet setting old new
IsDone unread (Moves moving) old new = IsMoved moving old new
IsDone unread (Comes object) old new = HasCome unread object old new

-- ---- why a change can't be done

-- the room would refuse it, rights apart
abbrev pub CannotSet : Setting → MemKeep → RefusalWhy → Type 0
CannotSet setting old why =
    why_of (reset (meaning (rows_in old).read) setting.path Dacl setting.list).0 ≡ Some why

abbrev pub CannotMove : Moving → MemKeep → RefusalWhy → Type 0
CannotMove moving old why =
    why_of (relocate (meaning (rows_in old).read) moving.path moving.to).0 ≡ Some why

abbrev pub CannotDo : Change → Piece → Refusal → Type 0
CannotDo (Sets setting) old refusal =
    (refusal.line ≡ setting.line) × CannotSet setting old.keep refusal.why
CannotDo (Moves moving) old refusal =
    (refusal.line ≡ moving.line) × CannotMove moving old.keep refusal.why
CannotDo (Comes object) old refusal = CannotCome object old refusal
