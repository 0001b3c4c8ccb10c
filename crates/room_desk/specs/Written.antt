-- What becomes of the bytes of a document.
use Rattle.std.specs.Prelude.{
  ◌≡◌,
  ℕ,
  ◌⊎◌,
  Bool,
  true,
  false,
  List,
  ◌++◌,
  length,
  Some,
  None,
  Result,
  Ok,
  Err,
  nat_lt,
  if◌then◌else◌,
}
use Rattle.room_entry.specs.declared.limits.TheConstants.{MOST_BYTES}
use Rattle.room_rows.specs.Content.{body_of}
use Rattle.room_rows.specs.Keep.{IsUnreadable, SetsBody}
use Rattle.room_rows.specs.Rows.{Rows}
use Rattle.room_rows.specs.declared.keep.KeepFault.TheVariants.{Memory}
use Rattle.room_judge.specs.declared.halt.Halt.{Halt}
use Rattle.room_judge.specs.declared.halt.Halt.TheVariants.{Refused as Halted, Fault}
use Rattle.room_machine.specs.declared.reply.Reply.{Reply}
use Rattle.room_machine.specs.declared.reply.Reply.TheVariants.{Done, Refused}
use Rattle.room_machine.specs.declared.reply.Reason.TheVariants.{TooLarge}

-- they are set, or there are too many of them
abbrev pub TakesBytes : Bool → ℕ → List ℕ → Rows → Rows → Type 0
TakesBytes true id bytes old new = new ≡ old
TakesBytes false id bytes old new = SetsBody id bytes old new

-- the reply for a document that is to have n bytes
abbrev pub sized_reply : List (List ℕ) → ℕ → Reply
sized_reply path size = if nat_lt MOST_BYTES size then Refused path TooLarge else Done

-- A document gets these bytes, if there aren't too many.
pub record IsPut (path : List (List ℕ)) (id : ℕ) (bytes : List ℕ) (old : Rows) (reply : Reply)
    (new : Rows) : Type 0 where
  pub replies : reply ≡ sized_reply path (length bytes)
  pub becomes : TakesBytes (nat_lt MOST_BYTES (length bytes)) id bytes old new

-- A document gets these bytes after those that it has.
pub record IsAppended (path : List (List ℕ)) (id : ℕ) (bytes : List ℕ) (old : Rows) (reply : Reply)
    (new : Rows) : Type 0 where
  pub before : List ℕ
  pub were : body_of old.read id ≡ Some before
  pub put : IsPut path id (before ++ bytes) old reply new

-- the document of this number has these bytes
abbrev pub HasBody : ℕ → Rows → List ℕ → Type 0
HasBody id rows bytes = body_of rows.read id ≡ Some bytes

-- a row that can't be read, or no bytes of this number
abbrev pub HasNoBytes : ℕ → Rows → ℕ → Type 0
HasNoBytes id rows row = IsUnreadable rows row ⊎ ((row ≡ id) × (body_of rows.read id ≡ None))

-- this reply, or out of memory
abbrev pub Answers : Result Reply Halt → Reply → Type 0
Answers (Ok reply) wanted = reply ≡ wanted
Answers (Err (Halted reply)) wanted = reply ≡ wanted
Answers (Err (Fault fault)) wanted = fault ≡ Memory
