-- What is answered from the rows, or done to them, once an object was reached.
use Rattle.std.specs.Prelude.{◌≡◌, ℕ, ◌⊎◌, List, Some}
use Rattle.room_rows.specs.Content.{body_of}
use Rattle.room_entry.specs.declared.object.ObjKind.{ObjKind}
use Rattle.room_entry.specs.declared.parties.Owners.{Owners}
use Rattle.room_rows.specs.declared.node.Node.{Node}
use Rattle.room_rows.specs.Keep.{AreNamedUnder, Changes, with_owners}
use Rattle.room_rows.specs.Rows.{Rows}
use Rattle.room_machine.specs.declared.reply.Reply.{Reply}
use Rattle.room_machine.specs.declared.reply.Reply.TheVariants.{Bytes, Done, Names}

-- the bytes of the document of this number
pub record IsBytesOf (id : ℕ) (rows : Rows) (reply : Reply) : Type 0 where
  pub bytes : List ℕ
  pub are : body_of rows.read id ≡ Some bytes
  pub reply_is : reply ≡ Bytes bytes

-- the names and kinds that are listed under this number
pub record AreNamesOf (id : ℕ) (rows : Rows) (reply : Reply) : Type 0 where
  pub names : List (List ℕ × ObjKind)
  pub reply_is : reply ≡ Names names
  pub are : AreNamedUnder id rows names

-- the object had these owners already, or has them now
abbrev pub SetsOwners : Node → Owners → Rows → Reply → Rows → Type 0
SetsOwners node owners old reply new =
    (reply ≡ Done)
    × (((owners ≡ node.owners) × (new ≡ old)) ⊎ Changes node.id (with_owners owners) old new)
