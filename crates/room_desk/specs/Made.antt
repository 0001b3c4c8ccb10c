-- How an object is made, and what answers a request that changes an object.
use Rattle.std.specs.Prelude.{◌≡◌, ℕ, ◌<◌, List, length, Option, Some, None, IsTrue}
use Rattle.room_entry.specs.declared.object.ObjKind.{ObjKind}
use Rattle.room_entry.specs.declared.parties.Caller.{Caller}
use Rattle.room_rows.specs.declared.node.Node.{Node}
use Rattle.room_rows.specs.Keep.{Addition, Adds}
use Rattle.room_rows.specs.Paths.{is_object_name}
use Rattle.room_rows.specs.Rows.{Rows}
use Rattle.room_judge.specs.declared.asker.Asker.{Asker}
use Rattle.room_machine.specs.declared.reply.Reply.{Reply}
use Rattle.room_machine.specs.declared.reply.Reply.TheVariants.{Made}
use Rattle.room_machine.specs.Changed.{new_child}
use Rattle.room_machine.specs.Plan.{Item}
use Rattle.room_machine.specs.Site.{last_name}
use Rattle.room_judge.specs.Judged.{IsJudged}

-- ---- a new object

-- The path has a last name, which is this one, and it is an object name.
pub record IsNameOf (path : List (List ℕ)) (name : List ℕ) : Type 0 where
  pub some : 0 < length path
  pub last : name ≡ last_name path
  pub sound : IsTrue (is_object_name name)

-- it gets some number
abbrev pub IsMade : Addition → Rows → Rows → Type 0
IsMade node old new = (id : ℕ) × Adds node old id new

-- an object of this kind and name is made under the parent
abbrev pub MakesChild :
    Caller → ObjKind → Node → List ℕ → List ℕ → Rows → Reply → Rows → Type 0
MakesChild caller kind parent name bytes old reply new =
    (reply ≡ Made) × IsMade (new_child caller kind parent name bytes) old new

-- ---- items, and then a change

-- Where an item failed, its reply is the answer and nothing is changed. Otherwise this is the
-- reply, and the rows are changed by the relation.
abbrev pub Ends : Reply → (Rows → Rows → Type 0) → Option Reply → Rows → Reply → Rows → Type 0
Ends served Becomes None old reply new = (reply ≡ served) × Becomes old new
Ends served Becomes (Some refusal) old reply new = (reply ≡ refusal) × (new ≡ old)

-- The items are judged as they come, and what follows is done.
pub record IsJudgedAndDone (asker : Asker) (items : List Item) (served : Reply)
    (Becomes : Rows → Rows → Type 0) (old : Rows) (reply : Reply) (new : Rows) : Type 0 where
  pub answer : Option Reply
  pub mid : Rows
  pub judged : IsJudged asker items old answer mid
  pub ends : Ends served Becomes answer mid reply new
