-- What becomes of an object that a caller asks to be removed.
use Rattle.std.specs.Prelude.{◌≡◌, ℕ, Bool, List, [], ◌∷◌, Option, Some, None, if◌then◌else◌}
use Rattle.room_rows.specs.Content.{children_of}
use Rattle.room_rows.specs.Keep.{CanRemove, HasChildren, Removes}
use Rattle.room_rows.specs.Rows.{Rows}
use Rattle.room_judge.specs.declared.asker.Asker.{Asker}
use Rattle.room_judge.specs.Judged.{IsJudged}
use Rattle.room_machine.specs.declared.reply.Reply.{Reply}
use Rattle.room_machine.specs.declared.reply.Reply.TheVariants.{Done, Refused}
use Rattle.room_machine.specs.declared.reply.Reason.TheVariants.{NotEmpty}
use Rattle.room_machine.specs.Plan.{Deletion}
use Rattle.room_machine.specs.Site.{Site}
use Rattle.room_desk.specs.Made.{Ends}

-- the refusal of an object that has children
abbrev pub refused_where : Bool → List (List ℕ) → Option Reply
refused_where has_some path = if has_some then Some (Refused path NotEmpty) else None

-- the object may be removed, if it has no children
abbrev pub RemovableIfEmpty : ℕ → Rows → Type 0
RemovableIfEmpty id rows = children_of rows.read id ≡ [] → CanRemove id rows

-- An object without children is removed, and one that has some is refused. Where a row can't be
-- read, it may be a child, and the keeper may answer so.
pub record RemovesChildless (path : List (List ℕ)) (id : ℕ) (old : Rows) (reply : Reply)
    (new : Rows) : Type 0 where
  pub has_some : Bool
  pub answer : HasChildren id old has_some
  pub ends : Ends Done (Removes id) (refused_where has_some path) old reply new

-- Where the deletion isn't granted, that is the reply, and nothing is removed.
abbrev pub RemovesIfGranted :
    Option Reply → List (List ℕ) → ℕ → Rows → Reply → Rows → Type 0
RemovesIfGranted None path id old reply new = RemovesChildless path id old reply new
RemovesIfGranted (Some refusal) path id old reply new = (reply ≡ refusal) × (new ≡ old)

-- The deletion of the object from its folder is judged, and an object without children is removed.
pub record RemovesFrom (asker : Asker) (path : List (List ℕ)) (target folder : Site) (old : Rows)
    (reply : Reply) (new : Rows) : Type 0 where
  pub answer : Option Reply
  pub mid : Rows
  pub judged : IsJudged asker (Deletion target folder ∷ []) old answer mid
  pub ends : RemovesIfGranted answer path target.node.id mid reply new
