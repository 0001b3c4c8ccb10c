-- Looks at what isn't there (own).
use Rattle.std.specs.Prelude.{ℕ, ◌==◌, List, [], ◌∷◌, Option, Some, None, if◌then◌else◌}
use Rattle.std.specs.Option.{option_map_or}
use Rattle.room_entry.specs.Valid.{is_document}
use Rattle.room_rows.specs.declared.node.Walk.{Walk}
use Rattle.room_rows.specs.Rows.{Rows}
use Rattle.room_rows.specs.Walk.{walk_of}
use Rattle.room_machine.specs.declared.reply.Reason.{Reason}
use Rattle.room_machine.specs.declared.reply.Reason.TheVariants.{NoSuch, NotFolder}
use Rattle.room_machine.specs.Rights.{last_of}
use Rattle.room_piece.specs.declared.refusal.RefusalWhy.TheVariants.{Room}
use Rattle.room_question.specs.declared.question.Look.{Look}
use Rattle.room_would.specs.declared.fault.WouldFault.{WouldFault}
use Rattle.room_would.specs.declared.fault.WouldWhy.TheVariants.{Piece}

-- why a walk that ends before its last name does: at a document, or where no child has the name
abbrev pub lost_by : Walk → Option Reason
lost_by found = if found.rest == 0 then None else
    Some (option_map_or (λ node. if is_document node.kind then NotFolder else NoSuch)
    (last_of found.chain) NoSuch)

-- why nothing is at a path, if nothing is
abbrev pub lost_at : Rows → List (List ℕ) → Option Reason
lost_at rows path = lost_by (walk_of rows.read path)

-- the first look at a path at which nothing is
abbrev pub lost_look : Rows → List Look → Option WouldFault
lost_look rows [] = None
lost_look rows (look ∷ looks) =
    option_map_or (λ why. Some (record { line = look.line; why = Piece (Room why) }))
    (lost_at rows look.path) (lost_look rows looks)
