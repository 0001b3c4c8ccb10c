-- What is stored of the lists of a question (own).
use Rattle.std.specs.Prelude.{◌≡◌, ◌||◌, true, false, not, [], ◌∷◌, Option, Some, None}
use Rattle.std.specs.Prelude.{if◌then◌else◌}
use Rattle.std.specs.Option.{option_map_or}
use Rattle.room_entry.specs.Rights.{execute}
use Rattle.room_entry.specs.Same.{same_entries}
use Rattle.room_entry.specs.declared.entry.EntryKind.TheVariants.{Allow}
use Rattle.room_entry.specs.declared.entry.Who.TheVariants.{Everyone}
use Rattle.room_entry.specs.declared.object.ObjKind.{ObjKind}
use Rattle.room_entry.specs.declared.object.ObjKind.TheVariants.{Folder}
use Rattle.room_entry.specs.declared.object.Which.TheVariants.{Dacl}
use Rattle.room_ace.specs.Sent.{Sent, inherited_of, limit_fault}
use Rattle.room_rows.specs.HeldList.{Held}
use Rattle.room_rows.specs.Held.{full_of, is_linked}
use Rattle.room_rows.specs.Pass.{pass}
use Rattle.room_machine.specs.Changed.{passed_held}
use Rattle.room_desk.specs.Setting.{fault_in, held_with}
use Rattle.room_question.specs.declared.question.Listed.{Listed}
use Rattle.room_question.specs.declared.question.Listed.TheVariants.{Follows, Unread, Text}
use Rattle.room_question.specs.declared.question.Object.{Object}
use Rattle.room_piece.specs.declared.refusal.RefusalWhy.{RefusalWhy}
use Rattle.room_piece.specs.declared.refusal.RefusalWhy.TheVariants.{NotPassedDown, Room}

-- ---- lists

-- without entries, and passed on
abbrev pub silent : Held
silent = record { flags = record { auto = true; protect = false }; own = []; inh = [] }

-- For a list that isn't known: each caller passes, and nothing is passed down.
abbrev pub passing : Held
passing = record {
  flags = record { auto = false; protect = true };
  own = record {
    kind = Allow;
    flags = record {
      file_inherit = false;
      directory_inherit = false;
      no_propagate_inherit = false;
      inherit_only = false;
      successful_access = false;
      failed_access = false;
      identifier_group = false;
      inherited = false;
    };
    who = Everyone;
    mask = execute ∷ [];
  } ∷ [];
  inh = [];
}

-- all of a list, as the room answered it
abbrev pub whole : Sent → Held
whole sent = held_with sent (inherited_of sent.entries)

-- The list of an object in a folder that has this one. What follows has what a new object has.
abbrev pub listed : Listed → ObjKind → Held → Held
listed Follows kind above = passed_held kind above
listed Unread kind above = passing
listed (Text sent) kind above = whole sent

abbrev pub root_list : Listed → Held
root_list Follows = silent
root_list Unread = passing
root_list (Text sent) = whole sent

-- it is within the limits
abbrev pub IsWithin : Listed → Type 0
IsWithin Follows = Unit {0}
IsWithin Unread = Unit {0}
IsWithin (Text sent) = limit_fault sent.entries ≡ None

-- ---- which lists can't stand

-- the first entry that may not stand in it, or that it follows the folder's list, and hasn't what
-- that passes down
abbrev pub list_fault : ObjKind → Sent → Held → Held → Option RefusalWhy
list_fault kind sent held above = option_map_or (λ why. Some (Room why))
    (fault_in 1 Dacl kind sent.entries)
    (if not (is_linked held (Some above))
    || same_entries held.inh (pass kind (full_of above)) then None else Some NotPassedDown)

-- why an object's list can't stand in a folder that has this one
abbrev pub misfit_of : Listed → ObjKind → Held → Option RefusalWhy
misfit_of Follows kind above = None
misfit_of Unread kind above = None
misfit_of (Text sent) kind above = list_fault kind sent (whole sent) above

abbrev pub misfit : Object → Held → Option RefusalWhy
misfit object above = misfit_of object.list object.kind above

-- the root has no folder
abbrev pub root_misfit_of : Listed → Option RefusalWhy
root_misfit_of Follows = None
root_misfit_of Unread = None
root_misfit_of (Text sent) = option_map_or (λ why. Some (Room why))
    (fault_in 1 Dacl Folder sent.entries) None

abbrev pub root_misfit : Object → Option RefusalWhy
root_misfit root = root_misfit_of root.list
