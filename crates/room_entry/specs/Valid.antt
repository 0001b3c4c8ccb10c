-- Which entries may stand in a list of an object (own).
use Rattle.std.specs.Prelude.{ℕ, ◌+◌, Bool, true, false, not, ◌&&◌, ◌||◌, List, [], ◌∷◌, Option}
use Rattle.std.specs.Prelude.{Some, None, if◌then◌else◌}
use Rattle.std.specs.Option.{option_map_or}
use Rattle.room_entry.specs.Ace.{Ace}
use Rattle.room_entry.specs.declared.entry.EntryKind.{EntryKind}
use Rattle.room_entry.specs.declared.entry.EntryKind.TheVariants.{Allow, Deny, Audit, Alarm}
use Rattle.room_entry.specs.declared.flags.EntryFlags.{EntryFlags}
use Rattle.room_entry.specs.declared.object.Which.{Which}
use Rattle.room_entry.specs.declared.object.Which.TheVariants.{Dacl, Sacl}
use Rattle.room_entry.specs.declared.object.ObjKind.{ObjKind}
use Rattle.room_entry.specs.declared.object.ObjKind.TheVariants.{Document, Folder}
use Rattle.room_entry.specs.declared.fault.EntryFault.{EntryFault}
use Rattle.room_entry.specs.declared.fault.ListFault.{ListFault}
use Rattle.room_entry.specs.declared.fault.ListFault.TheVariants.{WrongKind, AccessFlag}
use Rattle.room_entry.specs.declared.fault.ListFault.TheVariants.{InheritOnlyAlone}
use Rattle.room_entry.specs.declared.fault.ListFault.TheVariants.{InheritanceOnDocument}

-- entries of audit and alarm ask for records, and don't rule
abbrev pub asks_records : EntryKind → Bool
asks_records Allow = false
asks_records Deny = false
asks_records Audit = true
asks_records Alarm = true

-- A dacl holds entries that allow and deny, a sacl those that ask for records.
abbrev pub is_kind_of : Which → EntryKind → Bool
is_kind_of Dacl kind = not (asks_records kind)
is_kind_of Sacl kind = asks_records kind

abbrev pub is_document : ObjKind → Bool
is_document Document = true
is_document Folder = false

abbrev pub inherits : EntryFlags → Bool
inherits flags = flags.file_inherit || flags.directory_inherit

-- the first rule that the entry breaks in a list of this kind, on an object of this kind
abbrev pub entry_fault : Ace → Which → ObjKind → Option ListFault
entry_fault entry which kind =
    if not (is_kind_of which entry.kind) then Some WrongKind else
    if not (asks_records entry.kind) && (entry.flags.successful_access || entry.flags.failed_access)
    then Some AccessFlag else
    if entry.flags.inherit_only && not (inherits entry.flags) then Some InheritOnlyAlone else
    if is_document kind
    && (inherits entry.flags || entry.flags.no_propagate_inherit || entry.flags.inherit_only)
    then Some InheritanceOnDocument else None

-- the first of the entries that may not stand in the list, where the head stands at this place
abbrev pub first_bad_entry : ℕ → Which → ObjKind → List Ace → Option EntryFault
first_bad_entry place which kind [] = None
first_bad_entry place which kind (entry ∷ entries) =
    option_map_or (λ why. Some (record { place = place; why = why }))
    (entry_fault entry which kind) (first_bad_entry (place + 1) which kind entries)
