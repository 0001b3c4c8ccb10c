-- What a request does where rows may be damaged: nothing is served, shown or changed that the
-- stored lists don't grant, and nothing else is changed.
use Rattle.std.specs.Prelude.{◌≡◌, ℕ, ℤ, ◌⊎◌, ◌||◌, Bool, true, false, List, [], ◌++◌}
use Rattle.std.specs.Prelude.{Option, Some, None, is_some, IsTrue}
use Rattle.room_entry.specs.Valid.{first_bad_entry}
use Rattle.room_entry.specs.declared.fault.EntryFault.{EntryFault}
use Rattle.room_entry.specs.declared.object.ObjKind.{ObjKind}
use Rattle.room_entry.specs.declared.object.Which.{Which}
use Rattle.room_entry.specs.declared.parties.Caller.{Caller}
use Rattle.room_ace.specs.Sent.{Sent}
use Rattle.room_rows.specs.declared.node.AuditRow.{AuditRow}
use Rattle.room_rows.specs.Content.{Content, body_of, with_records}
use Rattle.room_rows.specs.Held.{held_of}
use Rattle.room_rows.specs.Keep.{AreNamedUnder, with_content}
use Rattle.room_rows.specs.Rows.{Rows}
use Rattle.room_machine.specs.declared.reply.Reply.{Reply}
use Rattle.room_machine.specs.declared.reply.Reply.TheVariants.{Bytes, Names, Lists, Attr, Rulings}
use Rattle.room_machine.specs.declared.reply.Reply.TheVariants.{Made, Done, Denied, Refused}
use Rattle.room_machine.specs.declared.reply.Reason.TheVariants.{BadList, NotEmpty}
use Rattle.room_machine.specs.declared.request.Request.{Request}
use Rattle.room_machine.specs.declared.request.Request.TheVariants.{Read, List as ListFolder, Put}
use Rattle.room_machine.specs.declared.request.Request.TheVariants.{Append, MakeFolder, Remove}
use Rattle.room_machine.specs.declared.request.Request.TheVariants.{Move, ReadList, SetList}
use Rattle.room_machine.specs.declared.request.Request.TheVariants.{ReadAttr, SetOwners, Can}
use Rattle.room_machine.specs.Effect.{rulings}
use Rattle.room_machine.specs.Judge.{first_failure, records_of_plan}
use Rattle.room_machine.specs.Changed.{IsChanged, SetsList}
use Rattle.room_machine.specs.Site.{Site, front, full_at, site_at}
use Rattle.room_machine.specs.Step.{caller_in}
use Rattle.room_machine.specs.Stored.{AtFree, AtStored, stored_along, stored_plan}

-- the denial or the refusal that a reply tells
abbrev pub failure_told : Reply → Option Reply
failure_told (Bytes bytes) = None
failure_told (Names names) = None
failure_told (Lists flags entries) = None
failure_told (Attr kind owners) = None
failure_told (Rulings rulings) = None
failure_told Made = None
failure_told Done = None
failure_told (Denied path bits place entry) = Some (Denied path bits place entry)
failure_told (Refused path why) = Some (Refused path why)

-- Where rows can't be read, more may be refused than the plan says: an object that the walk finds
-- isn't removed if such a row may be its child.
pub record RefusesMore (rows : Rows) (request : Request) (reply : Reply) (failure : Option Reply)
    : Type 0 where
  pub path : List (List ℕ)
  pub asked : request ≡ Remove path
  pub refused : AtStored rows.read path (λ target. reply ≡ Refused path NotEmpty)
  pub passes : failure ≡ None
  pub unread : rows.unreadable ≡ [] → ⊥

-- the reply tells the first failure, if there is one, and no other
abbrev pub TellsFailure : Rows → Request → Reply → Option Reply → Type 0
TellsFailure rows request reply failure =
    (failure ≡ failure_told reply) ⊎ RefusesMore rows request reply failure

-- the requests that change nothing but records
abbrev pub only_reads : Request → Bool
only_reads (Read path) = true
only_reads (ListFolder path) = true
only_reads (ReadList path which) = true
only_reads (ReadAttr path) = true
only_reads (Can path mask) = true
only_reads (Put path bytes) = false
only_reads (Append path bytes) = false
only_reads (MakeFolder path) = false
only_reads (Remove path) = false
only_reads (Move path to) = false
only_reads (SetList path which sent) = false
only_reads (SetOwners path owners) = false

-- What is shown is what the object at the path has. Of a folder it is the names and kinds of all
-- children that can be read, in order; between them may stand those of rows under it that can't be
-- read, and no others. To be changed, the object has to be found, and the folder of what is made or
-- moved. So there is a root, and the plan has the checks of that object and of that folder.
abbrev pub IsShown : Rows → Caller → Request → Reply → Type 0
IsShown rows caller (Read path) reply = AtStored rows.read path (λ target.
    (bytes : List ℕ) × (reply ≡ Bytes bytes) × (body_of rows.read target.node.id ≡ Some bytes))
IsShown rows caller (ListFolder path) reply = AtStored rows.read path (λ target.
    (names : List (List ℕ × ObjKind)) × (reply ≡ Names names)
    × AreNamedUnder target.node.id rows names)
IsShown rows caller (ReadList path which) reply = AtStored rows.read path (λ target.
    reply ≡ Lists (held_of which target.node).flags (full_at which target))
IsShown rows caller (ReadAttr path) reply = AtStored rows.read path (λ target.
    reply ≡ Attr target.node.kind target.node.owners)
IsShown rows caller (Can path mask) reply = AtStored rows.read path (λ target.
    reply ≡ Rulings (rulings caller mask target))
IsShown rows caller (Put path bytes) reply = AtStored rows.read path (λ target. reply ≡ Done)
    ⊎ AtFree rows.read path (λ folder. reply ≡ Made)
IsShown rows caller (Append path bytes) reply = AtStored rows.read path (λ target. reply ≡ Done)
IsShown rows caller (MakeFolder path) reply = AtFree rows.read path (λ folder. reply ≡ Made)
IsShown rows caller (Remove path) reply = AtStored rows.read path (λ target. reply ≡ Done)
IsShown rows caller (Move path to) reply = AtStored rows.read path (λ target.
    AtStored rows.read (front to) (λ folder. reply ≡ Done))
IsShown rows caller (SetList path which sent) reply = AtStored rows.read path (λ target.
    reply ≡ Done)
IsShown rows caller (SetOwners path owners) reply = AtStored rows.read path (λ target.
    reply ≡ Done)

-- the records of the plan's items up to the first that fails, by the stored lists
abbrev pub stored_records : Caller → ℤ → Content → Request → List AuditRow
stored_records caller moment rows request =
    records_of_plan caller moment (stored_plan rows request)

-- Whatever the rows are, the request is judged by the lists as they are stored, and each item
-- before the first that fails has passed: what is served was granted, and a denial names an entry
-- that is stored. The records of the checks are added. Who asks only changes nothing else, nor does
-- who is refused. What is shown is what the object at the path has. A change that is served leaves
-- the rest of the rows as they were, those that can't be read among them.
pub record IsClosedFor (caller : Caller) (moment : ℤ) (request : Request) (old : Rows)
    (reply : Reply) (new : Rows) : Type 0 where
  pub judged : TellsFailure old request reply
      (first_failure caller (stored_plan old.read request))
  pub records : new.read.audits
      ≡ old.read.audits ++ stored_records caller moment old.read request
  pub unchanged : IsTrue (only_reads request || is_some (failure_told reply))
      → new ≡ with_content old
      (with_records old.read (stored_records caller moment old.read request))
  pub shown : failure_told reply ≡ None → IsShown old caller request reply
  pub changed : failure_told reply ≡ None → (next : Content) × IsChanged old caller request next
      × (new ≡ with_content old
      (with_records next (stored_records caller moment old.read request)))

-- the same for the caller of this name, or without one, with the groups of the rows
abbrev pub FailsClosed : Option (List ℕ) → ℤ → Request → Rows → Reply → Rows → Type 0
FailsClosed user moment request old reply new =
    IsClosedFor (caller_in old.read user) moment request old reply new

-- ---- the operator's reset

-- the reply to a list for the object at this path, by its first entry that may not stand there
abbrev pub listed_reply : List (List ℕ) → Option EntryFault → Reply
listed_reply path None = Done
listed_reply path (Some fault) = Refused path (BadList fault.place fault.why)

-- Whatever the rows are, a list is set as by a request, where the walk finds the object and each
-- entry may stand in its list. Otherwise it is refused, and nothing is changed. No rights are
-- checked, and no record is left.
pub record IsResetClosed (path : List (List ℕ)) (which : Which) (sent : Sent) (old : Rows)
    (reply : Reply) (new : Rows) : Type 0 where
  pub found : (target : Site) → site_at (stored_along old.read path) path ≡ Some target
      → reply ≡ listed_reply path (first_bad_entry 1 which target.node.kind sent.entries)
  pub unchanged : IsTrue (is_some (failure_told reply)) → new ≡ old
  pub changed : failure_told reply ≡ None → AtStored old.read path (λ target. (next : Content)
      × SetsList old.read which sent target.node next × (new ≡ with_content old next))
