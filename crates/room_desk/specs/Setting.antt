-- How the list of an object that was found is set.
use Rattle.std.specs.Prelude.{
  ◌≡◌,
  ℕ,
  zero,
  suc,
  ◌⊎◌,
  ◌&&◌,
  Bool,
  not,
  List,
  [],
  filter,
  length,
  Option,
  Some,
  None,
  Ok,
  if◌then◌else◌,
}
use Rattle.std.specs.Option.{option_map, option_map_or}
use Rattle.room_entry.specs.Ace.{Ace}
use Rattle.room_ace.specs.Sent.{Sent, inherited_of, limit_fault, own_of}
use Rattle.room_entry.specs.Valid.{first_bad_entry}
use Rattle.room_entry.specs.declared.fault.EntryFault.{EntryFault}
use Rattle.room_entry.specs.declared.flags.ListFlags.{ListFlags}
use Rattle.room_entry.specs.declared.object.ObjKind.{ObjKind}
use Rattle.room_entry.specs.declared.object.Which.{Which}
use Rattle.room_rows.specs.HeldList.{Held}
use Rattle.room_rows.specs.declared.node.Node.{Node}
use Rattle.room_rows.specs.Content.{Content, node_at, parent_of}
use Rattle.room_rows.specs.Held.{held_of, full_of, with_held}
use Rattle.room_rows.specs.Keep.{Changes, IsDamaged, with_content}
use Rattle.room_rows.specs.Meaning.{kept_node, meaning}
use Rattle.room_rows.specs.Rows.{Rows, AreRows}
use Rattle.room_rows.specs.Pass.{pass}
use Rattle.room_rows.specs.Sound.{AreSound}
use Rattle.room_desk.specs.Carrying.{GoesDown}
use Rattle.room_judge.specs.declared.arrival.Found.{Found}
use Rattle.room_judge.specs.declared.asker.Asker.{Asker}
use Rattle.room_judge.specs.Closed.{IsServed}
use Rattle.room_judge.specs.Judged.{IsReached, ended_at}
use Rattle.room_machine.specs.declared.reply.Reason.{Reason}
use Rattle.room_machine.specs.declared.reply.Reason.TheVariants.{BadList}
use Rattle.room_machine.specs.declared.reply.Reply.{Reply}
use Rattle.room_machine.specs.declared.reply.Reply.TheVariants.{Done, Refused}
use Rattle.room_machine.specs.declared.request.Request.TheVariants.{SetList}
use Rattle.room_machine.specs.Changed.{SetsList, passing_parent, stored_held, stored_inh}
use Rattle.room_machine.specs.Effect.{set_list}
use Rattle.room_machine.specs.Site.{Site}

-- ---- the sent entries

abbrev pub reason_of : Option EntryFault → Option Reason
reason_of None = None
reason_of (Some fault) = Some (BadList fault.place fault.why)

-- why a list may not be set: its first entry that may not stand there
abbrev pub fault_in : ℕ → Which → ObjKind → List Ace → Option Reason
fault_in place which kind entries = reason_of (first_bad_entry place which kind entries)

-- the entries with the flag of inherited ones, or those without it
abbrev pub entries_marked : Bool → List Ace → List Ace
entries_marked inherited entries = filter (λ entry. if inherited then entry.flags.inherited
    else not entry.flags.inherited) entries

-- ---- the list as it is stored

-- what is stored of the list above and of the sent entries
abbrev pub IsNewInh : Which → Sent → Node → Option Node → List Ace → Type 0
IsNewInh which sent node above entries =
    entries ≡ stored_inh which sent node.kind (passing_parent which sent.flags above)

-- the same under an object that has this list
abbrev pub inh_under : Sent → ObjKind → Held → List Ace
inh_under sent kind above =
    if not sent.flags.protect && above.flags.auto then pass kind (full_of above)
    else inherited_of sent.entries

-- the list of these parts
abbrev pub list_of : ListFlags → List Ace → List Ace → Held
list_of flags own inh = record { flags = flags; own = own; inh = inh }

-- the sent list with these inherited entries
abbrev pub held_with : Sent → List Ace → Held
held_with sent inh = list_of sent.flags (own_of sent.entries) inh

-- ---- stored

-- The object has this list. Where it stood in the rows, the list is carried down if it passes
-- entries on.
pub record IsWrittenDown (which : Which) (node : Node) (held : Held) (old : Rows)
    (answer : Unit {0}) (new : Rows) : Type 0 where
  pub mid : Rows
  pub writes : Changes node.id (with_held which held) old mid
  pub goes : node_at old.read node.id ≡ Some node
      → GoesDown held.flags.auto which node.id mid new

-- the object had this list already, or has it now
abbrev pub Stores : Which → Node → Held → Rows → Unit {0} → Rows → Type 0
Stores which node held old answer new =
    ((held ≡ held_of which node) × (new ≡ old)) ⊎ IsWrittenDown which node held old answer new

-- ---- the whole

-- an object of the rows as it stands in what they mean, with its inherited entries
abbrev pub kept_site : Content → Node → Site
kept_site rows node = record {
  path = [];
  node = kept_node rows node;
  dacl = node.dacl.inh;
  sacl =
      node.sacl.inh;
}

-- From sound rows that have the object, what they mean changes as by a request that sets a list,
-- and they are sound again.
pub record IsSetWell (which : Which) (sent : Sent) (node : Node) (old new : Rows) : Type 0 where
  pub means : meaning new.read ≡ set_list (meaning old.read) which sent
      (option_map (kept_site old.read) (parent_of old.read node)) (kept_site old.read node)
  pub sound : AreSound new

-- The object stores the list, and rows that can't be read stay as they are.
abbrev pub IsSetOnly : Which → Sent → Node → Rows → Rows → Type 0
IsSetOnly which sent node old new =
    SetsList old.read which sent node new.read × (new ≡ with_content old new.read)

-- So it is on any rows where the object is there.
abbrev pub IsSet : Which → Sent → Node → Rows → Rows → Type 0
IsSet which sent node old new =
    (node_at old.read node.id ≡ Some node → IsSetOnly which sent node old new)
    × (node_at old.read node.id ≡ Some node → fault_in 1 which node.kind sent.entries ≡ None
    → limit_fault sent.entries ≡ None → AreSound old → IsSetWell which sent node old new)

-- the relation holds where this is the object's parent
abbrev pub Beneath : {X : Type 0} → Option Node → Node → (Rows → X → Rows → Type 0) → Rows → X
    → Rows → Type 0
Beneath above node Becomes old x new = parent_of old.read node ≡ above → Becomes old x new

-- the object stores already what it is to store
abbrev pub IsStored : Which → Sent → Node → Option Node → Type 0
IsStored which sent node above = stored_held which sent node.kind above ≡ held_of which node

abbrev pub SetUnless : Option Reason → Which → Sent → Node → Rows → Rows → Type 0
SetUnless None which sent node old new = IsSet which sent node old new
SetUnless (Some why) which sent node old new = new ≡ old

-- The list of the object at the path is set, or refused for its first entry that may not stand
-- there. It is within the limits for sent lists.
pub record IsSetOrRefused (path : List (List ℕ)) (which : Which) (sent : Sent) (node : Node)
    (old : Rows) (reply : Reply) (new : Rows) : Type 0 where
  pub replies : reply ≡ option_map_or (λ why. Refused path why)
      (fault_in 1 which node.kind sent.entries) Done
  pub few : limit_fault sent.entries ≡ None
  pub becomes : SetUnless (fault_in 1 which node.kind sent.entries) which sent node old new

-- ---- the request

-- The walk came to the target, and this is above it.
pub record IsFoundUnder (asker : Asker) (path : List (List ℕ)) (target : Found)
    (above : Option Node) (old mid : Rows) : Type 0 where
  pub are : AreRows old
  pub reached : IsReached asker path (λ _. []) old (Ok target.node) mid
  pub depth : target.depth ≡ length path
  pub parent : parent_of old.read target.node ≡ above

-- the whole request, once the way to the target has been walked
abbrev pub SetsOn : Asker → List (List ℕ) → Which → Sent → Found → Option Node → Rows → Reply → Rows
    → Type 0
SetsOn asker path which sent target above mid reply new =
    (old : Rows) → IsFoundUnder asker path target above old mid
    → IsServed asker (SetList path which sent) old reply new

abbrev pub FailsToSet : Asker → List (List ℕ) → Found → Option Node → Rows → ℕ → Type 0
FailsToSet asker path target above mid row =
    (old : Rows) → IsFoundUnder asker path target above old mid → IsDamaged old row

-- ---- the operator's reset

-- The walk came to an object with n names left over.
abbrev pub IsResetAtEnd : List (List ℕ) → Which → Sent → Node → ℕ → Rows → Reply → Rows → Type 0
IsResetAtEnd path which sent last zero old reply new =
    IsSetOrRefused path which sent last old reply new
IsResetAtEnd path which sent last (suc rest) old reply new =
    (reply ≡ ended_at path last.kind (suc rest)) × (new ≡ old)
