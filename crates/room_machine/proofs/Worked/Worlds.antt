-- Small contents for the worked rows.
use Rattle.std.proofs.Common.{ℕ, List, [], ◌∷◌, Some, None, true, false, Bool, codes}
use Rattle.room_entry.specs.{Ace.Ace, declared.flags.EntryFlags.EntryFlags}
use Rattle.room_entry.specs.declared.entry.{EntryKind.{EntryKind, TheVariants.Allow}, Who.Who}
use Rattle.room_entry.specs.declared.entry.Who.TheVariants.{Everyone, User}
use Rattle.room_entry.specs.declared.object.ObjKind.{ObjKind, TheVariants.Folder}
use Rattle.room_entry.specs.declared.parties.Owners.{Owners}
use Rattle.room_rows.specs.{HeldList.Held, declared.node.Node.Node, Content.Content}

abbrev pub none : EntryFlags
none =
    record {
      file_inherit = false;
      directory_inherit = false;
      no_propagate_inherit = false;
      inherit_only = false;
      successful_access = false;
      failed_access = false;
      identifier_group =
          false;
      inherited = false;
    }

-- `fd`
abbrev pub fd : EntryFlags
fd = record none { file_inherit = true; directory_inherit = true }

abbrev pub entry : EntryKind → EntryFlags → Who → List ℕ → Ace
entry kind flags who mask = record { kind = kind; flags = flags; who = who; mask = mask }

-- an entry as it is inherited
abbrev pub inherited : Ace → Ace
inherited e = record e { flags = record e.flags { inherited = true } }

abbrev pub root : List ℕ
root = codes "root"

abbrev pub alice : List ℕ
alice = codes "alice"

abbrev pub by_root : Owners
by_root = record { owner = root; group = codes "staff" }

-- all bits
abbrev pub everything : List ℕ
everything =
    0x1 ∷ 0x2 ∷ 0x4 ∷ 0x8 ∷ 0x10 ∷ 0x20 ∷ 0x40 ∷ 0x80 ∷ 0x100 ∷ 0x200 ∷ 0x400 ∷ 0x10000 ∷ 0x20000
    ∷ 0x40000 ∷ 0x80000 ∷ 0x100000 ∷ []

-- `A::EVERYONE@:x` and `A:fd:root:` with all bits
abbrev pub everyone_passes : Ace
everyone_passes = entry Allow none Everyone (0x20 ∷ [])

abbrev pub root_may_all : Ace
root_may_all = entry Allow fd (User root) everything

abbrev pub held : Bool → Bool → List Ace → List Ace → Held
held auto protect own inh =
    record { flags = record { auto = auto; protect = protect }; own = own; inh = inh }

-- a list with AUTO_INHERIT and nothing else
abbrev pub plain : Held
plain = held true false [] []

abbrev pub object : ℕ → ℕ → List ℕ → ObjKind → Held → Node
object id parent name kind dacl =
    record {
      id = id;
      parent = Some parent;
      name = name;
      kind = kind;
      owners = by_root;
      dacl = dacl;
      sacl = plain;
    }

abbrev pub root_folder : Node
root_folder =
    record {
      id = 1;
      parent = None;
      name = [];
      kind = Folder;
      owners = by_root;
      dacl = held true false (everyone_passes ∷ root_may_all ∷ []) [];
      sacl = plain;
    }

-- a root folder that everyone may pass and root may do all with, and these objects
abbrev pub world : List Node → List (ℕ × List ℕ) → Content
world nodes bodies =
    record { nodes = root_folder ∷ nodes; bodies = bodies; members = []; audits = [] }
