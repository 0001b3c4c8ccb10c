-- Worked rows: what the definitions say at written examples.
use Rattle.std.proofs.Common.{arith, ℕ, ◌≡◌, List, [], ◌∷◌, Option, Some, None, Ok, Err, refl, true}
use Rattle.std.proofs.Common.{false, codes, replicate}
use Rattle.room_entry.specs.declared.object.ObjKind.{ObjKind, TheVariants.{Document, Folder}}
use Rattle.room_rows.specs.{HeldList.Held, declared.node.Node.Node}
use Rattle.room_rows.specs.{declared.fault.PathFault.TheVariants.BadName, Paths.path_of}
use Rattle.room_rows.specs.{Content.{Content, IsContent, set_of}, Walk.walk_of}

no_path : path_of [] ≡ Err BadName
no_path = refl

slash_at_the_end : path_of (codes "/a/") ≡ Err BadName
slash_at_the_end = refl

empty_name : path_of (codes "/a//b") ≡ Err BadName
empty_name = refl

two_dots : path_of (codes "/..") ≡ Err BadName
two_dots = refl

root_path : path_of (codes "/") ≡ Ok []
root_path = refl

two_names : path_of (codes "/a/b") ≡ Ok (codes "a" ∷ codes "b" ∷ [])
two_names = refl

long_name : path_of (47 ∷ replicate 256 97) ≡ Err BadName
long_name = refl

longest_name : path_of (47 ∷ replicate 255 97) ≡ Ok (replicate 255 97 ∷ [])
longest_name = refl

abbrev plain : Held
plain = record { flags = record { auto = true; protect = false }; own = []; inh = [] }

abbrev object : ℕ → Option ℕ → List ℕ → ObjKind → Node
object id parent name kind =
    record {
      id = id;
      parent = parent;
      name = name;
      kind = kind;
      owners = record { owner = codes "root"; group = codes "staff" };
      dacl = plain;
      sacl = plain;
    }

abbrev the_root : Node
the_root = object 1 None [] Folder

abbrev folder : Node
folder = object 2 (Some 1) (codes "a") Folder

abbrev document : Node
document = object 3 (Some 2) (codes "f") Document

abbrev small : Content
small =
    record {
      nodes = the_root ∷ folder ∷ document ∷ [];
      bodies = (3, codes "hi") ∷ [];
      members = [];
      audits = [];
    }

past_a_document : walk_of small (codes "a" ∷ codes "f" ∷ codes "x" ∷ [])
    ≡ record { chain = the_root ∷ folder ∷ document ∷ []; rest = 1 }
past_a_document = refl

nothing_there : walk_of small (codes "q" ∷ codes "r" ∷ [])
    ≡ record { chain = the_root ∷ []; rest = 2 }
nothing_there = refl

at_the_root : walk_of small [] ≡ record { chain = the_root ∷ []; rest = 0 }
at_the_root = refl

it_is_a_content : IsContent small
it_is_a_content = grind arith

pairs_in_order : set_of
    ((codes "sales", codes "bob") ∷ (codes "ops", codes "carol") ∷ (codes "sales", codes "alice")
    ∷ (codes "sales", codes "bob") ∷ [])
    ≡ (codes "ops", codes "carol") ∷ (codes "sales", codes "alice") ∷ (codes "sales", codes "bob")
    ∷ []
pairs_in_order = refl
