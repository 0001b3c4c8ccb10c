-- Worked rows: what the room machine does at written examples.
use Rattle.std.proofs.Common.{ℕ, ◌≡◌, List, [], ◌∷◌, Some, None, refl, true, false, Bool, codes}
use Rattle.std.specs.Prelude.{pos}
use Rattle.room_entry.specs.declared.{parties.Owners.Owners, entry.EntryKind.TheVariants.Allow}
use Rattle.room_entry.specs.declared.entry.{EntryKind.TheVariants.Deny, Who.TheVariants.Owner}
use Rattle.room_entry.specs.declared.entry.Who.TheVariants.{Everyone, User}
use Rattle.room_entry.specs.declared.object.{Which.TheVariants.Dacl, ObjKind.TheVariants.Document}
use Rattle.room_entry.specs.declared.object.ObjKind.TheVariants.{Folder}
use Rattle.room_entry.specs.{declared.fault.ListFault.TheVariants.InheritOnlyAlone, Ace.Ace}
use Rattle.room_rows.specs.{HeldList.Held, declared.node.Node.Node, Content.Content}
use Rattle.room_machine.specs.declared.request.Request.TheVariants.{Read, Put, Append, MakeFolder}
use Rattle.room_machine.specs.declared.request.Request.TheVariants.{Remove, Move, ReadList, SetList}
use Rattle.room_machine.specs.declared.request.Request.TheVariants.{ReadAttr, SetOwners, Can}
use Rattle.room_machine.specs.declared.reply.Reply.TheVariants.{Bytes, Lists, Rulings, Made, Done}
use Rattle.room_machine.specs.declared.reply.Reply.TheVariants.{Denied, Refused}
use Rattle.room_machine.specs.declared.reply.Reason.TheVariants.{NoSuch, NotFolder, WrongKind}
use Rattle.room_machine.specs.declared.reply.Reason.TheVariants.{Exists, NotEmpty, Root, Loop}
use Rattle.room_machine.specs.{declared.reply.Reason.TheVariants.BadList, Step.{step, reset}}
use Rattle.room_ace.specs.Sent.{Sent}
use Rattle.room_eval.specs.declared.outcome.Ruling.TheVariants.{Allowed, Denied as DeniedAt, Silent}
use Rattle.room_machine.proofs.Worked.Worlds.{none, fd, entry, inherited, root, alice, by_root}
use Rattle.room_machine.proofs.Worked.Worlds.{everything, root_may_all, held, plain, object}
use Rattle.room_machine.proofs.Worked.Worlds.{root_folder, world}

abbrev q : List (List ℕ)
q = codes "q" ∷ []

abbrev q_f : List (List ℕ)
q_f = codes "q" ∷ codes "f" ∷ []

abbrev folder_q : Node
folder_q = object 2 1 (codes "q") Folder plain

abbrev document_f : Node
document_f = object 3 2 (codes "f") Document plain

stranger_makes_no_folder : step (world [] []) (Some alice) (pos 0) (MakeFolder q) 2
    ≡ (Denied [] (0x4 ∷ []) None None, world [] [])
stranger_makes_no_folder = refl

root_makes_a_folder : step (world [] []) (Some root) (pos 0) (MakeFolder q) 2
    ≡ (Made, world (folder_q ∷ []) [])
root_makes_a_folder = refl

a_folder_is_not_read : step (world (folder_q ∷ []) []) (Some alice) (pos 0) (Read q) 2
    ≡ (Refused q WrongKind, world (folder_q ∷ []) [])
a_folder_is_not_read = refl

attributes_are_denied : step (world (folder_q ∷ []) []) (Some alice) (pos 0) (ReadAttr q) 2
    ≡ (Denied q (0x80 ∷ []) None None, world (folder_q ∷ []) [])
attributes_are_denied = refl

a_document_is_made : step (world (folder_q ∷ []) []) (Some root) (pos 0) (Put q_f (codes "hi")) 3
    ≡ (Made, world (folder_q ∷ document_f ∷ []) ((3, codes "hi") ∷ []))
a_document_is_made = refl

bytes_are_added : step (world (folder_q ∷ document_f ∷ []) ((3, codes "hi") ∷ [])) (Some root)
    (pos 0) (Append q_f (codes "!!")) 4
    ≡ (Done, world (folder_q ∷ document_f ∷ []) ((3, codes "hi!!") ∷ []))
bytes_are_added = refl

a_document_is_read : step (world (folder_q ∷ document_f ∷ []) ((3, codes "hi!!") ∷ [])) (Some root)
    (pos 0) (Read q_f) 4
    ≡ (Bytes (codes "hi!!"), world (folder_q ∷ document_f ∷ []) ((3, codes "hi!!") ∷ []))
a_document_is_read = refl

a_folder_is_not_put : step (world (folder_q ∷ []) []) (Some root) (pos 0) (Put q (codes "hi")) 3
    ≡ (Refused q WrongKind, world (folder_q ∷ []) [])
a_folder_is_not_put = refl

the_root_exists : step (world [] []) (Some alice) (pos 0) (MakeFolder []) 2
    ≡ (Refused [] Exists, world [] [])
the_root_exists = refl

-- ---- deletion

abbrev a : List (List ℕ)
a = codes "a" ∷ []

abbrev a_f : List (List ℕ)
a_f = codes "a" ∷ codes "f" ∷ []

-- an entry of alice's
abbrev of_alice : List ℕ → Ace
of_alice mask = entry Allow none (User alice) mask

abbrev against_alice : List ℕ → Ace
against_alice mask = entry Deny none (User alice) mask

-- a folder `/a` and a document `/a/f` with these own entries
abbrev two : List Ace → List Ace → Content
two of_a of_f =
    world (object 2 1 (codes "a") Folder (held true false of_a [])
    ∷ object 3 2 (codes "f") Document (held true false of_f []) ∷ []) ((3, codes "hi") ∷ [])

abbrev without_f : List Ace → Content
without_f of_a = world (object 2 1 (codes "a") Folder (held true false of_a []) ∷ []) []

the_parent_allows : step
    (two (of_alice (0x20 ∷ 0x40 ∷ []) ∷ []) (against_alice (0x10000 ∷ []) ∷ [])) (Some alice)
    (pos 0) (Remove a_f) 9 ≡ (Done, without_f (of_alice (0x20 ∷ 0x40 ∷ []) ∷ []))
the_parent_allows = refl

adding_allows : step (two (of_alice (0x2 ∷ 0x20 ∷ []) ∷ []) []) (Some alice) (pos 0) (Remove a_f) 9
    ≡ (Done, without_f (of_alice (0x2 ∷ 0x20 ∷ []) ∷ []))
adding_allows = refl

adding_does_not_help : step
    (two (of_alice (0x2 ∷ 0x20 ∷ []) ∷ []) (against_alice (0x10000 ∷ []) ∷ [])) (Some alice) (pos 0)
    (Remove a_f) 9
    ≡ (
      Denied a_f (0x10000 ∷ []) (Some 1) (Some (against_alice (0x10000 ∷ []))),
      two (of_alice (0x2 ∷ 0x20 ∷ []) ∷ []) (against_alice (0x10000 ∷ []) ∷ []),
    )
adding_does_not_help = refl

-- ---- lists that are passed down

abbrev for_alice : Ace
for_alice = entry Allow fd (User alice) (0x1 ∷ [])

abbrev bob : List ℕ
bob = codes "bob"

abbrev for_bob : Ace
for_bob = entry Allow fd (User bob) (0x1 ∷ [])

abbrev from_root : Ace
from_root = inherited root_may_all

abbrev sent : Bool → Bool → List Ace → Sent
sent auto protect entries =
    record { flags = record { auto = auto; protect = protect }; entries = entries }

abbrev a_b : List (List ℕ)
a_b = codes "a" ∷ codes "b" ∷ []

abbrev a_b_c : List (List ℕ)
a_b_c = codes "a" ∷ codes "b" ∷ codes "c" ∷ []

-- folders `/a`, `/a/b` and `/a/b/c` with these lists
abbrev three : Held → Held → Held → Content
three of_a of_b of_c =
    world (object 2 1 (codes "a") Folder of_a ∷ object 3 2 (codes "b") Folder of_b
    ∷ object 4 3 (codes "c") Folder of_c ∷ []) []

abbrev pub own : List Ace → Held
own entries = held true false entries []

an_entry_is_set : step (three plain plain plain) (Some root) (pos 0)
    (SetList a Dacl (sent true false (for_alice ∷ []))) 9
    ≡ (Done, three (own (for_alice ∷ [])) plain plain)
an_entry_is_set = refl

it_reaches_all_below : step (three (own (for_alice ∷ [])) plain plain) (Some root) (pos 0)
    (ReadList a_b_c Dacl) 9
    ≡ (
      Lists (record { auto = true; protect = false }) (inherited for_alice ∷ from_root ∷ []),
      three (own (for_alice ∷ [])) plain plain,
    )
it_reaches_all_below = refl

b_is_protected : step (three (own (for_alice ∷ [])) plain plain) (Some root) (pos 0)
    (SetList a_b Dacl (sent true true (inherited for_alice ∷ from_root ∷ []))) 9
    ≡ (
      Done,
      three (own (for_alice ∷ [])) (held true true [] (inherited for_alice ∷ from_root ∷ []))
          plain,
    )
b_is_protected = refl

a_protected_list_stays : step
    (three (own (for_bob ∷ [])) (held true true [] (inherited for_alice ∷ from_root ∷ [])) plain)
    (Some root) (pos 0) (ReadList a_b_c Dacl) 9
    ≡ (
      Lists (record { auto = true; protect = false }) (inherited for_alice ∷ from_root ∷ []),
      three (own (for_bob ∷ [])) (held true true [] (inherited for_alice ∷ from_root ∷ [])) plain,
    )
a_protected_list_stays = refl

b_is_linked_again : step
    (three (own (for_bob ∷ [])) (held true true [] (inherited for_alice ∷ from_root ∷ [])) plain)
    (Some root) (pos 0) (SetList a_b Dacl (sent true false [])) 9
    ≡ (Done, three (own (for_bob ∷ [])) plain plain)
b_is_linked_again = refl

abbrev b_then : List Ace → Bool → List Ace → Content
b_then of_a auto of_b =
    world (object 2 1 (codes "a") Folder (held auto false of_a [])
    ∷ object 3 2 (codes "b") Folder (held true false [] of_b) ∷ []) []

children_keep_what_they_had : step (b_then (for_alice ∷ []) true []) (Some root) (pos 0)
    (SetList a Dacl (sent false false [])) 9
    ≡ (Done, b_then [] false (inherited for_alice ∷ from_root ∷ []))
children_keep_what_they_had = refl

children_are_linked_again : step (b_then [] false (inherited for_alice ∷ from_root ∷ []))
    (Some root) (pos 0) (SetList a Dacl (sent true false [])) 9 ≡ (Done, b_then [] true [])
children_are_linked_again = refl

-- ---- moves

no_loop : step (three plain plain plain) (Some root) (pos 0)
    (Move a_b (codes "a" ∷ codes "b" ∷ codes "c" ∷ codes "d" ∷ [])) 9
    ≡ (Refused (codes "a" ∷ codes "b" ∷ codes "c" ∷ codes "d" ∷ []) Loop, three plain plain plain)
no_loop = refl

it_is_there : step (three plain plain plain) (Some root) (pos 0) (Move a_b a_b) 9
    ≡ (Refused a_b Exists, three plain plain plain)
it_is_there = refl

the_root_stays : step (world [] []) (Some root) (pos 0) (Move [] (codes "z" ∷ [])) 9
    ≡ (Refused [] Root, world [] [])
the_root_stays = refl

-- folders `/a`, `/z`, `/y`, and `/b` below the first, second or third of them, with these entries
-- kept
abbrev moved : ℕ → List Ace → Content
moved above kept = world (
    object 2 1 (codes "a") Folder (own (for_alice ∷ []))
    ∷ object 3 above (codes "b") Folder (held true false [] kept)
    ∷ object 4 1 (codes "z") Folder (held false false [] []) ∷ object 5 1 (codes "y") Folder plain
    ∷ []) []

entries_go_along : step (moved 2 []) (Some root) (pos 0) (Move a_b (codes "z" ∷ codes "b" ∷ [])) 9
    ≡ (Done, moved 4 (inherited for_alice ∷ from_root ∷ []))
entries_go_along = refl

entries_come_from_the_parent : step (moved 4 (inherited for_alice ∷ from_root ∷ [])) (Some root)
    (pos 0) (Move (codes "z" ∷ codes "b" ∷ []) (codes "y" ∷ codes "b" ∷ [])) 9 ≡ (Done, moved 5 [])
entries_come_from_the_parent = refl

-- ---- the way

abbrev with_x : Content
with_x =
    world (object 2 1 (codes "a") Folder plain ∷ object 3 2 (codes "x") Document plain ∷ [])
    ((3, []) ∷ [])

a_document_is_no_folder : step with_x (Some root) (pos 0)
    (Read (codes "a" ∷ codes "x" ∷ codes "y" ∷ [])) 9
    ≡ (Refused (codes "a" ∷ codes "x" ∷ []) NotFolder, with_x)
a_document_is_no_folder = refl

nothing_shows_behind : step with_x (Some alice) (pos 0)
    (Read (codes "a" ∷ codes "x" ∷ codes "y" ∷ [])) 9 ≡ (Denied a (0x20 ∷ []) None None, with_x)
nothing_shows_behind = refl

nothing_shows_of_what_is_absent : step with_x (Some alice) (pos 0)
    (Read (codes "a" ∷ codes "zz" ∷ [])) 9 ≡ (Denied a (0x20 ∷ []) None None, with_x)
nothing_shows_of_what_is_absent = refl

-- ---- rulings

abbrev ruled : Content
ruled =
    world
    (object 2 1 (codes "f") Document
    (own (of_alice (0x1 ∷ []) ∷ entry Deny none Everyone (0x1 ∷ 0x2 ∷ []) ∷ [])) ∷ [])
    ((2, []) ∷ [])

each_bit_is_ruled : step ruled (Some alice) (pos 0) (Can (codes "f" ∷ []) (0x1 ∷ 0x2 ∷ 0x4 ∷ [])) 9
    ≡ (Rulings ((0x1 ∷ [], Allowed 1) ∷ (0x2 ∷ [], DeniedAt 2) ∷ (0x4 ∷ [], Silent) ∷ []), ruled)
each_bit_is_ruled = refl

-- ---- owners, removal, reset

stranger_does_not_remove : step (three plain plain plain) (Some alice) (pos 0) (Remove a) 9
    ≡ (Denied [] (0x2 ∷ []) None None, three plain plain plain)
stranger_does_not_remove = refl

a_full_folder_stays : step (three plain plain plain) (Some root) (pos 0) (Remove a) 9
    ≡ (Refused a NotEmpty, three plain plain plain)
a_full_folder_stays = refl

nothing_to_reset : reset (world [] []) q Dacl (sent false false [])
    ≡ (Refused q NoSuch, world [] [])
nothing_to_reset = refl

a_bad_list_is_not_set : reset (world [] []) [] Dacl
    (sent false false (entry Allow (record none { inherit_only = true }) (User bob) (0x1 ∷ [])
    ∷ [])) ≡ (Refused [] (BadList 1 InheritOnlyAlone), world [] [])
a_bad_list_is_not_set = refl

-- a fresh world: its owner may do all, and passes that down
abbrev fresh : Owners → Content
fresh of_a = record {
  nodes =
      record root_folder { dacl = own (entry Allow fd Owner everything ∷ []) }
      ∷ record {
        id = 2;
        parent = Some 1;
        name = codes "a";
        kind = Folder;
        owners = of_a;
        dacl = plain;
        sacl = plain;
      } ∷ [];
  bodies = [];
  members = [];
  audits = [];
}

abbrev by_alice : Owners
by_alice = record { owner = alice; group = codes "staff" }

owners_are_set : step (fresh by_root) (Some root) (pos 0) (SetOwners a by_alice) 9
    ≡ (Done, fresh by_alice)
owners_are_set = refl

the_old_owner_is_denied : step (fresh by_alice) (Some root) (pos 0) (ReadAttr a) 9
    ≡ (Denied a (0x80 ∷ []) None None, fresh by_alice)
the_old_owner_is_denied = refl

the_new_owner_does_not_get_there : step (fresh by_alice) (Some alice) (pos 0) (ReadAttr a) 9
    ≡ (Denied [] (0x20 ∷ []) None None, fresh by_alice)
the_new_owner_does_not_get_there = refl
