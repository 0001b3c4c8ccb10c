-- Worked examples of who is asked for, where an answer begins, what is refused, and what is told.
use Rattle.std.proofs.Common.{◌≡◌, ℕ, true, false, List, [], ◌∷◌, ◌++◌, Option, Some, None, refl}
use Rattle.std.{proofs.Common.{ap, subst, ◌∙◌}, specs.{Option.option_map, Prelude.codes, List.AllZip}}
use Rattle.room_rows.specs.{Content.node_at, declared.node.Node.Node, Rows.Rows, Meaning.meaning}
use Rattle.room_entry.specs.{Bits.all_bits, Rights.{delete_child, read_data}}
use Rattle.room_entry.specs.declared.entry.{EntryKind.TheVariants.Allow, Who.Who}
use Rattle.room_entry.specs.declared.entry.Who.TheVariants.{Members, User}
use Rattle.room_entry.specs.declared.{object.ObjKind.TheVariants.Folder, parties.Caller.Caller}
use Rattle.room_entry.specs.Pieces.{same_text}
use Rattle.room_ace.specs.Sent.{Sent}
use Rattle.room_memory.specs.Memory.{memory_rows, rows_in}
use Rattle.room_machine.specs.{Stored.stored_site, declared.reply.Reason.TheVariants.NoSuch}
use Rattle.room_machine.proofs.Worked.Worlds.{entry, everyone_passes, held, none, object, plain}
use Rattle.room_machine.proofs.Worked.Worlds.{root_folder, root_may_all}
use Rattle.room_change.specs.Changes.{Change as Made, Moves as MovesTo, came_from}
use Rattle.room_piece.specs.{Laws.IsAskedFor, declared.refusal.RefusalWhy.TheVariants.Room}
use Rattle.room_question.specs.Reading.{nothing_said}
use Rattle.room_question.specs.declared.fault.QuestionWhy.TheVariants.{TooMuch}
use Rattle.room_question.specs.declared.question.Change.{Change, TheVariants.{Moves, Sets}}
use Rattle.room_question.specs.declared.question.{Listed.Listed, Look.Look, Object.Object}
use Rattle.room_question.specs.declared.question.{Question.Question, Owner.Owner, Supposed.Supposed}
use Rattle.room_review.specs.{Users.is_listed, Laws.IsUnknownIn}
use Rattle.room_turns.specs.Turns.{View, turn_at}
use Rattle.room_would.specs.{Faults.would_why_text, Laws.{CameFrom, SayTurned, as_found, room_in}}
use Rattle.room_would.specs.{Lists.list_at, Looking.lost_look, Names.{names_in, users_named}}
use Rattle.room_would.specs.{Parties.supposed_party, Paths.first_path, Would.IsAnswer}
use Rattle.room_would.proofs.{Reviewed.would_is_the_review, Unknown.nobody_is_missed}
use Rattle.room_question.specs.declared.question.Listed.TheVariants as listed
use Rattle.room_question.specs.declared.question.Owner.TheVariants as owner
use Rattle.room_would.specs.declared.fault.WouldWhy.TheVariants as why

-- ---- a question with pairs, an owner who isn't known, and lists

abbrev a : List (List ℕ)
a = codes "a" ∷ []

abbrev sent : Who → Sent
sent who = record {
  flags = record { auto = true; protect = false };
  entries = entry Allow none who (read_data ∷ []) ∷ [];
}

abbrev at : ℕ → Owner → List (List ℕ) → Listed → Object
at line by path list = record {
  line = line;
  kind = Folder;
  owner = by;
  group = Some (codes "board");
  path = path;
  list = list;
}

abbrev maybe : Supposed
maybe = record { label = codes "maybe"; user = None; groups = codes "sales" ∷ [] }

abbrev question : List Change → Question
question changes = record nothing_said {
  members = (codes "staff", codes "bob") ∷ [];
  supposed = maybe ∷ [];
  objects = at 3 (owner.User (codes "alice")) [] listed.Follows
      ∷ at 5 owner.Unread a (listed.Text (sent (Members (codes "guests")))) ∷ [];
  changes = changes;
}

abbrev sets : List (List ℕ) → Change
sets path = Sets (record { line = 8; path = path; list = sent (User (codes "zoe")) })

abbrev moves : List (List ℕ) → List (List ℕ) → Change
moves path to = Moves (record { line = 8; path = path; to = to })

-- ---- who is asked for

whom : users_named (question (sets a ∷ [])) ≡ codes "bob" ∷ codes "alice" ∷ codes "zoe" ∷ []
whom = refl

-- who owns what isn't known has none of these names
guests_have_it : is_listed (codes "guests") (names_in (question [])) ≡ true
guests_have_it = refl

sales_have_it : is_listed (codes "sales") (names_in (question [])) ≡ true
sales_have_it = refl

nobody_has_it : is_listed (codes "0") (names_in (question (sets a ∷ []))) ≡ false
nobody_has_it = refl

-- a caller who may be, whom nothing names, has the stranger's name under its label
in_sales : supposed_party (codes "1") maybe
    ≡ record {
      label = codes "maybe";
      caller = record { user = Some (codes "1"); groups = codes "sales" ∷ [] };
    }
in_sales = refl

-- ---- where an answer begins

at_one : first_path (question (sets (codes "a" ∷ codes "b" ∷ []) ∷ []))
    ≡ codes "a" ∷ codes "b" ∷ []
at_one = refl

-- folders of a way are let pass, and the last one is set
along_a_way : first_path (question (sets a ∷ sets (codes "a" ∷ codes "b" ∷ []) ∷ [])) ≡ a
along_a_way = refl

where_it_comes : first_path (question (moves a (codes "b" ∷ codes "c" ∷ []) ∷ []))
    ≡ codes "b" ∷ codes "c" ∷ []
where_it_comes = refl

apart : first_path (question (moves a (codes "b" ∷ []) ∷ sets (codes "c" ∷ []) ∷ [])) ≡ []
apart = refl

-- ---- what is refused

abbrev rows : Rows
rows = memory_rows (root_folder ∷ object 2 1 (codes "a") Folder plain ∷ []) [] [] []

abbrev look : ℕ → List (List ℕ) → Look
look line path = record { line = line; path = path }

there : lost_look rows (look 7 a ∷ []) ≡ None
there = refl

not_there : lost_look rows (look 7 a ∷ look 8 (codes "b" ∷ []) ∷ [])
    ≡ Some (record { line = 8; why = why.Piece (Room NoSuch) })
not_there = refl

missing : would_why_text (why.Piece (Room NoSuch)) ≡ codes "N1 no-such"
missing = refl

too_many : would_why_text (why.Question TooMuch) ≡ codes "W6 too much"
too_many = refl

-- ---- lists

-- what stands for a list that isn't known isn't told
not_known : list_at rows (1 ∷ []) a ≡ []
not_known = refl

-- ---- a protected folder that comes back

abbrev dana : Caller
dana = record { user = Some (codes "dana"); groups = [] }

-- who may delete in the folder that it comes to
abbrev may_delete : Node
may_delete = record root_folder {
  dacl = held true false (everyone_passes
      ∷ entry Allow none (User (codes "dana")) (delete_child ∷ []) ∷ []) [];
}

abbrev protected : Node
protected = object 2 1 (codes "f") Folder (held true true (root_may_all ∷ []) [])

abbrev new : View
new = record {
  own = [];
  looks = false;
  hidden = [];
  hidden_earlier = [];
  earlier = λ number. None;
}

-- may do nothing with it, and may remove it
comes_back : turn_at new dana (stored_site [] may_delete ∷ [])
    (stored_site (codes "f" ∷ []) protected)
    ≡ record { had = ([], false); has = ([], true) }
unfolding all_bits
comes_back = refl

-- ---- a question that changes nothing

none_made : (absent : List ℕ) (changes : List Change) (made : List Made) → changes ≡ []
    → AllZip (IsAskedFor absent) changes made → made ≡ []
none_made absent [] [] is all = refl
none_made absent [] (one ∷ made) is all = absurd all
none_made absent (change ∷ changes) made is all = absurd (let wrong : ⊥ = cc in wrong)

-- its rows say what a review says of the room as it is
looks_alike : (bytes text : List ℕ) (answer : IsAnswer bytes text) → answer.0.changes ≡ []
    → SayTurned answer.2.told.says.says.asked (rows_in answer.2.before.keep)
    (rows_in answer.2.told.after.keep) []
looks_alike bytes text answer is =
    let law = would_is_the_review bytes text answer in
    subst (λ (made : List Made). SayTurned answer.2.told.says.says.asked
    (rows_in answer.2.before.keep) (rows_in answer.2.told.after.keep) made)
    (none_made answer.2.unread answer.0.changes law.0 is law.1) law.3

-- ---- a question that moves an object

abbrev b : List (List ℕ)
b = codes "b" ∷ []

abbrev x : List (List ℕ)
x = codes "x" ∷ []

one_moved : (absent : List ℕ) (changes : List Change) (made : List Made) → changes ≡ moves a b ∷ []
    → AllZip (IsAskedFor absent) changes made → made ≡ MovesTo a b ∷ []
one_moved absent changes made is all =
    on made (subst (λ (asked : List Change). AllZip (IsAskedFor absent) asked made) is all)
  where
    on : (made : List Made) → AllZip (IsAskedFor absent) (moves a b ∷ []) made
        → made ≡ MovesTo a b ∷ []
    on [] all = absurd all
    on (one ∷ []) all = ap (λ (it : Made). it ∷ []) all.0
    on (one ∷ other ∷ more) all = absurd all.1

-- its rows say what a review says of the room where each object came from, and one of the room
-- after the move
move_is_told : (bytes text : List ℕ) (answer : IsAnswer bytes text)
    → answer.0.changes ≡ moves a b ∷ [] →
    let asked = answer.2.told.says.says.asked in
    let before = rows_in answer.2.before.keep in
    let after = rows_in answer.2.told.after.keep in
    CameFrom asked before after (MovesTo a b ∷ []) × SayTurned asked before after (MovesTo a b ∷ [])
move_is_told bytes text answer is =
    let law = would_is_the_review bytes text answer in
    subst (λ (made : List Made).
    CameFrom answer.2.told.says.says.asked (rows_in answer.2.before.keep)
    (rows_in answer.2.told.after.keep) made
    × SayTurned answer.2.told.says.says.asked (rows_in answer.2.before.keep)
    (rows_in answer.2.told.after.keep) made)
    (one_moved answer.2.unread answer.0.changes law.0 is law.1) (law.2, law.3)

-- what is in it came with it
came_with_it : came_from (MovesTo a b ∷ []) (b ++ x) ≡ Some (a ++ x)
came_with_it = refl

-- and what stands elsewhere stayed
stayed : came_from (MovesTo a b ∷ []) x ≡ Some x
stayed = refl

-- ---- an object that each caller would have made

abbrev owner_at : Caller → Option (List ℕ)
owner_at caller =
    option_map (λ node. node.owners.owner) (node_at (as_found (2 ∷ []) caller (room_in rows)) 2)

her_own : owner_at dana ≡ Some (codes "dana")
her_own = refl

-- a caller without a name owns nothing
nobodys : owner_at (record { user = None; groups = [] }) ≡ Some (codes "root")
nobodys = refl

-- ---- whom a question doesn't name

-- of a question that names bob, alice and zoe, eve has no row, and the room doesn't know her
eve_is_unknown : (bytes text : List ℕ) (answer : IsAnswer bytes text)
    → answer.0 ≡ question (sets a ∷ []) → same_text answer.2.unread (codes "eve") ≡ false
    → IsUnknownIn (meaning (rows_in answer.2.before.keep).read) (codes "eve")
    × IsUnknownIn (meaning (rows_in answer.2.told.after.keep).read) (codes "eve")
eve_is_unknown bytes text answer is other =
    let law = nobody_is_missed bytes text answer in
    law.3 (codes "eve")
    (law.1.same (codes "eve")
    ∙ ap (λ (q : Question). is_listed (codes "eve") (users_named q)) is) other
