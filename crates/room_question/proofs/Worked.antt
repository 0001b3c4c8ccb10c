-- Worked questions: what they say, and which line is refused.
use Rattle.std.proofs.Common.{ℕ, ◌≡◌, List, [], ◌∷◌, ◌++◌, refl, codes}
use Rattle.std.specs.{Prelude.{Some, None, Result, Ok}, List.flat_map}
use Rattle.room_entry.specs.Names.{is_name}
use Rattle.room_entry.specs.declared.fault.TextFault.TheVariants.{BadKind}
use Rattle.room_entry.specs.declared.object.ObjKind.TheVariants.{Folder, Document}
use Rattle.room_ace.specs.declared.fault.Why.TheVariants.{Entry, NoListLine}
use Rattle.room_question.specs.Reading.{question_of, nothing_said}
use Rattle.room_question.specs.Words.{fault_at}
use Rattle.room_question.specs.declared.fault.QuestionFault.{QuestionFault}
use Rattle.room_question.specs.declared.fault.QuestionWhy.TheVariants.{NoSuchLine, NoFolder, Exists}
use Rattle.room_question.specs.declared.fault.QuestionWhy.TheVariants.{BadName, List as OfList}
use Rattle.room_question.specs.declared.question.Change.TheVariants.{Moves}
use Rattle.room_question.specs.declared.question.Listed.TheVariants.{Follows, Unread}
use Rattle.room_question.specs.declared.question.Object.{Object}
use Rattle.room_question.specs.declared.question.Owner.TheVariants as owner
use Rattle.room_question.specs.declared.question.Question.{Question}

-- what the lines say
abbrev said : List (List ℕ) → Result Question QuestionFault
said lines = question_of (flat_map (λ line. line ++ 10 ∷ []) lines)

-- the lines of a root, and those behind them
abbrev in_room : List (List ℕ) → List (List ℕ)
in_room lines = codes "folder a b /" ∷ codes "follows" ∷ lines

abbrev root : Object
root = record {
  line = 1;
  kind = Folder;
  owner = owner.User (codes "a");
  group = Some (codes "b");
  path = [];
  list = Follows;
}

abbrev room : Question
room = record nothing_said { objects = root ∷ [] }

the_root : said (in_room []) ≡ Ok room
unfolding is_name
the_root = refl

not_known : said (in_room (codes "document ? ? /x" ∷ codes "unread" ∷ []))
    ≡ Ok (record room {
      objects = root ∷ record {
        line = 3;
        kind = Document;
        owner = owner.Unread;
        group = None;
        path = codes "x" ∷ [];
        list = Unread;
      } ∷ [];
    })
unfolding is_name
not_known = refl

moved : said (in_room (codes "move /" ∷ codes "to /x y" ∷ []))
    ≡ Ok (record room {
      changes = Moves (record {
        line = 3;
        path = [];
        to = codes "x y" ∷ [];
      }) ∷ [];
    })
unfolding is_name
moved = refl

nothing : said [] ≡ fault_at 1 NoFolder
nothing = refl

no_folder : said (in_room (codes "document a b /x/y" ∷ codes "follows" ∷ []))
    ≡ fault_at 3 NoFolder
unfolding is_name
no_folder = refl

again : said (in_room (codes "folder a b /" ∷ codes "follows" ∷ [])) ≡ fault_at 3 Exists
unfolding is_name
again = refl

out_of_order : said (in_room (codes "member b a" ∷ [])) ≡ fault_at 3 NoSuchLine
unfolding is_name
out_of_order = refl

no_name : said (codes "member b *" ∷ []) ≡ fault_at 1 BadName
unfolding is_name
no_name = refl

line_of_a_list : said (in_room (codes "set /" ∷ codes "list:" ∷ codes "X::a:r" ∷ []))
    ≡ fault_at 5 (OfList (Entry BadKind))
unfolding is_name
line_of_a_list = refl

no_list : said (in_room (codes "set /" ∷ codes "lists" ∷ [])) ≡ fault_at 4 (OfList NoListLine)
unfolding is_name
no_list = refl
