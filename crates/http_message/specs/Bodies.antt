-- The JSON of replies (own). The members of an object stand in the order of their keys.
use Rattle.std.specs.Prelude.{ℕ, List, [], ◌∷◌, ◌++◌, Option, Some, None, map, decimal, codes}
use Rattle.serde_json.specs.Data.{Data, null, number, unsigned, string, array, object, Members}
use Rattle.serde_json.specs.Data.{member, no_members, put}
use Rattle.serde_json.specs.View.{items_of}
use Rattle.room_entry.specs.Ace.{Ace}
use Rattle.room_entry.specs.Letters.{mask_text}
use Rattle.room_ace.specs.Text.{entry_text}
use Rattle.room_entry.specs.declared.fault.TextFault.{TextFault}
use Rattle.room_entry.specs.declared.fault.ListFault.{ListFault}
use Rattle.room_ace.specs.declared.fault.Why.{Why}
use Rattle.room_entry.specs.declared.object.ObjKind.{ObjKind}
use Rattle.room_entry.specs.declared.parties.Owners.{Owners}
use Rattle.room_eval.specs.declared.outcome.Ruling.{Ruling}
use Rattle.room_rows.specs.Paths.{path_text}
use Rattle.room_rows.specs.declared.fault.PathFault.{PathFault}
use Rattle.room_machine.specs.declared.reply.Reason.{Reason}

-- ---- why

abbrev pub bad_line : TextFault → List ℕ
bad_line TextFault.BadKind = codes "bad-list A1"
bad_line TextFault.BadFlag = codes "bad-list A2"
bad_line TextFault.BadWho = codes "bad-list A3"
bad_line TextFault.BadMask = codes "bad-list A4"
bad_line TextFault.NotFourParts = codes "bad-list A5"

abbrev pub bad_list_text : ListFault → List ℕ
bad_list_text ListFault.TooManyEntries = codes "bad-list A7"
bad_list_text ListFault.TooManyOwn = codes "bad-list A8"
bad_list_text ListFault.WrongKind = codes "bad-list A9"
bad_list_text ListFault.AccessFlag = codes "bad-list A10"
bad_list_text ListFault.InheritOnlyAlone = codes "bad-list A11"
bad_list_text ListFault.InheritanceOnDocument = codes "bad-list A12"

abbrev pub bad_text : Why → List ℕ
bad_text (Why.Entry fault) = bad_line fault
bad_text (Why.List fault) = bad_list_text fault
bad_text Why.NoListLine = codes "bad-list A6"
bad_text Why.NotUtf8 = codes "bad-list A13"

abbrev pub bad_path : PathFault → List ℕ
bad_path PathFault.BadName = codes "bad-target P1"
bad_path PathFault.TooLong = codes "bad-target P2"
bad_path PathFault.NotUtf8 = codes "bad-target P3"

abbrev pub reason_text : Reason → List ℕ
reason_text Reason.NoSuch = codes "no-such"
reason_text Reason.NotFolder = codes "not-folder"
reason_text Reason.WrongKind = codes "wrong-kind"
reason_text Reason.Exists = codes "exists"
reason_text Reason.NotEmpty = codes "not-empty"
reason_text Reason.Root = codes "root"
reason_text Reason.Loop = codes "loop"
reason_text (Reason.BadList place fault) = bad_list_text fault
reason_text Reason.TooLarge = codes "too-large"

-- ---- objects

abbrev pub why_data : List ℕ → Data
why_data why = object (member (codes "why") (string why) no_members)

abbrev pub line_data : ℕ → List ℕ → Data
line_data line why =
    object (member (codes "line") (number (unsigned line))
    (member (codes "why") (string why) no_members))

abbrev pub place_data : List ℕ → ℕ → List ℕ → Data
place_data path place why =
    object (member (codes "at") (string path)
    (member (codes "entry") (number (unsigned place))
    (member (codes "why") (string why) no_members)))

abbrev pub at_data : List ℕ → List ℕ → Data
at_data path why =
    object (member (codes "at") (string path) (member (codes "why") (string why) no_members))

abbrev pub refused_data : List (List ℕ) → Reason → Data
refused_data path (Reason.BadList place fault) =
    place_data (path_text path) place (bad_list_text fault)
refused_data path why = at_data (path_text path) (reason_text why)

-- null, where there is none
abbrev pub number_or_null : Option ℕ → Data
number_or_null None = null
number_or_null (Some n) = number (unsigned n)

abbrev pub text_or_null : Option (List ℕ) → Data
text_or_null None = null
text_or_null (Some text) = string text

abbrev pub printed : Option Ace → Option (List ℕ)
printed None = None
printed (Some entry) = Some (entry_text entry)

abbrev pub denied_members : List ℕ → List ℕ → Option ℕ → Data → Data
denied_members path bits place text =
    object (member (codes "at") (string path)
    (member (codes "bits") (string bits)
    (member (codes "entry") (number_or_null place) (member (codes "text") text no_members))))

abbrev pub denied_texts : List ℕ → List ℕ → Option ℕ → Option (List ℕ) → Data
denied_texts path bits place text = denied_members path bits place (text_or_null text)

abbrev pub denied_data : List (List ℕ) → List ℕ → Option ℕ → Option Ace → Data
denied_data path bits place entry =
    denied_texts (path_text path) (mask_text bits) place (printed entry)

abbrev pub kind_text : ObjKind → List ℕ
kind_text ObjKind.Document = codes "document"
kind_text ObjKind.Folder = codes "folder"

abbrev pub attr_texts : List ℕ → List ℕ → List ℕ → Data
attr_texts group kind owner =
    object (member (codes "group") (string group)
    (member (codes "kind") (string kind) (member (codes "owner") (string owner) no_members)))

abbrev pub attr_data : ObjKind → Owners → Data
attr_data kind owners = attr_texts owners.group (kind_text kind) owners.owner

-- ---- children, in order of name

abbrev pub child_texts : List ℕ → List ℕ → Data
child_texts name kind =
    object (member (codes "kind") (string kind) (member (codes "name") (string name) no_members))

abbrev pub child_data : List ℕ × ObjKind → Data
child_data child = child_texts child.0 (kind_text child.1)

abbrev pub names_data : List (List ℕ × ObjKind) → Data
names_data children = array (items_of (map child_data children))

-- ---- rulings, each under the letter of its bit

abbrev pub ruling_text : Ruling → List ℕ
ruling_text (Ruling.Allowed place) = codes "allowed " ++ decimal place
ruling_text (Ruling.Denied place) = codes "denied " ++ decimal place
ruling_text Ruling.Silent = codes "silent"

abbrev pub with_rulings : Members → List (List ℕ × Ruling) → Members
with_rulings members [] = members
with_rulings members (ruling ∷ rulings) =
    with_rulings (put (mask_text ruling.0) (string (ruling_text ruling.1)) members) rulings

abbrev pub rulings_data : List (List ℕ × Ruling) → Data
rulings_data rulings = object (with_rulings no_members rulings)
