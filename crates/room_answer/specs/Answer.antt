-- The text of an answer: rows, then the lists that were asked for (own).
use Rattle.std.specs.Prelude.{ℕ, Bool, true, false, List, [], ◌∷◌, ◌++◌, codes}
use Rattle.room_entry.specs.Ace.{Ace}
use Rattle.room_entry.specs.Bytes.{line_feed}
use Rattle.room_entry.specs.Letters.{mask_text}
use Rattle.room_entry.specs.declared.flags.ListFlags.{ListFlags}
use Rattle.room_entry.specs.declared.object.ObjKind.{ObjKind}
use Rattle.room_entry.specs.declared.object.ObjKind.TheVariants.{Document, Folder}
use Rattle.room_ace.specs.Lists.{list_text}
use Rattle.room_answer.specs.declared.answer.Row.{Row}

abbrev pub header : List (List ℕ)
header =
    codes "path" ∷ codes "kind" ∷ codes "user" ∷ codes "rights" ∷ codes "remove" ∷ codes "then"
    ∷ codes "then_remove" ∷ []

abbrev pub kind_word : ObjKind → List ℕ
kind_word Folder = codes "folder"
kind_word Document = codes "document"

abbrev pub yes_or_no : Bool → List ℕ
yes_or_no true = codes "yes"
yes_or_no false = codes "no"

-- what the caller may do before, then what they may do after
abbrev pub fields : Row → List (List ℕ)
fields row =
    row.path.now ∷ kind_word row.kind ∷ row.user.now
    ∷ mask_text row.rights ∷ yes_or_no row.remove
    ∷ mask_text row.then ∷ yes_or_no row.then_remove ∷ []

-- nothing is said of an object's callers
abbrev pub unknown : List ℕ → ObjKind → List (List ℕ)
unknown path kind = path ∷ kind_word kind ∷ codes "?" ∷ [] ∷ [] ∷ [] ∷ [] ∷ []

-- an empty line, and the lines of a question that sets the list
abbrev pub list_part : List ℕ → ListFlags → List Ace → List ℕ
list_part path flags entries =
    line_feed ∷ codes "set " ++ path ++ line_feed ∷ list_text flags entries
