-- Which paths were seen (own).
use Rattle.std.specs.Prelude.{◌≡◌, ℕ, List, String}
use Rattle.std.specs.List.{list_any}
use Rattle.std.specs.Str.{bytes_eq}
use Rattle.std.specs.BTreeSet.{BTreeSet, contains_text}
use Rattle.room_question.specs.Reading.{folder_texts, path_texts}
use Rattle.room_question.specs.declared.question.Object.{Object}
use Rattle.room_question.specs.declared.seen.Seen.{Seen}

-- the set has these texts, and no others
abbrev pub HasTexts : {A : Type 0} → BTreeSet (String A) → List (List ℕ) → Type 0
HasTexts set texts = (text : List ℕ) → contains_text set text ≡ list_any (bytes_eq text) texts

-- the paths of these objects were seen, and no others
pub record HasSeen (seen : Seen) (objects : List Object) : Type 0 where
  pub paths : HasTexts seen.paths (path_texts objects)
  pub folders : HasTexts seen.folders (folder_texts objects)
