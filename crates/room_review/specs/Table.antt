-- The table of a review: what each caller may do with an object and with all below it (own).
use Rattle.std.specs.Prelude.{◌≡◌, ℕ, ◌+◌, ◌||◌, Bool, true, false, not, List, [], ◌∷◌, ◌++◌}
use Rattle.std.specs.Prelude.{length, map, filter, take, Option, Some, None, if◌then◌else◌, codes}
use Rattle.std.specs.List.{flat_map}
use Rattle.room_entry.specs.Letters.{mask_text}
use Rattle.room_entry.specs.declared.object.ObjKind.{ObjKind}
use Rattle.room_entry.specs.declared.object.ObjKind.TheVariants.{Document, Folder}
use Rattle.room_rows.specs.declared.node.Node.{Node}
use Rattle.room_rows.specs.Content.{Content, children_of, is_folder}
use Rattle.room_rows.specs.Paths.{path_text}
use Rattle.room_rows.specs.Rows.{Rows, numbers_of}
use Rattle.room_machine.specs.declared.reply.Reason.TheVariants.{NoSuch, NotFolder}
use Rattle.room_machine.specs.Site.{Site, site_at}
use Rattle.room_machine.specs.Step.{caller_in}
use Rattle.room_machine.specs.Stored.{stored_along, stored_site}
use Rattle.room_dump.specs.Dump.{tree_of}
use Rattle.room_import.specs.Exports.{rows_text}
use Rattle.room_review.specs.declared.parties.Party.{Party}
use Rattle.room_review.specs.declared.question.Scope.{Scope}
use Rattle.room_review.specs.declared.question.Reviewed.{Reviewed}
use Rattle.room_review.specs.declared.question.Reviewed.TheVariants.{Table, Refused}
use Rattle.room_machine.specs.Rights.{last_of, may_remove, rights}
use Rattle.room_review.specs.Standing.{repeats}
use Rattle.room_review.specs.Users.{AreUsers, is_listed, users_at}

-- ---- callers

abbrev pub named : Content → List ℕ → Party
named content name = record { label = name; caller = caller_in content (Some name) }

-- any other name
abbrev pub other_name : Content → List ℕ → Party
other_name content name = record { label = codes "*"; caller = caller_in content (Some name) }

abbrev pub nameless : Content → Party
nameless content = record { label = codes "ANONYMOUS@"; caller = caller_in content None }

-- each of the users, then a name that is none of them, then a caller without a name
abbrev pub everybody : Content → List (List ℕ) → List ℕ → List Party
everybody content users stranger =
    map (named content) users ++ other_name content stranger ∷ nameless content ∷ []

-- ---- rows

abbrev pub kind_word : ObjKind → List ℕ
kind_word Folder = codes "folder"
kind_word Document = codes "document"

abbrev pub yes_or_no : Bool → List ℕ
yes_or_no true = codes "yes"
yes_or_no false = codes "no"

abbrev pub row : List Site → Site → Party → List (List ℕ)
row above target party =
    path_text target.path ∷ kind_word target.node.kind ∷ party.label
    ∷ mask_text (rights party.caller above target)
    ∷ yes_or_no (may_remove party.caller above target) ∷ []

-- The rows of an object behind these, in order of callers: all of them, or those that don't repeat
-- what the folder's say.
abbrev pub rows_at : Bool → List Party → List Site → Site → List (List (List ℕ))
rows_at all parties above target =
    map (row above target)
    (filter (λ party. all || not (repeats party.caller above target)) parties)

abbrev pub header : List (List ℕ)
header = codes "path" ∷ codes "kind" ∷ codes "user" ∷ codes "rights" ∷ codes "remove" ∷ []

-- ---- all below an object

-- where an object stands: its path, and the objects on the way to it
pub record Place : Type 0 where
  pub path : List (List ℕ)
  pub above : List Site

abbrev pub site_of : Place → Node → Site
site_of place node = stored_site place.path node

abbrev pub place_below : Place → Node → Node → Place
place_below place node child = record {
  path = place.path ++ child.name ∷ [];
  above = place.above ++ site_of place node ∷ [];
}

-- where the walk found an object
abbrev pub place_of : List Site → Site → Place
place_of above target = record { path = target.path; above = above }

abbrev pub object_rows : Bool → List Party → Place → Node → List (List (List ℕ))
object_rows all parties place node = rows_at all parties place.above (site_of place node)

-- The rows of an object, each of which stands, and then those of all below it: a folder before its
-- children, and these in order of name. No object is deeper than there are rows of the keeper.
abbrev pub table_rows : Rows → Bool → List Party → Place → Node → List (List (List ℕ))
table_rows rows all parties place node =
    object_rows true parties place node
    ++ flat_map (λ child. tree_of place_below (object_rows all parties) (length (numbers_of rows))
    rows.read (place_below place node child) child) (children_of rows.read node.id)

abbrev pub table_text : Rows → Bool → List Party → Place → Node → List ℕ
table_text rows all parties place node =
    rows_text (header ∷ table_rows rows all parties place node)

-- ---- whose rows

-- the users at an object and at all below it
abbrev pub users_below : Rows → Node → List (List ℕ)
users_below rows node =
    tree_of (λ (place : Unit {0}) above child. place) (λ place object. users_at object)
    (length (numbers_of rows)) rows.read tt node

-- the users of pairs, of the objects on a way, and of the object at its end and all below it
abbrev pub users_of : Rows → List (List ℕ × List ℕ) → List Site → Node → List (List ℕ)
users_of rows pairs above node =
    map (λ pair. pair.1) pairs
    ++ (flat_map (λ site. users_at site.node) above ++ users_below rows node)

-- all callers: the users, in order, then a name that is none of them, and nobody's
pub record AreAll (rows : Rows) (names : List (List ℕ)) (parties : List Party) : Type 0 where
  pub users : List (List ℕ)
  pub are : AreUsers names users
  pub stranger : List ℕ
  pub is_other : is_listed stranger users ≡ false
  pub parties_are : parties ≡ everybody rows.read users stranger

-- the caller that is asked for, or all
abbrev pub AreAsked : Option (List ℕ) → Rows → List (List ℕ) → List Party → Type 0
AreAsked None rows names parties = AreAll rows names parties
AreAsked (Some name) rows names parties = parties ≡ named rows.read name ∷ []

-- ---- the answer

-- why a path leads nowhere: the last object that a walk finds is a document, or has no child of the
-- next name
abbrev pub refused_after : List (List ℕ) → Site → Reviewed
refused_after path last =
    if is_folder last.node then Refused (take (length last.path + 1) path) NoSuch
    else Refused last.path NotFolder

-- the table of an object at the end of a way
pub record IsTable (pairs : List (List ℕ × List ℕ)) (question : Scope) (above : List Site)
    (target : Site) (rows : Rows) (reviewed : Reviewed) : Type 0 where
  pub parties : List Party
  pub are : AreAsked question.user rows (users_of rows pairs above target.node) parties
  pub is : reviewed
      ≡ Table (table_text rows question.all parties (place_of above target) target.node)

-- the path leads nowhere
pub record IsRefusal (path : List (List ℕ)) (rows : Rows) (reviewed : Reviewed) : Type 0 where
  pub last : Site
  pub is_last : last_of (stored_along rows.read path) ≡ Some last
  pub is : reviewed ≡ refused_after path last

abbrev pub IsReviewAt : List (List ℕ × List ℕ) → Scope → Option Site → Rows → Reviewed → Type 0
IsReviewAt pairs question None rows reviewed = IsRefusal question.path rows reviewed
IsReviewAt pairs question (Some target) rows reviewed =
    IsTable pairs question (take (length question.path) (stored_along rows.read question.path))
    target rows reviewed

-- The table of the object at the path, or the refusal where the path leads nowhere. The lists are
-- those that are stored, and the pairs are given.
abbrev pub IsReview : List (List ℕ × List ℕ) → Scope → Rows → Reviewed → Type 0
IsReview pairs question rows reviewed =
    IsReviewAt pairs question (site_at (stored_along rows.read question.path) question.path) rows
    reviewed
