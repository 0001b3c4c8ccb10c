-- What callers could do with objects before a change and can do after it, and which rows tell of it
-- (own).
use Rattle.std.specs.Prelude.{◌≡◌, ℕ, ◌==◌, ◌&&◌, ◌||◌, Bool, true, false, not, List, [], ◌∷◌, ◌++◌}
use Rattle.std.specs.Prelude.{map, filter, Option, if◌then◌else◌}
use Rattle.std.specs.List.{find, flat_map, list_all}
use Rattle.std.specs.Option.{option_map_or}
use Rattle.room_entry.specs.Letters.{mask_text}
use Rattle.room_entry.specs.Pieces.{is_among}
use Rattle.room_entry.specs.declared.parties.Caller.{Caller}
use Rattle.room_rows.specs.declared.node.Node.{Node}
use Rattle.room_rows.specs.Paths.{path_text}
use Rattle.room_rows.specs.Rows.{Rows}
use Rattle.room_machine.specs.Rights.{last_of}
use Rattle.room_machine.specs.Site.{Site, site_at}
use Rattle.room_machine.specs.Stored.{stored_along, stored_site}
use Rattle.room_import.specs.Exports.{rows_text}
use Rattle.room_change.specs.Changes.{Turn, same_turn, says_same}
use Rattle.room_review.specs.declared.parties.Party.{Party}
use Rattle.room_review.specs.Laws.{told_at}
use Rattle.room_review.specs.Standing.{before_last, granted}
use Rattle.room_review.specs.Table.{Place, site_of}
use Rattle.room_answer.specs.Answer.{header, kind_word, unknown, yes_or_no}
use Rattle.room_turns.specs.declared.asked.Asked.{Asked}

-- ---- two states

-- A state of a room beside an earlier one: the numbers of the objects that each caller would have
-- made itself, whether nothing is changed, the numbers of the objects whose lists aren't known in
-- it and in the earlier one, and where the object of a number stood earlier, if it was there.
pub record View : Type 0 where
  pub own : List ℕ
  pub looks : Bool
  pub hidden : List ℕ
  pub hidden_earlier : List ℕ
  pub earlier : ℕ → Option (Place × Node)

-- the objects of a review of the path's object, each with where it stands; none where nothing is
-- there
abbrev pub objects_from : Rows → List (List ℕ) → List (Place × Node)
objects_from rows path =
    option_map_or (told_at rows path) (site_at (stored_along rows.read path) path) []

-- the object of a number
abbrev pub object_of : List (Place × Node) → ℕ → Option (Place × Node)
object_of objects number = find (λ object. object.1.id == number) objects

-- ---- what a caller may do

-- the object with the caller for its owner, if the caller has a name
abbrev pub claimed : Caller → Node → Node
claimed caller node =
    option_map_or (λ name. record node { owners = record node.owners { owner = name } })
    caller.user node

-- an object as a caller finds it, where each caller would have made those of these numbers itself
abbrev pub owned_by : List ℕ → Caller → Node → Node
owned_by own caller node = if is_among own node.id then claimed caller node else node

abbrev pub found_by : List ℕ → Caller → Site → Site
found_by own caller site = stored_site site.path (owned_by own caller site.node)

-- what a review says there of the caller
abbrev pub granted_to : List ℕ → Caller → List Site → Site → List ℕ × Bool
granted_to own caller above target =
    granted caller (map (found_by own caller) above) (found_by own caller target)

-- What the caller could do with the object of a number, and what it can do then. With one that
-- wasn't there it could do nothing.
abbrev pub turn_at : View → Caller → List Site → Site → Turn
turn_at view caller above target = record {
  had = option_map_or
      (λ object. granted_to view.own caller object.0.above (site_of object.0 object.1))
      (view.earlier target.node.id) ([], false);
  has = granted_to view.own caller above target;
}

-- ---- what is known

-- neither the object's list nor one on the way to it is hidden
abbrev pub is_known : List ℕ → List Site → Site → Bool
is_known hidden above target =
    list_all (λ site. not (is_among hidden site.node.id)) (above ++ target ∷ [])

-- it is known in both states, if it was there
abbrev pub is_clear : View → List Site → Site → Bool
is_clear view above target =
    is_known view.hidden above target
    && option_map_or (λ object. is_known view.hidden_earlier object.0.above
    (site_of object.0 object.1)) (view.earlier target.node.id) true

-- the folder that an object behind these stands in, if there is one, is known in both states
abbrev pub follows_clear : View → List Site → Bool
follows_clear view above =
    option_map_or (is_clear view (before_last above)) (last_of above) true

-- ---- rows

-- Two rows say the same, or both that nothing changes. Where nothing is changed at all, they say
-- the same of what the caller may do.
abbrev pub says_alike : Bool → Turn → Turn → Bool
says_alike looks a b = if looks then says_same a.has b.has else same_turn a b

-- the row of the caller at the folder says it already
abbrev pub is_said : View → Caller → List Site → Site → Bool
is_said view caller above target =
    option_map_or (λ folder. follows_clear view above && says_alike view.looks
    (turn_at view caller above target) (turn_at view caller (before_last above) folder))
    (last_of above) false

abbrev pub row : Site → List ℕ → Turn → List (List ℕ)
row target label turn =
    path_text target.path ∷ kind_word target.node.kind ∷ label
    ∷ mask_text turn.had.0 ∷ yes_or_no turn.had.1
    ∷ mask_text turn.has.0 ∷ yes_or_no turn.has.1 ∷ []

-- The rows of an object, in order of callers: all of them, or those that the folder's rows don't
-- say already. One that isn't known in both states has one row, unless its folder has that row.
abbrev pub rows_at : View → List Party → Bool → Place × Node → List (List (List ℕ))
rows_at view parties all object =
    let above = object.0.above in
    let target = site_of object.0 object.1 in (
    if is_clear view above target then
    map (λ party. row target party.label (turn_at view party.caller above target))
    (filter (λ party. all || not (is_said view party.caller above target)) parties) else
    (if all || follows_clear view above
    then unknown (path_text target.path) target.node.kind ∷ [] else [])
    )

-- those of the first object, each of which stands, and of the others
abbrev pub rows_of : View → List Party → List (Place × Node) → List (List (List ℕ))
rows_of view parties [] = []
rows_of view parties (object ∷ objects) =
    rows_at view parties true object ++ flat_map (rows_at view parties false) objects

-- ---- the answer

-- the state after beside the state before
abbrev pub view_of : Asked → Rows → View
view_of asked before = record {
  own = asked.own;
  looks = asked.looks;
  hidden = asked.hidden_after;
  hidden_earlier = asked.hidden_before;
  earlier = object_of (objects_from before []);
}

-- The rows of the first object and of all below it in the state after, beside the state before.
abbrev pub IsCompared : Asked → Rows → Rows → List ℕ → Type 0
IsCompared asked before after text =
    text ≡ rows_text
    (header ∷ rows_of (view_of asked before) asked.parties.items (objects_from after asked.path))
