-- What the rows of an answer say is what reviews say.
use Rattle.std.proofs.Common.{◌≡◌, ℕ, ◌&&◌, false, List, [], ◌∷◌, length, Option, Some, None, refl}
use Rattle.std.proofs.Common.{map, sym, ap, ◌∙◌}
use Rattle.std.specs.{List.find, Option.{option_map, option_map_or}, Prelude.is_none}
use Rattle.room_entry.{specs.declared.parties.Caller.Caller, proofs.Facts.Members.each_weaker}
use Rattle.room_entry.specs.Pieces.{same_text}
use Rattle.room_rows.specs.{declared.node.{Node.Node, Walk.Walk}, Content.{Content, child_of}}
use Rattle.room_rows.specs.{Content.{has_parent, root_of}, Meaning.meaning, Rows.Rows}
use Rattle.room_rows.specs.Walk.{behind, walk_from}
use Rattle.room_dump.proofs.Counting.{each_both}
use Rattle.room_machine.specs.Site.{sites_of}
use Rattle.room_memory.specs.Memory.{rows_in}
use Rattle.room_change.specs.Changes.{Change as Made, came_from, changed_by, grant_along, grant_at}
use Rattle.room_piece.specs.{Changing.IsDone, Holding.IsWell, declared.piece.Piece.Piece}
use Rattle.room_piece.specs.Laws.{StandsAt, Stood}
use Rattle.room_piece.proofs.{Done.done_well, Followed.stood_as_asked, Turns.well_then}
use Rattle.room_review.specs.Table.{Place, site_of}
use Rattle.room_turns.specs.Turns.{object_of, objects_from, owned_by, turn_at, view_of}
use Rattle.room_turns.{specs.declared.asked.Asked.Asked, proofs.Owned.own_rows_are_the_review}
use Rattle.room_turns.{specs.Laws.rows_for, proofs.Behind.or_mapped}
use Rattle.room_would.specs.Laws.{CameFrom, SayTurned, WouldIsTheReview, as_found, room_in, turned}
use Rattle.room_would.proofs.{Given.{are_found, means_found, sound_found}, Numbers.{stands_told, told_by}}

-- ---- what a walk finds is told by the objects alone

module _ (one other : Content) (same : one.nodes ≡ other.nodes) where
  child_alike : (id : ℕ) (name : List ℕ) → child_of one id name ≡ child_of other id name
  child_alike id name =
      ap (find (λ (node : Node). has_parent id node && same_text node.name name)) same

  way_alike : (names : List (List ℕ)) (node : Node)
      → walk_from one node names ≡ walk_from other node names
  way_alike [] node = refl
  way_alike (name ∷ names) node =
      ap (λ o. option_map_or (λ child. behind node (walk_from one child names)) o
      (record { chain = node ∷ []; rest = length (name ∷ names) })) (child_alike node.id name)
      ∙ on (child_of other node.id name) (λ child. way_alike names child)
    where
      on : (o : Option Node)
          → ((child : Node) → walk_from one child names ≡ walk_from other child names)
          → option_map_or (λ child. behind node (walk_from one child names)) o
          (record { chain = node ∷ []; rest = length (name ∷ names) })
          ≡ option_map_or (λ child. behind node (walk_from other child names)) o
          (record { chain = node ∷ []; rest = length (name ∷ names) })
      on None next = refl
      on (Some child) next = ap (λ (w : Walk). behind node w) (next child)

  grant_alike : (caller : Caller) (path : List (List ℕ))
      → grant_at one caller path ≡ grant_at other caller path
  grant_alike caller path =
      ap (λ (o : Option Node). grant_along caller (sites_of (walk_on one o).chain) path)
      (ap (find (λ (node : Node). is_none node.parent)) same)
      ∙ ap (λ (w : Walk). grant_along caller (sites_of w.chain) path) (on (root_of other))
    where
      walk_on : Content → Option Node → Walk
      walk_on room o =
          option_map_or (λ root. walk_from room root path) o
          (record { chain = []; rest = length path })

      on : (o : Option Node) → walk_on one o ≡ walk_on other o
      on None = refl
      on (Some root) = way_alike path root

-- ---- both rooms

-- where the same objects are found
alike_found : (own : List ℕ) (one other : Content) → one.nodes ≡ other.nodes → (caller : Caller)
    (path : List (List ℕ))
    → grant_at (as_found own caller one) caller path ≡ grant_at (as_found own caller other) caller path
alike_found own one other same caller path =
    grant_alike (as_found own caller one) (as_found own caller other)
    (ap (map (owned_by own caller)) same) caller path

module _ (asked : Asked) (before after : Piece) (changes : List Made) (well : IsWell before.keep)
    (well' : IsWell after.keep)
    (becomes : room_in (rows_in after.keep) ≡ changed_by (room_in (rows_in before.keep)) changes)
  where
    abbrev was : Rows
    was = rows_in before.keep

    abbrev is : Rows
    is = rows_in after.keep

    -- where each object of the answer came from
    came : ((path : List (List ℕ)) (id : ℕ) → StandsAt (meaning is.read) id path
        → Stood (meaning was.read) id (came_from changes path)) → CameFrom asked was is changes
    came from =
        each_weaker (λ (it : Place × Node). StandsAt (meaning is.read) it.1.id it.0.path)
        (λ (it : Place × Node). option_map (λ (w : Place × Node). w.0.path)
        (object_of (objects_from was []) it.1.id) ≡ came_from changes it.0.path)
        (λ it stands. told_by was well.rows well.sound it.1.id (came_from changes it.0.path)
        (from it.0.path it.1.id stands)) (objects_from is asked.path)
        (stands_told is well'.rows well'.sound asked.path)

    says_turned : CameFrom asked was is changes → SayTurned asked was is changes
    says_turned from caller =
        each_both Says Came Turned each (objects_from is asked.path)
        (own_rows_are_the_review asked was is well.rows well.sound well'.rows well'.sound caller
        (are_found own caller was well.rows well.sound)
        (sound_found own caller was well.rows well.sound)
        (are_found own caller is well'.rows well'.sound)
        (sound_found own caller is well'.rows well'.sound)) from
      where
        own : List ℕ
        own = asked.own

        found_before : Content
        found_before = meaning (rows_for own caller was).read

        found_after : Content
        found_after = meaning (rows_for own caller is).read

        Says : Place × Node → Type 0
        Says object =
            turn_at (view_of asked was) caller object.0.above (site_of object.0 object.1)
            ≡ record {
              had = option_map_or (λ stood. grant_at found_before caller stood.0.path)
                  (object_of (objects_from was []) object.1.id) ([], false);
              has = grant_at found_after caller object.0.path;
            }

        Came : Place × Node → Type 0
        Came object =
            option_map (λ (w : Place × Node). w.0.path)
            (object_of (objects_from was []) object.1.id) ≡ came_from changes object.0.path

        Turned : Place × Node → Type 0
        Turned object =
            turn_at (view_of asked was) caller object.0.above (site_of object.0 object.1)
            ≡ turned own (room_in was) changes caller object.0.path

        granted : (path : List (List ℕ))
            → grant_at found_before caller path
            ≡ grant_at (as_found own caller (room_in was)) caller path
        granted path =
            ap (λ room. grant_at room caller path) (means_found own caller was)
            ∙ alike_found own (meaning was.read) (room_in was) refl caller path

        grants : (path : List (List ℕ))
            → grant_at found_after caller path
            ≡ grant_at (as_found own caller (changed_by (room_in was) changes)) caller path
        grants path =
            ap (λ room. grant_at room caller path) (means_found own caller is)
            ∙ alike_found own (meaning is.read) (room_in is) refl caller path
            ∙ ap (λ room. grant_at (as_found own caller room) caller path) becomes

        had : (o : Option (List (List ℕ)))
            → option_map_or (grant_at found_before caller) o ([], false)
            ≡ option_map_or (grant_at (as_found own caller (room_in was)) caller) o ([], false)
        had None = refl
        had (Some path) = granted path

        each : (object : Place × Node) → Says object → Came object → Turned object
        each object says from =
            says
            ∙ (λ i. record {
              had = (sym (or_mapped (λ (w : Place × Node). w.0.path) (grant_at found_before caller)
                  ([], false) (object_of (objects_from was []) object.1.id))
                  ∙ ap (λ (o : Option (List (List ℕ))).
                  option_map_or (grant_at found_before caller) o ([], false)) from
                  ∙ had (came_from changes object.0.path)) i;
              has = grants object.0.path i;
            })

pub would_is_the_review : WouldIsTheReview
would_is_the_review bytes text answer =
    let told = answer.2 in
    let before = told.before in
    let after = told.told.after in
    let well = told.built.well in
    let well' = well_then (IsDone told.unread) (done_well told.unread) answer.0.changes before after
    well told.told.done in
    let made = stood_as_asked told.unread answer.0.changes before after well told.told.done in
    let asked = told.told.says.says.asked in
    let from = came asked before after made.0 well well' made.2 made.3 in (
      made.0,
      made.1,
      from,
      says_turned asked before after made.0 well well' made.2 from,
    )
