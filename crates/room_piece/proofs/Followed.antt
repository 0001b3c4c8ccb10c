-- Where objects of a piece stood before its changes.
use Rattle.std.proofs.Common.{◌≡◌, ℕ, ◌<◌, Bool, true, false, cond, List, [], ◌∷◌, ◌++◌, Option}
use Rattle.std.proofs.{Common.{Some, None, refl, sym, ap, subst, ◌∙◌, arith}, lemmas.Bool.and_parts}
use Rattle.std.proofs.lemmas.{Bool.false≢true, Option.{none-some, same_Some}}
use Rattle.std.specs.{Option.{option_map, option_map_or}, Prelude.{is_none, option_and_then}}
use Rattle.room_entry.specs.Valid.{is_document}
use Rattle.room_rows.specs.{declared.node.Node.Node, Content.{Content, child_of, node_at, root_of}}
use Rattle.room_rows.specs.{Content.{IsContent, is_folder, with_body, with_node}, Keep.node_of}
use Rattle.room_rows.specs.{Meaning.{kept_node, meaning}, Rows.{AreRows, Rows}, Sound.AreSound}
use Rattle.room_rows.proofs.InPlace.{KeepsPlaces, child_of-with_each, keeps_places}
use Rattle.room_rows.proofs.{InPlace.{node_at-with_each, rises-with_each}, SamePlace.IsSamePlace}
use Rattle.room_machine.specs.{Effect.effect, Site.{Site, front, last_name, site_at, sites_along}}
use Rattle.room_machine.specs.{Step.IsFree, Stored.{stored_along, stored_from, stored_site}}
use Rattle.room_machine.specs.{Plan.plan_of, declared.request.Request.TheVariants.Move}
use Rattle.room_laws.specs.{Outside.{found, found_from}, Tidy.{IsNumbered, IsTidy}}
use Rattle.room_laws.proofs.{Behind.{change, target_found}, Changed.found_each}
use Rattle.room_laws.proofs.{Orphans.content_is_tidy, Seen.found_at, Settings.setting}
use Rattle.room_inherit.proofs.Meant.{sound_is_content}
use Rattle.room_memory.{specs.Memory.rows_in, proofs.Changed.none_past}
use Rattle.room_change.specs.Changes.{Change as Made, Comes, Moves, came_from, path_before}
use Rattle.room_desk.proofs.Lists.SetReset.{operator}
use Rattle.room_question.specs.declared.question.Change.{Change, TheVariants.Sets as SetsOne}
use Rattle.room_question.specs.declared.question.Change.TheVariants.{Moves as MovesOne}
use Rattle.room_question.specs.declared.question.Change.TheVariants.{Comes as ComesOne}
use Rattle.room_piece.specs.{Changing.IsDone, Coming.{IsPlaceFor, meant_in, next_number, object_in}}
use Rattle.room_piece.specs.{Coming.with_comer, Holding.IsWell, InTurn.InTurn, Laws.StandsAt}
use Rattle.room_piece.specs.{Laws.{Stood, StoodAsAsked}, declared.piece.Piece.Piece}
use Rattle.room_piece.proofs.{Allowed.{allowed, can_go}, Bare.{as_asked, one_made}, Done.done_well}
use Rattle.room_piece.proofs.{Done.unbarred, Placing.stands_at, Stood.{Follows, WasAt, as_it_was}}
use Rattle.room_piece.proofs.Stood.{come_follows, moves_down, nodes_follow, set_follows}

-- ---- in terms of rows

kept_place : (rows : Content) (node : Node) → IsSamePlace (kept_node rows node) node
kept_place rows node = record { number = refl; parent = refl; name = refl }

module _ (rows : Content) where
  stored_from_found : (names path : List (List ℕ)) (node : Node)
      → option_map (λ (s : Site). s.node) (site_at (stored_from rows path node names) names)
      ≡ found_from rows node names
  stored_from_found [] path node = refl
  stored_from_found (name ∷ names) path node =
      on (child_of rows node.id name)
      (λ child. stored_from_found names (path ++ name ∷ []) child)
    where
      on : (o : Option Node)
          → ((child : Node) → option_map (λ (s : Site). s.node)
          (site_at (stored_from rows (path ++ name ∷ []) child names) names)
          ≡ found_from rows child names)
          → option_map (λ (s : Site). s.node)
          (site_at (option_map_or (λ child. stored_from rows (path ++ name ∷ []) child names) o [])
          names)
          ≡ option_and_then (λ child. found_from rows child names) o
      on None next = refl
      on (Some child) next = next child

  -- what stands at a path is found there
  pub stored_found : (path : List (List ℕ))
      → option_map (λ (s : Site). s.node) (site_at (stored_along rows path) path) ≡ found rows path
  stored_found path = on (root_of rows)
    where
      on : (o : Option Node)
          → option_map (λ (s : Site). s.node)
          (site_at (option_map_or (λ root. stored_from rows [] root path) o []) path)
          ≡ option_and_then (λ root. found_from rows root path) o
      on None = refl
      on (Some root) = stored_from_found path [] root

module _ (rows : Rows) (are : AreRows rows) (sound : AreSound rows) where
  abbrev pub room_of : Content
  room_of = meaning rows.read

  places_kept : KeepsPlaces rows.read (kept_node rows.read)
  places_kept = keeps_places rows.read (kept_node rows.read) (kept_place rows.read)

  pub numbered_so : IsNumbered room_of
  numbered_so = rises-with_each rows.read (kept_node rows.read) places_kept are.numbers

  is_content : IsContent room_of
  is_content = sound_is_content rows are sound

  pub tidy_so : IsTidy room_of
  tidy_so = content_is_tidy room_of is_content

  pub rooted_so : (root : Node) × (root_of room_of ≡ Some root)
  rooted_so =
      on (root_of room_of) refl
      (and_parts (option_map_or is_folder (root_of room_of) false) _ is_content.one_root).0
    where
      on : (o : Option Node) → root_of room_of ≡ o → option_map_or is_folder o false ≡ true
          → (root : Node) × (root_of room_of ≡ Some root)
      on None at is = absurd (false≢true is)
      on (Some root) at is = (root, at)

  -- the objects that the rows mean are found where the rows have them
  pub found_so : (path : List (List ℕ))
      → found room_of path ≡ option_map (kept_node rows.read) (found rows.read path)
  found_so path = found_each rows.read (kept_node rows.read) (kept_place rows.read) path

  pub there_so : (path : List (List ℕ)) (node : Node)
      → site_at (stored_along rows.read path) path ≡ Some (stored_site path node)
      → found room_of path ≡ Some (kept_node rows.read node)
  there_so path node at =
      found_so path
      ∙ ap (option_map (kept_node rows.read))
      (sym (stored_found rows.read path) ∙ ap (option_map (λ (s : Site). s.node)) at)

  none_so : (id : ℕ) (name : List ℕ) → child_of rows.read id name ≡ None
      → child_of room_of id name ≡ None
  none_so id name none =
      child_of-with_each rows.read (kept_node rows.read) places_kept id name
      ∙ ap (option_map (kept_node rows.read)) none

  free_so : (id : ℕ) → node_at rows.read id ≡ None → 0 < id → IsFree room_of id
  free_so id none above = (
    above,
    ap is_none (node_at-with_each rows.read (kept_node rows.read) places_kept id
        ∙ ap (option_map (kept_node rows.read)) none),
  )

  -- an object comes
  comes_down : (path : List (List ℕ)) (folder new : Node) → IsPlaceFor path folder rows
      → node_at rows.read new.id ≡ None → 0 < new.id → new.parent ≡ Some folder.id
      → new.name ≡ last_name path
      → Follows room_of (path_before (Comes path new)) (with_comer room_of path new)
  comes_down path folder new place unused above parent named =
      nodes_follow room_of (path_before (Comes path new)) (with_node room_of new)
      (with_comer room_of path new) (same (is_document new.kind))
      (come_follows room_of numbered_so tidy_so path place.way.some (kept_node rows.read folder)
      (there_so (front path) folder (stands_at (front path) folder rows place.way.ends))
      (none_so folder.id (last_name path) place.free) new (free_so new.id unused above) parent named)
    where
      same : (b : Bool)
          → (cond b (with_body (with_node room_of new) new.id []) (with_node room_of new)).nodes
          ≡ (with_node room_of new).nodes
      same true = refl
      same false = refl

-- ---- one change, and all

pub one_follows : (unread : List ℕ) (change : Change) (old new : Piece) → IsWell old.keep
    → (done : IsDone unread change old new)
    → Follows (meaning (rows_in old.keep).read)
    (path_before (one_made unread change old new done).made) (meaning (rows_in new.keep).read)
unfolding one_made
one_follows unread (SetsOne setting) old new well done =
    subst (Follows (meaning (rows_in old.keep).read) (λ p. Some p)) (sym done.means)
    (set_follows (meaning (rows_in old.keep).read)
    (numbered_so (rows_in old.keep) well.rows well.sound) setting.path setting.list)
one_follows unread (MovesOne moving) old new well done =
    let rows = rows_in old.keep in
    let room = meaning rows.read in
    let root = rooted_so rows well.rows well.sound in
    subst (Follows room (path_before (Moves moving.path moving.to))) (sym done.means)
    (moves_down room (numbered_so rows well.rows well.sound) (tidy_so rows well.rows well.sound)
    root.0 root.1 moving.path moving.to
    (can_go room root.0 root.1 moving.path moving.to
    (allowed (plan_of room (Move moving.path moving.to))
    (unbarred (plan_of room (Move moving.path moving.to)) room
    (effect room operator 0 (Move moving.path moving.to)) done.can))))
one_follows unread (ComesOne object) old new well done =
    let rows = rows_in old.keep in
    let node : Node = meant_in done.folder (node_of (next_number rows)
    (object_in unread object (last_name object.path) done.folder)) in
    subst (Follows (meaning rows.read) (path_before (Comes object.path node))) (sym done.means)
    (comes_down rows well.rows well.sound object.path done.folder node done.place
    (none_past rows.read.nodes (next_number rows) (omega arith)) (omega arith) refl refl)

-- one change, and then others
both_follow : (old mid new : Content) (made : Made) (later : List Made)
    → Follows old (path_before made) mid → Follows mid (came_from later) new
    → Follows old (came_from (made ∷ later)) new
both_follow old mid new made later first rest = record {
  were = λ path node at. from (came_from later path) node.id (rest.were path node at);
  stay = λ id none. first.stay id (rest.stay id none);
}
  where
    from : (o : Option (List (List ℕ))) (id : ℕ) → WasAt mid id o
        → WasAt old id (option_map_or (path_before made) o None)
    from None id none = first.stay id none
    from (Some path) id (node, at, same) =
        subst (λ (i : ℕ). WasAt old i (path_before made path)) same (first.were path node at)

-- the object of a number stood where the changes in turn say
pub all_followed : (unread : List ℕ) (changes : List Change) (old new : Piece) → IsWell old.keep
    → (turns : InTurn (IsDone unread) changes old new)
    → Follows (meaning (rows_in old.keep).read)
    (came_from (as_asked unread changes old new turns).0) (meaning (rows_in new.keep).read)
unfolding as_asked
all_followed unread [] old new well same =
    subst (λ (p : Piece). Follows (meaning (rows_in old.keep).read) (λ path. Some path)
    (meaning (rows_in p.keep).read)) (sym same)
    (record { were = as_it_was (meaning (rows_in old.keep).read); stay = λ id none. none })
all_followed unread (change ∷ changes) old new well (mid, done, turns) =
    both_follow (meaning (rows_in old.keep).read) (meaning (rows_in mid.keep).read)
    (meaning (rows_in new.keep).read) (one_made unread change old mid done).made
    (as_asked unread changes mid new turns).0 (one_follows unread change old mid well done)
    (all_followed unread changes mid new (done_well unread change old mid done) turns)

-- ---- in terms of sites

module _ (room : Content) where
  stood : (id : ℕ) (o : Option (List (List ℕ))) → WasAt room id o → Stood room id o
  stood id None none = none
  stood id (Some path) (node, at, same) =
      on (site_at (sites_along room path) path) refl (found_at room path ∙ at)
    where
      on : (o : Option Site) → site_at (sites_along room path) path ≡ o
          → option_map (λ (s : Site). s.node) o ≡ Some node → StandsAt room id path
      on None none is = absurd (none-some node is)
      on (Some site) there is =
          (site, there, ap (λ (n : Node). n.id) (same_Some site.node node is) ∙ same)

-- what stands in the rows stands in what they mean
pub stands_so : (rows : Rows) → AreRows rows → AreSound rows → (path : List (List ℕ)) (node : Node)
    → site_at (stored_along rows.read path) path ≡ Some (stored_site path node)
    → StandsAt (meaning rows.read) node.id path
stands_so rows are sound path node at =
    stood (meaning rows.read) node.id (Some path)
    (kept_node rows.read node, there_so rows are sound path node at, refl)

pub stood_as_asked : StoodAsAsked
stood_as_asked unread changes old new well turns =
    let made = as_asked unread changes old new turns in
    let follows = all_followed unread changes old new well turns in (
      made.0,
      made.1,
      made.2,
      λ path id (site, at, same). stood (meaning (rows_in old.keep).read) id (came_from made.0 path)
          (subst (λ (i : ℕ). WasAt (meaning (rows_in old.keep).read) i (came_from made.0 path)) same
          (follows.were path site.node
          (target_found (meaning (rows_in new.keep).read) path site at))),
    )
