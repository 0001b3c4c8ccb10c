-- Changes of a room don't depend on the bytes of its documents.
use Rattle.std.proofs.Common.{◌≡◌, ℕ, Bool, true, false, cond, List, [], ◌∷◌, length, Option, Some}
use Rattle.std.{proofs.Common.{None, refl, sym, ap, ◌∙◌}, specs.{Option.option_map_or}}
use Rattle.room_entry.specs.{Valid.is_document, declared.object.Which.TheVariants.Dacl}
use Rattle.room_ace.specs.Sent.{Sent}
use Rattle.room_rows.specs.{declared.node.{Node.Node, Walk.Walk}, Content.{Content, child_of}}
use Rattle.room_rows.specs.{Content.{root_of, with_body, with_node}, Keep.node_of, Meaning.meaning}
use Rattle.room_rows.specs.Walk.{behind, walk_from, walk_of}
use Rattle.room_machine.specs.{declared.reply.Reply.{Reply, TheVariants.Done}, Effect.moved_node}
use Rattle.room_machine.specs.{Effect.set_list, Site.{Site, front, last_name, parent_at, site_at}}
use Rattle.room_machine.specs.Site.{sites_along, sites_of}
use Rattle.room_memory.specs.Memory.{rows_in}
use Rattle.room_change.specs.Changes.{Change as Made, Comes, Moves, Sets, changed, changed_by}
use Rattle.room_question.specs.declared.question.Change.{Change, TheVariants.Sets as SetsOne}
use Rattle.room_question.specs.declared.question.Change.TheVariants.{Moves as MovesOne}
use Rattle.room_question.specs.declared.question.Change.TheVariants.{Comes as ComesOne}
use Rattle.room_piece.specs.{Laws.{ChangedAsAsked, IsAskedFor, bare}, Changing.IsDone}
use Rattle.room_piece.specs.{Coming.{meant_in, next_number, object_in, with_comer}}
use Rattle.room_piece.specs.declared.piece.Piece.{Piece}

-- ---- ways

module _ (room : Content) where
  walk_bare : (names : List (List ℕ)) (node : Node)
      → walk_from (bare room) node names ≡ walk_from room node names
  walk_bare [] node = refl
  walk_bare (name ∷ names) node =
      on (child_of room node.id name) (λ child. walk_bare names child)
    where
      on : (o : Option Node)
          → ((child : Node) → walk_from (bare room) child names ≡ walk_from room child names)
          → option_map_or (λ child. behind node (walk_from (bare room) child names)) o
          (record { chain = node ∷ []; rest = length (name ∷ names) })
          ≡ option_map_or (λ child. behind node (walk_from room child names)) o
          (record { chain = node ∷ []; rest = length (name ∷ names) })
      on None next = refl
      on (Some child) next = ap (λ (w : Walk). behind node w) (next child)

  walks_bare : (path : List (List ℕ)) → walk_of (bare room) path ≡ walk_of room path
  walks_bare path = on (root_of room)
    where
      on : (o : Option Node)
          → option_map_or (λ root. walk_from (bare room) root path) o
          (record { chain = []; rest = length path })
          ≡ option_map_or (λ root. walk_from room root path) o
          (record { chain = []; rest = length path })
      on None = refl
      on (Some root) = walk_bare path root

  sites_bare : (path : List (List ℕ)) → sites_along (bare room) path ≡ sites_along room path
  sites_bare path = ap (λ (w : Walk). sites_of w.chain) (walks_bare path)

-- ---- changes

abbrev set_by : List (List ℕ) → Sent → List Site → Content → Option Site → Content
set_by path sent sites room found = (option_map_or {U = Reply × Content}
    (λ target. (Done, set_list room Dacl sent (parent_at sites path) target)) found (Done, room)).1

abbrev pub move_by : List (List ℕ) → Content → Option Site → Option Site → Content
move_by to room found folder = (option_map_or {U = Reply × Content}
    (λ target. option_map_or {U = Reply × Content}
    (λ above. (Done, with_node room (moved_node target above (last_name to)))) folder (Done, room))
    found (Done, room)).1

pub set_bare : (room : Content) (path : List (List ℕ)) (sent : Sent)
    → changed (bare room) (Sets path sent) ≡ bare (changed room (Sets path sent))
set_bare room path sent =
    ap (λ sites. set_by path sent sites (bare room) (site_at sites path)) (sites_bare room path)
    ∙ on (site_at (sites_along room path) path)
  where
    on : (o : Option Site)
        → set_by path sent (sites_along room path) (bare room) o
        ≡ bare (set_by path sent (sites_along room path) room o)
    on None = refl
    on (Some target) = refl

pub move_bare : (room : Content) (path to : List (List ℕ))
    → changed (bare room) (Moves path to) ≡ bare (changed room (Moves path to))
move_bare room path to =
    ap (λ sites. move_by to (bare room) (site_at sites path)
    (site_at (sites_along (bare room) (front to)) (front to))) (sites_bare room path)
    ∙ ap (λ sites. move_by to (bare room) (site_at (sites_along room path) path)
    (site_at sites (front to))) (sites_bare room (front to))
    ∙ on (site_at (sites_along room path) path)
    (site_at (sites_along room (front to)) (front to))
  where
    on : (o p : Option Site) → move_by to (bare room) o p ≡ bare (move_by to room o p)
    on None p = refl
    on (Some target) None = refl
    on (Some target) (Some folder) = refl

pub comer_bare : (room : Content) (path : List (List ℕ)) (node : Node)
    → bare (with_comer room path node) ≡ changed (bare room) (Comes path node)
comer_bare room path node = on (is_document node.kind)
  where
    on : (b : Bool)
        → bare (cond b (with_body (with_node room node) node.id []) (with_node room node))
        ≡ with_node (bare room) node
    on true = refl
    on false = refl

-- ---- one change, and all

pub record IsMade (unread : List ℕ) (change : Change) (old new : Piece) : Type 0 where
  pub made : Made
  pub asked : IsAskedFor unread change made
  pub becomes : bare (meaning (rows_in new.keep).read)
      ≡ changed (bare (meaning (rows_in old.keep).read)) made

unfoldable pub one_made : (unread : List ℕ) (change : Change) (old new : Piece) → IsDone unread change old new
    → IsMade unread change old new
one_made unread (SetsOne setting) old new done = record {
  made = Sets setting.path setting.list;
  asked = refl;
  becomes = ap bare done.means
      ∙ sym (set_bare (meaning (rows_in old.keep).read) setting.path setting.list);
}
one_made unread (MovesOne moving) old new done = record {
  made = Moves moving.path moving.to;
  asked = refl;
  becomes = ap bare done.means
      ∙ sym (move_bare (meaning (rows_in old.keep).read) moving.path moving.to);
}
one_made unread (ComesOne object) old new done =
    let node : Node = meant_in done.folder (node_of (next_number (rows_in old.keep))
    (object_in unread object (last_name object.path) done.folder)) in
    record {
      made = Comes object.path node;
      asked = (node, refl, record { name = refl; kind = refl; owners = refl });
      becomes = ap bare done.means
          ∙ comer_bare (meaning (rows_in old.keep).read) object.path node;
    }

unfoldable pub as_asked : ChangedAsAsked
as_asked unread [] old new same =
    ([], tt, ap (λ (p : Piece). bare (meaning (rows_in p.keep).read)) same)
as_asked unread (change ∷ changes) old new turns =
    let first = one_made unread change old turns.0 turns.1 in
    let rest = as_asked unread changes turns.0 new turns.2 in (
      first.made ∷ rest.0,
      (first.asked, rest.1),
      rest.2 ∙ ap (λ room. changed_by room rest.0) first.becomes,
    )
