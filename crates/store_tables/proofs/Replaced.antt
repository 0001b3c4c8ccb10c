-- What the rows mean once the row of an object is written anew.
use Rattle.std.proofs.Common.{rules, ◌≡◌, ℕ, pos, List, [], ◌∷◌, filter, None, Some, Option, refl}
use Rattle.std.proofs.{Common.{sym, ap, subst, ◌∙◌, not, arith}, lemmas.Bool.Decides.nat_tests}
use Rattle.std.specs.{Prelude.◌==◌, List.AllByRecursion}
use Rattle.sqlite.specs.{Order.Row, Tree.{has_rowid, without_rowid, IsTable}, Effect.Database}
use Rattle.room_rows.specs.{declared.node.Node.Node, Content.{node_at, put_node, with_node}}
use Rattle.room_rows.specs.{Keep.with_content, Rows.Unread}
use Rattle.sqlite_trees.proofs.TreeLemmas.{IsShaped-filter}
use Rattle.store_tables.specs.{Shown.{Replaces, IsRoom, shown_node, stored_node}, Meaning.node_in}
use Rattle.store_tables.specs.{Meaning.{unread_in, nodes_of, unread_of, rows_of}, Filed.node_keyed}
use Rattle.store_tables.specs.Filed.{unread_keyed, nodes_rise}
use Rattle.store_tables.proofs.Put.{IsOther, others, put_again, put_by, put_seen, unseen}
use Rattle.store_tables.proofs.Removed.{read_without, none_missed, readable, same_rows}
use Rattle.sqlite_trees.specs.declared.store.Shape.TheVariants as Shape

pub node_put : (n : Node) (nodes : List Node)
    → put_node n nodes ≡ put_by (λ (m : Node). m.id) n nodes
node_put n [] = refl
node_put n (other ∷ others) = grind (arith, nat_tests, others, node_put n others)

abbrev see : Row → Option Node
see r = node_in (shown_node r)

-- the row of an object is written anew, and so is the object
pub replaced_rows : (db next : Database) (id : ℕ) (values : Row) (before n : Node) → IsRoom db
    → node_at (rows_of db).read id ≡ Some before
    → node_in (shown_node (stored_node (pos id) values)) ≡ Some n → n.id ≡ id
    → Replaces (pos id) values db.trees next.trees
    → rows_of next ≡ with_content (rows_of db) (with_node (rows_of db).read n)
replaced_rows db next id values before n room there seen is put =
    let new = stored_node (pos id) values in
    let left = without_rowid (pos id) (db.trees 0) in
    let table : IsTable left =
    (IsShaped-filter Shape.Table (λ r. not (has_rowid (pos id) r)) (db.trees 0) room.nodes).0 in
    let gone : AllByRecursion (IsOther id) left = others id (db.trees 0) in
    let nodes = ap nodes_of put.nodes
    ∙ put_seen see (λ (m : Node). m.id) node_keyed new n seen left table
    (subst (λ k. AllByRecursion (IsOther k) left) (sym is) gone)
    ∙ ap (put_by (λ (m : Node). m.id) n)
    (read_without (λ r. node_in (shown_node r)) (λ (m : Node). m.id) node_keyed id (db.trees 0))
    ∙ ap (λ k. put_by (λ (m : Node). m.id) n
    (filter (λ (m : Node). not (m.id == k)) (nodes_of (db.trees 0)))) (sym is)
    ∙ put_again (λ (m : Node). m.id) n (nodes_of (db.trees 0)) 0
    (nodes_rise (db.trees 0) room.nodes.0) ∙ sym (node_put n (nodes_of (db.trees 0))) in
    let nothing : unread_in new ≡ None = cc (seen) in
    let unread = ap unread_of put.nodes ∙ unseen unread_in new id refl left nothing gone
    ∙ read_without unread_in (λ (u : Unread). u.id) unread_keyed id (db.trees 0)
    ∙ none_missed (λ (u : Unread). u.id) id (unread_of (db.trees 0))
    (readable db id before room.nodes.0 there) in
    search (rules, same_rows, nodes, unread, put.bodies, put.members, put.audits)
