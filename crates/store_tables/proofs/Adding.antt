-- What the rows mean once an object is put in, and once its bytes are.
use Rattle.std.proofs.Common.{rules, ◌≡◌, ◌<◌, ℕ, ℤ, pos, List, [], ◌∷◌, map, None, Some, refl, sym}
use Rattle.std.proofs.Common.{ap, subst, ◌∙◌, true, false, Bool, arith}
use Rattle.std.{proofs.lemmas.Bool.Decides.nat_tests, specs.Prelude.{is_some, option_and_then}}
use Rattle.sqlite.specs.{declared.types.Value.TheVariants.Int, Effect.Database, Order.Row}
use Rattle.room_entry.specs.Valid.{is_document}
use Rattle.room_rows.specs.{declared.node.{NewNode.NewNode, Node.Node}, Content.put_body}
use Rattle.room_rows.specs.{Content.{put_node, with_body, with_node}, Keep.{Addition, IsAdded}}
use Rattle.room_rows.specs.{Keep.{node_of, with_content}, Rows.Rows}
use Rattle.store_tables.specs.{declared.columns.Columns.Columns, Columns.{ReadsAsNode, values_of}}
use Rattle.store_tables.specs.{Filed.{node_at_row, node_keyed, unread_at_row}, Meaning.node_in}
use Rattle.store_tables.specs.{Meaning.{nodes_of, rows_of, unread_in, unread_of}, Shown.AddsRow}
use Rattle.store_tables.specs.Shown.{Bodies, GetsBytes, IsRoom, shown_node, stored_node}
use Rattle.store_tables.proofs.{Chosen.none_taken, Filling.{body_put, number, stored_bytes}}
use Rattle.store_tables.proofs.{Put.{put_seen, unseen}, Removed.same_rows, Replaced.node_put}
use Rattle.store_tables.proofs.Storing.{stored_back}

abbrev see : Row → Rattle.std.proofs.Common.Option Node
see r = node_in (shown_node r)

pub same_int : (a b : ℤ) → Int a ≡ Int b → a ≡ b
same_int a b e = cc

-- the number of an object isn't among its columns
stores_at : (new : NewNode) (id other : ℕ) (c : Columns) → ReadsAsNode (node_of id new) c
    → ReadsAsNode (node_of other new) c
stores_at new id other c s = grind (arith, nat_tests)

-- what a new row of nodes means
pub record IsPut (new : Addition) (old : Rows) (id : ℕ) (mid : Rows) : Type 0 where
  pub from_one : 0 < id
  pub is_new : Rattle.room_rows.specs.Content.node_at old.read id ≡ None
  pub is_free : Rattle.room_rows.specs.Rows.is_unreadable old id ≡ false
  pub becomes : mid ≡ with_content old (with_node old.read (node_of id new.node))

pub put_rows : (db next : Database) (id : ℕ) (new : Addition) (c : Columns) → IsRoom db → 0 < id
    → ReadsAsNode (node_of 0 new.node) c → AddsRow (pos id) (values_of c) db.trees next.trees
    → IsPut new (rows_of db) id (rows_of next)
put_rows db next id new c room low stores put =
    let n = node_of id new.node in
    let row = stored_node (pos id) (values_of c) in
    let seen : see row ≡ Some n = stored_back n c low (stores_at new.node 0 id c stores) in
    let free = none_taken id (Rattle.std.proofs.Common.drop 1 row) (db.trees 0) put.fresh in
    let nodes : nodes_of (next.trees 0) ≡ put_node n (nodes_of (db.trees 0)) =
    ap nodes_of put.nodes
    ∙ put_seen see (λ (m : Node). m.id) node_keyed row n seen (db.trees 0) room.nodes.0 free.0
    ∙ sym (node_put n (nodes_of (db.trees 0))) in
    let nothing : unread_in row ≡ None = search (rules, row, seen) in
    let unread : unread_of (next.trees 0) ≡ unread_of (db.trees 0) = ap unread_of put.nodes
    ∙ unseen unread_in row id refl (db.trees 0) nothing free.0 in
    record {
      from_one = low;
      is_new = node_at_row db id room.nodes.0 ∙ ap (option_and_then see) free.1;
      is_free =
          unread_at_row db id room.nodes.0
          ∙ ap (λ o. is_some (option_and_then unread_in o)) free.1;
      becomes = search (rules, same_rows, nodes, unread, put.bodies, put.members, put.audits);
    }

pub bodied_rows : (db next : Database) (id : ℕ) (bytes : List ℕ) → IsRoom db → 0 < id
    → Bodies (pos id) bytes db.trees next.trees
    → rows_of next ≡ with_content (rows_of db) (with_body (rows_of db).read id bytes)
bodied_rows db next id bytes room low put =
    grind (arith, nat_tests, body_put, none_taken, number, put_seen, same_rows, stored_bytes)

-- a folder is its row alone, and a document has bytes
pub folder_added : (new : Addition) (old mid : Rows) (id : ℕ) → is_document new.node.kind ≡ false
    → IsPut new old id mid → IsAdded new old id mid
folder_added new old mid id folder put = grind (arith, nat_tests)

pub document_added : (new : Addition) (old mid last : Rows) (id : ℕ)
    → is_document new.node.kind ≡ true → IsPut new old id mid
    → last ≡ with_content mid (with_body mid.read id new.bytes) → IsAdded new old id last
document_added new old mid last id document put wrote = grind (arith, nat_tests)

pub added : (new : Addition) (db mid last : Database) (id : ℕ) → IsRoom mid
    → IsPut new (rows_of db) id (rows_of mid) → (b : Bool) → is_document new.node.kind ≡ b
    → GetsBytes b (pos id) new.bytes mid last → IsAdded new (rows_of db) id (rows_of last)
added new db mid last id room put true is gets =
    grind (arith, nat_tests, bodied_rows, document_added)
added new db mid last id room put false is gets = grind (arith, nat_tests, folder_added)
