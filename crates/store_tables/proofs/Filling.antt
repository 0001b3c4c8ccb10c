-- What the rows mean once bytes are written anew.
use Rattle.std.proofs.Common.{rules, ◌≡◌, ◌<◌, ℕ, ℤ, pos, List, [], ◌∷◌, Some, refl, sym, ap, ◌∙◌}
use Rattle.std.proofs.{Common.{not, arith}, lemmas.Bool.Decides.nat_tests}
use Rattle.sqlite.specs.{declared.types.Value.TheVariants.Blob, Effect.Database, Tree.Trees}
use Rattle.sqlite.specs.Tree.{has_rowid, put_row, without_rowid, IsTable}
use Rattle.sqlite_trees.proofs.TreeLemmas.{IsShaped-filter}
use Rattle.room_rows.specs.Content.{put_body}
use Rattle.store_tables.specs.{Filed.{bodies_rise, body_rowid}, Meaning.{bodies_of, body_in}}
use Rattle.store_tables.specs.{Meaning.body_row, RoomRows.number_in-low, Shown.{Bodies, Fills}}
use Rattle.store_tables.specs.{Shown.{IsRoom, RemovesBytes, stored_body}, Trust.HasBody}
use Rattle.store_tables.proofs.{Put.{others, put_again, put_by, put_seen}, Removed.read_without}
use Rattle.store_tables.proofs.Removed.{same_rows}
use Rattle.sqlite_trees.specs.declared.store.Shape.TheVariants as Shape

abbrev pub Bytes : Type 0
Bytes = ℕ × List ℕ

abbrev pub number : Bytes → ℕ
number x = x.0

pub body_put : (id : ℕ) (bytes : List ℕ) (rows : List Bytes)
    → put_body id bytes rows ≡ put_by number (id, bytes) rows
body_put id bytes [] = refl
body_put id bytes (row ∷ rows) = grind (arith, nat_tests, body_put id bytes rows)

pub stored_bytes : (id : ℕ) (bytes : List ℕ) → 0 < id
    → body_in (stored_body (pos id) bytes) ≡ Some (id, bytes)
stored_bytes id bytes low = ap (λ n. body_row n (Blob bytes)) (number_in-low id low)

-- bytes that are taken out and put in anew are replaced
pub replaced : {id : ℤ} {bytes : List ℕ} {db mid next : Trees} → RemovesBytes id db mid
    → Bodies id bytes mid next → Fills id bytes db next
replaced {id = id} {bytes = bytes} gone put = record {
  nodes = put.nodes ∙ gone.nodes;
  bodies = put.bodies ∙ ap (put_row (stored_body id bytes)) gone.bodies;
  members = put.members ∙ gone.members;
  meta = put.meta ∙ gone.meta;
  audits = put.audits ∙ gone.audits;
  counters = put.counters ∙ gone.counters;
}

pub filled_rows : (db next : Database) (id : ℕ) (bytes : List ℕ) → IsRoom db → 0 < id
    → Fills (pos id) bytes db.trees next.trees
    → HasBody id bytes db next
filled_rows db next id bytes room low put =
    let new = stored_body (pos id) bytes in
    let left = without_rowid (pos id) (db.trees 2) in
    let table : IsTable left =
    (IsShaped-filter Shape.Table (λ r. not (has_rowid (pos id) r)) (db.trees 2) room.bodies).0
    in
    let bodies : bodies_of (next.trees 2) ≡ put_body id bytes (bodies_of (db.trees 2)) =
    ap bodies_of put.bodies
    ∙ put_seen body_in number body_rowid new (id, bytes) (stored_bytes id bytes low) left table
    (others id (db.trees 2))
    ∙ ap (put_by number (id, bytes)) (read_without body_in number body_rowid id (db.trees 2))
    ∙ put_again number (id, bytes) (bodies_of (db.trees 2)) 0
    (bodies_rise (db.trees 2) room.bodies.0) ∙ sym (body_put id bytes (bodies_of (db.trees 2))) in
    search (rules, same_rows, put.nodes, bodies, put.members, put.audits)
