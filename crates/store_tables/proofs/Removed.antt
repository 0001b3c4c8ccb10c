-- What the rows mean once an object is taken out.
use Rattle.std.proofs.Common.{◌≡◌, ℕ, pos, List, [], ◌∷◌, filter, find, None, Some, Option, refl}
use Rattle.std.proofs.Common.{sym, ap, ◌∙◌, true, false, Bool, cond, not, arith}
use Rattle.std.proofs.lemmas.{Bool.{cond-true, cond-false, Decides.nat_tests}, Option.none-some}
use Rattle.std.specs.Prelude.{option_and_then, option_map, is_none, is_some, if◌then◌else◌, ◌==◌}
use Rattle.std.specs.{Prelude.map, List.{filter_map, cons_option}}
use Rattle.sqlite.specs.{Order.Row, Tree.{rowid, has_rowid, without_rowid, IsTable}}
use Rattle.sqlite.specs.Effect.{Database}
use Rattle.room_entry.specs.Pieces.{is_among}
use Rattle.room_rows.specs.{declared.node.{AuditRow.AuditRow, Node.Node}, Content.node_at}
use Rattle.room_rows.specs.{Content.without_node, Rows.{Rows, Unread, is_unreadable}}
use Rattle.room_rows.specs.Keep.{CanRemove, with_content}
use Rattle.store_tables.specs.{Shown.{RemovesRow, IsRoom, shown_node}, Meaning.{number_in, node_in}}
use Rattle.store_tables.specs.Meaning.{unread_in, body_in, audit_in, nodes_of, unread_of}
use Rattle.store_tables.specs.{Meaning.{unread_with, bodies_of, pairs_of, rows_of}, Keyed.has_key}
use Rattle.store_tables.specs.Filed.{node_keyed, unread_keyed, body_rowid, node_at_row}
use Rattle.store_tables.specs.Filed.{unread_at_row}

-- ---- rows that stay, and what they are read as

module _ {X : Type 0} (f : Row → Option X) (key : X → ℕ)
    (keyed : (r : Row) (x : X) → f r ≡ Some x
    → rowid r ≡ Rattle.sqlite.specs.declared.types.Value.TheVariants.Int (pos (key x))) where
  stay_step : (id : ℕ) (r : Row) (rows : List Row) (o : Option X) (b : Bool) → f r ≡ o
      → has_rowid (pos id) r ≡ b
      → filter_map f (without_rowid (pos id) rows)
      ≡ filter (λ x. not (key x == id)) (filter_map f rows)
      → filter_map f (cond (not b) (r ∷ without_rowid (pos id) rows) (without_rowid (pos id) rows))
      ≡ filter (λ x. not (key x == id)) (cons_option o (filter_map f rows))
  stay_step id r rows None true is has more = more
  stay_step id r rows None false is has more = cc (is, more)
  stay_step id r rows (Some x) true is has more =
      more ∙ sym (cond-false _ _ _ (ap not (sym (has_key f key keyed id r x is) ∙ has)))
  stay_step id r rows (Some x) false is has more =
      cc (is, more, cond-true _ _ _ (ap not (sym (has_key f key keyed id r x is) ∙ has)))

  -- a table without the row of a number is read as before, less what was read of that number
  pub read_without : (id : ℕ) (rows : List Row)
      → filter_map f (without_rowid (pos id) rows)
      ≡ filter (λ x. not (key x == id)) (filter_map f rows)
  read_without id [] = refl
  read_without id (r ∷ rows) = grind (arith, nat_tests, stay_step, read_without id rows)

-- a number that isn't there is not missed
pub none_missed : {X : Type 0} (key : X → ℕ) (id : ℕ) (xs : List X)
    → is_among (map key xs) id ≡ false → filter (λ x. not (key x == id)) xs ≡ xs
none_missed key id [] none = refl
none_missed key id (x ∷ xs) none = grind (arith, nat_tests, none_missed key id xs)

-- an object that is there can be read
pub readable : (db : Database) (id : ℕ) (n : Node) → IsTable (db.trees 0)
    → node_at (rows_of db).read id ≡ Some n → is_unreadable (rows_of db) id ≡ false
readable db id n table there = by (find (has_rowid (pos id)) (db.trees 0)) refl
  where
    seen : (o : Option Node) (m : Option Unread) → o ≡ Some n
        → is_some (if is_none o then m else None) ≡ false
    seen (Some x) m e = refl
    seen None m e = absurd (none-some n e)

    by : (o : Option Row) → find (has_rowid (pos id)) (db.trees 0) ≡ o
        → is_unreadable (rows_of db) id ≡ false
    by None found =
        absurd
        (none-some n (cc (found, node_at_row db id table, there)))
    by (Some r) found =
        unread_at_row db id table
        ∙ ap (λ o. is_some (option_and_then unread_in o)) found
        ∙ seen (node_in (shown_node r)) (option_map (unread_with r) (number_in (rowid r)))
        (cc (found, node_at_row db id table, there))

-- what a file says is equal where objects, rows that can't be read, bytes, pairs and records are
pub same_rows : {a b : List Node} {u v : List Unread} {c d : List (ℕ × List ℕ)}
    {m k : List (List ℕ × List ℕ)} {x y : List AuditRow} → a ≡ b → u ≡ v → c ≡ d → m ≡ k → x ≡ y
    → ◌≡◌ {A = Rows}
    (record {
      read = record { nodes = a; bodies = c; members = m; audits = x };
      unreadable = u;
    })
    (record {
      read = record { nodes = b; bodies = d; members = k; audits = y };
      unreadable = v;
    })
same_rows p q r s t = cc

-- where the row of an object went, what is read is as it was, without the object and its bytes
pub removed_rows : (db next : Database) (id : ℕ) → IsRoom db
    → RemovesRow (pos id) db.trees next.trees → CanRemove id (rows_of db)
    → rows_of next ≡ with_content (rows_of db) (without_node (rows_of db).read id)
removed_rows db next id room gone can =
    let nodes = ap nodes_of gone.nodes
    ∙ read_without (λ r. node_in (shown_node r)) (λ (n : Node). n.id) node_keyed id
    (db.trees 0) in
    let unread = ap unread_of gone.nodes
    ∙ read_without unread_in (λ (u : Unread). u.id) unread_keyed id (db.trees 0)
    ∙ none_missed (λ (u : Unread). u.id) id (unread_of (db.trees 0))
    (readable db id can.node room.nodes.0 can.is_there) in
    let bodies = ap bodies_of gone.bodies
    ∙ read_without body_in (λ (x : ℕ × List ℕ). x.0) body_rowid id (db.trees 2) in
    same_rows nodes unread bodies (ap pairs_of gone.members) (ap (filter_map audit_in) gone.audits)
