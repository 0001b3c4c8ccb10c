-- All numbers in use are those of the rows, in their order.
use Rattle.std.proofs.Common.{◌≡◌, ◌<◌, ℕ, pos, List, [], ◌∷◌, map, filter, None, Some, Option}
use Rattle.std.proofs.{Common.{refl, sym, ap, ◌∙◌, Bool, cond, arith, Less}, lemmas.Bool.cond-true}
use Rattle.std.proofs.lemmas.Bool.{cond-false, lt-ltb, le-ltb, Decides.nat_tests}
use Rattle.std.specs.{Prelude.{is_none, option_map, if◌then◌else◌}, List.AllByRecursion}
use Rattle.std.specs.List.{filter_map, cons_option}
use Rattle.sqlite.specs.{declared.types.Value.TheVariants.Int, Order.{Row, value_cmp}, Tree.rowid}
use Rattle.sqlite.specs.{Tree.IsTable, Effect.Database}
use Rattle.room_entry.proofs.Facts.Members.{each_map}
use Rattle.room_rows.specs.{declared.node.Node.Node, Keep.AreNumbers, Rows.{Unread, put_number}}
use Rattle.room_rows.specs.Rows.{put_numbers}
use Rattle.store_tables.specs.{Filed.{node_parts, number_is, unread_keyed}, Keyed.below}
use Rattle.store_tables.specs.Meaning.{node_in, nodes_of, number_in, rows_of, unread_in, unread_of}
use Rattle.store_tables.specs.{Meaning.unread_with, Seeing.numbers_seen, Shown.IsRoom}
use Rattle.store_tables.specs.{Shown.{is_numbered, shown_node}, Statements.HasNumbers}
use Rattle.store_tables.{specs.Statements.shown_number, proofs.Named.at_least_one}

abbrev number_of_row : Row → Option ℕ
number_of_row r = number_in (rowid r)

abbrev AllPast : ℕ → List ℕ → Type 0
AllPast id ids = AllByRecursion (λ k. id < k) ids

-- ---- rows after a row have greater numbers

module _ {X : Type 0} (f : Row → Option X) (key : X → ℕ)
    (keyed : (r : Row) (x : X) → f r ≡ Some x → rowid r ≡ Int (pos (key x)))
    (id : ℕ) (r : Row) (is : rowid r ≡ Int (pos id)) where
  past_step : (b : Row) (rest : List X) (o : Option X) → f b ≡ o
      → value_cmp (rowid r) (rowid b) ≡ Less → AllByRecursion (λ x. id < key x) rest
      → AllByRecursion (λ x. id < key x) (cons_option o rest)
  past_step b rest None at less all = all
  past_step b rest (Some x) at less all = (
    below id (key x)
        (cc (keyed b x at, is, less)),
    all,
  )

  all_past : (rows : List Row) → AllByRecursion (λ b. value_cmp (rowid r) (rowid b) ≡ Less) rows
      → AllByRecursion (λ x. id < key x) (filter_map f rows)
  all_past [] later = tt
  all_past (b ∷ rows) later = search (past_step, all_past rows later.1)

-- ---- merging

put_first : (id : ℕ) (ids : List ℕ) → AllPast id ids → put_number id ids ≡ id ∷ ids
put_first id [] all = refl
put_first id (k ∷ ids) all = let up = all.0 in cond-false _ _ _ (le-ltb k id (omega (arith, up)))

put_behind : (id x : ℕ) (ids : List ℕ) → x < id → put_number id (x ∷ ids) ≡ x ∷ put_number id ids
put_behind id x ids up = cond-true _ _ _ (lt-ltb x id up)

put_under : (x : ℕ) (us ids : List ℕ) → AllPast x us
    → put_numbers us (x ∷ ids) ≡ x ∷ put_numbers us ids
put_under x [] ids all = refl
put_under x (u ∷ us) ids all = search (put_behind, put_under x us ids all.1)

number_keyed : (r : Row) (k : ℕ) → number_of_row r ≡ Some k → rowid r ≡ Int (pos k)
number_keyed r k is = (number_is (rowid r) k is).0

abbrev unread_ids : List Unread → List ℕ
unread_ids rows = map (λ (u : Unread). u.id) rows

merge_step : (r : Row) (rows : List Row) (o : Option Node) (m : Option ℕ)
    → node_in (shown_node r) ≡ o → number_of_row r ≡ m
    → AllByRecursion (λ b. value_cmp (rowid r) (rowid b) ≡ Less) rows
    → put_numbers (unread_ids (unread_of rows)) (map (λ (n : Node). n.id) (nodes_of rows))
    ≡ filter_map number_of_row rows
    → put_numbers
    (unread_ids (cons_option (if is_none o then option_map (unread_with r) m else None) (unread_of rows)))
    (map (λ (n : Node). n.id) (cons_option o (nodes_of rows)))
    ≡ cons_option m (filter_map number_of_row rows)
merge_step r rows (Some n) m seen is later more =
    let number : number_of_row r ≡ Some n.id = (node_parts (shown_node r) n seen).number in
    put_under n.id (unread_ids (unread_of rows)) (map (λ (n : Node). n.id) (nodes_of rows))
    (each_map (λ k. n.id < k) (λ (u : Unread). u.id) (unread_of rows)
    (all_past unread_in (λ (u : Unread). u.id) unread_keyed n.id r
    (number_keyed r n.id number) rows later))
    ∙ ap (λ l. n.id ∷ l) more
    ∙ ap (λ o. cons_option o (filter_map number_of_row rows)) (sym number ∙ is)
merge_step r rows None (Some id) seen is later more =
    ap (put_number id) more
    ∙ put_first id (filter_map number_of_row rows)
    (all_past number_of_row (λ k. k) number_keyed id r (number_keyed r id is) rows later)
merge_step r rows None None seen is later more = more

merged : (rows : List Row) → IsTable rows
    → put_numbers (unread_ids (unread_of rows)) (map (λ (n : Node). n.id) (nodes_of rows))
    ≡ filter_map number_of_row rows
merged [] table = refl
merged (r ∷ rows) table = grind (arith, nat_tests, merge_step, merged rows table.1)

-- ---- what is shown

kept_step : (r : Row) (rest : List ℕ) (o : Option ℕ) (b : Bool) → number_of_row r ≡ o
    → is_numbered r ≡ b → (kept : List Row) → numbers_seen (map shown_number kept) ≡ rest
    → numbers_seen (map shown_number (cond b (r ∷ kept) kept)) ≡ cons_option o rest
kept_step r rest o b is has kept more = grind (arith, nat_tests, at_least_one)

shown_are : (rows : List Row)
    → numbers_seen (map shown_number (filter is_numbered rows)) ≡ filter_map number_of_row rows
shown_are [] = refl
shown_are (r ∷ rows) = grind (arith, nat_tests, kept_step, shown_are rows)

pub tells_numbers : (db : Database) → IsRoom db → (rows : List Row) → HasNumbers db.trees rows
    → AreNumbers (rows_of db) (numbers_seen rows)
tells_numbers db room rows shown = grind (arith, nat_tests, merged, shown_are)
