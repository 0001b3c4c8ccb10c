-- What an operator learns of all pairs and all records, and how the pairs are exchanged.
use Rattle.std.specs.Prelude.{◌≡◌, ℕ, ℤ, Bool, List, [], ◌∷◌, map, Option, true}
use Rattle.std.specs.Prelude.{false, is_some, option_and_then, option_map, ◌+◌, slice_index_or}
use Rattle.std.specs.List.{filter_map, list_all}
use Rattle.std.specs.Ordering.{ordering_then}
use Rattle.std.specs.declared.cmp.Ordering.{Ordering}
use Rattle.sqlite.specs.Effect.{Database}
use Rattle.sqlite.specs.Order.{Row, column, value_cmp}
use Rattle.sqlite.specs.Tree.{Trees, put_row}
use Rattle.sqlite.specs.Edit.{is_taken}
use Rattle.sqlite.specs.declared.types.Value.TheVariants.{Null, Int, Text}
use Rattle.sqlite_keyed.specs.Lists.{sort_by}
use Rattle.room_rows.specs.declared.node.AuditRow.{AuditRow}
use Rattle.room_rows.specs.Content.{set_of, with_members}
use Rattle.room_rows.specs.Keep.{with_content}
use Rattle.room_rows.specs.Rows.{Rows}
use Rattle.store_tables.specs.Meaning.{audit_in, name_in, pair_in, pairs_of, rows_of}
use Rattle.store_tables.specs.Trees as tree
use Rattle.store_tables.specs.PairCells as pair
use Rattle.store_tables.specs.RecordCells as record_cell

abbrev pub AreMembers : Database → List (List ℕ × List ℕ) → Type 0
AreMembers db pairs = pairs ≡ (rows_of db).read.members

-- some row of audits can't be read as a record
abbrev pub HasUnreadRecord : Database → Type 0
HasUnreadRecord db = list_all (λ r. is_some (audit_in r)) (db.trees tree.audits) ≡ false

-- each row of audits, read as a record
pub record AreRecords (db : Database) (records : List AuditRow) : Type 0 where
  pub all_read : list_all (λ r. is_some (audit_in r)) (db.trees tree.audits) ≡ true
  pub are : records ≡ (rows_of db).read.audits

abbrev pub ReplacesMembers : List (List ℕ × List ℕ) → Rows → Unit {0} → Rows → Type 0
ReplacesMembers pairs old answer new = new ≡ with_content old (with_members old.read pairs)

-- each of these rows of members is read as a pair
abbrev pub are_pairs : List Row → Bool
are_pairs rows = list_all (λ r. is_some (pair_in r)) rows

-- each row of members is a pair
abbrev pub HasPairsAlone : Database → Type 0
HasPairsAlone db = are_pairs (db.trees tree.members) ≡ true

-- No table is changed but that of pairs, and each of its rows is one.
pub record ChangesPairsAlone (old new : Database) : Type 0 where
  pub pairs : HasPairsAlone new
  pub nodes : new.trees tree.nodes ≡ old.trees tree.nodes
  pub bodies : new.trees tree.bodies ≡ old.trees tree.bodies
  pub meta : new.trees tree.meta ≡ old.trees tree.meta
  pub audits : new.trees tree.audits ≡ old.trees tree.audits
  pub counters : new.trees tree.counters ≡ old.trees tree.counters

-- The pairs are replaced by these, and nothing else is changed or left.
abbrev pub ExchangesMembers : List (List ℕ × List ℕ) → Database → Unit {0} → Database → Type 0
ExchangesMembers pairs old answer new =
    ReplacesMembers pairs (rows_of old) answer (rows_of new) × ChangesPairsAlone old new

-- ---- how they are read

-- a row of members as it is shown
abbrev pub shown_pair : Row → Row
shown_pair r = column r pair.group ∷ column r pair.user ∷ []

-- two rows of members, by group and then by user
abbrev pub by_pair : Row → Row → Ordering
by_pair a b =
    ordering_then (value_cmp (column a pair.group) (column b pair.group))
    (value_cmp (column a pair.user) (column b pair.user))

-- all rows, in order of group and then of user
abbrev pub ShowsMembers : Trees → List Row → Type 0
ShowsMembers db rows = rows ≡ map shown_pair (sort_by by_pair (db tree.members))

abbrev pub pair_seen : Row → Option (List ℕ × List ℕ)
pair_seen r = option_and_then (λ group. option_map (λ user. (group, user)) (name_in (column r 1)))
    (name_in (column r 0))

-- the pairs in these rows, without rows that aren't pairs
abbrev pub pairs_seen : List Row → List (List ℕ × List ℕ)
pairs_seen rows = filter_map pair_seen rows

-- a row of audits as it is shown
abbrev pub shown_record : Row → Row
shown_record r = column r record_cell.at ∷ column r record_cell.user ∷ column r record_cell.path
    ∷ column r record_cell.bits ∷ column r record_cell.granted ∷ column r record_cell.place ∷ []

abbrev pub HasRecords : Trees → List Row → Type 0
HasRecords db rows = rows ≡ map shown_record (db tree.audits)

-- a shown row lacks the two columns before the moment
abbrev pub record_seen : Row → Option AuditRow
record_seen r = audit_in (Null ∷ Null ∷ r)

-- ---- how they are exchanged

-- The rows of members become these, and the other tables are as they were.
pub record Exchanges (rows : List Row) (db next : Trees) : Type 0 where
  pub nodes : next tree.nodes ≡ db tree.nodes
  pub bodies : next tree.bodies ≡ db tree.bodies
  pub members : next tree.members ≡ rows
  pub meta : next tree.meta ≡ db tree.meta
  pub audits : next tree.audits ≡ db tree.audits
  pub counters : next tree.counters ≡ db tree.counters

-- a row of members as it is stored
abbrev pub stored_pair : ℤ → List ℕ → List ℕ → Row
stored_pair id group user = Int id ∷ Text group ∷ Text user ∷ []

-- A row with this pair, of a number that none had, is put in.
pub record Joins (group user : List ℕ) (db next : Trees) : Type 0 where
  pub id : ℤ
  pub fresh : is_taken (db tree.members) (stored_pair id group user) ≡ false
  pub puts : Exchanges (put_row (stored_pair id group user) (db tree.members)) db next

-- The rows of members mean the set of these pairs, and the other tables are as they were.
pub record HoldsPairs (pairs : List (List ℕ × List ℕ)) (db next : Trees) : Type 0 where
  pub nodes : next tree.nodes ≡ db tree.nodes
  pub bodies : next tree.bodies ≡ db tree.bodies
  pub members : pairs_of (next tree.members) ≡ set_of pairs
  pub meta : next tree.meta ≡ db tree.meta
  pub audits : next tree.audits ≡ db tree.audits
  pub counters : next tree.counters ≡ db tree.counters
  -- where each row was a pair, each still is
  pub only : are_pairs (db tree.members) ≡ true → are_pairs (next tree.members) ≡ true

-- the pair at this place stands right before it too
abbrev pub IsAgain : List (List ℕ × List ℕ) → ℕ → Type 0
IsAgain pairs index = (k : ℕ) × (index ≡ k + 1)
    × ((other : List ℕ × List ℕ)
    → slice_index_or pairs index other ≡ slice_index_or pairs k other)

-- From the set of some pairs to that of others.
abbrev pub Gathers : List (List ℕ × List ℕ) → List (List ℕ × List ℕ)
    → Database → Unit {0} → Database → Type 0
Gathers before after old answer new =
    pairs_of (old.trees tree.members) ≡ set_of before → HoldsPairs after old.trees new.trees
