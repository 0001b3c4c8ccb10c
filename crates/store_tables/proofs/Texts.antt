use Rattle.std.proofs.Common.{◌≡◌, ℕ, List, [], ◌∷◌, codes, refl, false, None, pos, negsuc}
use Rattle.sqlite.specs.{declared.types.Value.TheVariants.{Null, Int}, Command.Command}
use Rattle.sqlite.specs.Command.TheVariants.{Insert, Update, Delete, Select}
use Rattle.sqlite.specs.{Source.TheVariants.Values, Listing.{understood, reads_listing}}
use Rattle.sqlite.specs.{Query.{Query, inner, end}, Term.{Term, lit, col, op2}}
use Rattle.sqlite.proofs.Callers.{IsPlain, command_of}
use Rattle.sqlite_value.specs.declared.keys.{Key.Key, Collation.TheVariants.Binary}
use Rattle.sqlite_value.specs.Keys.{ascending}
use Rattle.sqlite_tied.specs.Compute.{everything}
use Rattle.sqlite_sql.specs.declared.ops.BinaryOp.TheVariants.{Compare, Is}
use Rattle.sqlite_sql.specs.declared.ops.CompareOp.TheVariants.{Eq, Ge}
use Rattle.sqlite_resolve.specs.Compile.{first, returning}
use Rattle.store_tables.{specs.Tables.room_schema, proofs.Bare.LacksReturning}

-- ---- the statements

-- the query for one object by its number, with all columns
abbrev pub node_text : List ℕ
node_text =
    codes
    "SELECT id, parent, name, kind, owner, grp, dacl_flags, sacl_flags, dacl_own, dacl_inh, sacl_own, sacl_inh FROM nodes WHERE id = ?1"

-- the query for the objects of one name in a folder, with all columns
abbrev pub child_text : List ℕ
child_text =
    codes
    "SELECT id, parent, name, kind, owner, grp, dacl_flags, sacl_flags, dacl_own, dacl_inh, sacl_own, sacl_inh FROM nodes WHERE parent = ?1 AND name = ?2 AND id >= 1"

-- the query for all objects in a folder, with all columns, in order of name
abbrev pub children_text : List ℕ
children_text =
    codes
    "SELECT id, parent, name, kind, owner, grp, dacl_flags, sacl_flags, dacl_own, dacl_inh, sacl_own, sacl_inh FROM nodes WHERE parent = ?1 AND id >= 1 ORDER BY name"

-- the query for the root: of the rows without a parent, the one with the least number
abbrev pub root_text : List ℕ
root_text =
    codes
    "SELECT id, parent, name, kind, owner, grp, dacl_flags, sacl_flags, dacl_own, dacl_inh, sacl_own, sacl_inh FROM nodes WHERE parent IS NULL AND id >= 1 ORDER BY id LIMIT 1"

-- the cells of a row of `nodes` that a query for whole objects shows: the number and 2 to 12
abbrev pub all_columns : List Term
all_columns =
    col 1 0 ∷ col 1 2 ∷ col 1 3 ∷ col 1 4 ∷ col 1 5 ∷ col 1 6 ∷ col 1 7 ∷ col 1 8 ∷ col 1 9
    ∷ col 1 10 ∷ col 1 11 ∷ col 1 12 ∷ []

-- the column names of an answer that shows whole objects
abbrev pub names : List (List ℕ)
names =
    codes "id" ∷ codes "parent" ∷ codes "name" ∷ codes "kind" ∷ codes "owner" ∷ codes "grp"
    ∷ codes "dacl_flags" ∷ codes "sacl_flags" ∷ codes "dacl_own" ∷ codes "dacl_inh"
    ∷ codes "sacl_own" ∷ codes "sacl_inh" ∷ []

-- this value of the row equals the parameter
abbrev pub matches_parameter : ℕ → ℕ → Term
matches_parameter place parameter = op2 (Compare Eq Binary) (col 1 place) (col 0 parameter)

-- the test `id >= 1`, which all queries on objects make but the one by number
abbrev pub is_kept : Term
is_kept = op2 (Compare Ge Binary) (col 1 0) (lit (Int (pos 1)))

-- an ORDER BY of one cell of the row, rising, with texts compared byte by byte
abbrev pub ascending_by : ℕ → Term × Key
ascending_by place = (col 1 place, ascending Binary)

-- a query over one table with these tests, terms and order: no GROUP BY, DISTINCT or LIMIT
abbrev pub query_of : ℕ → List Term → List Term → List (Term × Key) → Query
query_of tree filter project order = record {
  from = inner tree end;
  filter = filter;
  group = None;
  project = project;
  distinct = false;
  collations = [];
  order = order;
  limit = lit (Int (negsuc 0));
  offset = lit (Int (pos 0));
}

-- the command of a SELECT with no tables to work out first, under these column names
abbrev pub selects : Query → List (List ℕ) → Command
selects q names = Select (record { lets = []; body = q }) names

-- rows of `nodes` found by their number, the first parameter
abbrev pub node_query : Query
node_query = query_of 0 (matches_parameter 0 0 ∷ []) all_columns []

-- numbered rows of `nodes` found by their parent and their name, the two parameters
abbrev pub child_query : Query
child_query =
    query_of 0 (matches_parameter 2 0 ∷ matches_parameter 3 1 ∷ is_kept ∷ []) all_columns []

-- numbered rows of `nodes` found by their parent alone, in order of name
abbrev pub children_query : Query
children_query = query_of 0 (matches_parameter 2 0 ∷ is_kept ∷ []) all_columns (ascending_by 3 ∷ [])

-- the tests of `WHERE parent IS NULL AND id >= 1`
abbrev pub top_tests : List Term
top_tests = op2 (Is Binary) (col 1 2) (lit Null) ∷ is_kept ∷ []

-- numbered rows of `nodes` without a parent, in order of number, cut off after the first
abbrev pub root_query : Query
root_query =
    record (query_of 0 top_tests all_columns (ascending_by 0 ∷ [])) { limit = lit (Int (pos 1)) }

-- the query that tells whether a folder has any child: the number of one of them
abbrev pub some_text : List ℕ
some_text = codes "SELECT id FROM nodes WHERE parent = ?1 AND id >= 1 LIMIT 1"

-- numbered rows of `nodes` found by their parent, in any order, of which one number is shown
abbrev pub some_query : Query
some_query =
    record (query_of 0 (matches_parameter 2 0 ∷ is_kept ∷ []) (col 1 0 ∷ []) []) {
      limit = lit
          (Int (pos 1));
    }

-- the query that lists a folder: number, name and kind of each child, in order of name
abbrev pub names_text : List ℕ
names_text = codes "SELECT id, name, kind FROM nodes WHERE parent = ?1 AND id >= 1 ORDER BY name"

-- what the listing of a folder shows of a row: its number, name and kind
abbrev pub name_columns : List Term
name_columns = col 1 0 ∷ col 1 3 ∷ col 1 4 ∷ []

-- numbered rows of `nodes` found by their parent, in order of name, with three cells shown
abbrev pub name_query : Query
name_query = query_of 0 (matches_parameter 2 0 ∷ is_kept ∷ []) name_columns (ascending_by 3 ∷ [])

-- the text that lists a folder compiles to `name_query`, and does not read `sqlite_schema`
pub names_are : (command_of (understood room_schema names_text)
    ≡ selects name_query (codes "id" ∷ codes "name" ∷ codes "kind" ∷ []))
    × (reads_listing room_schema names_text ≡ false)
unfolding understood everything
names_are = (refl, refl)

-- the listing of a folder is one statement with no RETURNING, and reads no time
pub plain_names : IsPlain (understood room_schema names_text)
unfolding understood everything
plain_names = (refl, refl)

-- the text for one object compiles to the search of `nodes` by number, no schema listing
pub node_is : (command_of (understood room_schema node_text) ≡ selects node_query names)
    × (reads_listing room_schema node_text ≡ false)
unfolding understood everything
node_is = (refl, refl)

-- the text for one child compiles to the search by parent and name, and is no schema listing
pub child_is : (command_of (understood room_schema child_text) ≡ selects child_query names)
    × (reads_listing room_schema child_text ≡ false)
unfolding understood everything
child_is = (refl, refl)

-- the text for whole children compiles to the ordered search by parent, no schema listing
pub children_is : (command_of (understood room_schema children_text) ≡ selects children_query names)
    × (reads_listing room_schema children_text ≡ false)
unfolding understood everything
children_is = (refl, refl)

-- the text for the root compiles to the search for no parent, cut to one row, no schema listing
pub root_is : (command_of (understood room_schema root_text) ≡ selects root_query names)
    × (reads_listing room_schema root_text ≡ false)
unfolding understood everything
root_is = (refl, refl)

-- the text for any child compiles to a search by parent that shows `id`, no schema listing
pub some_is : (command_of (understood room_schema some_text) ≡ selects some_query (codes "id" ∷ []))
    × (reads_listing room_schema some_text ≡ false)
unfolding understood everything
some_is = (refl, refl)

-- the query for any child is one statement with no RETURNING, and reads no time
pub plain_some : IsPlain (understood room_schema some_text)
unfolding understood everything
plain_some = (refl, refl)

-- all numbers of `nodes` from 1 on, in their order
abbrev pub ids_query : Query
ids_query = query_of 0 (is_kept ∷ []) (col 1 0 ∷ []) (ascending_by 0 ∷ [])

-- the query for the numbers of all objects
abbrev pub ids_text : List ℕ
ids_text = codes "SELECT id FROM nodes WHERE id >= 1 ORDER BY id"

-- the text for all numbers compiles to a query without parameters, and is no schema listing
pub ids_is : (command_of (understood room_schema ids_text) ≡ selects ids_query (codes "id" ∷ []))
    × (reads_listing room_schema ids_text ≡ false)
unfolding understood everything
ids_is = (refl, refl)

-- the query for the bytes of a document
abbrev pub body_text : List ℕ
body_text = codes "SELECT bytes FROM bodies WHERE node = ?1"

-- the text for bytes compiles to the search of `bodies` by its key, and is no schema listing
pub body_is : (command_of (understood room_schema body_text)
    ≡ selects (query_of 2 (matches_parameter 0 0 ∷ []) (col 1 2 ∷ []) []) (codes "bytes" ∷ []))
    × (reads_listing room_schema body_text ≡ false)
unfolding understood everything
body_is = (refl, refl)

-- the query for the groups that a user is a member of
abbrev pub groups_text : List ℕ
groups_text = codes "SELECT grp FROM members WHERE user = ?1 ORDER BY grp"

-- rows of `members` found by their user, of which the group is shown, in order of group
abbrev pub groups_query : Query
groups_query = query_of 3 (matches_parameter 2 0 ∷ []) (col 1 1 ∷ []) (ascending_by 1 ∷ [])

-- the text for a user's groups compiles to the search of `members`, and is no schema listing
pub groups_is : (command_of (understood room_schema groups_text)
    ≡ selects groups_query (codes "grp" ∷ [])) × (reads_listing room_schema groups_text ≡ false)
unfolding understood everything
groups_is = (refl, refl)

-- the INSERT of a new object, whose number the table chooses
abbrev pub insert_text : List ℕ
insert_text =
    codes
    "INSERT INTO nodes (parent, name, kind, owner, grp, dacl_flags, sacl_flags, dacl_own, dacl_inh, sacl_own, sacl_inh) VALUES (?1, ?2, ?3, ?4, ?5, ?6, ?7, ?8, ?9, ?10, ?11)"

-- the cells of a new object's row: no number yet, the void key, and the eleven parameters
abbrev pub insert_terms : List Term
insert_terms =
    lit Null ∷ lit Null ∷ col 0 0 ∷ col 0 1 ∷ col 0 2 ∷ col 0 3 ∷ col 0 4 ∷ col 0 5 ∷ col 0 6
    ∷ col 0 7 ∷ col 0 8 ∷ col 0 9 ∷ col 0 10 ∷ []

-- the INSERT of an object compiles to one row of 13 cells for `nodes`, the first table
pub insert_is : command_of (understood room_schema insert_text) ≡ Insert 0 (Values insert_terms 13)
unfolding understood everything
insert_is = refl

-- the UPDATE of the entries that an object's DACL inherits
abbrev pub dacl_inh_text : List ℕ
dacl_inh_text = codes "UPDATE nodes SET dacl_inh = ?2 WHERE id = ?1"

-- the number of the row, then the row to write: as it is, but `dacl_inh` from a parameter
abbrev pub dacl_inh_terms : List Term
dacl_inh_terms =
    col 1 0 ∷ col 1 0 ∷ lit Null ∷ col 1 2 ∷ col 1 3 ∷ col 1 4 ∷ col 1 5 ∷ col 1 6 ∷ col 1 7
    ∷ col 1 8 ∷ col 1 9 ∷ col 0 1 ∷ col 1 11 ∷ col 1 12 ∷ []

-- the UPDATE of the entries that an object's SACL inherits
abbrev pub sacl_inh_text : List ℕ
sacl_inh_text = codes "UPDATE nodes SET sacl_inh = ?2 WHERE id = ?1"

-- the number of the row, then the row to write: as it is, but `sacl_inh` from a parameter
abbrev pub sacl_inh_terms : List Term
sacl_inh_terms =
    col 1 0 ∷ col 1 0 ∷ lit Null ∷ col 1 2 ∷ col 1 3 ∷ col 1 4 ∷ col 1 5 ∷ col 1 6 ∷ col 1 7
    ∷ col 1 8 ∷ col 1 9 ∷ col 1 10 ∷ col 1 11 ∷ col 0 1 ∷ []

-- rows of nodes that pass these tests are written with these terms
abbrev pub updates_where : List Term → List Term → Command
updates_where tests terms = Update 0 (record { lets = []; body = query_of 0 tests terms [] })

-- rows of nodes that are found by their number are written with these terms
abbrev pub updates_nodes : List Term → Command
updates_nodes terms = updates_where (matches_parameter 0 0 ∷ []) terms

-- the UPDATE of the inherited DACL compiles to a write by number that changes `dacl_inh`
pub dacl_inh_is : command_of (understood room_schema dacl_inh_text) ≡ updates_nodes dacl_inh_terms
unfolding understood everything
dacl_inh_is = refl

-- the UPDATE of the inherited SACL compiles to a write by number that changes `sacl_inh`
pub sacl_inh_is : command_of (understood room_schema sacl_inh_text) ≡ updates_nodes sacl_inh_terms
unfolding understood everything
sacl_inh_is = refl

-- the UPDATE of the inherited DACL is one statement with no RETURNING, and reads no time
pub plain_dacl_inh : IsPlain (understood room_schema dacl_inh_text)
unfolding understood everything
plain_dacl_inh = (refl, refl)

-- the UPDATE of the inherited SACL is one statement with no RETURNING, and reads no time
pub plain_sacl_inh : IsPlain (understood room_schema sacl_inh_text)
unfolding understood everything
plain_sacl_inh = (refl, refl)

-- the UPDATE of an object's whole DACL: its flags, its own entries and the inherited ones
abbrev pub dacl_text : List ℕ
dacl_text = codes "UPDATE nodes SET dacl_flags = ?2, dacl_own = ?3, dacl_inh = ?4 WHERE id = ?1"

-- the number of the row, then the row to write: the three cells of the DACL are parameters
abbrev pub dacl_terms : List Term
dacl_terms =
    col 1 0 ∷ col 1 0 ∷ lit Null ∷ col 1 2 ∷ col 1 3 ∷ col 1 4 ∷ col 1 5 ∷ col 1 6 ∷ col 0 1
    ∷ col 1 8 ∷ col 0 2 ∷ col 0 3 ∷ col 1 11 ∷ col 1 12 ∷ []

-- the UPDATE of a whole DACL compiles to a write by number that changes its three cells
pub dacl_is : command_of (understood room_schema dacl_text) ≡ updates_nodes dacl_terms
unfolding understood everything
dacl_is = refl

-- the UPDATE of a whole DACL is one statement with no RETURNING, and reads no time
pub plain_dacl : IsPlain (understood room_schema dacl_text)
unfolding understood everything
plain_dacl = (refl, refl)

-- the UPDATE of an object's whole SACL: its flags, its own entries and the inherited ones
abbrev pub sacl_text : List ℕ
sacl_text = codes "UPDATE nodes SET sacl_flags = ?2, sacl_own = ?3, sacl_inh = ?4 WHERE id = ?1"

-- the number of the row, then the row to write: the three cells of the SACL are parameters
abbrev pub sacl_terms : List Term
sacl_terms =
    col 1 0 ∷ col 1 0 ∷ lit Null ∷ col 1 2 ∷ col 1 3 ∷ col 1 4 ∷ col 1 5 ∷ col 1 6 ∷ col 1 7
    ∷ col 0 1 ∷ col 1 9 ∷ col 1 10 ∷ col 0 2 ∷ col 0 3 ∷ []

-- the UPDATE of a whole SACL compiles to a write by number that changes its three cells
pub sacl_is : command_of (understood room_schema sacl_text) ≡ updates_nodes sacl_terms
unfolding understood everything
sacl_is = refl

-- the UPDATE of a whole SACL is one statement with no RETURNING, and reads no time
pub plain_sacl : IsPlain (understood room_schema sacl_text)
unfolding understood everything
plain_sacl = (refl, refl)

-- the UPDATE of an object's owner and group
abbrev pub owners_text : List ℕ
owners_text = codes "UPDATE nodes SET owner = ?2, grp = ?3 WHERE id = ?1"

-- the number of the row, then the row to write: owner and group are parameters
abbrev pub owners_terms : List Term
owners_terms =
    col 1 0 ∷ col 1 0 ∷ lit Null ∷ col 1 2 ∷ col 1 3 ∷ col 1 4 ∷ col 0 1 ∷ col 0 2 ∷ col 1 7
    ∷ col 1 8 ∷ col 1 9 ∷ col 1 10 ∷ col 1 11 ∷ col 1 12 ∷ []

-- the UPDATE of the owners compiles to a write by number that changes owner and group
pub owners_is : command_of (understood room_schema owners_text) ≡ updates_nodes owners_terms
unfolding understood everything
owners_is = refl

-- the UPDATE of the owners is one statement with no RETURNING, and reads no time
pub plain_owners : IsPlain (understood room_schema owners_text)
unfolding understood everything
plain_owners = (refl, refl)

-- the UPDATE that moves or renames an object: its parent and its name
abbrev pub place_text : List ℕ
place_text = codes "UPDATE nodes SET parent = ?2, name = ?3 WHERE id = ?1"

-- the number of the row, then the row to write: parent and name are parameters
abbrev pub place_terms : List Term
place_terms =
    col 1 0 ∷ col 1 0 ∷ lit Null ∷ col 0 1 ∷ col 0 2 ∷ col 1 4 ∷ col 1 5 ∷ col 1 6 ∷ col 1 7
    ∷ col 1 8 ∷ col 1 9 ∷ col 1 10 ∷ col 1 11 ∷ col 1 12 ∷ []

-- the UPDATE of the place compiles to a write by number that changes parent and name
pub place_is : command_of (understood room_schema place_text) ≡ updates_nodes place_terms
unfolding understood everything
place_is = refl

-- the UPDATE of the place is one statement with no RETURNING, and reads no time
pub plain_place : IsPlain (understood room_schema place_text)
unfolding understood everything
plain_place = (refl, refl)

-- the DELETE of an object by its number, which takes its bytes along
abbrev pub delete_text : List ℕ
delete_text = codes "DELETE FROM nodes WHERE id = ?1"

-- the DELETE compiles to the search of `nodes` by number, which shows the numbers to take out
pub delete_is : command_of (understood room_schema delete_text)
    ≡ Delete 0
    (record { lets = []; body = query_of 0 (matches_parameter 0 0 ∷ []) (col 1 0 ∷ []) [] })
unfolding understood everything
delete_is = refl

-- the UPDATE of the bytes of a document that has some already
abbrev pub fill_text : List ℕ
fill_text = codes "UPDATE bodies SET bytes = ?2 WHERE node = ?1"

-- the number of the row, then the row of `bodies` to write: the bytes are a parameter
abbrev pub fill_terms : List Term
fill_terms = col 1 0 ∷ col 1 0 ∷ lit Null ∷ col 0 1 ∷ []

-- the UPDATE of bytes compiles to a write by number of `bodies`, the second table
pub fill_is : command_of (understood room_schema fill_text)
    ≡ Update 1 (record { lets = []; body = query_of 2 (matches_parameter 0 0 ∷ []) fill_terms [] })
unfolding understood everything
fill_is = refl

-- the UPDATE of bytes is one statement with no RETURNING, and reads no time
pub plain_fill : IsPlain (understood room_schema fill_text)
unfolding understood everything
plain_fill = (refl, refl)

-- the DELETE of the bytes of a document, which is left without
abbrev pub clear_text : List ℕ
clear_text = codes "DELETE FROM bodies WHERE node = ?1"

-- the DELETE of bytes compiles to the search of `bodies` by number
pub clear_is : command_of (understood room_schema clear_text)
    ≡ Delete 1
    (record { lets = []; body = query_of 2 (matches_parameter 0 0 ∷ []) (col 1 0 ∷ []) [] })
unfolding understood everything
clear_is = refl

-- the DELETE of bytes is one statement with no RETURNING, and reads no time
pub plain_clear : IsPlain (understood room_schema clear_text)
unfolding understood everything
plain_clear = (refl, refl)

-- the INSERT of the first bytes of a document, under the document's number
abbrev pub put_text : List ℕ
put_text = codes "INSERT INTO bodies (node, bytes) VALUES (?1, ?2)"

-- the INSERT of bytes compiles to one row for `bodies`, whose number is a parameter
pub put_is : command_of (understood room_schema put_text)
    ≡ Insert 1 (Values (col 0 0 ∷ lit Null ∷ col 0 1 ∷ []) 3)
unfolding understood everything
put_is = refl

-- the INSERT of bytes is one statement with no RETURNING, and reads no time
pub plain_put : IsPlain (understood room_schema put_text)
unfolding understood everything
plain_put = (refl, refl)

-- the INSERT of an audit record, whose number the table chooses
abbrev pub note_text : List ℕ
note_text =
    codes
    "INSERT INTO audits (at, user, path, bits, granted, entry) VALUES (?1, ?2, ?3, ?4, ?5, ?6)"

-- the INSERT of a record compiles to one row of 8 cells for `audits`, the fifth table
pub note_is : command_of (understood room_schema note_text)
    ≡ Insert 4
    (Values (lit Null ∷ lit Null ∷ col 0 0 ∷ col 0 1 ∷ col 0 2 ∷ col 0 3 ∷ col 0 4 ∷ col 0 5 ∷ [])
    8)
unfolding understood everything
note_is = refl

-- each is one statement with no RETURNING, which reads no time
pub plain_texts : IsPlain (understood room_schema node_text)
    × IsPlain (understood room_schema child_text) × IsPlain (understood room_schema children_text)
    × IsPlain (understood room_schema root_text)
    × IsPlain (understood room_schema ids_text) × IsPlain (understood room_schema body_text)
    × IsPlain (understood room_schema groups_text) × IsPlain (understood room_schema insert_text)
    × IsPlain (understood room_schema delete_text) × IsPlain (understood room_schema note_text)
unfolding understood everything
plain_texts = (
  (refl, refl),
  (refl, refl),
  (refl, refl),
  (refl, refl),
  (refl, refl),
  (refl, refl),
  (refl, refl),
  (refl, refl),
  (refl, refl),
  (refl, refl),
)

-- each that asks has no RETURNING, over any schema
pub bare_texts : LacksReturning node_text × LacksReturning child_text
    × LacksReturning children_text × LacksReturning root_text × LacksReturning ids_text
    × LacksReturning body_text × LacksReturning groups_text × LacksReturning some_text
    × LacksReturning names_text
unfolding first returning everything
bare_texts = (
  λ schema base. refl,
  λ schema base. refl,
  λ schema base. refl,
  λ schema base. refl,
  λ schema base. refl,
  λ schema base. refl,
  λ schema base. refl,
  λ schema base. refl,
  λ schema base. refl,
)
