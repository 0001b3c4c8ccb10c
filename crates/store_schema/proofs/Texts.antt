-- The texts that make the tables, and what they are understood as.
use Rattle.std.proofs.Common.{◌≡◌, ℕ, List, [], ◌∷◌, codes, Ok, Err, None, pos, negsuc, refl, false}
use Rattle.std.proofs.Common.{true}
use Rattle.sqlite.specs.Command.{Command, TheVariants.{CreateTable, Insert, Select, Update}}
use Rattle.sqlite.specs.{Query.{Query, inner, end}, Source.TheVariants.Values, Term.{Term, lit}}
use Rattle.sqlite.specs.{Term.{col, op2}, declared.types.Value.TheVariants.{Null, Int, Text}}
use Rattle.sqlite.specs.{Compile.table_defined_by, Does.lacks_sequence, Listing.understood}
use Rattle.sqlite.specs.{Listing.{reads_listing, listing_schema}, Schema.Schema, Table.Table}
use Rattle.sqlite.proofs.Callers.{IsPlain, command_of, statement_of}
use Rattle.sqlite_value.specs.declared.keys.{Key.Key, Collation.TheVariants.Binary}
use Rattle.sqlite_sql.specs.declared.ops.{BinaryOp.TheVariants.Compare, CompareOp.TheVariants.Eq}
use Rattle.sqlite_tied.specs.Compute.{everything}
use Rattle.sqlite_resolve.specs.{declared.error.CompileError.TheVariants.NoSuchTable, Compile.first}
use Rattle.sqlite_resolve.specs.Compile.{returning}
use Rattle.store_tables.specs.Tables.{nodes, bodies, members, meta, audits, counters, no_schema}
use Rattle.store_tables.specs.Tables.{after_nodes, after_bodies, after_members, after_meta}
use Rattle.store_tables.{specs.Tables.{after_audits, room_schema}, proofs.Bare.LacksReturning}
use Rattle.store_schema.specs.Opening.{number_text}

abbrev pub nodes_text : List ℕ
nodes_text =
    codes
    "CREATE TABLE nodes (id INTEGER PRIMARY KEY NOT NULL, parent INTEGER REFERENCES nodes ON DELETE RESTRICT ON UPDATE RESTRICT, name TEXT NOT NULL, kind INTEGER NOT NULL, owner TEXT NOT NULL, grp TEXT NOT NULL, dacl_flags INTEGER NOT NULL, sacl_flags INTEGER NOT NULL, dacl_own TEXT NOT NULL, dacl_inh TEXT NOT NULL, sacl_own TEXT NOT NULL, sacl_inh TEXT NOT NULL, UNIQUE (parent, name)) STRICT"

abbrev pub bodies_text : List ℕ
bodies_text =
    codes
    "CREATE TABLE bodies (node INTEGER PRIMARY KEY NOT NULL REFERENCES nodes ON DELETE CASCADE, bytes BLOB NOT NULL) STRICT"

abbrev pub members_text : List ℕ
members_text =
    codes
    "CREATE TABLE members (grp TEXT NOT NULL, user TEXT NOT NULL, PRIMARY KEY (user, grp)) STRICT"

abbrev pub meta_text : List ℕ
meta_text = codes "CREATE TABLE meta (key TEXT PRIMARY KEY NOT NULL, value INTEGER NOT NULL) STRICT"

abbrev pub audits_text : List ℕ
audits_text =
    codes
    "CREATE TABLE audits (seq INTEGER PRIMARY KEY AUTOINCREMENT NOT NULL, at INTEGER NOT NULL, user TEXT NOT NULL, path TEXT NOT NULL, bits INTEGER NOT NULL, granted INTEGER NOT NULL, entry INTEGER NOT NULL) STRICT"

-- over this schema the text makes this table, and needs nothing else
pub record IsCreate (schema : Schema) (text : List ℕ) (table : Table) : Type 0 where
  pub command : command_of (understood schema text) ≡ CreateTable
  pub statement : statement_of text (understood schema text) ≡ text
  pub defines : table_defined_by text ≡ Ok table
  pub plain : IsPlain (understood schema text)

pub nodes_is : IsCreate no_schema nodes_text nodes
unfolding understood everything
nodes_is = record { command = refl; statement = refl; defines = refl; plain = (refl, refl) }

pub bodies_is : IsCreate after_nodes bodies_text bodies
unfolding understood everything
bodies_is = record { command = refl; statement = refl; defines = refl; plain = (refl, refl) }

pub members_is : IsCreate after_bodies members_text members
unfolding understood everything
members_is = record { command = refl; statement = refl; defines = refl; plain = (refl, refl) }

pub meta_is : IsCreate after_members meta_text meta
unfolding understood everything
meta_is = record { command = refl; statement = refl; defines = refl; plain = (refl, refl) }

pub audits_is : IsCreate after_meta audits_text audits
unfolding understood everything
audits_is = record { command = refl; statement = refl; defines = refl; plain = (refl, refl) }

pub counters_is : table_defined_by (codes "CREATE TABLE sqlite_sequence(name,seq)") ≡ Ok counters
unfolding understood everything
counters_is = refl

-- a table with AUTOINCREMENT needs the table of its counts
pub sequences : (lacks_sequence after_nodes ≡ false) × (lacks_sequence after_bodies ≡ false)
    × (lacks_sequence after_members ≡ false) × (lacks_sequence after_meta ≡ false)
    × (lacks_sequence after_audits ≡ true)
unfolding everything
sequences = (refl, refl, refl, refl, refl)

-- ---- the first rows

abbrev pub version_text : List ℕ
version_text = codes "INSERT INTO meta (key, value) VALUES ('rooms', 2)"

abbrev pub version_terms : List Term
version_terms = lit Null ∷ lit (Text (codes "rooms")) ∷ lit (Int (pos 2)) ∷ []

pub version_is : command_of (understood room_schema version_text)
    ≡ Insert 3 (Values version_terms 3)
unfolding understood everything
version_is = refl

pub version_plain : IsPlain (understood room_schema version_text)
unfolding understood everything
version_plain = (refl, refl)

abbrev pub folder_text : List ℕ
folder_text =
    codes
    "INSERT INTO nodes (id, parent, name, kind, owner, grp, dacl_flags, sacl_flags, dacl_own, dacl_inh, sacl_own, sacl_inh) VALUES (1, NULL, '', 1, ?1, ?2, 1, 1, ?3, '', '', '')"

abbrev pub folder_terms : List Term
folder_terms =
    lit (Int (pos 1)) ∷ lit Null ∷ lit Null ∷ lit (Text []) ∷ lit (Int (pos 1)) ∷ col 0 0 ∷ col 0 1
    ∷ lit (Int (pos 1)) ∷ lit (Int (pos 1)) ∷ col 0 2 ∷ lit (Text []) ∷ lit (Text [])
    ∷ lit (Text []) ∷ []

pub folder_is : command_of (understood room_schema folder_text) ≡ Insert 0 (Values folder_terms 13)
unfolding understood everything
folder_is = refl

pub folder_plain : IsPlain (understood room_schema folder_text)
unfolding understood everything
folder_plain = (refl, refl)

-- ---- the schema's number

abbrev pub query_of : ℕ → List Term → List Term → List (Term × Key) → Query
query_of tree filter project order = record {
  from = inner tree end;
  filter = filter;
  group = None;
  project = project;
  distinct = false;
  collations = [];
  order = order;
  limit = lit (Int (negsuc 0));
  offset = lit (Int (pos 0));
}

abbrev pub is_rooms : Term
is_rooms = op2 (Compare Eq Binary) (col 1 1) (lit (Text (codes "rooms")))

abbrev pub asks_value : Command
asks_value =
    Select (record { lets = []; body = query_of 5 (is_rooms ∷ []) (col 1 2 ∷ []) [] })
    (codes "value" ∷ [])

pub asked_is : (command_of (understood room_schema number_text) ≡ asks_value)
    × (reads_listing room_schema number_text ≡ false)
unfolding understood everything
asked_is = (refl, refl)

pub asked_plain : IsPlain (understood room_schema number_text)
unfolding understood everything
asked_plain = (refl, refl)

-- it has no RETURNING, over any schema
pub asked_bare : LacksReturning number_text
unfolding first returning everything
asked_bare = λ schema base. refl

-- there is no such table in an empty database
pub asked_nowhere : understood no_schema number_text ≡ Err NoSuchTable
unfolding understood everything listing_schema
asked_nowhere = refl

abbrev pub stamp_text : List ℕ
stamp_text = codes "UPDATE meta SET value = 2 WHERE key = 'rooms'"

abbrev pub stamp_terms : List Term
stamp_terms = col 1 0 ∷ col 1 0 ∷ col 1 1 ∷ lit (Int (pos 2)) ∷ []

pub stamp_is : command_of (understood room_schema stamp_text)
    ≡ Update 3 (record { lets = []; body = query_of 5 (is_rooms ∷ []) stamp_terms [] })
unfolding understood everything
stamp_is = refl

pub stamp_plain : IsPlain (understood room_schema stamp_text)
unfolding understood everything
stamp_plain = (refl, refl)
