-- The texts of the statements that write the rows of a range of numbers, computed.
use Rattle.std.proofs.Common.{◌≡◌, ℕ, List, [], ◌∷◌, codes, refl}
use Rattle.sqlite.specs.{declared.types.Value.TheVariants.Null, Listing.understood, Term.Term}
use Rattle.sqlite.{specs.Term.{lit, col, op2}, proofs.Callers.{IsPlain, command_of}}
use Rattle.sqlite_sql.specs.declared.ops.{BinaryOp.TheVariants.Compare, CompareOp.TheVariants.Ge}
use Rattle.sqlite_sql.specs.declared.ops.CompareOp.TheVariants.{Le}
use Rattle.sqlite_tied.specs.Compute.{everything}
use Rattle.sqlite_value.specs.declared.keys.Collation.TheVariants.{Binary}
use Rattle.store_tables.{specs.Tables.room_schema, proofs.Texts.updates_where}

-- the tests `id >= ?1` and `id <= ?2`
abbrev pub range_tests : List Term
range_tests =
    op2 (Compare Ge Binary) (col 1 0) (col 0 0) ∷ op2 (Compare Le Binary) (col 1 0) (col 0 1) ∷ []

-- the UPDATE of the entries that the DACLs of a range of objects inherit
abbrev pub dacl_range_text : List ℕ
dacl_range_text = codes "UPDATE nodes SET dacl_inh = ?3 WHERE id >= ?1 AND id <= ?2"

-- the number of the row, then the row to write: as it is, but `dacl_inh` from a parameter
abbrev pub dacl_range_terms : List Term
dacl_range_terms =
    col 1 0 ∷ col 1 0 ∷ lit Null ∷ col 1 2 ∷ col 1 3 ∷ col 1 4 ∷ col 1 5 ∷ col 1 6 ∷ col 1 7
    ∷ col 1 8 ∷ col 1 9 ∷ col 0 2 ∷ col 1 11 ∷ col 1 12 ∷ []

-- the UPDATE of the entries that the SACLs of a range of objects inherit
abbrev pub sacl_range_text : List ℕ
sacl_range_text = codes "UPDATE nodes SET sacl_inh = ?3 WHERE id >= ?1 AND id <= ?2"

-- the number of the row, then the row to write: as it is, but `sacl_inh` from a parameter
abbrev pub sacl_range_terms : List Term
sacl_range_terms =
    col 1 0 ∷ col 1 0 ∷ lit Null ∷ col 1 2 ∷ col 1 3 ∷ col 1 4 ∷ col 1 5 ∷ col 1 6 ∷ col 1 7
    ∷ col 1 8 ∷ col 1 9 ∷ col 1 10 ∷ col 1 11 ∷ col 0 2 ∷ []

-- the UPDATE of inherited DACLs compiles to a write by range that changes `dacl_inh`
pub dacl_range_is : command_of (understood room_schema dacl_range_text)
    ≡ updates_where range_tests dacl_range_terms
unfolding understood everything
dacl_range_is = refl

-- the UPDATE of inherited SACLs compiles to a write by range that changes `sacl_inh`
pub sacl_range_is : command_of (understood room_schema sacl_range_text)
    ≡ updates_where range_tests sacl_range_terms
unfolding understood everything
sacl_range_is = refl

-- the UPDATE of inherited DACLs is one statement with no RETURNING, and reads no time
pub plain_dacl_range : IsPlain (understood room_schema dacl_range_text)
unfolding understood everything
plain_dacl_range = (refl, refl)

-- the UPDATE of inherited SACLs is one statement with no RETURNING, and reads no time
pub plain_sacl_range : IsPlain (understood room_schema sacl_range_text)
unfolding understood everything
plain_sacl_range = (refl, refl)
