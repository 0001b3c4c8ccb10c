-- What the rows mean once a record is put in.
use Rattle.std.proofs.Common.{◌≡◌, ℕ, ℤ, pos, List, [], ◌∷◌, Some, refl, ap, Bool, true, false}
use Rattle.std.proofs.{Common.arith, lemmas.List.Elements.filter_map-append}
use Rattle.std.{proofs.lemmas.Bool.Decides.nat_tests, specs.Prelude.{option_map, if◌then◌else◌}}
use Rattle.sqlite.specs.{declared.types.Value.TheVariants.{Int, Text}, Effect.Database}
use Rattle.room_entry.specs.Names.{is_name}
use Rattle.room_rows.specs.declared.node.AuditRow.{AuditRow}
use Rattle.store_tables.specs.{declared.columns.Record.Record, Columns.{Recalls, record_values}}
use Rattle.store_tables.specs.Meaning.{audit_in, granted_in, name_in, user_in}
use Rattle.store_tables.specs.{Shown.{AddsRecordRow, stored_record}, Trust.HasNoted}
use Rattle.store_tables.proofs.Removed.{same_rows}

-- ---- a record that is stored is read back

pub user_named : (text name : List ℕ) → name_in (Text text) ≡ Some name
    → user_in (Text text) ≡ Some (Some name)
unfolding is_name
user_named [] name is = absurd (let e = is in cc)
user_named (b ∷ text) name is = ap (option_map Some) is

granted_back : (b : Bool) → granted_in (Int (if b then pos 1 else pos 0)) ≡ Some b
granted_back true = refl
granted_back false = refl

pub recalled : (seq : ℤ) (a : AuditRow) (r : Record) → Recalls a r
    → audit_in (stored_record seq (record_values r)) ≡ Some a
recalled seq a r s =
    rw (granted_back r.granted, s.user, s.path, s.bits, s.entry, s.at, s.granted) refl

pub noted_rows : (db now : Database) (a : AuditRow) (r : Record) → Recalls a r
    → AddsRecordRow (record_values r) db.trees now.trees → HasNoted a db now
noted_rows db now a r recalls put = grind (arith, nat_tests, filter_map-append, recalled, same_rows)
