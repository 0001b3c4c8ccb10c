-- What reading the bytes of a number answers.
use Rattle.std.proofs.Common.{rules, ◌≡◌, ◌<◌, ℕ, pos, List, [], ◌∷◌, map, filter, find, Some, inl}
use Rattle.std.proofs.Common.{inr, ◌⊎◌, refl, sym, ap, subst, ◌∙◌, option_map, IsPermutation, arith}
use Rattle.std.{proofs.lemmas.Bool.Decides.nat_tests, specs.Prelude.{◌==◌, option_and_then}}
use Rattle.sqlite.specs.declared.types.Value.{Value, TheVariants.{Null, Int, Real, Text, Blob}}
use Rattle.sqlite.specs.{Order.{Row, column}, Tree.{rowid, has_rowid}, Effect.Database}
use Rattle.sqlite.proofs.Callers.{one_permutation}
use Rattle.room_rows.specs.Keep.{IsBodyOf, IsNever}
use Rattle.store_tables.specs.{Filed.body_rowid, Keyed.find_key, Meaning.{body_in, number_in}}
use Rattle.store_tables.specs.{Meaning.rows_of, RoomRows.number_in-low, Seeing.result_of_seen}
use Rattle.store_tables.specs.{Seeing.{bytes_as, bytes_seen}, Shown.IsRoom, Statements.HasBytes}
use Rattle.store_tables.{specs.Statements.shown_bytes, proofs.Nodes.{Tells, none_passes}}
use Rattle.store_tables.proofs.Rowids.{alone_in, at_most_one, has_found, of_each, only_one}
use Rattle.store_tables.proofs.Rowids.{rowid_is}
use Rattle.room_rows.specs.Content as content

abbrev Blobbed : Type 0
Blobbed = ℕ × List ℕ

pub found_bytes : (id : ℕ) (rows : List Blobbed)
    → content.body_at rows id
    ≡ option_map (λ (x : Blobbed). x.1) (find (λ (x : Blobbed). x.0 == id) rows)
found_bytes id [] = refl
found_bytes id (row ∷ rows) = grind (arith, nat_tests, found_bytes id rows)

module _ (db : Database) (room : IsRoom db) (id : ℕ) (low : 0 < id) where
  body_at : content.body_of (rows_of db).read id
      ≡ option_map (λ (x : Blobbed). x.1)
      (option_and_then body_in (find (has_rowid (pos id)) (db.trees 2)))
  body_at =
      found_bytes id _ ∙ ap (option_map (λ (x : Blobbed). x.1))
      (find_key body_in (λ (x : Blobbed). x.0) body_rowid id (db.trees 2) room.bodies.0)

  blob_told : (r : Row) → find (has_rowid (pos id)) (db.trees 2) ≡ Some r
      → number_in (rowid r) ≡ Some id → (v : Value) → column r 2 ≡ v
      → Tells IsNever (IsBodyOf id) (rows_of db) (result_of_seen (bytes_as v))
  blob_told r found number (Blob bytes) is = grind (arith, nat_tests, body_at)
  blob_told r found number Null is = tt
  blob_told r found number (Int n) is = tt
  blob_told r found number (Real x) is = tt
  blob_told r found number (Text t) is = tt

  pub tells_bytes : (rows : List Row) → HasBytes (pos id) db.trees rows
      → Tells IsNever (IsBodyOf id) (rows_of db) (result_of_seen (bytes_seen rows))
  tells_bytes rows perm = by (at_most_one (pos id) (db.trees 2) room.bodies.0)
    where
      by : ((filter (has_rowid (pos id)) (db.trees 2) ≡ [])
          ⊎ ((r : Row) × (filter (has_rowid (pos id)) (db.trees 2) ≡ r ∷ [])))
          → Tells IsNever (IsBodyOf id) (rows_of db) (result_of_seen (bytes_seen rows))
      by (inl none) =
          let empty = alone_in rows
          (subst (λ l. IsPermutation (map shown_bytes l) rows) none perm) in
          subst (λ l. Tells IsNever (IsBodyOf id) (rows_of db) (result_of_seen (bytes_seen l)))
          (sym empty) (search (rules, body_at, option_map, none_passes, pos))
      by (inr (r, one)) =
          let there = only_one (has_rowid (pos id)) (db.trees 2) r one in
          let is = rowid_is (pos id) r
          (of_each _ (db.trees 2) room.bodies.1 r
          (has_found (has_rowid (pos id)) (db.trees 2) r there.0)) there.1 in
          let alone = one_permutation (shown_bytes r) rows
          (subst (λ l. IsPermutation (map shown_bytes l) rows) one perm) in
          subst (λ l. Tells IsNever (IsBodyOf id) (rows_of db) (result_of_seen (bytes_seen l)))
          (sym alone)
          (blob_told r there.0 (ap number_in is ∙ number_in-low id low) (column r 2) refl)
