-- What the types of the columns say of a row of nodes.
use Rattle.std.proofs.Common.{◌≡◌, ℕ, pos, drop, Some, inl, refl, ap, subst, true, is_eq, arith}
use Rattle.std.proofs.lemmas.Bool.{and_parts, Decides.nat_tests}
use Rattle.sqlite.specs.{declared.types.Value.{Value, TheVariants.{Null, Int}}, Effect.Database}
use Rattle.sqlite.specs.Order.{Row, column, value_cmp}
use Rattle.sqlite_rules.{specs.Lists.Has, proofs.RuleLemmas.keeps_at}
use Rattle.sqlite_schema.specs.Rules.{are_typed, is_of}
use Rattle.sqlite_schema.specs.declared.schema.Constraint.TheVariants.{Datatype}
use Rattle.sqlite_value.proofs.OrderLemmas.{value_cmp-Null}
use Rattle.store_tables.{specs.{Shown.IsRoom, Tables.{nodes, room_schema}}, proofs.Rowids.same_int}
use Rattle.sqlite.specs.Kind.TheVariants as kind

is_nodes : Has room_schema.tables (record nodes { tree = 0 })
is_nodes = inl refl

-- each cell is of the type of its column, or NULL
pub row_typed : (db : Database) → IsRoom db → (r : Row) → Has (db.trees 0) r
    → are_typed (Some 0) 0 nodes.columns (drop 1 r) ≡ true
row_typed db room r there =
    let sound = subst (λ s. Rattle.sqlite_catalog.specs.Listing.IsSound s db.trees) room.schema
    room.sound in
    let kept = keeps_at Datatype room_schema db.trees (record nodes { tree = 0 }) r
    (sound.obeys.rules Datatype) is_nodes there in
    (and_parts _ _ kept).0

parent_typed : (r : Row) → are_typed (Some 0) 0 nodes.columns (drop 1 r) ≡ true
    → is_of kind.Integer (column r 2) ≡ true
parent_typed r typed = grind (arith, nat_tests)

same_whole : (v : Value) (n : ℕ) → is_of kind.Integer v ≡ true
    → is_eq (value_cmp v (Int (pos n))) ≡ true → v ≡ Int (pos n)
same_whole Null n typed same = grind (arith, nat_tests, value_cmp-Null)
same_whole (Int z) n typed same = ap Int (same_int z (pos n) same)
same_whole _ n typed same = absurd (cc)

-- a parent that equals a number is that number
pub parent_whole : (db : Database) → IsRoom db → (r : Row) → Has (db.trees 0) r → (n : ℕ)
    → is_eq (value_cmp (column r 2) (Int (pos n))) ≡ true → column r 2 ≡ Int (pos n)
parent_whole db room r there n same = search (parent_typed, row_typed, same_whole)
