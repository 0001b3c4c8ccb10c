-- The number that a new row gets.
use Rattle.std.proofs.Common.{◌≡◌, ℕ, pos, List, [], ◌∷◌, find, None, refl, false, arith}
use Rattle.std.{proofs.lemmas.Bool.Decides.nat_tests, specs.List.AllByRecursion}
use Rattle.sqlite.specs.{declared.types.Value.TheVariants.Int, Order.Row, Tree.has_rowid}
use Rattle.sqlite.specs.Edit.{is_taken}

pub none_taken : (m : ℕ) (cells : Row) (rows : List Row)
    → is_taken rows (Int (pos m) ∷ cells) ≡ false
    → AllByRecursion (λ r. has_rowid (pos m) r ≡ false) rows
    × (find (has_rowid (pos m)) rows ≡ None)
none_taken m cells [] free = (tt, refl)
none_taken m cells (r ∷ rows) free = grind (arith, nat_tests, none_taken m cells rows)
