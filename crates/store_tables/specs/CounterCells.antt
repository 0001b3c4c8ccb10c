-- The cells of a row of `sqlite_sequence`.
use Rattle.std.specs.Prelude.{ℕ}

abbrev pub table : ℕ
table = 1

abbrev pub number : ℕ
number = 2
