-- The cells of a row of meta.
use Rattle.std.specs.Prelude.{ℕ}

abbrev pub key : ℕ
key = 1

abbrev pub value : ℕ
value = 2
