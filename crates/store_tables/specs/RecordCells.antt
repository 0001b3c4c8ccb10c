-- The cells of a row of audits.
use Rattle.std.specs.Prelude.{ℕ}

abbrev pub at : ℕ
at = 2

abbrev pub user : ℕ
user = 3

abbrev pub path : ℕ
path = 4

abbrev pub bits : ℕ
bits = 5

abbrev pub granted : ℕ
granted = 6

abbrev pub place : ℕ
place = 7
