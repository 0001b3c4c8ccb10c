-- The cells of a row of members.
use Rattle.std.specs.Prelude.{ℕ}

abbrev pub group : ℕ
group = 1

abbrev pub user : ℕ
user = 2
