-- The cells of a row of bodies.
use Rattle.std.specs.Prelude.{ℕ}

abbrev pub number : ℕ
number = 0

abbrev pub bytes : ℕ
bytes = 2
