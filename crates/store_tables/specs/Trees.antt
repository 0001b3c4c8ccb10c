-- The tree of each table. Between them lie those of the indexes.
use Rattle.std.specs.Prelude.{ℕ}

abbrev pub nodes : ℕ
nodes = 0

abbrev pub bodies : ℕ
bodies = 2

abbrev pub members : ℕ
members = 3

abbrev pub meta : ℕ
meta = 5

abbrev pub audits : ℕ
audits = 7

abbrev pub counters : ℕ
counters = 8
