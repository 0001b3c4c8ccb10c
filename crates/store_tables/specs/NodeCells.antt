-- The cells of a row of nodes. Its number stands in the first, and the table's key is void.
use Rattle.std.specs.Prelude.{ℕ}

abbrev pub number : ℕ
number = 0

abbrev pub parent : ℕ
parent = 2

abbrev pub name : ℕ
name = 3

abbrev pub kind : ℕ
kind = 4

abbrev pub owner : ℕ
owner = 5

abbrev pub group : ℕ
group = 6

abbrev pub dacl_flags : ℕ
dacl_flags = 7

abbrev pub sacl_flags : ℕ
sacl_flags = 8

abbrev pub dacl_own : ℕ
dacl_own = 9

abbrev pub dacl_inh : ℕ
dacl_inh = 10

abbrev pub sacl_own : ℕ
sacl_own = 11

abbrev pub sacl_inh : ℕ
sacl_inh = 12
