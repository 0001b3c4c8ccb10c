-- What the first bytes of a file tell.
use Rattle.std.specs.Prelude.{ℕ, List, [], ◌∷◌}
use Rattle.memchr.specs.Find.{OccursAt}

-- a text stands somewhere in the bytes
abbrev pub Stands : List ℕ → List ℕ → Type 0
Stands text bytes = (place : ℕ) × OccursAt bytes text place

-- they begin as a database of SQLite does: 'SQLite format 3', and a zero
abbrev pub begins_database : List ℕ → Type 0
begins_database bytes = OccursAt bytes
    (83 ∷ 81 ∷ 76 ∷ 105 ∷ 116 ∷ 101 ∷ 32 ∷ 102 ∷ 111 ∷ 114 ∷ 109 ∷ 97 ∷ 116 ∷ 32 ∷ 51 ∷ 0 ∷ []) 0

-- the names of a room's tables stand in them: nodes, bodies, members, audits
abbrev pub names_tables : List ℕ → Type 0
names_tables bytes = Stands (110 ∷ 111 ∷ 100 ∷ 101 ∷ 115 ∷ []) bytes
    × Stands (98 ∷ 111 ∷ 100 ∷ 105 ∷ 101 ∷ 115 ∷ []) bytes
    × Stands (109 ∷ 101 ∷ 109 ∷ 98 ∷ 101 ∷ 114 ∷ 115 ∷ []) bytes
    × Stands (97 ∷ 117 ∷ 100 ∷ 105 ∷ 116 ∷ 115 ∷ []) bytes
