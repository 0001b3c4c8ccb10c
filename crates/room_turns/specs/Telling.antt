-- The rows of objects, by what is kept of them for each caller.
use Rattle.std.specs.Prelude.{ℕ, ◌||◌, Bool, true, false, not, List, [], ◌∷◌, ◌++◌, filter, map}
use Rattle.std.specs.Prelude.{if◌then◌else◌}
use Rattle.std.specs.List.{flat_map, zip}
use Rattle.room_entry.specs.Letters.{mask_text}
use Rattle.room_dump.specs.Dump.{shown}
use Rattle.room_review.specs.declared.parties.Party.{Party}
use Rattle.room_answer.specs.Answer.{kind_word, unknown, yes_or_no}
use Rattle.room_turns.specs.declared.spot.Stand.{Stand}
use Rattle.room_turns.specs.declared.spot.Told.{Told}

abbrev pub line : Told → Party × Stand → List (List ℕ)
line told caller =
    shown told.path ∷ kind_word told.kind ∷ caller.0.label
    ∷ mask_text caller.1.had_rights ∷ yes_or_no caller.1.had_remove
    ∷ mask_text caller.1.standing.rights ∷ yes_or_no caller.1.standing.remove ∷ []

-- of all callers, or of those whose row at the folder doesn't say it already
abbrev pub lines_of : Bool → Told → List (Party × Stand) → List (List (List ℕ))
lines_of all told callers =
    map (line told) (filter (λ caller. all || not caller.1.repeats) callers)

abbrev pub told_rows : List Party → Bool → Told → List (List (List ℕ))
told_rows parties all told =
    if told.spot.clear then lines_of all told (zip parties told.spot.stands) else
    (if all || told.spot.follows then unknown (shown told.path) told.kind ∷ [] else [])

-- of the first object all rows
abbrev pub rows_told : List Party → List Told → List (List (List ℕ))
rows_told parties [] = []
rows_told parties (told ∷ more) =
    told_rows parties true told ++ flat_map (told_rows parties false) more
