-- The rows of an object, by what is kept of it for each caller.
use Rattle.std.specs.Prelude.{ℕ, ◌||◌, Bool, not, List, [], ◌∷◌, filter, map}
use Rattle.room_entry.specs.Letters.{mask_text}
use Rattle.room_entry.specs.declared.object.ObjKind.{ObjKind}
use Rattle.room_review.specs.declared.parties.Party.{Party}
use Rattle.room_review.specs.declared.standing.Standing.{Standing}
use Rattle.room_review.specs.Table.{kind_word, yes_or_no}

abbrev pub line : List ℕ → ObjKind → Party × Standing → List (List ℕ)
line path kind caller =
    path ∷ kind_word kind ∷ caller.0.label ∷ mask_text caller.1.rights
    ∷ yes_or_no caller.1.remove ∷ []

-- those of all callers, or of those who have other rights at the folder
abbrev pub lines : List ℕ → ObjKind → Bool → List (Party × Standing) → List (List (List ℕ))
lines path kind all callers =
    map (line path kind) (filter (λ caller. all || not caller.1.repeats) callers)
