-- Rows of texts.
use Rattle.std.proofs.{Common.{ℕ, ◌≡◌, true, false, List, [], ◌∷◌, refl}, lemmas.Bool.and_parts}
use Rattle.std.{proofs.lemmas.Bool.{and_from, false_from_ne_true}, specs.List.list_all}
use Rattle.csv.specs.Records.{AllText}
use Rattle.room_entry.{specs.Utf8.is_utf8, proofs.Texts.passes_as_utf8}
use Rattle.room_rows.proofs.Utf8.{text_from}

pub row_passes : (fields : List (List ℕ)) → AllText fields → list_all is_utf8 fields ≡ true
unfolding AllText
row_passes [] all = refl
row_passes (field ∷ fields) all =
    and_from (is_utf8 field) (list_all is_utf8 fields) (passes_as_utf8 field all.0)
    (row_passes fields all.1)

all_text : (fields : List (List ℕ)) → list_all is_utf8 fields ≡ true → AllText fields
unfolding AllText
all_text [] all = tt
all_text (field ∷ fields) all =
    let parts = and_parts (is_utf8 field) (list_all is_utf8 fields) all in
    (text_from field parts.0, all_text fields parts.1)

pub row_fails : (fields : List (List ℕ)) → ¬ (AllText fields) → list_all is_utf8 fields ≡ false
row_fails fields isnt = false_from_ne_true _ (λ all. isnt (all_text fields all))
