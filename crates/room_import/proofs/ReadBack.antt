-- Pairs that are written are read back.
use Rattle.std.proofs.Common.{ℕ, zero, suc, ◌≡◌, ◌+◌, ◌≤◌, ◌<◌, true, cond, not, ◌&&◌, List, []}
use Rattle.std.proofs.Common.{◌∷◌, ◌++◌, map, length, Ok, refl, sym, ap, ◌∙◌, arith, append_assoc}
use Rattle.std.proofs.{Common.append-nil, lemmas.Bool.{and_parts, and_from, not-true, cond-true}}
use Rattle.std.{proofs.lemmas.{Bool.{cond-false, le-ltb}, List.length-append}, specs.List.list_any}
use Rattle.csv.specs.{Machine.next_record, Reading.{records, records_from, default_config}}
use Rattle.csv.specs.{Reading.strip_bom, Writing.{row_text, row_body, default_writer, read_back}}
use Rattle.csv.{specs.Writing.{escaped, fields_text, is_blank}, proofs.RoundTrip.read-write}
use Rattle.room_entry.{specs.{Names.is_name, Utf8.is_utf8}, proofs.Visible.name_text}
use Rattle.room_import.specs.Groups.{group_header, pair_of_row, pairs_after, pairs_of_rows}
use Rattle.room_import.specs.{Groups.same_pair, Exports.{rows_text, pair_row, are_new}}
use Rattle.room_import.specs.Exports.{GroupsReadBack}
use Rattle.csv.specs.declared.parser.State.TheVariants as st

-- ---- rows

-- a row has a byte
some_byte : (row : List (List ℕ)) → 1 ≤ length (row_text default_writer row)
some_byte row =
    ends (row_body default_writer row) (cond (is_blank default_writer row) (34 ∷ 34 ∷ []) [])
  where
    ends : (front marks : List ℕ) → 1 ≤ length (front ++ (marks ++ 10 ∷ []))
    ends front marks =
        omega (arith, length-append front (marks ++ 10 ∷ []), length-append marks (10 ∷ []))

enough : (rows : List (List (List ℕ))) → length rows ≤ length (rows_text rows)
enough [] = omega arith
enough (row ∷ rows) =
    omega (
      arith,
      some_byte row,
      enough rows,
      length-append (row_text default_writer row) (rows_text rows),
    )

rows_read : (n : ℕ) (rows : List (List (List ℕ))) → length rows ≤ n
    → records_from default_config n st.StartRecord (rows_text rows) ≡ map read_back rows
unfolding records_from next_record
rows_read zero [] most = refl
rows_read zero (row ∷ rows) most = absurd (omega (arith, most))
rows_read (suc n) [] most = refl
rows_read (suc n) (row ∷ rows) most =
    rw (read-write row (rows_text rows))
    (ap (λ (t : List (List (List ℕ))). read_back row ∷ t) (rows_read n rows (omega (arith, most))))

all_read : (rows : List (List (List ℕ)))
    → records default_config (rows_text rows) ≡ map read_back rows
all_read rows = rows_read (length (rows_text rows) + 1) rows (omega (arith, enough rows))

-- ---- pairs

-- one more pair of names that is new
pair_read : (row : ℕ) (pair : List ℕ × List ℕ) → row < 20002
    → (is_name pair.0 && is_name pair.1) ≡ true → pair_of_row row (pair_row pair) ≡ Ok pair
pair_read row pair below names =
    let both = and_parts (is_name pair.0) (is_name pair.1) names in
    cond-false _ _ _ (le-ltb 20001 row (omega (arith, below)))
    ∙ cond-true _ _ _ (and_from (is_utf8 pair.0) (is_utf8 pair.1 && true) (name_text pair.0 both.0)
    (and_from (is_utf8 pair.1) true (name_text pair.1 both.1) refl))
    ∙ cond-true _ _ _ names

pairs_read : (before : List (List ℕ × List ℕ)) (row : ℕ) (pairs : List (List ℕ × List ℕ))
    → row + length pairs ≤ 20002 → are_new before pairs ≡ true
    → pairs_after before row (map read_back (map pair_row pairs)) ≡ Ok (before ++ pairs)
pairs_read before row [] most new = ap (λ ps. Ok ps) (sym (append-nil before))
pairs_read before row (pair ∷ pairs) most new =
    let parts = and_parts (is_name pair.0 && is_name pair.1) _ new in
    let fresh = and_parts (not (list_any (same_pair pair) before))
    (are_new (before ++ pair ∷ []) pairs) parts.1 in
    rw (
      pair_read row pair (omega (arith, most)) parts.0,
      not-true (list_any (same_pair pair) before) fresh.0,
    )
    (pairs_read (before ++ pair ∷ []) (row + 1) pairs (omega (arith, most)) fresh.1
    ∙ ap (λ ps. Ok ps) (append_assoc before (pair ∷ []) pairs))

no_mark : (rest : List ℕ)
    → strip_bom (row_text default_writer group_header ++ rest)
    ≡ row_text default_writer group_header ++ rest
unfolding strip_bom escaped fields_text is_blank
no_mark rest = refl

pub groups_read_back : GroupsReadBack
groups_read_back pairs most new =
    ap (λ bytes. pairs_of_rows (records default_config bytes))
    (no_mark (rows_text (map pair_row pairs)))
    ∙ ap pairs_of_rows (all_read (group_header ∷ map pair_row pairs))
    ∙ pairs_read [] 2 pairs (omega (arith, most)) new
