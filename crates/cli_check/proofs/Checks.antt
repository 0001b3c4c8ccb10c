-- Worked rows: what is printed for one list.
use Rattle.std.proofs.Common.{ℕ, ◌≡◌, List, [], ◌∷◌, ◌++◌, refl, ap, arith, codes}
use Rattle.std.{proofs.lemmas.Fmt.decimal_digit, specs.List.flat_map}
use Rattle.room_entry.specs.{Bits.all_bits, Names.is_name, Letters.mask_letters}
use Rattle.cli_check.specs.{Check.judged, Reply.judged_text}

-- the text that is printed for lines
abbrev told : List (List ℕ) → List ℕ
told lines = judged_text (judged (flat_map (λ line. line ++ 10 ∷ []) lines))

abbrev of_anonymous : List ℕ → List (List ℕ)
of_anonymous entry =
    codes "caller:" ∷ codes "groups:" ∷ codes "owners: root:staff" ∷ codes "ask: r" ∷ codes "list:"
    ∷ entry ∷ []

denied_without_a_name : told (of_anonymous (codes "A::AUTHENTICATED@:r"))
    ≡ codes "denied bits r no entry"
unfolding all_bits mask_letters is_name
denied_without_a_name = refl

granted_without_a_name : told (of_anonymous (codes "A::ANONYMOUS@:r")) ≡ codes "granted"
unfolding all_bits mask_letters is_name
granted_without_a_name = refl

no_groups_without_a_name : told (codes "caller:" ∷ codes "groups: sales" ∷ [])
    ≡ codes "refused: line 2: K2 bad name"
unfolding all_bits mask_letters is_name
no_groups_without_a_name =
    ap (λ (line : List ℕ). codes "refused: line " ++ (line ++ codes ": K2 bad name"))
    (decimal_digit 2 (omega arith))

deny_after_allow : told
    (codes "caller: alice" ∷ codes "groups:" ∷ codes "owners: root:staff" ∷ codes "ask: rw"
    ∷ codes "list:" ∷ codes "A::alice:r" ∷ codes "D::EVERYONE@:rw" ∷ [])
    ≡ codes "denied bits w entry 2 D::EVERYONE@:rw"
unfolding all_bits mask_letters is_name
deny_after_allow =
    ap (λ (place : List ℕ). codes "denied bits w entry " ++ (place ++ codes " D::EVERYONE@:rw"))
    (decimal_digit 2 (omega arith))

inherit_only_alone : told
    (codes "caller: alice" ∷ codes "groups:" ∷ codes "owners: alice:staff" ∷ codes "ask: r"
    ∷ codes "list:" ∷ codes "A:i:alice:r" ∷ []) ≡ codes "refused: entry 1: A11 i without f or d"
unfolding all_bits mask_letters is_name
inherit_only_alone =
    ap (λ (place : List ℕ). codes "refused: entry " ++ (place ++ codes ": A11 i without f or d"))
    (decimal_digit 1 (omega arith))

headers_alone : told
    (codes "caller: alice" ∷ codes "groups:" ∷ codes "owners: root:staff" ∷ codes "ask: r" ∷ [])
    ≡ codes "refused: line 5: A6 no list line"
unfolding all_bits mask_letters is_name
headers_alone =
    ap (λ (line : List ℕ). codes "refused: line " ++ (line ++ codes ": A6 no list line"))
    (decimal_digit 5 (omega arith))
