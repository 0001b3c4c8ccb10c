-- A text cut at a separator, and names by their parts.
use Rattle.std.proofs.Common.{ℕ, ◌+◌, ◌<◌, ◌≤◌, ◌≡◌, Bool, false, cond, ◌&&◌, eqb, List, [], ◌∷◌}
use Rattle.std.proofs.Common.{Some, None, refl, ap, ◌∙◌, inl, inr, arith, length, take, drop}
use Rattle.std.proofs.lemmas.{Bool.{cases_Bool, Decides.nat_tests}, List.Splits.slice_split_first}
use Rattle.std.proofs.lemmas.List.Splits.{length-slice_split}
use Rattle.std.specs.{Prelude.{◌==◌, nat_lt}, List.{slice_split, position, position_or_len}}
use Rattle.room_entry.specs.{Pieces.pieces, Names.{is_name, is_part, is_local_byte, is_domain_byte}}
use Rattle.room_entry.specs.Names.{are_name_parts}

-- what `position` gives, as the place and its bound
pub place_of : (n m i : ℕ) → cond (nat_lt n m) (Some n) None ≡ Some i → (n < m) × (n ≡ i)
place_of n m i found = grind (arith, nat_tests)

-- where `position` gives none, the place isn't below the bound
pub none_of : (n m : ℕ) → cond (nat_lt n m) (Some n) None ≡ None → m ≤ n
none_of n m found = grind (arith, nat_tests)

-- where no byte is the separator, the text is the one piece
pub pieces_whole : (p : ℕ → Bool) (xs : List ℕ) → length xs ≤ position_or_len p xs
    → slice_split p xs ≡ xs ∷ []
pieces_whole p [] whole = refl
pieces_whole p (x ∷ xs) whole =
    elim (cases_Bool (p x)) [
      | inl e ↦ (let wrong = rw e at whole in absurd (omega arith))
      | inr e ↦ (let rest = rw e at whole in rw (e, pieces_whole p xs (omega arith)) refl)
    ]

-- no separator stands in the bytes
pub not_cut : (c : ℕ) (bytes : List ℕ) → None ≡ position (λ byte. byte == c) bytes
    → pieces c bytes ≡ bytes ∷ []
not_cut c bytes none = grind (arith, nat_tests, none_of, pieces_whole)

-- the first separator stands at this place
pub cut_at : (c : ℕ) (bytes : List ℕ) (i : ℕ) → Some i ≡ position (λ byte. byte == c) bytes
    → (i < length bytes) × (pieces c bytes ≡ take i bytes ∷ pieces c (drop (i + 1) bytes))
cut_at c bytes i found = grind (arith, nat_tests, place_of, slice_split_first)

-- there is at least one piece
pub length-pieces : (c : ℕ) (bs : List ℕ) → 0 < length (pieces c bs)
length-pieces c bs = let e = length-slice_split (λ b. eqb b c) bs in omega arith

-- ---- names

-- a text without `@` is a name exactly if it is a local part
pub name_alone : (text : List ℕ) → pieces 64 text ≡ text ∷ []
    → is_name text ≡ is_part is_local_byte text
unfolding is_name
name_alone text e = ap are_name_parts e

-- a text with one `@` is a name exactly if a local part is before it and a domain after it
pub name_with_domain : (text local rest : List ℕ) → pieces 64 text ≡ local ∷ pieces 64 rest
    → pieces 64 rest ≡ rest ∷ []
    → is_name text ≡ (is_part is_local_byte local && is_part is_domain_byte rest)
unfolding is_name
name_with_domain text local rest e f =
    ap are_name_parts (e ∙ ap (λ (ps : List (List ℕ)). local ∷ ps) f)

three_parts : (a b : List ℕ) (ps : List (List ℕ)) → 0 < length ps
    → are_name_parts (a ∷ b ∷ ps) ≡ false
three_parts a b [] some = absurd (omega arith)
three_parts a b (p ∷ ps) some = refl

-- a text with more than one `@` is no name
pub no_name : (text local rest domain more : List ℕ) → pieces 64 text ≡ local ∷ pieces 64 rest
    → pieces 64 rest ≡ domain ∷ pieces 64 more → is_name text ≡ false
unfolding is_name
no_name text local rest domain more e f =
    ap are_name_parts (e ∙ ap (λ (ps : List (List ℕ)). local ∷ ps) f)
    ∙ three_parts local domain (pieces 64 more) (length-pieces 64 more)
