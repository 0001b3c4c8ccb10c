-- Equal entries are the same, and a turn of a comparison.
use Rattle.std.proofs.Common.{ℕ, ◌≡◌, suc, Bool, true, false, ◌&&◌, List, [], ◌∷◌, length, refl}
use Rattle.std.proofs.{Common.{sym, ap, ◌∙◌, arith}, lemmas.Bool.{and_from, Decides.nat_tests}}
use Rattle.std.specs.Cmp.Lexicographic.{same_text as text_equal, bytes_decides}
use Rattle.room_entry.specs.{Pieces.same_text, Ace.Ace, Same.{same_entry, same_entries}}

-- the test of the same texts gives true for a text and itself
pub text_itself : (xs : List ℕ) → same_text xs xs ≡ true
text_itself xs = (bytes_decides xs xs).1 refl

-- a test of equality is one of texts, where no two values have the same text
pub by_texts : {A : Type 0} (text : A → List ℕ) → ((a b : A) → text a ≡ text b → a ≡ b)
    → (a b : A) (r : Bool) → (r ≡ true → a ≡ b) → (a ≡ b → r ≡ true)
    → r ≡ same_text (text a) (text b)
by_texts {A} text apart a b r says said = on r (same_text (text a) (text b)) refl says said
  where
    on : (r t : Bool) → same_text (text a) (text b) ≡ t → (r ≡ true → a ≡ b) → (a ≡ b → r ≡ true)
        → r ≡ t
    on true true is says said = refl
    on true false is says said = sym is' ∙ is
      where
        is' : same_text (text a) (text b) ≡ true
        is' = (bytes_decides (text a) (text b)).1 (ap text (says refl))
    on false true is says said = said (apart a b (text_equal (text a) (text b) (sym is)))
    on false false is says said = refl

entry_itself : (a : Ace) → same_entry a a ≡ true
entry_itself a = grind (arith, nat_tests, text_itself)

-- a list of entries is the same as itself
pub entries_themselves : (xs : List Ace) → same_entries xs xs ≡ true
entries_themselves [] = refl
entries_themselves (x ∷ xs) = and_from _ _ (entry_itself x) (entries_themselves xs)

-- equal lists of entries pass `same_entries`, the other way from `entries_equal`
pub equal_entries : (xs ys : List Ace) → xs ≡ ys → same_entries xs ys ≡ true
equal_entries xs ys e = ap (same_entries xs) (sym e) ∙ entries_themselves xs

-- lists of two lengths
pub not_as_long : (xs ys : List Ace) → (length xs ≡ length ys → ⊥) → false ≡ same_entries xs ys
not_as_long [] [] apart = absurd (apart refl)
not_as_long [] (y ∷ ys) apart = refl
not_as_long (x ∷ xs) [] apart = refl
not_as_long (x ∷ xs) (y ∷ ys) apart =
    on (same_entry x y) (not_as_long xs ys (λ e. apart (ap suc e)))
  where
    on : (t : Bool) → false ≡ same_entries xs ys → false ≡ (t && same_entries xs ys)
    on true rest = rest
    on false rest = refl
