-- Texts of paths that part: one that goes on, and two that go on by different names.
use Rattle.std.proofs.Common.{rules, ◌≡◌, ℕ, ◌<◌, true, false, List, [], ◌∷◌, ◌++◌, length, refl}
use Rattle.std.proofs.{Common.{sym, ap, ◌∙◌, arith, length-append}, lemmas.Bool.and_parts}
use Rattle.std.proofs.lemmas.Bool.{false≢true, false_from_ne_true, Decides.nat_tests}
use Rattle.std.{proofs.lemmas.{Grind.flat_map-append, List.append_cancel_left}, specs.List.flat_map}
use Rattle.std.specs.List.{list_all}
use Rattle.room_entry.{specs.Pieces.same_text, proofs.{Alike.text_itself, Texts.same_text-true}}
use Rattle.room_rows.specs.Paths.{is_name_byte, is_object_name, path_text}

-- ---- object names

-- it has bytes, and each is one that a name may have
name_parts : (name : List ℕ) → is_object_name name ≡ true
    → (0 < length name) × (list_all is_name_byte name ≡ true)
name_parts name is = grind (arith, nat_tests)

-- ---- the text of a path

-- a `/` before each name
abbrev slashed : List (List ℕ) → List ℕ
slashed names = flat_map (λ n. 47 ∷ n) names

-- a path that goes on by a name
goes_on : (at : List (List ℕ)) (name : List ℕ) (more : List (List ℕ))
    → path_text (at ++ name ∷ more) ≡ slashed at ++ slashed (name ∷ more)
goes_on [] name more = refl
goes_on (next ∷ at) name more = flat_map-append (λ n. 47 ∷ n) (next ∷ at) (name ∷ more)

-- its text is longer
longer : (at : List (List ℕ)) (name : List ℕ) (more : List (List ℕ)) → 0 < length name
    → length (path_text (at ++ name ∷ more)) ≡ length (path_text at) → ⊥
longer [] name more some same = search (rules, length-append, some, same)
longer (next ∷ at) name more some same =
    let added = ap length (goes_on (next ∷ at) name more)
    ∙ length-append (slashed (next ∷ at)) (slashed (name ∷ more)) in
    omega (arith, same, added)

-- so it is another text
pub goes_further : (at : List (List ℕ)) (name : List ℕ) (more : List (List ℕ))
    → is_object_name name ≡ true
    → same_text (path_text (at ++ name ∷ more)) (path_text at) ≡ false
goes_further at name more is =
    false_from_ne_true _ (λ same. longer at name more (name_parts name is).0
    (ap length (same_text-true (path_text (at ++ name ∷ more)) (path_text at) same)))

-- ---- two names

no_slash : (b : ℕ) → is_name_byte b ≡ true → b ≡ 47 → ⊥
no_slash b is e = false≢true (ap is_name_byte (sym e) ∙ is)

-- a name ends where a `/` or nothing follows
same_names : (name other : List ℕ) (more rest : List (List ℕ))
    → list_all is_name_byte name ≡ true → list_all is_name_byte other ≡ true
    → name ++ slashed more ≡ other ++ slashed rest → name ≡ other
same_names [] [] more rest first second same = refl
same_names [] (y ∷ ys) [] rest first second same = absurd (let wrong : ⊥ = cc in wrong)
same_names [] (y ∷ ys) (next ∷ more) rest first second same =
    search (rules, no_slash, and_parts, second)
same_names (x ∷ xs) [] more [] first second same = absurd (let wrong : ⊥ = cc in wrong)
same_names (x ∷ xs) [] more (next ∷ rest) first second same = search (rules, no_slash, and_parts)
same_names (x ∷ xs) (y ∷ ys) more rest first second same =
    search (rules, and_parts, second, same_names xs ys more rest)

-- paths that go on by different names have different texts
pub goes_apart : (at : List (List ℕ)) (name other : List ℕ) (more rest : List (List ℕ))
    → is_object_name name ≡ true → is_object_name other ≡ true → same_text name other ≡ false
    → same_text (path_text (at ++ name ∷ more)) (path_text (at ++ other ∷ rest)) ≡ false
goes_apart at name other more rest is also apart =
    grind (
      arith,
      nat_tests,
      append_cancel_left,
      goes_on,
      name_parts,
      same_names,
      same_text-true,
      text_itself,
    )
