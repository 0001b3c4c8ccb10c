-- The fields of one name, field by field.
use Rattle.std.proofs.Common.{arith, ◌≡◌, ℕ, ◌+◌, ◌<◌, Bool, true, false, List, [], ◌∷◌, ◌++◌}
use Rattle.std.proofs.Common.{length, take, get_or, refl, sym, ap, subst, ◌∙◌, if◌then◌else◌}
use Rattle.std.{proofs.lemmas.List.{append-nil, take_more}, specs.Str.str_eq_ignore_ascii_case}
use Rattle.http_message.specs.declared.{fields.Values.Values, head.Field.Field}
use Rattle.http_message.specs.{Fields.field_values, Values.AreValues}

if-append : (b : Bool) (name : List ℕ) (f : Field) (fs gs : List Field)
    → field_values name (fs ++ gs) ≡ field_values name fs ++ field_values name gs
    → (if b then f.value ∷ field_values name (fs ++ gs) else field_values name (fs ++ gs))
    ≡ (if b then f.value ∷ field_values name fs else field_values name fs) ++ field_values name gs
if-append true name f fs gs ih = ap (λ t. f.value ∷ t) ih
if-append false name f fs gs ih = ih

field_values-append : (name : List ℕ) (fs : List Field) (gs : List Field)
    → field_values name (fs ++ gs) ≡ field_values name fs ++ field_values name gs
field_values-append name [] gs = refl
field_values-append name (f ∷ fs) gs =
    if-append (str_eq_ignore_ascii_case f.name name) name f fs gs (field_values-append name fs gs)

-- the fields up to the next one
values-then : (name : List ℕ) (fields : List Field) (i : ℕ) (f : Field) → i < length fields
    → f ≡ get_or fields i f
    → field_values name (take (i + 1) fields) ≡ field_values name (take i fields)
    ++ field_values name (f ∷ [])
values-then name fields i f lt is =
    ap (field_values name) (take_more fields i f lt ∙ ap (λ x. take i fields ++ x ∷ []) (sym is))
    ∙ field_values-append name (take i fields) (f ∷ [])

-- a field of another name, read through a copy of its name
pub values-other : (name read : List ℕ) (same : Bool) (fields : List Field) (i : ℕ) (f : Field)
    (found : Values)
    → i < length fields → f ≡ get_or fields i f → read ≡ f.name
    → same ≡ str_eq_ignore_ascii_case read name → same ≡ false
    → AreValues (field_values name (take i fields)) found
    → AreValues (field_values name (take (i + 1) fields)) found
values-other name read same fields i f found lt is reads tests off have =
    let before = field_values name (take i fields) in
    let other : str_eq_ignore_ascii_case f.name name ≡ false = grind (arith, reads, tests, off) in
    let one : field_values name (f ∷ []) ≡ [] = grind (arith, f.value, other) in
    let all : field_values name (take (i + 1) fields) ≡ before =
    values-then name fields i f lt is ∙ ap (λ t. before ++ t) one ∙ append-nil before in
    subst (λ t. AreValues t found) (sym all) have

-- a field of this name
pub values-same : (name read value : List ℕ) (same : Bool) (fields : List Field) (i : ℕ) (f : Field)
    (next : Values)
    → i < length fields → f ≡ get_or fields i f → read ≡ f.name
    → same ≡ str_eq_ignore_ascii_case read name → same ≡ true
    → value ≡ f.value
    → AreValues (field_values name (take i fields) ++ value ∷ []) next
    → AreValues (field_values name (take (i + 1) fields)) next
values-same name read value same fields i f next lt is reads tests on valued have =
    let before = field_values name (take i fields) in
    let alike : str_eq_ignore_ascii_case f.name name ≡ true = grind (arith, reads, tests, on) in
    let one : field_values name (f ∷ []) ≡ f.value ∷ [] = grind (arith, f.value, alike) in
    grind (arith, before, f.value, values-then, f, lt, is, one, next, valued, have)
