-- Rows of matches: uses without fault leave each row with values that passed the parser of its
-- argument.
use Rattle.std.proofs.Common.{◌≡◌, ◌∙◌, ap, sym, refl, true, false, Bool, cond, List, [], ◌∷◌, ◌++◌}
use Rattle.std.proofs.Common.{◌||◌, ◌&&◌, Option, Some, None, length, arith, true≢false, rules}
use Rattle.std.proofs.lemmas.Bool.{cond_both, or_cases, false≢true, ne_eqb}
use Rattle.std.{proofs.lemmas.Slice.Eq.bytes_eq-Decides, specs.Prelude.{IfSome, find, nat_lt, ◌⊎◌}}
use Rattle.std.specs.{List.{AllByRecursion as Each, list_any}, Option.option_map_or, Str.bytes_eq}
use Rattle.clap.specs.{Facts.unwrap_or_range, Faults.{action_fault, use_fault, values_fault}}
use Rattle.clap.specs.Kinds.{Kinds, or_else, range_kinds, value_kinds, values_kinds}
use Rattle.clap.specs.{Takes.value_passes, ValueTests.accepts, Walk.{Row, Rule, Text, action_of}}
use Rattle.clap.specs.Walk.{is_empty, more_values, most_values, reading_by, used, used_as}
use Rattle.clap.specs.Walk.{used_by_id, values_or_missing, with_values, without}
use Rattle.clap.specs.declared.builder.action.ArgAction.{ArgAction}
use Rattle.clap.specs.declared.builder.value_parser.{ValueParser.ValueParser, Reading.Reading}
use Rattle.clap.specs.declared.parser.matches.ValueSource.{ValueSource, TheVariants.CommandLine}
use Rattle.room_entry.proofs.Facts.Members.{each_append, each_weaker}
use Rattle.clap.specs.declared.builder.action.ArgAction.TheVariants as action

-- ---- lists

found_or : {X : Type 0} (P : X → Type 0) (test : Bool) (x : X) (found : Option X) → P x
    → IfSome found P → IfSome (cond test (Some x) found) P
found_or P true x found here later = here
found_or P false x found here later = later

pub found_each : {X : Type 0} (P : X → Type 0) (test : X → Bool) (xs : List X) → Each P xs
    → IfSome (find test xs) P
found_each P test [] each = tt
found_each P test (x ∷ xs) each =
    found_or P (test x) x _ each.0 (found_each P test xs each.1)

abbrev pub has_some : {X : Type 0} → List X → Bool
has_some [] = false
has_some (x ∷ xs) = true

pub not_empty : {X : Type 0} (x : X) (xs : List X) → is_empty (x ∷ xs) ≡ false
not_empty x xs = ne_eqb (length (x ∷ xs)) 0 (λ e. omega (arith, e))

some_more : {X : Type 0} (xs ys : List X) → has_some xs ≡ true → has_some (xs ++ ys) ≡ true
some_more [] ys some = absurd (false≢true some)
some_more (x ∷ xs) ys some = refl

-- ---- steps that pass

pub first : (a b : Kinds) → or_else a b ≡ [] → a ≡ []
first [] b none = refl
first (kind ∷ kinds) b none = none

pub second : (a b : Kinds) → or_else a b ≡ [] → b ≡ []
second [] b none = none
second (kind ∷ kinds) b none = absurd (true≢false (ap has_some none))

is_passed : (test : Bool) (kinds : Kinds) → has_some kinds ≡ true → cond test [] kinds ≡ []
    → test ≡ true
is_passed true kinds some none = refl
is_passed false kinds some none = absurd (false≢true (sym (ap has_some none) ∙ some))

pub values_pass : (ignore_case : Bool) (parser : ValueParser) (values : List Text)
    → values_kinds ignore_case parser values ≡ []
    → Each (λ v. accepts ignore_case parser v ≡ true) values
values_pass ignore_case parser [] none = tt
values_pass ignore_case parser (v ∷ values) none =
    let here = value_kinds ignore_case parser v in
    let later = values_kinds ignore_case parser values in (
      is_passed (accepts ignore_case parser v) _ refl (first here later none),
      values_pass ignore_case parser values (second here later none),
    )

-- ---- rows whose values passed

-- a rule of this id takes the value
abbrev pub passes_by : List Rule → Text → Text → Bool
passes_by c id text = list_any (λ a. bytes_eq a.id id && value_passes a text) c

abbrev pub Passes : List Rule → Text → Text → Type 0
Passes c id text = passes_by c id text ≡ true

-- a rule of this id has values that are read like this
abbrev pub ReadsBy : List Rule → Text → Reading → Type 0
ReadsBy [] id how = ⊥
ReadsBy (a ∷ c) id how =
    ((bytes_eq a.id id ≡ true) × (reading_by a ≡ how)) ⊎ ReadsBy c id how

abbrev pub IsGood : List Rule → Row → Type 0
IsGood c r =
    (has_some r.values ≡ true) × Each (Passes c r.id) r.values × ReadsBy c r.id r.reading

abbrev pub AreGood : List Rule → List Row → Type 0
AreGood c rows = Each (IsGood c) rows

good_without : (c : List Rule) (id : Text) (rows : List Row) → AreGood c rows
    → AreGood c (without id rows)
good_without c id [] good = tt
good_without c id (r ∷ rs) good =
    grind (arith, cond_both, good, good.1, good.0, good_without c id rs good.1)

pub good_with : (c : List Rule) (id : Text) (how : Reading) (source : ValueSource)
    (values : List Text) (rows : List Row) → has_some values ≡ true
    → Each (Passes c id) values → ReadsBy c id how
    → AreGood c rows → AreGood c (with_values id how source values rows)
good_with c id how source values [] some pass reads good = ((some, pass, reads), tt)
good_with c id how source values (r ∷ rs) some pass reads good =
    cond_both (bytes_eq r.id id) (more_values source values r ++ rs)
    (r ∷ with_values id how source values rs) (AreGood c)
    (λ e. (
      (
        some_more r.values values good.0.0,
        grind (arith, each_append, bytes_eq-Decides, pass, good, good.0.1),
        good.0.2,
      ),
      good.1,
    ))
    (λ e. (good.0, good_with c id how source values rs some pass reads good.1))

-- ---- rules that keep them so

abbrev fills : Rule → Bool
fills a = has_some a.missing || nat_lt 0 (unwrap_or_range a.range).start_inclusive

-- a use without fault leaves a value, or none at all
abbrev pub leaves_some : ArgAction → Rule → Bool
leaves_some action.Set a = fills a
leaves_some action.Append a = fills a
leaves_some action.SetTrue a = fills a
leaves_some action.SetFalse a = fills a
leaves_some action.Count a = false
leaves_some action.Help a = true
leaves_some action.HelpShort a = true
leaves_some action.HelpLong a = true
leaves_some action.Version a = true

abbrev pub IsFine : List Rule → Rule → Type 0
IsFine c a = (leaves_some (action_of a) a ≡ true)
    × ((text : Text) → value_passes a text ≡ true → Passes c a.id text)
    × ReadsBy c a.id (reading_by a)

filled : (a : Rule) (values : List Text) → fills a ≡ true
    → range_kinds (unwrap_or_range a.range).start_inclusive (most_values a) (length values) ≡ []
    → has_some (values_or_missing a values) ≡ true
filled a (v ∷ values) fine range = refl
filled a [] fine range =
    grind (arith, or_cases, range)

stored : (c : List Rule) (a : Rule) (values : List Text) (rows : List Row) → IsFine c a
    → has_some values ≡ true → values_fault a values ≡ [] → AreGood c rows
    → AreGood c (with_values a.id (reading_by a) CommandLine values rows)
stored c a values rows fine some none good =
    search (rules, good_with, each_weaker, values_pass, some, none, good, fine.1, fine.2)

by_action : (c : List Rule) (x : ArgAction) (again : Bool) (a : Rule) (values : List Text)
    (rows : List Row) → IsFine c a → leaves_some x a ≡ true
    → (fills a ≡ true → has_some values ≡ true) → action_fault x again a values rows ≡ []
    → AreGood c rows → AreGood c (used_as x a.id (reading_by a) values rows)
by_action c action.Set again a values rows fine leaves some none good =
    grind (arith, stored, second, good_without, fine, leaves, some, none, good)
by_action c action.SetTrue again a values rows fine leaves some none good =
    grind (arith, stored, second, good_without, fine, leaves, some, none, good)
by_action c action.SetFalse again a values rows fine leaves some none good =
    grind (arith, stored, second, good_without, fine, leaves, some, none, good)
by_action c action.Append again a values rows fine leaves some none good =
    stored c a values rows fine (some leaves) none good
by_action c action.Count again a values rows fine leaves some none good =
    absurd (false≢true leaves)
by_action c action.Help again a values rows fine leaves some none good = good
by_action c action.HelpShort again a values rows fine leaves some none good = good
by_action c action.HelpLong again a values rows fine leaves some none good = good
by_action c action.Version again a values rows fine leaves some none good = good

pub good_used : (c : List Rule) (again : Bool) (a : Rule) (values : List Text) (rows : List Row)
    → IsFine c a → use_fault again a values rows ≡ [] → AreGood c rows
    → AreGood c (used a values rows)
good_used c again a values rows fine none good =
    grind (arith, by_action, filled, first, second, fine, none, good, fine.0)

pub used_found : (c : List Rule) (again : Bool) (found : Option Rule) (values : List Text)
    (rows : List Row) → IfSome found (IsFine c)
    → option_map_or (λ a. use_fault again a values rows) found [] ≡ [] → AreGood c rows
    → AreGood c (used_by_id found values rows)
used_found c again None values rows fine none good = good
used_found c again (Some a) values rows fine none good =
    good_used c again a values rows fine none good
