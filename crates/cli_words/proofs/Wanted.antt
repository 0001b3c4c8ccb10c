-- A subcommand without fault has a value for each argument that it wants, or that has a default.
use Rattle.std.proofs.Common.{◌≡◌, ◌∙◌, ap, sym, refl, true, false, Bool, cond, List, [], ◌∷◌, ◌++◌}
use Rattle.std.proofs.Common.{◌||◌, ◌&&◌, Option, Some, None, ℕ, inl, inr, true≢false, arith, rules}
use Rattle.std.proofs.lemmas.Bool.{cond_both, or_cases, or_left, or_right, or_parts, false≢true}
use Rattle.std.proofs.lemmas.{Bool.{and_from, and_parts}, Slice.Eq.bytes_eq-Decides}
use Rattle.std.{proofs.Math.Bool.or-false, specs.Prelude.{IfSome, find, fold, not, option_and_then}}
use Rattle.std.specs.{Prelude.{pos, slice_get}, List.{AllByRecursion as Each, list_all, list_any}}
use Rattle.std.specs.{Option.option_map_or, Str.bytes_eq}
use Rattle.clap.specs.{Facts.explicit_source, Faults.level_fault, Kinds.check_kinds, Values.read_as}
use Rattle.clap.specs.{Simple.Shape, Takes.{is_given, value_passes}, ValueTests.accepts, Walk.Row}
use Rattle.clap.specs.Walk.{Rule, Text, action_of, default_rows, first_of, has_row, is_empty}
use Rattle.clap.specs.Walk.{more_values, nothing_held, one_of, row_text, reading_by, rows_after}
use Rattle.clap.specs.Walk.{settled, walk, with_default, with_values}
use Rattle.clap.specs.declared.builder.value_parser.Reading.{Reading}
use Rattle.clap.specs.declared.parser.matches.ValueSource.{ValueSource, TheVariants.DefaultValue}
use Rattle.clap.proofs.ValueTestLemmas.{accepts-Accepts}
use Rattle.room_entry.proofs.Facts.Members.{each_weaker}
use Rattle.cli_words.{specs.Command.HasNumber, proofs.Filled.{has_some, passes_by, Passes, ReadsBy}}
use Rattle.cli_words.proofs.{Filled.{IsGood, AreGood, IsFine, leaves_some}, Walked.level_rows}
use Rattle.clap.specs.declared.builder.value_parser.ValueParser.TheVariants as parser
use Rattle.clap.specs.declared.builder.value_parser.Reading.TheVariants as reading

-- ---- words

-- the row of this id has a value, which passed
abbrev pub HasPassed : List Rule → Text → List Row → Type 0
HasPassed c id rows =
    (text : Text) × (first_of id rows ≡ Some text) × (passes_by c id text ≡ true)

first_passed : (c : List Rule) (id : Text) (values : List Text) → has_some values ≡ true
    → Each (Passes c id) values
    → (text : Text) × (slice_get values 0 ≡ Some text) × (passes_by c id text ≡ true)
first_passed c id [] some pass = absurd (false≢true some)
first_passed c id (v ∷ values) some pass = (v, refl, pass.0)

row_found : (c : List Rule) (id : Text) (rows : List Row) → AreGood c rows
    → IfSome (find (λ r. bytes_eq r.id id) rows) (λ r. IsGood c r × (bytes_eq r.id id ≡ true))
row_found c id [] good = tt
row_found c id (r ∷ rs) good =
    grind (arith, cond_both, good, good.0, good.1, row_found c id rs good.1)

passed_at : (c : List Rule) (id : Text) (found : Option Row)
    → IfSome found (λ r. IsGood c r × (bytes_eq r.id id ≡ true))
    → option_map_or (λ r. explicit_source r.source) found false ≡ true
    → (text : Text) × (option_and_then (λ r. slice_get r.values 0) found ≡ Some text)
    × (passes_by c id text ≡ true)
passed_at c id None good given = absurd (false≢true given)
passed_at c id (Some r) good given =
    grind (arith, first_passed, bytes_eq-Decides, good, good.0.0, good.1, good.0.1)

is_last : (a b x : Bool) → check_kinds a b x ≡ [] → x ≡ false
is_last a b false none = refl
is_last true b true none = absurd (true≢false (ap has_some none))
is_last false true true none = absurd (true≢false (ap has_some none))
is_last false false true none = absurd (true≢false (ap has_some none))

without_subcommand : (negates missing : Bool) → (not (negates && false) && missing) ≡ false
    → missing ≡ false
without_subcommand true missing none = none
without_subcommand false missing none = none

-- a rule wants a value of this id
abbrev pub is_wanted : List Rule → Text → Bool
is_wanted rules id = list_any (λ a. a.required && bytes_eq a.id id) rules

given_here : (required given : Bool) → (required && not given) ≡ false → required ≡ true
    → given ≡ true
given_here required true none is = refl
given_here true false none is = absurd (true≢false none)
given_here false false none is = absurd (false≢true is)

wanted_given : (rules : List Rule) (rows : List Row) (id : Text) → is_wanted rules id ≡ true
    → list_any (λ a. a.required && not (is_given a.id rows)) rules ≡ false
    → is_given id rows ≡ true
wanted_given [] rows id wanted none = absurd (false≢true wanted)
wanted_given (a ∷ rules) rows id wanted none =
    let parts = or_parts (a.required && not (is_given a.id rows))
    (list_any (λ b. b.required && not (is_given b.id rows)) rules) none in
    elim (or_cases (a.required && bytes_eq a.id id) (is_wanted rules id) wanted) [
      | inl here ↦
          grind (arith, and_parts, bytes_eq-Decides, given_here, parts, here, parts.0)
      | inr later ↦ wanted_given rules rows id later parts.1
    ]

-- what a rule of the line takes, and how it reads it, a rule of the line does
abbrev IsOwn : List Rule → Rule → Type 0
IsOwn c a = ((text : Text) → value_passes a text ≡ true → Passes c a.id text)
    × ReadsBy c a.id (reading_by a)

each_own : (c : List Rule) → Each (IsOwn c) c
each_own [] = tt
each_own (a ∷ c) =
    grind (arith, bytes_eq-Decides, or_left, passes_by, and_from, each_weaker, or_right, each_own c)

-- no rule counts, and what is used by a rule has a value
abbrev pub leave_some : List Rule → Bool
leave_some rules = list_all (λ a. leaves_some (action_of a) a) rules

each_fine : (c rules : List Rule) → leave_some rules ≡ true → Each (IsOwn c) rules
    → Each (IsFine c) rules
each_fine c [] leaves own = tt
each_fine c (a ∷ rules) leaves own =
    let both = and_parts (leaves_some (action_of a) a) (leave_some rules) leaves in
    ((both.0, own.0.0, own.0.1), each_fine c rules both.1 own.1)

all_fine : (c : List Rule) → leave_some c ≡ true → Each (IsFine c) c
all_fine c leaves = each_fine c c leaves (each_own c)

-- a subcommand without fault has each word that it wants
pub wanted_passed : (s : Shape) (words : List Text) (id : Text) → leave_some s.rules ≡ true
    → is_wanted s.rules id ≡ true → level_fault s [] nothing_held words false [] ≡ []
    → HasPassed s.rules id (rows_after s.rules [] words)
wanted_passed s words id leaves wanted none =
    let rows = rows_after s.rules [] words in
    let level = level_rows s (all_fine s.rules leaves) [] words none in
    let missing = list_any (λ a. a.required && not (is_given a.id rows)) s.rules in
    let last = is_last _ _ (not (s.subcommand_negates_reqs && false) && missing) level.1 in
    passed_at s.rules id (find (λ r. bytes_eq r.id id) rows) (row_found s.rules id rows level.0)
    (grind (arith, wanted_given, without_subcommand, wanted, last))

-- ---- options with a default

-- a rule of this id has a default
abbrev pub is_usual : List Rule → Text → Bool
is_usual rules id = list_any (λ a. bytes_eq a.id id && not (is_empty a.defaults)) rules

row_stays : (id key : Text) (how : Reading) (source : ValueSource) (values : List Text)
    (rows : List Row) → has_row id rows ≡ true
    → has_row id (with_values key how source values rows) ≡ true
row_stays id key how source values [] has = absurd (false≢true has)
row_stays id key how source values (r ∷ rs) has =
    cond_both (bytes_eq r.id key) (more_values source values r ++ rs)
    (r ∷ with_values key how source values rs) (λ rows. has_row id rows ≡ true) (λ e. has)
    (λ e. elim (or_cases (bytes_eq r.id id) (has_row id rs) has) [
      | inl here ↦ or_left (bytes_eq r.id id) _ here
      | inr later ↦ or_right (bytes_eq r.id id) _ (row_stays id key how source values rs later)
    ])

row_comes : (id : Text) (how : Reading) (source : ValueSource) (values : List Text)
    (rows : List Row) → has_row id (with_values id how source values rows) ≡ true
row_comes id how source values [] =
    or_left (bytes_eq id id) false ((bytes_eq-Decides id id).1 refl)
row_comes id how source values (r ∷ rs) =
    grind (arith, cond_both, or_left, or_right, row_comes id how source values rs)

stays_by : (has : Bool) (id key : Text) (how : Reading) (values : List Text) (rows : List Row)
    → has_row id rows ≡ true
    → has_row id (cond has rows (default_rows key how values rows)) ≡ true
stays_by true id key how values rows is = is
stays_by false id key how [] rows is = is
stays_by false id key how (v ∷ values) rows is =
    row_stays id key how DefaultValue (v ∷ values) rows is

row_kept : (rules : List Rule) (rows : List Row) (id : Text) → has_row id rows ≡ true
    → has_row id (fold with_default rows rules) ≡ true
row_kept [] rows id has = has
row_kept (a ∷ rules) rows id has =
    row_kept rules (with_default rows a) id
    (stays_by (has_row a.id rows) id a.id (reading_by a) a.defaults rows has)

comes_by : (has : Bool) (id : Text) (how : Reading) (values : List Text) (rows : List Row)
    → has_row id rows ≡ has → not (is_empty values) ≡ true
    → has_row id (cond has rows (default_rows id how values rows)) ≡ true
comes_by true id how values rows is some = is
comes_by false id how [] rows is some = absurd (false≢true some)
comes_by false id how (v ∷ values) rows is some =
    row_comes id how DefaultValue (v ∷ values) rows

row_there : (rules : List Rule) (rows : List Row) (id : Text) → is_usual rules id ≡ true
    → has_row id (fold with_default rows rules) ≡ true
row_there [] rows id usual = absurd (false≢true usual)
row_there (a ∷ rules) rows id usual =
    elim (or_cases (bytes_eq a.id id && not (is_empty a.defaults)) (is_usual rules id) usual) [
      | inl here ↦ grind (arith, and_parts, row_kept, bytes_eq-Decides, comes_by, here)
      | inr later ↦ row_there rules (with_default rows a) id later
    ]

-- the row of this id has a value, which passed, and which is read as a rule of this id says
abbrev IsReadAs : List Rule → Text → Option Text → Type 0
IsReadAs c id found = (how : Reading) × (text : Text) × (found ≡ Some (read_as how text))
    × (passes_by c id text ≡ true) × ReadsBy c id how

row_read : (c : List Rule) (id : Text) (rows : List Row) → AreGood c rows
    → has_row id rows ≡ true → IsReadAs c id (one_of id rows)
row_read c id [] good has = absurd (false≢true has)
row_read c id (r ∷ rs) good has =
    cond_both (bytes_eq r.id id) (Some r) (find (λ x. bytes_eq x.id id) rs)
    (λ found. IsReadAs c id (option_and_then row_text found))
    (grind (arith, bytes_eq-Decides, first_passed, good, good.0.0, good.0.1, good.0.2))
    (λ e.
    let later : has_row id rs ≡ true = rw e at has in
    row_read c id rs good.1 later)

abbrev pub is_bare : Reading → Bool
is_bare reading.WithoutMinus = true
is_bare reading.AsWritten = false
is_bare reading.Boolish = false
is_bare reading.Falsey = false

bare : (how : Reading) → is_bare how ≡ true → how ≡ reading.WithoutMinus
bare reading.WithoutMinus is = refl
bare reading.AsWritten is = absurd (false≢true is)
bare reading.Boolish is = absurd (false≢true is)
bare reading.Falsey is = absurd (false≢true is)

-- each rule of this id reads numbers without a sign
abbrev pub are_bare : List Rule → Text → Bool
are_bare rules id = list_all (λ a. not (bytes_eq a.id id) || is_bare (reading_by a)) rules

read_bare : (c : List Rule) (id : Text) (how : Reading) → are_bare c id ≡ true → ReadsBy c id how
    → how ≡ reading.WithoutMinus
read_bare [] id how bares reads = absurd reads
read_bare (a ∷ c) id how bares (inl here) =
    grind (arith, and_parts, bare, bares)
read_bare (a ∷ c) id how bares (inr later) =
    let both = and_parts (not (bytes_eq a.id id) || is_bare (reading_by a)) (are_bare c id) bares in
    read_bare c id how both.1 later

-- a subcommand without fault has each number that has a default
pub usual_number : (s : Shape) (words : List Text) (id : Text) (most : ℕ)
    → leave_some s.rules ≡ true → is_usual s.rules id ≡ true → are_bare s.rules id ≡ true
    → ((text : Text) → passes_by s.rules id text
    ≡ (accepts false (parser.Signed (pos 1) (pos most)) text || false))
    → level_fault s [] nothing_held words false [] ≡ []
    → HasNumber id most (rows_after s.rules [] words)
usual_number s words id most leaves usual bares passes none =
    let rows = rows_after s.rules [] words in
    let level = level_rows s (all_fine s.rules leaves) [] words none in
    let end = (walk s.rules [] nothing_held words).held in
    let read = row_read s.rules id rows level.0
    (row_there s.rules (settled s.rules end).rows id usual) in
    let taken = accepts false (parser.Signed (pos 1) (pos most)) read.1 in (
      read.1,
      grind (arith, read_bare, bares, read, read.2, read.1, read.0, read.4),
      accepts-Accepts false (parser.Signed (pos 1) (pos most)) read.1
          (sym (or-false taken) ∙ sym (passes read.1) ∙ read.3),
    )
