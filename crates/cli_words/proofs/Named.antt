-- A line without fault names one of the thirteen subcommands, and has the words that it wants.
use Rattle.std.proofs.Common.{◌≡◌, ◌∙◌, ap, sym, subst, refl, true, false, Bool, List, [], ◌∷◌}
use Rattle.std.proofs.Common.{Option, Some, None, inl, inr, is_some, ◌||◌, codes, arith, rules}
use Rattle.std.proofs.{Math.Bool.or-false, lemmas.Bool.{and_parts, both_ways, false≢true, or_cases}}
use Rattle.std.{proofs.lemmas.{Bool.true≢false, Slice.Eq.bytes_eq-Decides}, specs.Prelude.IfSome}
use Rattle.std.specs.{Prelude.{IsSome, option_map, pos}, List.{AllByRecursion as Each, list_all}}
use Rattle.std.specs.{List.list_any, Option.option_map_or, Str.bytes_eq, Borrow.Bor}
use Rattle.clap.specs.{Faults.{check_fault, entered_fault, fault_of, level_fault}, Kinds.Kinds}
use Rattle.clap.specs.{ValueTests.accepts, Simple.{App, Shape, argument_words, built, entered}}
use Rattle.clap.specs.{Simple.{names_of, rows_at}, Walk.{Held, Names, finished, nothing_held}}
use Rattle.clap.specs.{Walk.{rows_after, stop_after, walk}, Words.{Row, Text, subcommand_of}}
use Rattle.clap.proofs.WalkLemmas.{list_any-map}
use Rattle.cli_words.proofs.{Filled.{first, found_each, passes_by, second}, Wanted.are_bare}
use Rattle.cli_words.proofs.Wanted.{is_usual, is_wanted, leave_some, usual_number, wanted_passed}
use Rattle.cli_words.specs.Command.{HasWords, HaveWords, IsList, IsName, IsWhole, wanted_by}
use Rattle.cli_words.specs.Line.{AreAttributes, command_line}
use Rattle.clap.specs.declared.builder.value_parser.ValueParser.TheVariants as parser

abbrev is_full : Kinds → Bool
is_full [] = false
is_full (kind ∷ kinds) = true

-- The last test is that there was a subcommand.
wants : (names : Bor (List (Bor Text))) (rows : List Row) (has : Bool)
    → check_fault (built (command_line names)).top rows has ≡ [] → has ≡ true
wants names rows true none = refl
wants names rows false none = absurd (true≢false (ap is_full none))

-- What the parse of a level ends with.
level_last : (s : Shape) (names : Names) (held : Held) (words : List Text) (has : Bool)
    (below : Kinds) → level_fault s names held words has below ≡ []
    → check_fault s (finished s.rules (walk s.rules names held words).held) has ≡ []
level_last s names held words has below none =
    grind (arith, second, none)

is_met : (names : Bor (List (Bor Text))) (words : List Text)
    → fault_of (command_line names) words ≡ []
    → is_some (subcommand_of (command_line names) words) ≡ true
is_met names words none =
    let app = built (command_line names) in
    -- (no row matters: the top has no argument of its own)
    wants names [] (is_some (subcommand_of (command_line names) words))
    (search (rules, level_last, none, app.top))

-- What a level without fault below has read.
abbrev IsRead : Shape → Type 0
IsRead s = IsName s.name × ((words : List Text)
    → level_fault s [] nothing_held words false [] ≡ []
    → HasWords s.name (rows_after s.rules [] words))

of_shape : (words : List Text) (shape : Option Shape) → IfSome shape IsRead
    → option_map_or (λ s. level_fault s [] nothing_held words false []) shape [] ≡ []
    → is_some (option_map (λ s. rows_at s words) shape) ≡ true
    → IsWhole (option_map (λ s. rows_at s words) shape)
of_shape words None read none some = absurd (false≢true some)
of_shape words (Some shape) read none some = (read.0, read.1 words none)

of_entered : (app : App) (stop : Option (Text × List Text)) → Each IsRead app.subs
    → entered_fault app stop ≡ [] → is_some (entered app stop) ≡ true
    → IsWhole (entered app stop)
of_entered app None each none some = absurd (false≢true some)
of_entered app (Some at) each none some =
    of_shape at.1 _ (found_each IsRead _ app.subs each) none some

-- ---- the words of a subcommand

have_passed : (s : Shape) (words : List Text) (ids : List Text) → leave_some s.rules ≡ true
    → list_all (is_wanted s.rules) ids ≡ true
    → level_fault s [] nothing_held words false [] ≡ []
    → HaveWords ids (rows_after s.rules [] words)
have_passed s words [] leaves wanted none = tt
have_passed s words (id ∷ ids) leaves wanted none =
    let both = and_parts (is_wanted s.rules id) (list_all (is_wanted s.rules) ids) wanted in
    let has = wanted_passed s words id leaves both.0 none in (
      subst (λ (found : Option Text). IsSome found) (sym has.1) refl,
      have_passed s words ids leaves both.1 none,
    )

-- a subcommand that sets no list
reads : (s : Shape) → leave_some s.rules ≡ true
    → list_all (is_wanted s.rules) (wanted_by s.name) ≡ true
    → bytes_eq s.name (codes "reset") ≡ false → bytes_eq s.name (codes "serve") ≡ false
    → IsName s.name → IsRead s
reads s leaves wanted other apart named = (
  named,
  grind (arith, have_passed, both_ways, leaves, wanted, other, apart),
)

-- the subcommand with two numbers
serve_read : (s : Shape) → leave_some s.rules ≡ true
    → list_all (is_wanted s.rules) (wanted_by s.name) ≡ true
    → is_usual s.rules (codes "port") ≡ true → are_bare s.rules (codes "port") ≡ true
    → ((text : Text) → passes_by s.rules (codes "port") text
    ≡ (accepts false (parser.Signed (pos 1) (pos 65535)) text || false))
    → is_usual s.rules (codes "count") ≡ true → are_bare s.rules (codes "count") ≡ true
    → ((text : Text) → passes_by s.rules (codes "count") text
    ≡ (accepts false (parser.Signed (pos 1) (pos 1000000)) text || false))
    → bytes_eq s.name (codes "reset") ≡ false → IsName s.name → IsRead s
serve_read s leaves wanted port port_bare port_in count count_bare count_in other named = (
  named,
  λ words none. record {
    wanted = have_passed s words (wanted_by s.name) leaves wanted none;
    list = λ e. absurd (both_ways (bytes_eq s.name (codes "reset")) other e);
    port = λ e. usual_number s words (codes "port") 65535 leaves port port_bare port_in none;
    count = λ e. usual_number s words (codes "count") 1000000 leaves count count_bare count_in none;
  },
)

-- a text that passes as one of the two names
is_list : (names : Bor (List (Bor Text))) (text : Text) → AreAttributes names
    → list_any (λ name. bytes_eq name.now text) names.now ≡ true → IsList text
is_list names text two passes =
    let known : bytes_eq (codes "dacl") text || (bytes_eq (codes "sacl") text || false) ≡ true =
    ap (list_any (λ name. bytes_eq name text)) (sym two)
    ∙ sym (list_any-map (λ name. bytes_eq name text) (λ (name : Bor Text). name.now) names.now)
    ∙ passes in
    search (rules, or_cases, bytes_eq-Decides, known)

-- the subcommand that sets a list
reset_read : (names : Bor (List (Bor Text))) → AreAttributes names → (s : Shape)
    → leave_some s.rules ≡ true → list_all (is_wanted s.rules) (wanted_by s.name) ≡ true
    → is_wanted s.rules (codes "LIST") ≡ true
    → ((text : Text) → passes_by s.rules (codes "LIST") text
    ≡ list_any (λ name. bytes_eq name.now text) names.now || false)
    → bytes_eq s.name (codes "serve") ≡ false → IsName s.name → IsRead s
reset_read names two s leaves wanted list passes apart named = (
  named,
  λ words none. record {
    wanted = have_passed s words (wanted_by s.name) leaves wanted none;
    list = grind (arith, wanted_passed, is_list, or-false, two, leaves, list, passes);
    port = λ e. absurd (both_ways (bytes_eq s.name (codes "serve")) apart e);
    count = λ e. absurd (both_ways (bytes_eq s.name (codes "serve")) apart e);
  },
)

all_read : (names : Bor (List (Bor Text))) → AreAttributes names
    → Each IsRead (built (command_line names)).subs
all_read names two = (
  reads _ refl refl refl refl (inl refl),
  (
    reads _ refl refl refl refl
        (inr (inr (inr (inr (inr (inr (inr (inr (inr (inr (inr (inr refl)))))))))))),
    (
      reads _ refl refl refl refl (inr (inl refl)),
      (
        serve_read _ refl refl refl refl (λ text. refl) refl refl (λ text. refl) refl
            (inr (inr (inl refl))),
        (
          reads _ refl refl refl refl (inr (inr (inr (inl refl)))),
          (
            reads _ refl refl refl refl (inr (inr (inr (inr (inl refl))))),
            (
              reads _ refl refl refl refl (inr (inr (inr (inr (inr (inl refl)))))),
              (
                reads _ refl refl refl refl (inr (inr (inr (inr (inr (inr (inl refl))))))),
                (
                  reads _ refl refl refl refl
                      (inr (inr (inr (inr (inr (inr (inr (inr (inr (inr (inr (inl refl)))))))))))),
                  (
                    reads _ refl refl refl refl
                        (inr (inr (inr (inr (inr (inr (inr (inl refl)))))))),
                    (
                      reset_read names two _ refl refl refl (λ text. refl) refl
                          (inr (inr (inr (inr (inr (inr (inr (inr (inl refl))))))))),
                      (
                        reads _ refl refl refl refl
                            (inr (inr (inr (inr (inr (inr (inr (inr (inr (inr (inl refl))))))))))),
                        (
                          reads _ refl refl refl refl
                              (inr (inr (inr (inr (inr (inr (inr (inr (inr (inl refl)))))))))),
                          tt,
                        ),
                      ),
                    ),
                  ),
                ),
              ),
            ),
          ),
        ),
      ),
    ),
  ),
)

-- what the subcommand that was met has read
below_passes : (names : Bor (List (Bor Text))) (words : List Text)
    → fault_of (command_line names) words ≡ []
    → entered_fault (built (command_line names))
    (stop_after (built (command_line names)).top.rules (names_of (built (command_line names)))
    (argument_words (command_line names) words)) ≡ []
below_passes names words none =
    grind (arith, first, second, none)

pub is_whole : (names : Bor (List (Bor Text))) (words : List Text) → AreAttributes names
    → fault_of (command_line names) words ≡ []
    → IsWhole (subcommand_of (command_line names) words)
is_whole names words two none =
    search (rules, of_entered, all_read, below_passes, is_met, two, none)
