use Rattle.std.proofs.Common.{◌≡◌, ◌∙◌, refl, sym, ap, subst, map, true, false, [], List, Option}
use Rattle.std.proofs.Common.{Result, Ok, Err, IfOk, inl, inr, arith}
use Rattle.std.{proofs.lemmas.Bool.false_from_ne_true, specs.{Prelude.IfErr, Borrow.Bor}}
use Rattle.clap.specs.{Simple.{HasMatchesOf, is_simple}, Words.{App, HasKind, Row, Text, fault_of}}
use Rattle.clap.specs.Words.{is_simple_and_free, kind_of, subcommand_of, subcommand_rows_of, takes}
use Rattle.clap.specs.declared.{error.Error.Error, parser.matches.ArgMatches.ArgMatches}
use Rattle.clap.proofs.OnLiterals.{clap_on_literals}
use Rattle.room_entry.specs.declared.failure.Failure.{Failure, TheVariants.{OutOfMemory, Fault}}
use Rattle.cli_words.{proofs.Named.is_whole, specs.Command.{IsWhole, IsCommand, IsRead, IsRefused}}
use Rattle.cli_words.specs.{Command.{IsNotMet, IsTold, names_two}}
use Rattle.cli_words.specs.Line.{AreAttributes, command_line}
use Rattle.cli_words.specs.declared.command.{CliFault.CliFault, Command.Command}
use Rattle.clap.specs.declared.error.kind.ErrorKind.TheVariants as kinds
use Rattle.cli_words.proofs.reading.read_command.Goals as goal

is_exact : (names : Bor (List (Bor Text))) → is_simple_and_free (command_line names) ≡ true
unfolding clap_on_literals
is_exact names = refl

is_plain : (names : Bor (List (Bor Text))) → is_simple (command_line names) ≡ true
unfolding clap_on_literals
is_plain names = refl

-- What `clap` says of a line holds of the program's own line.
no_fault : (names : Bor (List (Bor Text))) (words : List Text) (app : App)
    → app ≡ command_line names → (is_simple_and_free app ≡ true → fault_of app words ≡ [])
    → fault_of (command_line names) words ≡ []
no_fault names words app same given =
    subst (λ (a : App). is_simple_and_free a ≡ true → fault_of a words ≡ []) same given
    (is_exact names)

the_rows : (names : Bor (List (Bor Text))) (words : List Text) (app : App) (matches : ArgMatches)
    → app ≡ command_line names → HasMatchesOf app words matches
    → subcommand_rows_of matches ≡ subcommand_of (command_line names) words
the_rows names words app matches same given =
    (subst (λ (a : App). HasMatchesOf a words matches) same given (is_plain names)).1

pub command_of-requires : goal.command_of-requires
command_of-requires g c =
    let line = c.in_ok-line.ensures in
    let words = map g.S.AsStr.text c.args.words.now in
    subst IsWhole (sym (the_rows line.0 words _ _ line.2.0 c.in-Ok.ensures.matches))
    (is_whole line.0 words line.1 (no_fault line.0 words _ line.2.0 c.in-Ok.ensures.kinds))

-- what was read of the matches is what the words are
read_by : (names : Bor (List (Bor Text))) (words : List Text) (found : Option (Text × List Row))
    (result : Result Command (Failure CliFault)) → AreAttributes names
    → fault_of (command_line names) words ≡ []
    → found ≡ subcommand_of (command_line names) words
    → IfOk result (λ command. (names_two found ≡ false) × IsCommand found command)
    → IfOk result (IsRead words)
read_by names words found (Ok command) two none is read = (
  names,
  two,
  none,
  sym (ap names_two is) ∙ read.0,
  subst (λ (rows : Option (Text × List Row)). IsCommand rows command) is read.1,
)
read_by names words found (Err failure) two none is read = tt

refused_by : (names : Bor (List (Bor Text))) (words : List Text)
    (found : Option (Text × List Row)) (failure : Failure CliFault) → AreAttributes names
    → fault_of (command_line names) words ≡ []
    → found ≡ subcommand_of (command_line names) words → IsNotMet found failure
    → IsRefused words failure
refused_by names words found OutOfMemory two none is unmet = tt
refused_by names words found (Fault fault) two none is unmet =
    (names, two, inr (none, sym (ap names_two is) ∙ unmet.0, unmet.1.0))

named_two : (names : Bor (List (Bor Text))) (words : List Text) (found : Option (Text × List Row))
    (result : Result Command (Failure CliFault)) → AreAttributes names
    → fault_of (command_line names) words ≡ []
    → found ≡ subcommand_of (command_line names) words → IfErr result (IsNotMet found)
    → IfErr result (IsRefused words)
named_two names words found (Ok command) two none is unmet = tt
named_two names words found (Err failure) two none is unmet =
    refused_by names words found failure two none is unmet

pub returns-in-Ok-clause-ok : goal.returns-in-Ok-clause-ok
returns-in-Ok-clause-ok g c =
    let line = c.in_ok-line.ensures in
    let words = map g.S.AsStr.text c.args.words.now in
    read_by line.0 words _ c.command_of.result line.1
    (no_fault line.0 words _ line.2.0 c.in-Ok.ensures.kinds)
    (the_rows line.0 words _ _ line.2.0 c.in-Ok.ensures.matches) c.command_of.ensures.ok

pub returns-in-Ok-clause-err : goal.returns-in-Ok-clause-err
returns-in-Ok-clause-err g c =
    let line = c.in_ok-line.ensures in
    let words = map g.S.AsStr.text c.args.words.now in
    named_two line.0 words _ c.command_of.result line.1
    (no_fault line.0 words _ line.2.0 c.in-Ok.ensures.kinds)
    (the_rows line.0 words _ _ line.2.0 c.in-Ok.ensures.matches) c.command_of.ensures.err

told_fault : (names : Bor (List (Bor Text))) (words : List Text) (error : Error)
    (failure : Failure CliFault) → AreAttributes names
    → (takes (command_line names) words ≡ true → kind_of error ≡ kinds.OutOfMemory)
    → HasKind (fault_of (command_line names) words) error → IsTold (kind_of error) failure
    → IsRefused words failure
told_fault names words error OutOfMemory two passes has told = tt
told_fault names words error (Fault fault) two passes has told = (
  names,
  two,
  inl (
    false_from_ne_true (takes (command_line names) words) (λ taken. told.1 (passes taken)),
    grind (arith, has, told, told.1, told.0),
  ),
)

told_by : (names : Bor (List (Bor Text))) (words : List Text) (app : App) (error : Error)
    (failure : Failure CliFault) → AreAttributes names → app ≡ command_line names
    → (takes app words ≡ true → kind_of error ≡ kinds.OutOfMemory)
    → (is_simple_and_free app ≡ true → HasKind (fault_of app words) error)
    → IsTold (kind_of error) failure → IsRefused words failure
told_by names words app error failure two same passes has told =
    told_fault names words error failure two
    (λ taken. passes (subst (λ (a : App). takes a words ≡ true) (sym same) taken))
    (subst (λ (a : App). HasKind (fault_of a words) error) same
    (has (subst (λ (a : App). is_simple_and_free a ≡ true) (sym same) (is_exact names))))
    told

pub returns-in-Err-clause-err : goal.returns-in-Err-clause-err
returns-in-Err-clause-err g c =
    let line = c.in_ok-line.ensures in
    told_by line.0 (map g.S.AsStr.text c.args.words.now) _ c.in-Err.error c.refusal.result line.1
    line.2.0 c.in-Err.ensures.passes c.in-Err.ensures.kinds c.refusal.ensures
