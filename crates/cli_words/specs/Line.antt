-- The subcommands with their arguments, as `clap` reads them (own).
use Rattle.std.specs.Prelude.{◌≡◌, ◌∷◌, List, [], Some, true, false, codes, map, pos}
use Rattle.std.specs.Borrow.{Bor}
use Rattle.clap.specs.Words.{App, Rule, Text, app_of, new_app, new_rule, rule_of}
use Rattle.clap.specs.Words.{with_subcommand}
use Rattle.clap.specs.declared.builder.action.ArgAction.TheVariants.{Append, SetTrue}
use Rattle.clap.specs.declared.builder.arg.Arg.{Arg}
use Rattle.clap.specs.declared.builder.command.Command.{Command}
use Rattle.clap.specs.declared.builder.command.Command.TheViews.{out-Command}
use Rattle.clap.specs.declared.builder.value_parser.ValueParser.{ValueParser}
use Rattle.clap.specs.declared.builder.value_parser.ValueParser.TheVariants as parser

-- an argument that has to be there
abbrev pub wanted : Text → Rule
wanted id = record (new_rule id) { required = true }

-- an option with a number from 1 on, and its default
abbrev pub number : Text → Text → ValueParser → Rule
number id default least =
    record (new_rule id) { long = Some id; defaults = default ∷ []; parser = Some least }

-- which of the two lists, by its name
abbrev pub attribute : Bor (List (Bor Text)) → Rule
attribute names = record (wanted (codes "LIST")) { parser = Some (parser.Names names) }

abbrev pub file : Rule
file = wanted (codes "FILE")

-- a subcommand with these arguments
abbrev pub sub : Text → List Rule → App
sub name rules = record { top = record (new_app name).top { rules = rules }; subs = [] }

abbrev pub init : App
init = sub (codes "init") (file ∷ wanted (codes "OWNER") ∷ wanted (codes "GROUP") ∷ [])

abbrev pub port : Rule
port = number (codes "port") (codes "8780") (parser.Signed (pos 1) (pos 65535))

abbrev pub count : Rule
count = number (codes "count") (codes "1") (parser.Signed (pos 1) (pos 1000000))

-- the path of a socket, in the place of a port
abbrev pub socket : Rule
socket = record (new_rule (codes "socket")) { long = Some (codes "socket") }

abbrev pub serve : App
serve = sub (codes "serve") (file ∷ port ∷ socket ∷ count ∷ [])

abbrev pub get : App
get = sub (codes "get") (file ∷ wanted (codes "PATH") ∷ [])

-- the only user whose rows are written
abbrev pub user : Rule
user = record (new_rule (codes "user")) { long = Some (codes "user") }

-- a flag: no row is left out
abbrev pub all : Rule
all = record (new_rule (codes "all")) { long = Some (codes "all"); action = Some SetTrue }

abbrev pub review : App
review = sub (codes "review") (file ∷ wanted (codes "PATH") ∷ user ∷ all ∷ [])

abbrev pub reset : Bor (List (Bor Text)) → App
reset names = sub (codes "reset") (file ∷ wanted (codes "PATH") ∷ attribute names ∷ [])

-- a subcommand over a file alone
abbrev pub over_file : Text → App
over_file name = sub name (file ∷ [])

-- the program needs a subcommand
abbrev pub program : App
program =
    let app = new_app (codes "rooms") in
    record app {
      top = record app.top {
        has_version = true;
        subcommand_required = true;
        disable_help_subcommand = true;
      };
    }

abbrev pub with_all : List App → App → App
with_all [] app = app
with_all (one ∷ rest) app = with_all rest (with_subcommand app one.top)

-- the group file
abbrev pub csv : Rule
csv = new_rule (codes "CSV")

-- an option with a group and a user, which may be given again
abbrev pub pair : Text → Rule
pair id = record (new_rule id) { long = Some id; action = Some Append; value_names = 2 }

abbrev pub groups : App
groups = sub (codes "groups") (file ∷ csv ∷ pair (codes "join") ∷ pair (codes "leave") ∷ [])

abbrev pub making : List App
making = sub (codes "check") [] ∷ sub (codes "would") [] ∷ init ∷ serve ∷ groups ∷ []

abbrev pub telling : List App
telling =
    over_file (codes "groups-out") ∷ over_file (codes "audit") ∷ over_file (codes "dump") ∷ get
    ∷ review ∷ []

abbrev pub keeping : Bor (List (Bor Text)) → List App
keeping names =
    reset names ∷ over_file (codes "verify") ∷ over_file (codes "migrate") ∷ []

-- all thirteen subcommands
abbrev pub command_line : Bor (List (Bor Text)) → App
command_line names = with_all (keeping names) (with_all telling (with_all making program))

-- the names of the two lists
abbrev pub AreAttributes : Bor (List (Bor Text)) → Type 0
AreAttributes names = map (λ name. name.now) names.now ≡ codes "dacl" ∷ codes "sacl" ∷ []

-- An argument that is read by this rule, and belongs to its own subcommand alone.
abbrev pub IsArg : Rule → Arg → Type 0
IsArg rule arg = (rule_of arg ≡ rule) × (arg.global ≡ false)

-- The argument that names one of the two lists.
abbrev pub IsListArg : Arg → Type 0
IsListArg arg =
    (names : Bor (List (Bor Text))) × AreAttributes names × IsArg (attribute names) arg

-- A command that is read as this one.
abbrev pub IsLine : App → Command → Type 0
IsLine app line = (app_of line ≡ app) × ((out-Command line).has_globals ≡ false)

-- The subcommand that sets a list, by the names of the two.
abbrev pub IsReset : Command → Type 0
IsReset line =
    (names : Bor (List (Bor Text))) × AreAttributes names × IsLine (reset names) line

-- The whole line, with the names of the two lists.
abbrev pub IsCommandLine : Command → Type 0
IsCommandLine line =
    (names : Bor (List (Bor Text))) × AreAttributes names × IsLine (command_line names) line
