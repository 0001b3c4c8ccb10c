-- Which command the words are (own).
use Rattle.std.specs.Prelude.{◌≡◌, ◌≢◌, ◌⊎◌, ◌<◌, false, ◌^◌, ℕ, List, [], Option, Some, None}
use Rattle.std.specs.Prelude.{◌∷◌, ◌&&◌, Bool, IsSome, true, codes, find, is_some, option_and_then}
use Rattle.std.specs.Prelude.{map, option_map, pos, unwrap_or, if◌then◌else◌}
use Rattle.std.specs.Str.{bytes_eq}
use Rattle.std.specs.Str.Parse.{IsNumeral, digits_value, without_leading_plus}
use Rattle.std.specs.Borrow.{Bor}
use Rattle.clap.specs.Words.{App, IsAmong, IsSignedIn, Row, Text, all_of, fault_of, first_of}
use Rattle.clap.specs.Words.{one_of}
use Rattle.clap.specs.Words.{subcommand_of, takes, without_minus}
use Rattle.clap.specs.declared.error.kind.ErrorKind.{ErrorKind}
use Rattle.clap.specs.declared.error.kind.ErrorKind.TheVariants as kinds
use Rattle.clap.specs.declared.parser.matches.ValueSource.{ValueSource}
use Rattle.clap.specs.declared.parser.matches.ValueSource.TheVariants.{DefaultValue, CommandLine}
use Rattle.cli_outcome.specs.declared.listen.ListenAddress.{ListenAddress}
use Rattle.cli_outcome.specs.declared.listen.ListenAddress.TheVariants as address
use Rattle.room_entry.specs.declared.failure.Failure.{Failure}
use Rattle.room_entry.specs.declared.failure.Failure.TheVariants.{OutOfMemory, Fault}
use Rattle.cli_words.specs.declared.command.CliFault.{CliFault}
use Rattle.room_entry.specs.declared.object.Which.TheVariants.{Dacl, Sacl}
use Rattle.room_entry.specs.declared.object.Which.{Which}
use Rattle.cli_words.specs.Line.{AreAttributes, command_line}
use Rattle.cli_words.specs.declared.command.Command.{Command}
use Rattle.cli_words.specs.declared.command.Command.TheVariants as command
use Rattle.cli_words.specs.declared.command.Job.{Job}
use Rattle.cli_words.specs.declared.command.Job.TheVariants as job

-- the word that was given for an argument
abbrev pub word : Text → List Row → Text
word id rows = unwrap_or (first_of id rows) []

-- all words that were given for an option, one after the other
abbrev pub given : Text → List Row → List Text
given id rows = unwrap_or (all_of id rows) []

-- The number that was given for an option, if it fits this many bits, or the default where none was
-- given.
abbrev pub IsNumber : ℕ → ℕ → Option Text → ℕ → Type 0
IsNumber bits default None number = number ≡ default
IsNumber bits default (Some text) number =
    let digits = without_leading_plus text in
    IsNumeral 10 digits → digits_value 10 digits < 2 ^ bits → number ≡ digits_value 10 digits

-- Whether a flag was given, by the text that the matches have of it.
abbrev pub IsFlag : Option Text → Bool → Type 0
IsFlag None flag = flag ≡ false
IsFlag (Some text) flag = (text ≡ codes "true" → flag ≡ true) × (text ≡ codes "false" → flag ≡ false)

-- a word was given for an argument
abbrev pub HasWord : Text → List Row → Type 0
HasWord id rows = IsSome (first_of id rows)

-- and for each of these
abbrev pub HaveWords : List Text → List Row → Type 0
HaveWords [] rows = Unit {0}
HaveWords (id ∷ ids) rows = HasWord id rows × HaveWords ids rows

-- what a subcommand of this name wants beside the file
abbrev pub wanted_with_file : Text → List Text
wanted_with_file name =
    if bytes_eq name (codes "init") then codes "OWNER" ∷ codes "GROUP" ∷ []
    else if bytes_eq name (codes "review") then codes "PATH" ∷ []
    else if bytes_eq name (codes "get") then codes "PATH" ∷ []
    else if bytes_eq name (codes "reset") then codes "PATH" ∷ codes "LIST" ∷ []
    else []

-- The arguments that a subcommand of this name can't do without.
abbrev pub wanted_by : Text → List Text
wanted_by name =
    if bytes_eq name (codes "check") then []
    else if bytes_eq name (codes "would") then []
    else codes "FILE" ∷ wanted_with_file name

-- The name of one of the two lists.
abbrev pub IsList : Text → Type 0
IsList text = (text ≡ codes "dacl") ⊎ (text ≡ codes "sacl")

-- The option has a number from 1 to this one, which was given or is its default.
abbrev pub HasNumber : Text → ℕ → List Row → Type 0
HasNumber id most rows = (text : Text) × (one_of id rows ≡ Some (without_minus text))
    × IsSignedIn (pos 1) (pos most) text

-- A subcommand of this name has what `clap` sees to: each argument that it can't do without, a list
-- that is one of the two, and numbers in their ranges.
pub record HasWords (name : Text) (rows : List Row) : Type 0 where
  pub wanted : HaveWords (wanted_by name) rows
  pub list : bytes_eq name (codes "reset") ≡ true → IsList (word (codes "LIST") rows)
  pub port : bytes_eq name (codes "serve") ≡ true → HasNumber (codes "port") 65535 rows
  pub count : bytes_eq name (codes "serve") ≡ true → HasNumber (codes "count") 1000000 rows

abbrev pub which_in : List Row → Which
which_in rows = if bytes_eq (word (codes "LIST") rows) (codes "dacl") then Dacl else Sacl

-- whether a value came from the words, and isn't a default
abbrev pub is_of_words : Option ValueSource → Bool
is_of_words None = false
is_of_words (Some DefaultValue) = false
is_of_words (Some CommandLine) = true

abbrev pub was_given : Text → List Row → Bool
was_given id rows =
    is_of_words (option_and_then (λ r. r.source) (find (λ r. bytes_eq r.id id) rows))

-- Both a port and a socket were given.
abbrev pub names_two : Option (Text × List Row) → Bool
names_two None = false
names_two (Some found) =
    was_given (codes "port") found.1 && is_some (first_of (codes "socket") found.1)

-- The address is the socket that was given. Where none was, it is the port that was given or is the
-- default.
abbrev pub IsAddress : List Row → ListenAddress → Type 0
IsAddress rows (address.Socket path) = first_of (codes "socket") rows ≡ Some path.now
IsAddress rows (address.Port port) = (first_of (codes "socket") rows ≡ None)
    × IsNumber 16 8780 (one_of (codes "port") rows) port

-- A job of this name, with its words.
abbrev pub IsJob : Text → List Row → Job → Type 0
IsJob name rows (job.Init owner group) = (name ≡ codes "init")
    × (owner.now ≡ word (codes "OWNER") rows) × (group.now ≡ word (codes "GROUP") rows)
IsJob name rows (job.Groups csv joins leaves) = (name ≡ codes "groups")
    × (option_map (λ (text : Bor Text). text.now) csv ≡ first_of (codes "CSV") rows)
    × (map (λ (text : Bor Text). text.now) joins.items ≡ given (codes "join") rows)
    × (map (λ (text : Bor Text). text.now) leaves.items ≡ given (codes "leave") rows)
IsJob name rows job.GroupsOut = name ≡ codes "groups-out"
IsJob name rows job.Audit = name ≡ codes "audit"
IsJob name rows job.Dump = name ≡ codes "dump"
IsJob name rows (job.Get path) =
    (name ≡ codes "get") × (path.now ≡ word (codes "PATH") rows)
IsJob name rows (job.Review path user all) = (name ≡ codes "review")
    × (path.now ≡ word (codes "PATH") rows)
    × (option_map (λ (text : Bor Text). text.now) user ≡ first_of (codes "user") rows)
    × IsFlag (one_of (codes "all") rows) all
IsJob name rows (job.Reset path which) = (name ≡ codes "reset")
    × (path.now ≡ word (codes "PATH") rows) × (which ≡ which_in rows)
IsJob name rows job.Verify = name ≡ codes "verify"
IsJob name rows job.Migrate = name ≡ codes "migrate"

-- A subcommand of this name, with its words.
abbrev pub IsMet : Text → List Row → Command → Type 0
IsMet name rows command.Check = name ≡ codes "check"
IsMet name rows command.Would = name ≡ codes "would"
IsMet name rows (command.Serve file address count) = (name ≡ codes "serve")
    × (file.now ≡ word (codes "FILE") rows) × IsAddress rows address
    × IsNumber 32 1 (one_of (codes "count") rows) count
IsMet name rows (command.On file job) =
    (file.now ≡ word (codes "FILE") rows) × IsJob name rows job

-- One of the thirteen names of subcommands.
abbrev pub IsName : Text → Type 0
IsName name = (name ≡ codes "check") ⊎ ((name ≡ codes "init") ⊎ ((name ≡ codes "serve")
    ⊎ ((name ≡ codes "groups") ⊎ ((name ≡ codes "groups-out") ⊎ ((name ≡ codes "audit")
    ⊎ ((name ≡ codes "dump") ⊎ ((name ≡ codes "review") ⊎ ((name ≡ codes "reset")
    ⊎ ((name ≡ codes "migrate") ⊎ ((name ≡ codes "verify") ⊎ ((name ≡ codes "get")
    ⊎ (name ≡ codes "would"))))))))))))

-- One of them was found, with the words that it wants.
abbrev pub IsWhole : Option (Text × List Row) → Type 0
IsWhole None = ⊥
IsWhole (Some found) = IsName found.0 × HasWords found.0 found.1

-- The command is the subcommand that was found.
abbrev pub IsCommand : Option (Text × List Row) → Command → Type 0
IsCommand None command = ⊥
IsCommand (Some found) command = IsMet found.0 found.1 command

-- The words are without fault, this is the command that `clap` finds in them, and it names one
-- address at most.
abbrev pub IsRead : List Text → Command → Type 0
IsRead words command = (names : Bor (List (Bor Text))) × AreAttributes names
    × (fault_of (command_line names) words ≡ [])
    × (names_two (subcommand_of (command_line names) words) ≡ false)
    × IsCommand (subcommand_of (command_line names) words) command

-- `clap` doesn't take the words, for a reason of this kind. Or it takes them, and they name two
-- addresses, which is a conflict.
abbrev pub IsReason : App → List Text → ErrorKind → Type 0
IsReason app words kind =
    ((takes app words ≡ false) × IsAmong kind (fault_of app words))
    ⊎ ((fault_of app words ≡ []) × (names_two (subcommand_of app words) ≡ true)
    × (kind ≡ kinds.ArgumentConflict))

-- Memory ran out, or the words are refused, for a reason of this kind.
abbrev pub IsRefused : List Text → Failure CliFault → Type 0
IsRefused words OutOfMemory = Unit {0}
IsRefused words (Fault fault) = (names : Bor (List (Bor Text))) × AreAttributes names
    × IsReason (command_line names) words fault.kind

-- Memory ran out, or the kind of `clap`'s error is answered.
abbrev pub IsTold : ErrorKind → Failure CliFault → Type 0
IsTold kind OutOfMemory = Unit {0}
IsTold kind (Fault fault) = (fault.kind ≡ kind) × (kind ≢ kinds.OutOfMemory)

-- Memory ran out, or two addresses are named, and that is answered.
abbrev pub IsNotMet : Option (Text × List Row) → Failure CliFault → Type 0
IsNotMet found OutOfMemory = Unit {0}
IsNotMet found (Fault fault) = (names_two found ≡ true) × IsTold kinds.ArgumentConflict (Fault fault)
