-- Worked examples of the words for the address at which `serve` listens.
use Rattle.std.proofs.Common.{◌≡◌, ℕ, List, true, false, None, Some, codes, refl}
use Rattle.std.specs.Prelude.{is_some}
use Rattle.clap.specs.Words.{Row, Text, first_of, subcommand_of}
use Rattle.cli_outcome.specs.declared.listen.ListenAddress.TheVariants as address
use Rattle.cli_words.specs.{Command.{IsAddress, IsRead, names_two, was_given}, Line.command_line}
use Rattle.cli_words.specs.declared.command.Command.{Command}

a_port_and_a_socket_are_two : (rows : List Row) → was_given (codes "port") rows ≡ true
    → is_some (first_of (codes "socket") rows) ≡ true
    → names_two (Some (codes "serve", rows)) ≡ true
a_port_and_a_socket_are_two rows port socket = rw (port, socket) refl

no_command_names_two : (words : List Text) (command : Command) (is : IsRead words command)
    → names_two (subcommand_of (command_line is.0) words) ≡ false
no_command_names_two words command is = is.3

where_a_port_is_no_socket_is : (rows : List Row) (port : ℕ) → IsAddress rows (address.Port port)
    → first_of (codes "socket") rows ≡ None
where_a_port_is_no_socket_is rows port is = is.0
