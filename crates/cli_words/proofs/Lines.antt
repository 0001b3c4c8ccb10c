-- Subcommands that are added to a line one by one, and arguments to a subcommand.
use Rattle.std.proofs.Common.{◌∙◌, ap₂, ◌||◌, arith}
use Rattle.clap.specs.Words.{AddsArg, AddsSubcommand, App, Rule, with_rule, with_subcommand}
use Rattle.clap.specs.declared.builder.{arg.Arg.Arg, command.Command.Command}
use Rattle.cli_words.specs.Line.{IsArg, IsLine}

pub added : {a b : App} {old sub new : Command} → IsLine a old → IsLine b sub
    → AddsSubcommand old sub new → IsLine (with_subcommand a b.top) new
added is one adds = grind (arith, is, one, adds, adds.shape, one.1, is.0, one.0, adds.globals, is.1)

pub with_arg : {a : App} {rule : Rule} {old new : Command} {arg : Arg} → IsLine a old
    → IsArg rule arg → AddsArg old arg new → IsLine (with_rule a rule) new
with_arg is one adds = (
  adds.shape one.1 ∙ ap₂ with_rule is.0 one.0,
  adds.globals ∙ ap₂ (λ x y. x || y) is.1 one.1,
)
