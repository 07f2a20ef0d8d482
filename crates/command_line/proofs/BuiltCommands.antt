-- Commands as clap reads them, one argument or one command more at a time.
use Rattle.std.proofs.Common.{◌||◌, Bool, ap, ap₂, ◌∙◌}
use Rattle.clap.specs.Words.{AddsArg, AddsSubcommand, App, Rule, Shape, with_rule, with_subcommand}
use Rattle.clap.specs.declared.builder.arg.Arg.{Arg}
use Rattle.clap.specs.declared.builder.command.Command.{Command}
use Rattle.command_line.specs.CommandLine.{IsArgument, IsCommand, alone}

-- one argument more
pub one_more : {old new : Command} {a : Arg} {app : App} {rule : Rule} → IsCommand app old → IsArgument rule a → AddsArg old a new → IsCommand (with_rule app rule) new
one_more is arg adds = record {
  app = adds.shape arg.local ∙ ap₂ with_rule is.app arg.rule;
  local = adds.globals ∙ ap₂ (λ (x y : Bool). x || y) is.local arg.local;
}

-- one command more
pub one_command_more : {old sub new : Command} {app : App} {shape : Shape} → IsCommand app old → IsCommand (alone shape) sub → AddsSubcommand old sub new
    → IsCommand (with_subcommand app shape) new
one_command_more is more adds = record {
  app = adds.shape more.local ∙ ap₂ with_subcommand is.app (ap (λ (a : App). a.top) more.app);
  local = adds.globals ∙ ap₂ (λ (x y : Bool). x || y) is.local more.local;
}
