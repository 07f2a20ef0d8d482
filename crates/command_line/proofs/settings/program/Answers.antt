use Rattle.command_line.specs.CommandLine.{program}
use Rattle.command_line.proofs.BuiltCommands.{one_command_more}
use Rattle.command_line.proofs.settings.program.Goals as goal

pub returns : goal.returns
unfolding program
returns c = one_command_more (one_command_more (one_command_more (one_command_more (one_command_more (one_command_more (one_command_more c.program_alone.ensures c.in_ok-command.ensures c.in_ok-subcommand.ensures) c.in_ok-command-2.ensures c.in_ok-subcommand-2.ensures) c.in_ok-command-3.ensures c.in_ok-subcommand-3.ensures) c.in_ok-command-4.ensures c.in_ok-subcommand-4.ensures) c.in_ok-command-5.ensures c.in_ok-subcommand-5.ensures) c.in_ok-command-6.ensures c.in_ok-subcommand-6.ensures) c.in_ok-command-7.ensures c.in_ok-program.ensures
