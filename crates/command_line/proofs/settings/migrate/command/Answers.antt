use Rattle.command_line.proofs.BuiltCommands.{one_more}
use Rattle.command_line.proofs.settings.migrate.command.Goals as goal

pub returns : goal.returns
returns c = one_more (one_more (one_more c.named.ensures c.argument-data.ensures c.in_ok-arg.ensures) c.argument-file.ensures c.in_ok-arg-2.ensures) c.quiet.ensures c.in_ok-command.ensures
