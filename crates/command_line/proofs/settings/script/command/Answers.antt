use Rattle.command_line.proofs.BuiltCommands.{one_more}
use Rattle.command_line.proofs.settings.script.command.Goals as goal

pub returns : goal.returns
returns c = one_more (one_more (one_more (one_more (one_more (one_more (one_more (one_more (one_more c.named.ensures c.data.ensures c.in_ok-arg.ensures) c.arguments-files.ensures c.in_ok-arg-2.ensures) c.counted.ensures c.in_ok-arg-3.ensures) c.counted-2.ensures c.in_ok-arg-4.ensures) c.option.ensures c.in_ok-arg-5.ensures) c.option-2.ensures c.in_ok-arg-6.ensures) c.option-3.ensures c.in_ok-arg-7.ensures) c.option-4.ensures c.in_ok-arg-8.ensures) c.quiet.ensures c.in_ok-command.ensures
