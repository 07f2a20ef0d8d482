use Rattle.command_line.proofs.BuiltCommands.{one_more}
use Rattle.command_line.proofs.settings.sim.command.Goals as goal

pub returns : goal.returns
returns c = one_more (one_more (one_more (one_more (one_more (one_more (one_more (one_more (one_more (one_more c.named.ensures c.data.ensures c.in_ok-arg.ensures) c.argument-schedule.ensures c.in_ok-arg-2.ensures) c.executors.ensures c.in_ok-arg-3.ensures) c.log_limit.ensures c.in_ok-arg-4.ensures) c.inbox.ensures c.in_ok-arg-5.ensures) c.flag-locks.ensures c.in_ok-arg-6.ensures) c.log.ensures c.in_ok-arg-7.ensures) c.option-picture.ensures c.in_ok-arg-8.ensures) c.option-tables.ensures c.in_ok-arg-9.ensures) c.quiet.ensures c.in_ok-command.ensures
