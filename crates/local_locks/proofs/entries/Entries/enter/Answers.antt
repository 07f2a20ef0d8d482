use Rattle.std.proofs.Common.{◌∙◌, ap}
use Rattle.local_locks.specs.EntryPlaces.{with_wanted}
use Rattle.local_locks.proofs.entries.Entries.enter.Goals as goal

pub returns-clause-entered : goal.returns-clause-entered
returns-clause-entered g c = c.insert_wanted.ensures ∙ ap (with_wanted c.args.wants.now) (c.reserve.ensures.keys ∙ c.self.view_is)
