use Rattle.std.proofs.Common.{ap, ◌∙◌}
use Rattle.local_locks.specs.EntryPlaces.{without}
use Rattle.local_locks.proofs.WantedPlaces.{removed}
use Rattle.local_locks.proofs.entries.Entries.leave_out.Goals as goal

pub returns : goal.returns
returns c =
    c.remove.ensures ∙ removed c.args.place c.self.inside.places.keys c.len-len.ensures.unique ∙ ap (without c.args.place) c.self.view_is
