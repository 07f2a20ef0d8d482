use Rattle.tickets.specs.Committed.{RecordsHere}
use Rattle.tickets.proofs.Committed as kept
use Rattle.tickets.proofs.laws.claims_record_what_is_committed.Goals as goal

pub returns : goal.returns
returns c = λ here tables slice own others committed. kept.All-front (RecordsHere here tables) own others committed.recorded
