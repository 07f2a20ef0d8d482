use Rattle.tickets.proofs.Settling as settling
use Rattle.tickets.proofs.laws.seats_record_the_tables.Goals as goal

pub returns-clause-claims : goal.returns-clause-claims
returns-clause-claims c = settling.recorded_records

pub returns-clause-settled : goal.returns-clause-settled
returns-clause-settled c = settling.settled_record
