use Rattle.requests.proofs.PartsDiffer.{parts_differ}
use Rattle.requests.proofs.script.parts_of_records_differ.Goals as goal

pub returns : goal.returns
returns c = parts_differ 0
