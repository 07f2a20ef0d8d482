use Rattle.terminals.proofs.EntryTexts as texts
use Rattle.terminals.proofs.laws.schedules_differ.Goals as goal

pub returns : goal.returns
returns c = texts.schedules_differ
