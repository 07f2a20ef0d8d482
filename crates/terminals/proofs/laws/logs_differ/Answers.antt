use Rattle.terminals.proofs.EntryTexts as texts
use Rattle.terminals.proofs.laws.logs_differ.Goals as goal

pub returns : goal.returns
returns c = texts.logs_differ
