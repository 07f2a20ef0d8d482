use Rattle.terminals.proofs.EntryTexts as texts
use Rattle.terminals.proofs.laws.scripts_differ.Goals as goal

pub returns : goal.returns
returns c = texts.scripts_differ
