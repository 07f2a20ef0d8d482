use Rattle.terminals.proofs.EntryTexts as texts
use Rattle.terminals.proofs.laws.moves_differ.Goals as goal

pub returns : goal.returns
returns c = texts.moves_differ
