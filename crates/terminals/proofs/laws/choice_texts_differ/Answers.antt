use Rattle.terminals.proofs.Choices as choices
use Rattle.terminals.proofs.laws.choice_texts_differ.Goals as goal

pub returns : goal.returns
returns c = choices.choice_texts_differ
