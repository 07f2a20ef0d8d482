use Rattle.tickets.proofs.Committed as kept
use Rattle.tickets.proofs.laws.steps_keep_committed.Goals as goal

pub returns-clause-none : goal.returns-clause-none
returns-clause-none c = λ here claims slice tables others committed. committed

pub returns-clause-two : goal.returns-clause-two
returns-clause-two c = λ here first between last old slice new one two tables others committed. two tables others (one tables others committed)

pub returns-clause-others : goal.returns-clause-others
returns-clause-others c = kept.keeps_framed

pub returns-clause-order : goal.returns-clause-order
returns-clause-order c = kept.keeps_permuted

pub returns-clause-out : goal.returns-clause-out
returns-clause-out c = λ here before after old new step out. (out.0, out.1, step out.0 out.1 out.2)
