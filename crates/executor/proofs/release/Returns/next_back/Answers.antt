use Rattle.std.proofs.Common.{Some}
use Rattle.std.proofs.lemmas.List.Elements.{All-pop}
use Rattle.executor.specs.Answers.{IsGiven}
use Rattle.executor.proofs.release.Returns.next_back.Goals as goal

pub given_back-requires : goal.given_back-requires
given_back-requires g c = (All-pop (IsGiven c.self.inside.is_settled) c.self.inside.held c.take_last.new.self (Some c.in-Some.claims) c.in-Some.ensures.front c.self.invariant).1

pub invariant_of-self : goal.invariant_of-self
invariant_of-self g c = (All-pop (IsGiven c.self.inside.is_settled) c.self.inside.held c.take_last.new.self c.take_last.result c.take_last.ensures.front c.self.invariant).0
