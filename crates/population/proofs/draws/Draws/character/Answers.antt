use Rattle.std.proofs.Common.{arith}
use Rattle.std.proofs.lemmas.List.Sums.{AllPass-from_list_all}
use Rattle.population.proofs.draws.Draws.character.Goals as goal

pub returns : goal.returns
returns c = λ kind h. AllPass-from_list_all kind c.args.alphabet.now h _ _ (omega arith)
