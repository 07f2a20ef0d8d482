use Rattle.std.proofs.Common.{[], ◌∷◌}
use Rattle.agreement.proofs.Agreeing.{begins}
use Rattle.agreement.proofs.places.open.Goals as goal

pub of_words-requires : goal.of_words-requires
of_words-requires g c = begins g.V.Value.initial c.args.count (0 ∷ [])
