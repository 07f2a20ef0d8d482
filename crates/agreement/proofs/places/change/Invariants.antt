use Rattle.std.proofs.Common.{[], ◌∷◌}
use Rattle.agreement.proofs.places.change.Given as goal

-- the value that is set is what the change makes of the one before
abbrev pub ghosts-set : goal.ghosts-set
ghosts-set g a = record { value = g.C.Change.changed a._change.now a.place.now.me.0.value ∷ [] }
