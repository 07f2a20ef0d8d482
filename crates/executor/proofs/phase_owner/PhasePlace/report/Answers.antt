use Rattle.std.proofs.Common.{◌≡◌, ◌∙◌, Some, length, ap, subst}
use Rattle.partitions.specs.Parts.{shared_of}
use Rattle.rendezvous.specs.declared.results.Reported.{Reported}
use Rattle.rendezvous.specs.Meetings.{AllSuit}
use Rattle.rendezvous.specs.Reports.{IfLast}
use Rattle.executor.specs.declared.phase_owner.AgreedPhase.{AgreedPhase}
use Rattle.executor.specs.declared.phase_owner.Said.{Said}
use Rattle.executor.specs.AgreedPhases.{PhasePlaceView, phase_in}
use Rattle.executor.specs.Carrying.{AreAllSaid, IsSaidAt}
use Rattle.executor.proofs.phase_owner.PhasePlace.report.Goals as goal

-- all reports are of the phase that the round is about
pub returns-clause-all : goal.returns-clause-all
returns-clause-all g c =
    let J = g.row.J.Denot in
    let shared = shared_of g.J.LogNames.opening in
    let round = c.self.inside.place.of_round in
    let items = c.in-Last.results.items in
    let many = subst (λ (r : Reported (Said J) AgreedPhase). IfLast r (λ results. length results.items ≡ round.places)) c.in-Last.is c.report-reported.ensures.all in
    let suit = subst (λ (r : Reported (Said J) AgreedPhase). IfLast r (λ results. (topic : AgreedPhase) → round.topic ≡ Some topic → AllSuit (IsSaidAt {J = J} shared topic) results.items)) c.in-Last.is c.report-reported.ensures.suit in
    subst (λ (phase : AgreedPhase). AreAllSaid {J = J} shared phase items) (ap (λ (p : PhasePlaceView). p.agreed_phase) c.self.view_is) (record {
      many = many ∙ c.self.invariant.phase.places_are;
      each = suit (phase_in round.topic) c.self.invariant.phase.about;
    })
