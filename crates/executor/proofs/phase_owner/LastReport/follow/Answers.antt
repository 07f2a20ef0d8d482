use Rattle.std.proofs.Common.{◌∙◌, ◌++◌, ◌∷◌, List, Option, sym, ap, subst, arith}
use Rattle.std.specs.Prelude.{All, IfSome}
use Rattle.partitions.specs.Parts.{shared_of}
use Rattle.requests.specs.declared.refusal.Refusal.{Refusal}
use Rattle.tickets.specs.Claims.{ClaimView}
use Rattle.transactions.specs.declared.acting.Ran.{Ran}
use Rattle.transactions.specs.declared.work.Found.{Found}
use Rattle.transactions.specs.Acting.{AreUndoneBy}
use Rattle.transactions.specs.Progresses.{works_of}
use Rattle.transactions.specs.SortedOut.{held_in}
use Rattle.transactions.proofs.SortedOut.{none_before}
use Rattle.executor.specs.Answers.{MayBeRefused}
use Rattle.executor.specs.AgreedPhases.{PhaseOwnerView}
use Rattle.executor.specs.Carrying.{AreSaidIn}
use Rattle.executor.specs.Followed.{FollowsUnless, HasMetUnder, under_claims}
use Rattle.executor.specs.Flows.{FlowView, flow_view}
use Rattle.executor.specs.Phases.{AreAllRans, CarriesMeeting, LastReportView, MetView, rans_said}
use Rattle.executor.proofs.Onward.{follows, met_under, room_then, undone_then}
use Rattle.executor.proofs.Phases.{has_met, long_said, some_flow}
use Rattle.executor.proofs.Refusals.{may_be_refused}
use Rattle.executor.proofs.phase_owner.LastReport.follow.Given as given
use Rattle.executor.proofs.phase_owner.LastReport.follow.Goals as goal
use Rattle.executor.proofs.phase_owner.LastReport.follow.Goals.{After-flow}

-- the transaction, and the results of the phase
abbrev flow_of : (g : given.Over) → After-flow g → FlowView
flow_of g c = flow_view c.flow.inside.transaction c.flow.inside.held

abbrev rans_of : (g : given.Over) → After-flow g → List (Ran g.row.J.Denot)
rans_of g c = rans_said (c.in-Some.field-0 ∷ c.next.new.self.items)

abbrev meeting_of : (g : given.Over) → After-flow g → MetView g.row.J.Denot
meeting_of g c = record { flow = flow_of g c; rans = rans_of g c }

-- the phase has met
has : (g : given.Over) (c : After-flow g) → CarriesMeeting (shared_of g.J.LogNames.opening) c.args.self.slot (meeting_of g c)
has g c =
    let shared = shared_of g.J.LogNames.opening in
    let said = subst (AreSaidIn shared c.args.self.slot) c.in-Some.ensures.items c.requires.all in
    subst (λ (j : FlowView). CarriesMeeting shared c.args.self.slot (record { flow = j; rans = rans_of g c })) (sym c.flow.view_is)
    (has_met shared c.args.self.slot c.in-Some.field-0 c.next.new.self.items said c.in-Some-flow.flow c.in-Some-flow.is)

are : (g : given.Over) (c : After-flow g) → AreAllRans (shared_of g.J.LogNames.opening) (flow_of g c).age (works_of (flow_of g c).progress) (rans_of g c)
are g c = (has g c).rans_are

-- the transaction comes with the first
pub unreachable-requires-in_default-flow : goal.unreachable-requires-in_default-flow
unreachable-requires-in_default-flow g c =
    let shared = shared_of g.J.LogNames.opening in
    let said = subst (AreSaidIn shared c.args.self.slot) c.in-Some.ensures.items c.requires.all in
    some_flow shared c.args.self.slot c.in-Some.field-0 c.next.new.self.items said c.in_default-flow.is

pub sort_out-held-requires-clause-room : goal.sort_out-held-requires-clause-room
sort_out-held-requires-clause-room g c =
    let at = (goal.at.sort_out-held-requires-clause-room g c).After-flow in
    let j = flow_of g at in
    let shared = shared_of g.J.LogNames.opening in
    omega (arith, room_then shared j (rans_of g at) c.flow.invariant (are g at) (c.transactions_have_few_actions.ensures shared j.request j.progress j.held c.flow.invariant.reached), long_said c.next.new.self.items)

pub following_of-requires-clause-slot : goal.following_of-requires-clause-slot
following_of-requires-clause-slot g c =
    let at = (goal.at.following_of-requires-clause-slot g c).After-flow in
    (has g at).slot_is ∙ sym c.next.ensures.slot ∙ sym (ap (λ (l : LastReportView g.row.J.Denot). l.slot) c.sort_out-held.ensures.same) ∙ sym (ap (λ (o : PhaseOwnerView). o.slot) c.finish.ensures)

pub following_of-requires-clause-undone : goal.following_of-requires-clause-undone
following_of-requires-clause-undone g c =
    let at = (goal.at.following_of-requires-clause-undone g c).After-flow in
    subst (λ (h : List (List ClaimView)). All (AreUndoneBy c.flow.inside.transaction.age) h) (sym c.sort_out-held.ensures.held)
    (undone_then (shared_of g.J.LogNames.opening) (flow_of g at) (rans_of g at) c.flow.invariant (are g at))

pub following_of-requires-clause-may : goal.following_of-requires-clause-may
following_of-requires-clause-may g c =
    let at = (goal.at.following_of-requires-clause-may g c).After-flow in
    let j = flow_of g at in
    subst (λ (o : Option Refusal). IfSome o (MayBeRefused g.J.LogNames.most j.pass.reached j.request)) (sym c.sort_out-held.ensures.refusal)
    (may_be_refused (shared_of g.J.LogNames.opening) g.J.LogNames.most j (rans_of g at) c.start-start.result.refusal c.claims_are_of_the_footprint.ensures.some c.flow.invariant (are g at) c.start-start.ensures.refusal)

pub following_of-requires-clause-met : goal.following_of-requires-clause-met
following_of-requires-clause-met g c =
    λ none.
    let at = (goal.at.following_of-requires-clause-met g c).After-flow in
    let shared = shared_of g.J.LogNames.opening in
    let j = flow_of g at in
    let rans = rans_of g at in
    let met = met_under shared j rans c.flow.invariant (are g at) (none_before c.start-start.result.refusal rans (sym c.sort_out-held.ensures.refusal ∙ none)) in
    subst (λ (h : List (List ClaimView)). HasMetUnder shared j.request j.progress h c.sort_out-held.result.1.found.items) (sym c.sort_out-held.ensures.held)
    (subst (λ (f : List Found). HasMetUnder shared j.request j.progress (j.held ++ held_in rans) f) (sym (c.sort_out-held.ensures.found none)) met)

pub returns : goal.returns
returns g c =
    let at = (goal.at.returns g c).After-flow in
    let j = flow_of g at in
    let sorted = c.sort_out-held.result.1 in
    let owner = c.finish.result in
    let slot = (has g at).slot_is ∙ sym c.next.ensures.slot ∙ sym (ap (λ (l : LastReportView g.row.J.Denot). l.slot) c.sort_out-held.ensures.same) ∙ sym (ap (λ (o : PhaseOwnerView). o.slot) c.finish.ensures) in
    let goes = subst (λ (h : List (List ClaimView)). FollowsUnless sorted.refusal owner (under_claims h j) sorted.found.items c.following_of.result) c.sort_out-held.ensures.held c.following_of.ensures in (
      meeting_of g at,
      has g at,
      follows (meeting_of g at) owner (sym slot) c.start-start.result.refusal sorted.refusal sorted.found.items c.following_of.result c.start-start.ensures.refusal (sym c.sort_out-held.ensures.refusal) c.sort_out-held.ensures.found goes,
    )
