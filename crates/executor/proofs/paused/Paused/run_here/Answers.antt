use Rattle.std.proofs.Common.{◌≡◌, List, ap, subst, ◌∙◌}
use Rattle.partitions.specs.Parts.{shared_of}
use Rattle.tickets.specs.Claims.{ClaimView}
use Rattle.transactions.specs.declared.work.Work.{Work}
use Rattle.transactions.specs.declared.work.Found.{Found}
use Rattle.transactions.specs.Progresses.{works_of}
use Rattle.executor.specs.declared.flow.FlowBody.{FlowBody}
use Rattle.executor.specs.declared.paused.Tried.TheVariants.{Done}
use Rattle.executor.specs.AtOnce.{HaveDoneAtOnce, RunsHere, phase_of, phase_to_run}
use Rattle.executor.specs.Flows.{FlowView, flow_view}
use Rattle.executor.specs.PausedView.{PausedView, paused_view}
use Rattle.executor.proofs.AtOnce.{undone_at_once}
use Rattle.executor.proofs.paused.Paused.run_here.Given as given
use Rattle.executor.proofs.paused.Paused.run_here.Goals as goal
use Rattle.executor.proofs.paused.Paused.run_here.Goals.{After-do_all}

-- the transaction
abbrev flow_of : (g : given.Over) → After-do_all g → FlowView
flow_of g c = flow_view c.flow.inside.transaction c.flow.inside.held

-- all its actions have done their work
all_done : (g : given.Over) (c : After-do_all g) (held : List (List ClaimView)) (found : List Found) (works : List Work) → works ≡ works_of (flow_of g c).progress
    → HaveDoneAtOnce (shared_of g.J.LogNames.opening) (phase_to_run (flow_of g c).age works (flow_of g c).held) held found
    → HaveDoneAtOnce (shared_of g.J.LogNames.opening) (phase_of (flow_of g c)) held found
all_done g c held found works is done = subst (λ (l : List Work). HaveDoneAtOnce (shared_of g.J.LogNames.opening) (phase_to_run (flow_of g c).age l (flow_of g c).held) held found) is done

pub following_of-requires-clause-undone : goal.following_of-requires-clause-undone
following_of-requires-clause-undone g c =
    let at = (goal.at.following_of-requires-clause-undone g c).After-do_all in
    let held = c.in-Ok-do_all.held in
    let found = c.in-Ok-do_all.found.items in
    undone_at_once (shared_of g.J.LogNames.opening) (flow_of g at) held found c.flow.invariant
    (all_done g at held found _ (c.in-Ok.ensures ∙ ap (λ (m : FlowBody). works_of m.progress) c.deref.ensures) c.in-Ok-do_all.ensures.done)

pub returns-in-Ok-do_all : goal.returns-in-Ok-do_all
returns-in-Ok-do_all g c =
    let at = (goal.at.returns-in-Ok-do_all g c).After-do_all in
    let shared = shared_of g.J.LogNames.opening in
    let j = flow_of g at in
    let held = c.in-Ok-do_all.held in
    let found = c.in-Ok-do_all.found.items in
    let phase_owner = c.into_parts-flow.result.1 in
    let seen : paused_view phase_owner j ≡ c.args.self = λ i. paused_view (c.into_parts-flow.ensures.phase_owner i) ((c.flow.view_is ∙ c.into_parts-flow.ensures.flow) i) in
    let done = all_done g at held found _ (c.in-Ok.ensures ∙ ap (λ (m : FlowBody). works_of m.progress) c.deref.ensures) c.in-Ok-do_all.ensures.done in
    subst (λ (p : PausedView). RunsHere shared p (Done c.following_of.result)) seen (held, found, done, c.following_of.ensures)
