use Rattle.std.proofs.Common.{◌≡◌, ◌+◌, ◌∙◌, ◌++◌, List, Option, Some, refl, sym, ap, subst, length, arith}
use Rattle.std.specs.Prelude.{All}
use Rattle.std.proofs.lemmas.List.Elements.{All-drop, All-head}
use Rattle.partitions.specs.Parts.{shared_of}
use Rattle.transactions.specs.declared.work.Work.{Work}
use Rattle.executor.specs.AgreedPhases.{PhasePlaceView, PhasePlacesView, phase_place_view, phase_places_view, without_next}
use Rattle.executor.specs.Begins.{act_at, acts_from, acts_of}
use Rattle.executor.specs.Carrying.{ActView, CarriesAct, IsCarriedAt, act_view, action_at, agreed_phase_of}
use Rattle.executor.specs.Flows.{FlowView}
use Rattle.transactions.specs.Progresses.{IsReached, works_of}
use Rattle.transactions.specs.Works.{CanDo}
use Rattle.wait_die.specs.declared.deciding.Holder.{Holder}
use Rattle.executor.proofs.SentOut.{carried_on, left_then, sent_more, stands_at}
use Rattle.executor.proofs.beginning.send_out.Given as given
use Rattle.executor.proofs.beginning.send_out.Goals as goal
use Rattle.executor.proofs.beginning.send_out.Goals.{After-take}

-- the action's holder, and its place
by_is : (g : given.Over) (c : After-take g) → record { age = c.flow.inside.transaction.age; place = c.len-first.result + c.loop-work.number } ≡ action_at (agreed_phase_of c.args.flow) c.loop-work.number
by_is g c =
    let age : c.flow.inside.transaction.age ≡ c.args.flow.age = ap (λ (j : FlowView). j.age) c.flow.view_is in
    let first : c.len-first.result ≡ length c.args.flow.held = c.len-first.ensures ∙ ap (λ (j : FlowView). length j.held) c.flow.view_is in
    λ i. record { age = age i; place = first i + c.loop-work.number }

place_is : (g : given.Over) (c : After-take g) → c.in-Some-next.place ≡ phase_place_view c.args.flow.slot c.loop-work.number (agreed_phase_of c.args.flow)
place_is g c = c.in-Some-next.ensures.some.0 ∙ ap (λ (p : PhasePlacesView). phase_place_view p.slot p.next p.agreed_phase) c.loop-work.invariant.places

pub loop-work-init : goal.loop-work-init
loop-work-init g c =
    let j = c.args.flow in
    let recorded = agreed_phase_of j in
    let items = c.into_iter-work-iterator.ensures.into_iter_gives.0 in
    let works : c.into_iter-work-iterator.result.rest.items ≡ works_of j.progress = items ∙ c.requires.works in
    record {
      can_next = tt;
      finite = tt;
      all = ap (λ (acts : List ActView). acts ++ acts_from j.slot recorded 0 (Some j) c.into_iter-work-iterator.result.rest.items) c.requires.empty ∙ ap (acts_from j.slot recorded 0 (Some j)) works;
      left = sym works;
      many = omega (arith, ap (λ (xs : List Work). length xs) works);
      room = omega (arith, c.requires.room, ap (λ (xs : List Work). length xs) items, ap (λ (acts : List ActView). length acts) c.requires.empty);
      carried = record { slot_is = refl; agreed_phase_is = refl };
      places = c.requires.places ∙ ap (λ (xs : List Work). phase_places_view j.slot recorded 0 (length xs)) (sym items);
    }

pub invariant_of-push_reserved : goal.invariant_of-push_reserved
invariant_of-push_reserved g c =
    let at = (goal.at.invariant_of-push_reserved g c).After-take in
    let shared = shared_of g.J.LogNames.opening in
    let l = c.loop-work in
    let j = c.args.flow in
    let recorded = agreed_phase_of j in
    let work = c.in-Some.work in
    let rest = c.next.new.self.rest.items in
    let left = l.invariant.left ∙ c.in-Some.ensures.steps.0 in
    let reached : IsReached shared j.request j.progress j.held = subst (λ (f : FlowView). IsReached shared f.request f.progress f.held) c.flow.view_is c.flow.invariant.reached in
    let all = c.actions_can_do_their_work.ensures shared j.request j.progress j.held reached in
    let by : Holder = record { age = c.flow.inside.transaction.age; place = c.len-first.result + l.number } in
    subst (λ (p : PhasePlaceView). CarriesAct shared (act_view by work p c.take.result)) (sym (place_is g at)) (record {
      by_is = by_is g at;
      work_is = stands_at (works_of j.progress) l.number work rest left;
      can = All-head (CanDo shared) work rest (subst (All (CanDo shared)) left (All-drop (CanDo shared) l.number (works_of j.progress) all));
      flow_is = subst (λ (o : Option FlowView). IsCarriedAt j.slot recorded l.number o) (sym c.take.ensures.value) l.invariant.carried;
    })

pub loop-work-preserved : goal.loop-work-preserved
loop-work-preserved g c =
    let at = (goal.at.loop-work-preserved g c).After-take in
    let l = c.loop-work in
    let j = c.args.flow in
    let recorded = agreed_phase_of j in
    let work = c.in-Some.work in
    let rest = c.next.new.self.rest.items in
    let steps = c.in-Some.ensures.steps.0 in
    let by = by_is g at in
    let place = place_is g at in
    let value = c.take.ensures.value in
    let act : act_view (record { age = c.flow.inside.transaction.age; place = c.len-first.result + l.number }) work c.in-Some-next.place c.take.result ≡ act_at j.slot recorded l.number l.carried work =
    λ i. act_view (by i) work (place i) (value i) in
    let long : length l.work-iterator.rest.items ≡ length rest + 1 = omega (arith, ap (λ (xs : List Work). length xs) steps) in
    record {
      can_next = tt;
      finite = tt;
      all = sent_more l.acts.items c.push_reserved.new.self.items (acts_of j) j.slot recorded l.number l.carried c.take.new.self work l.work-iterator.rest.items rest _
          c.push_reserved.ensures.items steps act c.take.ensures.after l.invariant.all;
      left = left_then (works_of j.progress) l.number work rest (l.invariant.left ∙ steps);
      many = omega (arith, l.invariant.many, long);
      room = omega (arith, l.invariant.room, long, c.push_reserved.ensures.len, c.push_reserved.ensures.capacity, ap (λ (xs : List ActView). length xs) c.push_reserved.ensures.items);
      carried = carried_on j.slot recorded l.number c.take.new.self c.take.ensures.after;
      places = c.in-Some-next.ensures.some.1 ∙ ap without_next l.invariant.places ∙ ap (phase_places_view j.slot recorded (l.number + 1)) (omega (arith, long));
    }
