use Rattle.std.proofs.Common.{ap, subst, sym, ◌≡◌, ◌++◌, ◌∙◌, None, option_to_list}
use Rattle.transactions.specs.declared.acting.Ran.{Ran}
use Rattle.transactions.specs.SortedOut.{found_by, held_by, refused_by}
use Rattle.world.specs.declared.flight.Flow.{Flow}
use Rattle.world.specs.Following.{held_in}
use Rattle.rendezvous.proofs.Awaiting.{none_left}
use Rattle.world.proofs.Sorting.{carried_first, found_all, found_more, found_room_more, held_more, refusal_all, refusal_more, room_more}
use Rattle.world.proofs.gathering.sort_out.Goals as goal

pub loop-report-preserved : goal.loop-report-preserved
loop-report-preserved g c =
    let l = c.loop-report in
    let one = c.sort_one-in-Some-next in
    let r = c.in-Some-next.report in
    let rest = c.next-in-loop-report.new.self in
    let is = c.in-Some-next.ensures.results in
    let same = c.ran_of.ensures in
    let put = subst (λ (own : Ran g.row.J.Denot). one.new.held ≡ l.flow.transaction.held ++ held_by own) same one.ensures.held in
    let recorded = subst (λ (own : Ran g.row.J.Denot). one.new.self.refusal ≡ refused_by l.sorted.refusal own) same one.ensures.refusal in
    let finds = subst (λ (own : Ran g.row.J.Denot). one.new.self.refusal ≡ None → one.new.self.found.items ≡ l.sorted.found.items ++ found_by own) same one.ensures.found in
    let holds_now : Flow g.row.J.Denot → Flow g.row.J.Denot = λ f. record f { transaction = record f.transaction { held = one.new.held } } in
    record {
      flow = ap holds_now l.invariant.flow;
      held = held_more r rest l.results is l.flow.transaction.held one.new.held _ put l.invariant.held;
      room = room_more r rest l.results is l.flow.transaction.held one.new.held put l.invariant.room;
      refusal = refusal_more r rest l.results is l.sorted.refusal one.new.self.refusal _ recorded l.invariant.refusal;
      found = found_more r rest l.results is l.sorted.refusal one.new.self.refusal l.sorted.found.items one.new.self.found.items _ recorded finds l.invariant.found;
      found_room = found_room_more r rest l.results is l.sorted.refusal one.new.self.refusal l.sorted.found.items one.new.self.found.items _ _ recorded finds one.ensures.same l.invariant.found_room;
    }

pub returns-clause-flow : goal.returns-clause-flow
returns-clause-flow g c =
    let l = c.loop-report in
    let one = c.sort_one in
    let none = none_left l.results c.next-in-loop-report.result c.in_default-next.is c.next-in-loop-report.ensures.some in
    carried_first c.in-Some.first c.next.new.self c.args.results.now c.in-Some-flow.flow l.flow one.new.held c.in-Some.ensures.results c.in-Some-flow.is one.ensures.held l.invariant.flow
    (subst (λ rs. l.flow.transaction.held ++ held_in rs ≡ one.new.held ++ held_in c.next.new.self) none l.invariant.held)

pub returns-clause-refusal : goal.returns-clause-refusal
returns-clause-refusal g c =
    let l = c.loop-report in
    let none = none_left l.results c.next-in-loop-report.result c.in_default-next.is c.next-in-loop-report.ensures.some in
    refusal_all c.in-Some.first c.next.new.self c.args.results.now l.results c.args.sorted.refusal c.sort_one.new.self.refusal l.sorted.refusal c.in-Some.ensures.results none c.sort_one.ensures.refusal l.invariant.refusal

pub returns-clause-found : goal.returns-clause-found
returns-clause-found g c =
    let l = c.loop-report in
    let one = c.sort_one in
    let none = none_left l.results c.next-in-loop-report.result c.in_default-next.is c.next-in-loop-report.ensures.some in
    found_all c.in-Some.first c.next.new.self c.args.results.now l.results c.args.sorted.refusal one.new.self.refusal l.sorted.refusal c.args.sorted.found.items one.new.self.found.items l.sorted.found.items c.in-Some.ensures.results none
    one.ensures.refusal l.invariant.refusal (λ fresh. (c.requires.found fresh).0) one.ensures.found l.invariant.found

pub returns-clause-all : goal.returns-clause-all
returns-clause-all g c =
    let l = c.loop-report in
    let none = none_left l.results c.next-in-loop-report.result c.in_default-next.is c.next-in-loop-report.ensures.some in
    sym (c.next-in-loop-report.ensures.results ∙ ap (λ o. option_to_list o ++ c.next-in-loop-report.new.self) c.in_default-next.is) ∙ none
