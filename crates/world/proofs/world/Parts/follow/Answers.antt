use Rattle.std.proofs.Common.{◌<◌, false, length, inr, sym, ◌∙◌, ap, subst, arith}
use Rattle.transactions.specs.declared.progress.Gathered.{Gathered}
use Rattle.transactions.specs.declared.progress.Gathered.TheVariants.{Finish}
use Rattle.transactions.specs.Progresses.{FollowsFrom}
use Rattle.world.specs.declared.slots.TheConstants.{MOST_ACTIVE}
use Rattle.world.specs.Following.{releasing}
use Rattle.world.proofs.Sorting.{meets_gathered, meets_next, meets_over, next_few, sorted_done, sorted_room, sorted_slot}
use Rattle.world.proofs.world.Parts.follow.Goals as goal

pub follow-requires : goal.follow-requires
follow-requires g c =
    λ none.
    let met = sorted_done c.args.results c.sort_out-flow.result.0 c.start-start.result.refusal c.sort_out-flow.result.1.found.items c.requires.can c.sort_out-flow.ensures.flow
    (sym c.sort_out-flow.ensures.refusal ∙ none) (c.sort_out-flow.ensures.found none) in
    (met.0, met.3, met.5)

pub begin_next_phase-requires : goal.begin_next_phase-requires
begin_next_phase-requires g c =
    let none = c.in-Ok-Next.ensures.none in
    let found = c.sort_out-flow.result.1.found.items in
    let met = sorted_done c.args.results c.sort_out-flow.result.0 c.start-start.result.refusal found c.requires.can c.sort_out-flow.ensures.flow
    (sym c.sort_out-flow.ensures.refusal ∙ none) (c.sort_out-flow.ensures.found none) in
    record {
      room = c.requires.room;
      held = sorted_room c.args.results c.sort_out-flow.result.0 c.requires.can c.sort_out-flow.ensures.flow;
      slot = sorted_slot c.args.results c.sort_out-flow.result.0 c.requires.can c.sort_out-flow.ensures.flow;
      few = next_few c.sort_out-flow.result.0.progress c.in-Ok-Next.progress found met
          (subst (λ (one : Gathered). FollowsFrom c.sort_out-flow.result.0.progress found one) c.in-Ok-Next.field-0-is c.in-Ok-Next.ensures.gathered);
    }

pub put_commit-requires-clause-slot : goal.put_commit-requires-clause-slot
put_commit-requires-clause-slot g c = sorted_slot c.args.results c.sort_out-flow.result.0 c.requires.can c.sort_out-flow.ensures.flow

pub release-requires : goal.release-requires
release-requires g c =
    let few = sorted_room c.args.results c.sort_out-flow.result.0 c.requires.can c.sort_out-flow.ensures.flow in
    record {
      room = omega (arith, c.requires.room, few, ap (λ r. length r.held) c.refused.ensures);
      slot = subst (λ n. n < MOST_ACTIVE) (sym (ap (λ r. r.slot) c.refused.ensures)) (sorted_slot c.args.results c.sort_out-flow.result.0 c.requires.can c.sort_out-flow.ensures.flow);
      few = omega (arith, few, ap (λ r. length r.held) c.refused.ensures);
    }

pub returns-in-Ok-Next : goal.returns-in-Ok-Next
returns-in-Ok-Next g c =
    let none = c.in-Ok-Next.ensures.none in
    let flow = c.sort_out-flow.result.0 in
    let found = c.sort_out-flow.result.1.found.items in
    meets_next c.args.results flow c.start-start.result.refusal found c.in-Ok-Next.progress c.args.self.now c.begin_next_phase.new.self c.sort_out-flow.ensures.flow
    (sym c.sort_out-flow.ensures.refusal ∙ none) (c.sort_out-flow.ensures.found none)
    (subst (λ (one : Gathered). FollowsFrom flow.progress found one) c.in-Ok-Next.field-0-is c.in-Ok-Next.ensures.gathered) c.begin_next_phase.ensures

pub returns-in-Ok-Finish : goal.returns-in-Ok-Finish
returns-in-Ok-Finish g c =
    let none = c.in-Ok-Finish.ensures.none in
    let flow = c.sort_out-flow.result.0 in
    let found = c.sort_out-flow.result.1.found.items in
    meets_gathered c.args.results flow c.start-start.result.refusal found c.args.self.now c.put_commit.new.self c.sort_out-flow.ensures.flow
    (sym c.sort_out-flow.ensures.refusal ∙ none) (c.sort_out-flow.ensures.found none) (
    inr (
      Finish c.in-Ok-Finish.reply,
      (subst (λ (one : Gathered). FollowsFrom flow.progress found one) c.in-Ok-Finish.field-0-is c.in-Ok-Finish.ensures.gathered, c.put_commit.ensures),
    )
    )

pub returns-in-Err : goal.returns-in-Err
returns-in-Err g c =
    meets_over c.args.results c.sort_out-flow.result.0 c.start-start.result.refusal c.sort_out-flow.result.1.refusal c.in-Err.why c.args.self.now c.release.new.self c.sort_out-flow.ensures.flow
    c.start-start.ensures.refusal c.sort_out-flow.ensures.refusal c.in-Err.ensures.refused (c.release.ensures ∙ ap (λ r. releasing false r c.args.self.now) c.refused.ensures)
