use Rattle.std.proofs.Common.{◌≡◌, [], ◌∷◌, ◌++◌, List, refl, sym, ap, subst, length, arith}
use Rattle.std.specs.Prelude.{All}
use Rattle.std.proofs.lemmas.List.{length_push}
use Rattle.std.proofs.lemmas.List.Elements.{All-tail}
use Rattle.partitions.specs.Parts.{shared_of}
use Rattle.tickets.specs.Claims.{ClaimView}
use Rattle.transactions.specs.declared.work.Found.{Found}
use Rattle.transactions.specs.declared.work.Work.{Work}
use Rattle.transactions.specs.Works.{CanDo}
use Rattle.executor.specs.AtOnce.{HaveDoneBut, phase_to_run}
use Rattle.executor.proofs.AtOnce.{can_be_undone, more_held, next_done, none_done}
use Rattle.executor.proofs.paused.do_all.Goals as goal

pub loop-work-init : goal.loop-work-init
loop-work-init g c =
    let shared = shared_of g.J.LogNames.opening in
    let works = c.args.works.items in
    let gives : works ≡ c.into_iter-work-iterator.result.rest.items = sym c.into_iter-work-iterator.ensures.into_iter_gives.0 in
    let all = ap (λ (l : List Work). length l) gives in
    record {
      can_next = tt;
      finite = tt;
      can = subst (λ (l : List Work). All (CanDo shared) l) gives c.requires.can;
      done = subst (λ (l : List Work). HaveDoneBut shared l (phase_to_run c.args.age works c.args.held) c.args.held c.args.found.items) gives (none_done shared c.args.age works c.args.held c.args.held c.args.found.items refl c.requires.empty);
      few = omega (arith, c.requires.few, all);
      room = omega (arith, c.requires.room, all, ap (λ (l : List Found). length l) c.requires.empty);
    }

pub take_back-requires-clause-first : goal.take_back-requires-clause-first
take_back-requires-clause-first g c =
    let l = c.loop-work in
    omega (arith, c.len-first.ensures, more_held (shared_of g.J.LogNames.opening) c.args.age c.args.works.items c.args.held l.work-iterator.rest.items l.held l.found.items l.invariant.done)

pub take_back-requires-clause-undone : goal.take_back-requires-clause-undone
take_back-requires-clause-undone g c =
    let l = c.loop-work in
    can_be_undone (shared_of g.J.LogNames.opening) c.args.age c.args.works.items c.args.held l.work-iterator.rest.items l.held l.found.items c.requires.undone l.invariant.done

pub loop-work-preserved : goal.loop-work-preserved
loop-work-preserved g c =
    let shared = shared_of g.J.LogNames.opening in
    let l = c.loop-work in
    let work = c.in-Some.work in
    let rest = c.next.new.self.rest.items in
    let steps : l.work-iterator.rest.items ≡ work ∷ rest = c.in-Some.ensures.steps.0 in
    let claims = c.in-Some-work_at_once.claims in
    let one = c.in-Some-work_at_once.one in
    let put : c.put.new.self ≡ l.held ++ claims ∷ [] = c.put.ensures in
    let kept : c.push_reserved.new.self.items ≡ l.found.items ++ one ∷ [] = c.push_reserved.ensures.items in
    let fewer = ap (λ (xs : List Work). length xs) steps in
    record {
      can_next = tt;
      finite = tt;
      can = All-tail (CanDo shared) work rest (subst (λ (xs : List Work). All (CanDo shared) xs) steps l.invariant.can);
      done = next_done shared c.args.age c.args.works.items c.args.held l.work-iterator.rest.items rest l.held c.put.new.self l.found.items c.push_reserved.new.self.items work claims one steps put kept
          c.in-Some-work_at_once.ensures.done c.in-Some-work_at_once.ensures.undone l.invariant.done;
      few = omega (arith, l.invariant.few, fewer, ap (λ (h : List (List ClaimView)). length h) put, length_push l.held claims);
      room = omega (arith, l.invariant.room, fewer, c.push_reserved.ensures.capacity, ap (λ (xs : List Found). length xs) kept, length_push l.found.items one);
    }
