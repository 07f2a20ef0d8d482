use Rattle.std.proofs.Common.{◌≤◌, sym, ap, ◌∙◌, length, arith}
use Rattle.std.proofs.lemmas.List.{length_push}
use Rattle.std.proofs.lemmas.List.Elements.{All-pop}
use Rattle.transactions.specs.Acting.{CanAllBeUndone}
use Rattle.executor.proofs.AtOnce.{take_front}
use Rattle.executor.proofs.paused.take_back.Goals as goal

pub loop-held-preserved-in-Some-2 : goal.loop-held-preserved-in-Some-2
loop-held-preserved-in-Some-2 g c =
    let front = c.take_last.new.self in
    let few : c.args.first ≤ length front = omega (arith, c.loop-held-test.true, c.len.ensures, ap length c.in-Some.ensures.front, length_push front c.in-Some.claims) in
    record {
      same = sym (take_front c.args.first c.loop-held.held front c.in-Some.claims c.in-Some.ensures.front few) ∙ c.loop-held.invariant.same;
      many = few;
      undone = (All-pop CanAllBeUndone c.loop-held.held front c.take_last.result c.take_last.ensures.front c.loop-held.invariant.undone).0;
    }

pub loop-held-preserved : goal.loop-held-preserved
loop-held-preserved g c =
    let front = c.take_last.new.self in
    let few : c.args.first ≤ length front = omega (arith, c.loop-held-test.true, c.len.ensures, ap length c.in-Some.ensures.front, length_push front c.in-Some.claims) in
    record {
      same = sym (take_front c.args.first c.loop-held.held front c.in-Some.claims c.in-Some.ensures.front few) ∙ c.loop-held.invariant.same;
      many = few;
      undone = (All-pop CanAllBeUndone c.loop-held.held front c.take_last.result c.take_last.ensures.front c.loop-held.invariant.undone).0;
    }
