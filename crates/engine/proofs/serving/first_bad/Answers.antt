use Rattle.std.proofs.Common.{List, arith, subst}
use Rattle.std.specs.Prelude.{All}
use Rattle.std.proofs.lemmas.List.{take_all}
use Rattle.std.proofs.lemmas.List.Elements.{All-more}
use Rattle.range_moves.specs.declared.order.MoveOrder.{MoveOrder}
use Rattle.range_moves.specs.Orders.{IsWithin}
use Rattle.engine.proofs.serving.first_bad.Goals as goal

pub loop-place-preserved : goal.loop-place-preserved
loop-place-preserved c =
    All-more (IsWithin c.args.warehouses c.args.executors) c.args.moves.now c.loop-place.place _ c.loop-place-test.true c.loop-place.invariant (c.is_within.ensures.0 c.if-not-is_within.false)

pub returns-clause-none : goal.returns-clause-none
returns-clause-none c =
    subst (λ (l : List MoveOrder). All (IsWithin c.args.warehouses c.args.executors) l) (take_all c.loop-place.place c.args.moves.now (omega (arith, c.loop-place-test.false))) c.loop-place.invariant
