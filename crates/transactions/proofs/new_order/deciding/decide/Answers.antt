use Rattle.std.proofs.Common.{◌==◌, length, ap, arith}
use Rattle.std.specs.Prelude.{find}
use Rattle.transactions.specs.declared.new_order.LineSold.{LineSold}
use Rattle.transactions.specs.NewOrder.{all_sold}
use Rattle.transactions.proofs.NewOrderKnown.{in_order-few}
use Rattle.transactions.proofs.new_order.deciding.decide.Goals as goal

pub placed-requires-clause-few : goal.placed-requires-clause-few
placed-requires-clause-few c =
    let sold = all_sold c.args.found.items in
    omega (
      arith,
      ap length c.in_ok-sold.ensures,
      in_order-few (λ number. find (λ (line : LineSold). line.number == number) sold) 1 (length c.as_slice-count.result.now),
      ap length c.as_slice-count.ensures,
      c.requires.within.most_lines,
    )
