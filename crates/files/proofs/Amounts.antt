-- When an amount is in range.
use Rattle.std.proofs.Common.{ℤ, arith, w64, FitsSigned}
use Rattle.std.proofs.lemmas.Int.{ints}
use Rattle.amounts.specs.Money.{IsMoney}

pub money_fits : (z : ℤ) → IsMoney z → FitsSigned w64 z
money_fits z m =
    let low = m.low in
    let high = m.high in
    omega (arith, ints)
