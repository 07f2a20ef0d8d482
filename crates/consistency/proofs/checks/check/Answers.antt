use Rattle.std.proofs.Common.{List, ◌^◌, sym, subst}
use Rattle.std.specs.Prelude.{ℤ}
use Rattle.consistency.specs.Balances.{AreWithin}
use Rattle.consistency.proofs.checks.check.Goals as goal

pub balances_are_owed-requires-clause-within : goal.balances_are_owed-requires-clause-within
balances_are_owed-requires-clause-within c =
    subst (λ (totals : List ℤ). AreWithin (2 ^ 124) totals) (sym c.deref.ensures.value) c.in_ok-deliveries.ensures.within
