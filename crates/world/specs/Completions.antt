-- The completion meeting of a transaction that is over.
use Rattle.std.specs.Prelude.{◌≡◌, ◌≤◌, ◌+◌, ◌++◌, ℕ, List, Option, Some, None, replicate}
use Rattle.transactions.specs.declared.laws.TheConstants.{MOST_ACTIONS}

-- The places before this one have reported. This many places, from it on, have not; there is at least one, and there are no more
-- places than a transaction has actions.
pub record AwaitsFrom (next left : ℕ) (reports : List (Option (Unit {0}))) : Type 0 where
  pub some : 1 ≤ left
  pub few : next + left ≤ MOST_ACTIONS
  pub reports_are : reports ≡ replicate next (Some tt) ++ replicate left None
