-- A table with all its claims that are out, for tests.
use Rattle.std.specs.Prelude.{◌≡◌, List, All, map}
use Rattle.std.specs.List.{flat_map}
use Rattle.std.specs.List.Sorted.{IsPermutation}
use Rattle.groups.specs.Content.{Content}
use Rattle.tickets.specs.Claims.{ClaimView}
use Rattle.wait_die.specs.declared.deciding.Holder.{Holder}
use Rattle.local_locks.specs.LockTableView.{HeldClaim, LockTableView}
use Rattle.local_locks.specs.Asking.{held_by, IsSettled}

-- the holdings of the claims of a grant
abbrev pub held_of : Holder × List ClaimView → List HeldClaim
held_of grant = map held_by grant.1

-- what the exclusive claims of a grant left is committed
abbrev pub AreSettled : Holder × List ClaimView → Type 0
AreSettled grant = All IsSettled grant.1

-- these are all claims of the table of warehouse 1 that are out
pub record AreOut (table : LockTableView) (out : List (Holder × List ClaimView)) : Type 0 where
  pub w_id : table.w_id ≡ 1
  pub held : IsPermutation table.holdings (flat_map held_of out)
  pub settled : All AreSettled out

-- the claim records this content as committed
abbrev pub Records : Content → ClaimView → Type 0
Records content claim = claim.recorded ≡ content
