-- The decision on a want of a transaction, by the holders that conflict with it.
use Rattle.std.specs.Prelude.{◌≡◌, ◌≢◌, ℕ, ◌<◌, ◌≤◌, List, [], All, Any}
use Rattle.wait_die.specs.declared.deciding.Holder.{Holder}
use Rattle.wait_die.specs.declared.deciding.Decision.{Decision}
use Rattle.wait_die.specs.declared.deciding.Decision.TheVariants.{Free, Waits, Dies}

-- the age is that of a holder, and no holder is older
abbrev pub IsOldest : List Holder → ℕ → Type 0
IsOldest holders oldest = Any (λ holder. holder.age ≡ oldest) holders × All (λ holder. oldest ≤ holder.age) holders

-- A want is free if there is no holder. It dies if the oldest holder is not younger than it. It waits if there are
-- holders, and all are younger.
abbrev pub IsVerdict : ℕ → List Holder → Decision → Type 0
IsVerdict age holders Free = holders ≡ []
IsVerdict age holders Waits = (holders ≢ []) × All (λ holder. age < holder.age) holders
IsVerdict age holders (Dies oldest) = IsOldest holders oldest × (oldest ≤ age)
