-- How a world can be set up.
use Rattle.std.specs.Prelude.{ℕ, ◌≤◌}
use Rattle.commit_log.specs.Limits.{AreLimits}
use Rattle.world.specs.declared.setup.Setup.{Setup}

-- A world can have this many executors.
abbrev pub CanHave : ℕ → Type 0
CanHave executors = (1 ≤ executors) × (executors ≤ 16)

-- A world can be set up so.
abbrev pub IsPossible : Setup → Type 0
IsPossible setup = CanHave setup.executors × AreLimits setup.limits
