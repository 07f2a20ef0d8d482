-- The ranges of an engine's limits.
use Rattle.std.specs.Prelude.{◌≤◌}
use Rattle.rows.specs.declared.limits.TheConstants.{INBOX, MOST_ENTRIES}
use Rattle.commit_log.specs.declared.limits.Limits.{Limits}

-- each limit is in its range
abbrev pub AreLimits : Limits → Type 0
AreLimits limits = ((1 ≤ limits.log) × (limits.log ≤ MOST_ENTRIES)) × ((1 ≤ limits.inbox) × (limits.inbox ≤ INBOX))
