use Rattle.std.proofs.Common.{◌≡◌}
use Rattle.std.specs.List.{All, AllWithin}
use Rattle.tickets.specs.LogSeats.{IsRecordedIn}
use Rattle.tickets.proofs.log_seats.LogSeats.look_each.Given as goal

-- nothing has changed, and the claims of each action so far are recorded in the seats
abbrev pub invariant-loop-k : goal.invariant-loop-k
invariant-loop-k g l = record {
  seats : l.self ≡ l.initial.self;
  held : l.held ≡ l.initial.held;
  recorded : AllWithin (All (IsRecordedIn l.initial.self)) l.initial.held 0 l.k;
}
