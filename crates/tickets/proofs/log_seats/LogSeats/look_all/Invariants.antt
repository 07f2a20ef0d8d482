use Rattle.std.proofs.Common.{◌≡◌}
use Rattle.std.specs.List.{AllWithin}
use Rattle.tickets.specs.LogSeats.{IsRecordedIn}
use Rattle.tickets.proofs.log_seats.LogSeats.look_all.Given as goal

-- nothing has changed, and each claim so far is recorded in the seats
abbrev pub invariant-loop-k : goal.invariant-loop-k
invariant-loop-k g l = record {
  seats : l.self ≡ l.initial.self;
  claims : l.claims ≡ l.initial.claims;
  recorded : AllWithin (IsRecordedIn l.initial.self) l.initial.claims 0 l.k;
}
