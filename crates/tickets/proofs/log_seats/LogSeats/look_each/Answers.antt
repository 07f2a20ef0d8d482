use Rattle.std.proofs.Common.{◌≡◌, length, set, ap, ◌∙◌, subst, arith}
use Rattle.std.specs.List.{All, AllWithin}
use Rattle.std.proofs.lemmas.List.{set-get_or}
use Rattle.std.proofs.lemmas.List.Elements.{AllWithin-more, All-from_all_within}
use Rattle.tickets.specs.LogSeats.{IsRecordedIn}
use Rattle.tickets.proofs.Settling.{action_recorded, all_recorded}
use Rattle.tickets.proofs.log_seats.LogSeats.look_each.Goals as goal

pub loop-k-preserved : goal.loop-k-preserved
loop-k-preserved g c =
    let seats = c.args.self.now in
    let held = c.args.held.now in
    record {
      seats = c.look_action.ensures.same.0 ∙ c.loop-k.invariant.seats;
      held = ap (set c.loop-k.held c.loop-k.k) c.look_action.ensures.same.1 ∙ set-get_or c.loop-k.held c.loop-k.k c.index-held-k.result ∙ c.loop-k.invariant.held;
      recorded = AllWithin-more (All (IsRecordedIn seats)) held 0 c.loop-k.k c.loop-k.invariant.recorded
          (action_recorded seats c.loop-k.self held c.loop-k.held c.loop-k.k c.index-held-k.result c.loop-k.invariant.seats c.loop-k.invariant.held (omega arith) c.look_action.ensures.recorded);
    }

pub returns-clause-recorded : goal.returns-clause-recorded
returns-clause-recorded g c =
    let all : c.loop-k.k ≡ length c.args.held.now = omega arith in
    all_recorded (IsRecordedIn c.args.self.now) c.args.held.now
    (All-from_all_within (All (IsRecordedIn c.args.self.now)) c.args.held.now
    (subst (AllWithin (All (IsRecordedIn c.args.self.now)) c.args.held.now 0) all c.loop-k.invariant.recorded))
