use Rattle.std.proofs.Common.{◌≡◌, length, set, ap, ◌∙◌, subst, arith}
use Rattle.std.specs.List.{AllWithin}
use Rattle.std.proofs.lemmas.List.{set-get_or}
use Rattle.std.proofs.lemmas.List.Elements.{AllWithin-more, All-from_all_within}
use Rattle.tickets.specs.LogSeats.{IsRecordedIn}
use Rattle.tickets.proofs.Settling.{recorded_at}
use Rattle.tickets.proofs.log_seats.LogSeats.look_all.Goals as goal

pub loop-k-preserved : goal.loop-k-preserved
loop-k-preserved g c =
    let seats = c.args.self.now in
    let claims = c.args.claims.now in
    record {
      seats = c.look.ensures.same.0 ∙ c.loop-k.invariant.seats;
      claims = ap (set c.loop-k.claims c.loop-k.k) c.look.ensures.same.1 ∙ set-get_or c.loop-k.claims c.loop-k.k c.index-claims-k.result ∙ c.loop-k.invariant.claims;
      recorded = AllWithin-more (IsRecordedIn seats) claims 0 c.loop-k.k c.loop-k.invariant.recorded
          (recorded_at seats c.loop-k.self claims c.loop-k.claims c.loop-k.k c.index-claims-k.result c.loop-k.invariant.seats c.loop-k.invariant.claims (omega arith) c.look.ensures.recorded);
    }

pub returns-clause-recorded : goal.returns-clause-recorded
returns-clause-recorded g c =
    let all : c.loop-k.k ≡ length c.args.claims.now = omega arith in
    All-from_all_within (IsRecordedIn c.args.self.now) c.args.claims.now
    (subst (AllWithin (IsRecordedIn c.args.self.now) c.args.claims.now 0) all c.loop-k.invariant.recorded)
