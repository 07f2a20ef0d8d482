use Rattle.std.proofs.Common.{sym, ap, ◌∙◌}
use Rattle.tickets.specs.Claims.{all_claims}
use Rattle.commit_log.specs.PassView.{PassView}
use Rattle.commit_log.proofs.Claimed.{kept_logged}
use Rattle.commit_log.proofs.log.Log.append.Goals as goal

pub invariant_of-self-2 : goal.invariant_of-self-2
invariant_of-self-2 g c =
    let room = c.in-Ok.ensures in
    let recorded = c.commit.ensures in
    kept_logged g.J.LogNames.opening c.self.inside.book.entries c.make_room.new.self.entries c.log.new.self.entries c.self.inside.seats c.commit.new.seats
    (all_claims c.args.held.now) c.args.entry c.make_room.new.pass.session
    c.self.invariant recorded.recorded c.requires.accepted c.requires.carried_out room.entries
    (ap (λ (p : PassView). p.session) room.pass ∙ sym c.requires.session)
    (ap (λ b. b.entries) c.log.ensures.book) recorded.seats
