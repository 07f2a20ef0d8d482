use Rattle.std.proofs.Common.{map, sym, ap, ◌∙◌}
use Rattle.requests.specs.declared.reply.Reply.{Reply}
use Rattle.commit_log.specs.Claimed.{claims_logged}
use Rattle.commit_log.proofs.Claimed.{all_stay}
use Rattle.commit_log.proofs.log.commit.Goals as goal

pub returns-in-RolledBack-clause-claims : goal.returns-in-RolledBack-clause-claims
returns-in-RolledBack-clause-claims g c =
    let held = c.args.held.now in
    c.look_each.ensures.same.1 ∙ sym (ap (λ (r : Reply). map (claims_logged r) held) c.in-RolledBack.is ∙ all_stay c.in-RolledBack.field-0 held)
