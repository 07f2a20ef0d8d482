use Rattle.std.proofs.Common.{◌≡◌, sym, ◌∙◌, get_or}
use Rattle.std.proofs.lemmas.List.{get_or_default}
use Rattle.local_locks.proofs.Grants.{granted_one}
use Rattle.local_locks.proofs.Joins.{at_place}
use Rattle.local_locks.proofs.granting.grant_at.Goals as goal

pub returns-clause-granted : goal.returns-clause-granted
returns-clause-granted g c =
    let locks = c.args.locks.now in
    let lock = get_or locks c.args.number c.index-locks-number.result in
    let is : lock ≡ get_or locks c.args.number lock = get_or_default locks c.args.number c.index-locks-number.result lock c.requires.inside in
    granted_one g.J.GroupNames.warehouses c.args.by locks c.args.number c.args.mode lock c.grant.new.self c.requires.inside is c.grant.ensures.agree.0 c.grant.ensures.agree.1
    (sym (at_place locks c.args.mode c.args.number lock c.requires.inside is) ∙ c.requires.open) c.grant.ensures.lock
