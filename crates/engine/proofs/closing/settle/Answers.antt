use Rattle.std.proofs.Common.{List, ◌∷◌, [], map, ap, ◌∙◌}
use Rattle.machine.specs.Machine.{tables_after}
use Rattle.commit_log.specs.Log.{requests_of}
use Rattle.groups.specs.declared.wants.Want.{Want}
use Rattle.tickets.specs.Claims.{ClaimView}
use Rattle.local_locks.specs.GroupWants.{group_wants}
use Rattle.slices.specs.Asked.{granted_in}
use Rattle.engine.specs.Closing.{wants_of_all}
use Rattle.engine.proofs.Settled.{settled_still, slice_settled}
use Rattle.engine.proofs.closing.settle.Goals as goal

pub returns-in_ok-held-in-Granted-clause-settled : goal.returns-in_ok-held-in-Granted-clause-settled
returns-in_ok-held-in-Granted-clause-settled g c =
    let opening = g.J.LogNames.opening in
    let last = tables_after opening (requests_of c.args.log.now) in
    let s = c.args.slice in
    let answers = rw c.in-Granted.is at c.in_ok-claims.ensures.answers in
    let grants = answers.0 in
    let claims = c.in-Granted.claims.items in
    let held_is = c.deref_mut.ensures.value ∙ c.in_ok-held-in-Granted.ensures ∙ ap (λ (l : List ClaimView). l ∷ []) c.new.ensures in
    let wants_are = c.all_groups.ensures ∙ ap wants_of_all c.home-home.ensures in
    let granted = grants.claims ∙ ap (λ (w : List Want). map (granted_in (record { age = 18446744073709551615; place = 0 }) s) (group_wants w)) wants_are in
    settled_still opening last s.home s c.ask.new.self grants.home grants.tables
    (slice_settled opening last s.home s (record { age = 18446744073709551615; place = 0 }) claims c.deref_mut.result.now c.requires held_is granted c.look.ensures.recorded)
