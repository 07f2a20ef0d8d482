use Rattle.std.proofs.Common.{rules, ◌≡◌, ◌++◌, List, Option, Some, None, length, replicate, false, inl, inr, ap, arith, ◌∙◌}
use Rattle.transactions.specs.declared.work.Work.{Work}
use Rattle.transactions.specs.Progresses.{works_of}
use Rattle.world.specs.declared.desk.Active.{Active}
use Rattle.world.specs.declared.desk.Active.TheVariants.{Acting}
use Rattle.world.specs.Following.{acts_of, putting, releasing}
use Rattle.world.proofs.world.Parts.begin_next_phase.Goals as goal

pub put_acts-requires-clause-room : goal.put_acts-requires-clause-room
put_acts-requires-clause-room g c =
    let are : length c.in-Ok.works.items ≡ length (works_of c.args.flow.progress) = ap (λ (ws : List Work). length ws) (search rules) in
    omega (arith, c.requires.few, are, c.requires.room)

pub returns-in-Ok : goal.returns-in-Ok
returns-in-Ok g c =
    let flow = c.args.flow in
    let t = flow.transaction in
    let old = c.args.self.now in
    let works : c.in-Ok.works.items ≡ works_of flow.progress = search rules in
    let first : c.len-first.result ≡ length t.held = c.len-first.ensures in
    let begun : c.convene-meeting.result ≡ replicate (length c.in-Ok.works.items) None = search rules in
    let meeting : c.convene-meeting.result ≡ replicate (length (works_of flow.progress)) None = begun ∙ ap (λ (ws : List Work). replicate (length ws) None) works in
    inr (c.put_acts.ensures
    ∙ ap (λ (l : List (Option (Active g.row.J.Denot))). record old { outbox = old.outbox ++ acts_of flow c.in-Ok.works.items; desk = record old.desk { active = l } }) c.put.ensures
    ∙ (λ i. putting (acts_of flow (works i)) t.slot (Some (Acting (first i) (meeting i))) old))

pub convene-meeting-requires-clause-some : goal.convene-meeting-requires-clause-some
convene-meeting-requires-clause-some g c =
    let are : c.in-Ok.works.items ≡ works_of c.args.flow.progress = search rules in
    let some = c.phases_have_actions.ensures c.args.flow.progress in
    omega (arith, some, ap (λ (ws : List Work). length ws) are)

pub convene-meeting-requires-clause-few : goal.convene-meeting-requires-clause-few
convene-meeting-requires-clause-few g c =
    let are : c.in-Ok.works.items ≡ works_of c.args.flow.progress = search rules in
    omega (arith, c.requires.few, ap (λ (ws : List Work). length ws) are)

pub release-requires-clause-few : goal.release-requires-clause-few
release-requires-clause-few g c = omega (arith, c.requires.held, ap (λ r. length r.held) c.refused-over.ensures)

pub returns-in-Err : goal.returns-in-Err
returns-in-Err g c = inl (c.release.ensures ∙ ap (λ r. releasing false r c.args.self.now) c.refused-over.ensures)
