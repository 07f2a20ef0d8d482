use Rattle.std.proofs.Common.{◌∙◌, Option, sym, ap, subst}
use Rattle.requests.specs.declared.refusal.Refusal.{Refusal}
use Rattle.requests.specs.declared.request.Request.{Request}
use Rattle.requests.specs.declared.reply.Reply.{Reply}
use Rattle.tickets.specs.Claims.{all_claims}
use Rattle.commit_log.specs.Claimed.{IsCarriedOut}
use Rattle.transactions.specs.declared.progress.Progress.{Progress}
use Rattle.transactions.specs.declared.progress.Gathered.{Gathered}
use Rattle.transactions.specs.declared.progress.Gathered.TheVariants.{Finish}
use Rattle.transactions.specs.Progresses.{FollowsFrom, HasFound}
use Rattle.executor.specs.declared.following.Following.TheVariants as following
use Rattle.executor.specs.Commits.{CommitView, commit_view}
use Rattle.executor.specs.Flows.{flow_view}
use Rattle.executor.specs.Followed.{FollowsUnless}
use Rattle.executor.specs.Transactions.{TransactionView, transaction_view}
use Rattle.executor.proofs.Onward.{finished, has_found}
use Rattle.executor.proofs.following.following_of.Goals as goal

pub follow-requires : goal.follow-requires
follow-requires g c =
    λ none.
    let t = c.args.transaction in
    subst (λ (p : Progress). HasFound p c.args.sorted.found.items) (sym c.take_progress-progress.ensures.progress)
    (has_found g.J.LogNames.opening t.body.value.request t.body.value.progress c.args.held c.args.sorted.found.items (c.requires.met none))

pub new-requires-clause-carried_out : goal.new-requires-clause-carried_out
new-requires-clause-carried_out g c =
    let t = c.args.transaction in
    let opening = g.J.LogNames.opening in
    let shown = c.in-Ok-Finish.reply in
    let follows = subst (λ (p : Progress). FollowsFrom p c.args.sorted.found.items (Finish shown)) c.take_progress-progress.ensures.progress
    (subst (λ (one : Gathered). FollowsFrom c.take_progress-progress.result c.args.sorted.found.items one) c.in-Ok-Finish.field-0-is c.in-Ok-Finish.ensures.gathered) in
    subst (λ (request : Request). IsCarriedOut opening request (all_claims c.args.held) c.put_reply.new.self.body.value.reply)
    (sym (ap (λ (u : TransactionView). u.request) (c.put_reply.ensures.same ∙ c.take_progress-progress.ensures.same)))
    (subst (λ (reply : Reply). IsCarriedOut opening t.body.value.request (all_claims c.args.held) reply) (sym c.put_reply.ensures.reply)
    (finished opening t.body.value.request t.body.value.progress c.args.held c.args.sorted.found.items (c.requires.met c.in-Ok-Finish.ensures.none) shown follows))

pub returns-in-Ok-Finish : goal.returns-in-Ok-Finish
returns-in-Ok-Finish g c =
    let t = c.args.transaction in
    let shown = c.put_reply.new.self.body.value.reply in
    let recorded = ap (λ (k : CommitView). k.shown) c.new.ensures in
    let follows = subst (λ (p : Progress). FollowsFrom p c.args.sorted.found.items (Finish c.in-Ok-Finish.reply)) c.take_progress-progress.ensures.progress
    (subst (λ (one : Gathered). FollowsFrom c.take_progress-progress.result c.args.sorted.found.items one) c.in-Ok-Finish.field-0-is c.in-Ok-Finish.ensures.gathered) in
    subst (λ (o : Option Refusal). FollowsUnless o c.args.phase_owner (flow_view t c.args.held) c.args.sorted.found.items (following.Commit c.new.result))
    (sym c.in-Ok-Finish.ensures.none) (
      subst (λ (s : Reply). FollowsFrom t.body.value.progress c.args.sorted.found.items (Finish s)) (sym (recorded ∙ c.put_reply.ensures.reply)) follows,
      c.new.ensures ∙ ap (λ (u : TransactionView). commit_view c.args.phase_owner u c.args.held shown) (c.put_reply.ensures.same ∙ c.take_progress-progress.ensures.same)
          ∙ ap (λ (s : Reply). commit_view c.args.phase_owner (transaction_view t) c.args.held s) (sym recorded),
    )
