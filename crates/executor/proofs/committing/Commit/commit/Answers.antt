use Rattle.std.proofs.Common.{◌≡◌, subst}
use Rattle.commit_log.specs.declared.entry.Entry.{Entry}
use Rattle.commit_log.specs.Items.{entry_of}
use Rattle.transactions.specs.Logged.{Logs, log_and_claims}
use Rattle.executor.specs.Commits.{commit_view, entry_committed}
use Rattle.executor.specs.Transactions.{transaction_view}
use Rattle.executor.proofs.Logged.{gives}
use Rattle.executor.proofs.committing.Commit.commit.Goals as goal

pub new-requires : goal.new-requires
new-requires g c =
    let t = c.self.inside.transaction in
    let own = commit_view c.self.inside.phase_owner (transaction_view t) c.self.inside.held t.body.value.reply in
    let session : c.session.result ≡ t.pass.session = cc in
    let request : c.take_request.result ≡ t.body.value.request = cc in
    let reply : c.take_reply.result ≡ t.body.value.reply = cc in
    let entry : entry_of c.session.result t.number c.take_request.result c.take_reply.result ≡ entry_committed own =
    λ i. entry_of (session i) t.number (request i) (reply i) in
    gives g.J.LogNames.most own c.args.log.now c.log-answer.new.log c.log-answer.result c.log-answer.new.self c.self.invariant.undone
    (subst (λ (e : Entry). Logs g.J.LogNames.most e t.pass (log_and_claims c.args.log.now c.self.inside.held) c.log-answer.result (log_and_claims c.log-answer.new.log c.log-answer.new.self)) entry c.log-answer.ensures)
