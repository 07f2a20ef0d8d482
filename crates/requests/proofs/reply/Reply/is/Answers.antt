use Rattle.std.proofs.Common.{sym, ◌∙◌}
use Rattle.requests.proofs.SameReplies.{reply_decides}
use Rattle.requests.proofs.reply.Reply.is.Goals as goal

pub returns : goal.returns
returns c =
    let decides = reply_decides c.args.self.now c.args.other.now in
    (λ same. decides.0 (sym c.eq.ensures ∙ same), λ same. c.eq.ensures ∙ decides.1 same)
