use Rattle.std.proofs.Common.{◌≡◌, ◌≤◌, ◌∙◌, false, inl, inr, List, Ok, Err, length, map, ap, subst, arith}
use Rattle.std.proofs.Math.Nat.{lt_of_not-le}
use Rattle.tickets.specs.Claims.{ClaimView}
use Rattle.commit_log.specs.Claimed.{claims_logged}
use Rattle.commit_log.specs.Items.{item}
use Rattle.commit_log.specs.PassView.{after_item}
use Rattle.transactions.specs.Logged.{logged_at, refused_for}
use Rattle.transactions.proofs.Granted.{written_back}
use Rattle.transactions.proofs.holding.HeldClaims.log.Goals as goal
use Rattle.transactions.proofs.holding.HeldClaims.log.Goals.{in-Ok, in-Err}

pub returns : goal.returns
returns g c =
    let J = g.row.J.Denot in
    let entry = c.args.entry in
    let entries = length c.args.log.now in
    let lent : c.deref_mut.result.now ≡ c.args.self.now = c.deref_mut.ensures.value ∙ c.self.view_is in
    let back = written_back c.append.new.held c.self.inside.places.items c.self.inside.places.len (omega (arith, c.append.auto.held, c.deref_mut.ensures.len)) in
    elim c.match-append.branch [
      | in-Ok w ↦
          let at = w.in-Ok.ensures.place in
          let pass = w.in-Ok.ensures.pass ∙ ap (λ n. after_item c.args.pass (item n entry.number entry.request entry.reply)) at in
          let recorded : c.match-append.result ≡ logged_at {J = J} entries entry c.args.pass = w.result-is ∙ (λ i. record { answer = Ok (at i); pass = pass i; is_settled = c.is_settled-is_settled.ensures i }) in
          inl (
            lt_of_not-le w.in-Ok.ensures.full.1,
            subst (λ n. c.args.pass.seen ≤ n) at w.in-Ok.ensures.later,
            recorded,
            w.in-Ok.ensures.entry,
            back ∙ w.in-Ok.ensures.claims ∙ ap (λ (held : List (List ClaimView)). map (claims_logged entry.reply) held) lent,
          )
      | in-Err w ↦
          let recorded : c.match-append.result ≡ refused_for {J = J} w.in-Err.fault entries c.args.pass =
          w.result-is ∙ (λ i. record { answer = Err (w.why_refused.ensures i); pass = w.in-Err.ensures.refused i; is_settled = false }) in
          inr (w.in-Err.fault, w.in-Err.ensures.full, recorded, w.in-Err.ensures.err.0, back ∙ w.in-Err.ensures.err.1 ∙ lent)
    ]
