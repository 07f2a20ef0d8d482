use Rattle.std.proofs.Common.{◌++◌, refl, map, drop, ap, ◌∙◌, sym, arith}
use Rattle.std.proofs.lemmas.List.{take_all, drop_all, append-nil}
use Rattle.tickets.specs.Claims.{settled}
use Rattle.tickets.specs.LogSeats.{after_all, after_one}
use Rattle.tickets.proofs.Settling.{no_claims, settle_turn}
use Rattle.tickets.proofs.log_seats.LogSeats.settle_all.Goals as goal

pub loop-k-init : goal.loop-k-init
loop-k-init g c = record { contents = no_claims c.args.self.now; claims = refl }

pub loop-k-preserved : goal.loop-k-preserved
loop-k-preserved g c =
    let claim = c.index-claims-k.result in
    let turn = settle_turn c.args.self.now c.loop-k.self c.settle.new.self c.args.claims.now c.loop-k.claims claim c.settle.new.claim c.loop-k.k (omega arith)
    c.loop-k.invariant.contents c.loop-k.invariant.claims c.index-claims-k.is
    (c.settle.ensures.contents ∙ ap (λ x. map (after_one x) c.loop-k.self) (sym c.index-claims-k.is))
    (c.settle.ensures.claim ∙ ap settled (sym c.index-claims-k.is)) in
    record { contents = turn.0; claims = turn.1 }

pub returns-clause-contents : goal.returns-clause-contents
returns-clause-contents g c =
    let claims = c.args.claims.now in
    c.loop-k.invariant.contents ∙ ap (λ cs. map (after_all cs) c.args.self.now) (take_all c.loop-k.k claims (omega arith))

pub returns-clause-claims : goal.returns-clause-claims
returns-clause-claims g c =
    let claims = c.args.claims.now in
    c.loop-k.invariant.claims
    ∙ ap (λ cs. map settled cs ++ drop c.loop-k.k claims) (take_all c.loop-k.k claims (omega arith))
    ∙ ap (λ cs. map settled claims ++ cs) (drop_all c.loop-k.k claims (omega arith)) ∙ append-nil (map settled claims)
