use Rattle.std.proofs.Common.{◌++◌, refl, map, drop, ap, ◌∙◌, sym, arith}
use Rattle.std.proofs.lemmas.List.{take_all, drop_all, append-nil}
use Rattle.tickets.specs.Claims.{all_claims}
use Rattle.tickets.specs.Committed.{all_settled}
use Rattle.tickets.specs.LogSeats.{after_all}
use Rattle.tickets.proofs.Settling.{no_claims, settle_action_turn}
use Rattle.tickets.proofs.log_seats.LogSeats.settle_each.Goals as goal

pub loop-k-init : goal.loop-k-init
loop-k-init g c = record { contents = no_claims c.args.self.now; held = refl }

pub loop-k-preserved : goal.loop-k-preserved
loop-k-preserved g c =
    let action = c.index-held-k.result in
    let turn = settle_action_turn c.args.self.now c.loop-k.self c.settle_action.new.self c.args.held.now c.loop-k.held action c.settle_action.new.action c.loop-k.k (omega arith)
    c.loop-k.invariant.contents c.loop-k.invariant.held c.index-held-k.is
    (c.settle_action.ensures.contents ∙ ap (λ x. map (after_all x) c.loop-k.self) (sym c.index-held-k.is))
    (c.settle_action.ensures.claims ∙ ap all_settled (sym c.index-held-k.is)) in
    record { contents = turn.0; held = turn.1 }

pub returns-clause-contents : goal.returns-clause-contents
returns-clause-contents g c =
    let held = c.args.held.now in
    c.loop-k.invariant.contents ∙ ap (λ cs. map (after_all (all_claims cs)) c.args.self.now) (take_all c.loop-k.k held (omega arith))

pub returns-clause-claims : goal.returns-clause-claims
returns-clause-claims g c =
    let held = c.args.held.now in
    c.loop-k.invariant.held
    ∙ ap (λ cs. map all_settled cs ++ drop c.loop-k.k held) (take_all c.loop-k.k held (omega arith))
    ∙ ap (λ cs. map all_settled held ++ cs) (drop_all c.loop-k.k held (omega arith)) ∙ append-nil (map all_settled held)
