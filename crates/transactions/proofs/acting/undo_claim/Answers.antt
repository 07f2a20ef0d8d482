use Rattle.std.proofs.Common.{[], ◌∷◌, subst}
use Rattle.tickets.specs.Claims.{ClaimView}
use Rattle.slices.specs.SliceView.{SliceView, SliceKeeps}
use Rattle.transactions.proofs.Kept as kept
use Rattle.transactions.proofs.acting.undo_claim.Goals.{then-eq, else-eq}
use Rattle.transactions.proofs.acting.undo_claim.Goals as goal

pub returns : goal.returns
returns g c = elim c.if-eq.branch [
  | then-eq w ↦
      kept.then (c.args.claim ∷ []) (w.undo.new.claim ∷ []) [] c.args.slice.now w.undo.new.self c.take_back.new.self w.undo.ensures.kept
      (subst (λ (p : ClaimView × SliceView). SliceKeeps (p.0 ∷ []) p.1 [] c.take_back.new.self) (λ i. (w.claim-is i, w.slice-is i)) c.take_back.ensures.kept)
  | else-eq w ↦ subst (λ (p : ClaimView × SliceView). SliceKeeps (p.0 ∷ []) p.1 [] c.take_back.new.self) (λ i. (w.claim-is i, w.slice-is i)) c.take_back.ensures.kept
]
