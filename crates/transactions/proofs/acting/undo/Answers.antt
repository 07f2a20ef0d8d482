use Rattle.std.proofs.Common.{◌≡◌, [], ◌∷◌, List, subst, sym, ◌∙◌, arith}
use Rattle.std.specs.Prelude.{All}
use Rattle.tickets.specs.Claims.{ClaimView}
use Rattle.tickets.proofs.Committed.{All-front}
use Rattle.slices.specs.SliceView.{IsClaimAt, SliceKeeps}
use Rattle.slices.proofs.Opened.{none_left}
use Rattle.slices.proofs.Steps.{All-last}
use Rattle.transactions.specs.Acting.{CanBeUndone}
use Rattle.transactions.proofs.Kept as kept
use Rattle.transactions.proofs.acting.undo.Goals as goal

pub undo_claim-requires : goal.undo_claim-requires
undo_claim-requires g c =
    let start = c.args.slice.now.home in
    record {
      undone = All-last CanBeUndone c.pop.new.self.items c.in-Some.claim (subst (All CanBeUndone) c.in-Some.ensures.items c.loop-claim.invariant.undone);
      home = All-last (IsClaimAt start) c.pop.new.self.items c.in-Some.claim (subst (All (IsClaimAt start)) c.in-Some.ensures.items c.loop-claim.invariant.home) ∙ sym c.loop-claim.invariant.kept.home;
    }

pub loop-claim-preserved : goal.loop-claim-preserved
loop-claim-preserved g c =
    let rest = c.pop.new.self.items in
    let start = c.args.slice.now.home in
    record {
      kept = kept.one_fewer rest c.in-Some.claim c.into_vec-claims.result.items c.args.slice.now c.loop-claim.slice c.undo_claim.new.slice
          (subst (λ (claims : List ClaimView). SliceKeeps c.into_vec-claims.result.items c.args.slice.now claims c.loop-claim.slice) c.in-Some.ensures.items c.loop-claim.invariant.kept) c.undo_claim.ensures;
      undone = All-front CanBeUndone rest (c.in-Some.claim ∷ []) (subst (All CanBeUndone) c.in-Some.ensures.items c.loop-claim.invariant.undone);
      home = All-front (IsClaimAt start) rest (c.in-Some.claim ∷ []) (subst (All (IsClaimAt start)) c.in-Some.ensures.items c.loop-claim.invariant.home);
    }

pub returns : goal.returns
returns g c =
    let none : c.loop-claim.claims.items ≡ [] = none_left c.loop-claim.claims.items (let long = c.loop-claim.claims.ok in omega (arith, c.in_default.ensures.cases.0, long)) in
    subst (λ (claims : List ClaimView). SliceKeeps claims c.args.slice.now [] c.loop-claim.slice) c.into_vec-claims.ensures
    (subst (λ (claims : List ClaimView). SliceKeeps c.into_vec-claims.result.items c.args.slice.now claims c.loop-claim.slice) none c.loop-claim.invariant.kept)
