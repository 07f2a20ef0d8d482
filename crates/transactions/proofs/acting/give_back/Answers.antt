use Rattle.std.proofs.Common.{◌≡◌, [], ◌∷◌, List, subst, sym, ◌∙◌, arith}
use Rattle.std.specs.Prelude.{All}
use Rattle.tickets.specs.Claims.{ClaimView}
use Rattle.tickets.proofs.Committed.{All-front}
use Rattle.slices.specs.SliceView.{IsClaimAt, SliceKeeps}
use Rattle.slices.proofs.Opened.{none_left}
use Rattle.slices.proofs.Steps.{All-last}
use Rattle.transactions.specs.Acting.{CanBeSettled}
use Rattle.transactions.proofs.Kept as kept
use Rattle.transactions.proofs.acting.give_back.Goals as goal

pub take_back-requires : goal.take_back-requires
take_back-requires g c =
    let start = c.args.slice.now.home in
    record {
      home = All-last (IsClaimAt start) c.pop.new.self.items c.in-Some.claim (subst (All (IsClaimAt start)) c.in-Some.ensures.items c.loop-claim.invariant.home) ∙ sym c.loop-claim.invariant.kept.home;
      committed = All-last CanBeSettled c.pop.new.self.items c.in-Some.claim (subst (All CanBeSettled) c.in-Some.ensures.items c.loop-claim.invariant.settled);
    }

pub loop-claim-preserved : goal.loop-claim-preserved
loop-claim-preserved g c =
    let rest = c.pop.new.self.items in
    let start = c.args.slice.now.home in
    record {
      kept = kept.one_fewer rest c.in-Some.claim c.args.claims.items c.args.slice.now c.loop-claim.slice c.take_back.new.self
          (subst (λ (claims : List ClaimView). SliceKeeps c.args.claims.items c.args.slice.now claims c.loop-claim.slice) c.in-Some.ensures.items c.loop-claim.invariant.kept) c.take_back.ensures.kept;
      tables = c.take_back.ensures.tables ∙ c.loop-claim.invariant.tables;
      settled = All-front CanBeSettled rest (c.in-Some.claim ∷ []) (subst (All CanBeSettled) c.in-Some.ensures.items c.loop-claim.invariant.settled);
      home = All-front (IsClaimAt start) rest (c.in-Some.claim ∷ []) (subst (All (IsClaimAt start)) c.in-Some.ensures.items c.loop-claim.invariant.home);
    }

pub returns-clause-kept : goal.returns-clause-kept
returns-clause-kept g c =
    let none : c.loop-claim.claims.items ≡ [] = none_left c.loop-claim.claims.items (let long = c.loop-claim.claims.ok in omega (arith, c.in_default.ensures.cases.0, long)) in
    subst (λ (claims : List ClaimView). SliceKeeps c.args.claims.items c.args.slice.now claims c.loop-claim.slice) none c.loop-claim.invariant.kept
