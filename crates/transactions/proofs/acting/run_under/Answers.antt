use Rattle.std.proofs.Common.{◌≡◌, [], ◌++◌, List, drop, length, take, sym, ap, subst, ◌∙◌, arith}
use Rattle.std.specs.Prelude.{All}
use Rattle.partitions.specs.Parts.{shared_of}
use Rattle.tickets.specs.Claims.{ClaimView}
use Rattle.slices.specs.SliceView.{IsClaimAt, SliceKeeps, SliceView}
use Rattle.transactions.specs.Acting.{CanBeSettled}
use Rattle.transactions.specs.Granted.{AreGrantedFor, AreLeft, AreGroupWantsAt}
use Rattle.transactions.specs.Works.{HasDone, group_wants_of}
use Rattle.transactions.proofs.Granted.{written_back}
use Rattle.transactions.proofs.Homes.{granted_each}
use Rattle.transactions.proofs.Kept as kept
use Rattle.transactions.proofs.GroupWanted.{granted_settled, works_claim_at_home}
use Rattle.transactions.proofs.acting.run_under.Given as given
use Rattle.transactions.proofs.acting.run_under.Goals as goal
use Rattle.transactions.proofs.acting.run_under.Goals.{After-run}

pub run-requires-clause-granted : goal.run-requires-clause-granted
run-requires-clause-granted g c = subst (AreGrantedFor (group_wants_of c.args.work)) (sym c.deref_mut.ensures.value) c.requires.granted

-- what was lent is the claims again
back : (g : given.Over) (c : After-run g) → take c.args.claims.len (c.run.new.claims ++ drop (length c.run.new.claims) c.args.claims.items) ≡ c.run.new.claims
back g c = written_back c.run.new.claims c.args.claims.items c.args.claims.len (omega (arith, c.run.auto.claims, c.deref_mut.ensures.len))

ran : (g : given.Over) (c : After-run g) → SliceKeeps c.args.claims.items c.args.slice.now c.run.new.claims c.run.new.slice
ran g c = subst (λ (cs : List ClaimView). SliceKeeps cs c.args.slice.now c.run.new.claims c.run.new.slice) c.deref_mut.ensures.value c.run.ensures.kept

pub returns-in-Ok-clause-kept : goal.returns-in-Ok-clause-kept
returns-in-Ok-clause-kept g c =
    let at = (goal.at.returns-in-Ok-clause-kept g c).After-run in
    subst (λ (cs : List ClaimView). SliceKeeps c.args.claims.items c.args.slice.now cs c.run.new.slice) (sym (c.new.ensures ∙ back g at)) (ran g at)

pub returns-in-Ok-clause-done : goal.returns-in-Ok-clause-done
returns-in-Ok-clause-done g c =
    let at = (goal.at.returns-in-Ok-clause-done g c).After-run in
    subst (λ (cs : List ClaimView). HasDone (shared_of c.args.slice.now.tables) c.args.work c.in-Ok.found cs × AreLeft c.args.claims.items cs) (sym (c.new.ensures ∙ back g at))
    (c.in-Ok.ensures.done, subst (λ (cs : List ClaimView). AreLeft cs c.run.new.claims) c.deref_mut.ensures.value c.run.ensures.left)

pub give_back-requires-clause-settled : goal.give_back-requires-clause-settled
give_back-requires-clause-settled g c =
    let still = back g (goal.at.give_back-requires-clause-settled g c).After-run ∙ c.in-Err.ensures.err.1 ∙ c.deref_mut.ensures.value in
    subst (All CanBeSettled) (sym still) (granted_settled (group_wants_of c.args.work) c.args.claims.items c.requires.granted)

pub give_back-requires-clause-home : goal.give_back-requires-clause-home
give_back-requires-clause-home g c =
    let still = back g (goal.at.give_back-requires-clause-home g c).After-run ∙ c.in-Err.ensures.err.1 ∙ c.deref_mut.ensures.value in
    let home = c.args.slice.now.home in
    let here = granted_each home (group_wants_of c.args.work) c.args.claims.items c.requires.granted (subst (λ n. AreGroupWantsAt n (group_wants_of c.args.work)) c.requires.home (works_claim_at_home c.args.work)) in
    subst (λ (s : SliceView). All (IsClaimAt s.home) (take c.args.claims.len (c.run.new.claims ++ drop (length c.run.new.claims) c.args.claims.items))) (sym c.in-Err.ensures.err.0) (subst (All (IsClaimAt home)) (sym still) here)

pub returns-in-Err-clause-kept : goal.returns-in-Err-clause-kept
returns-in-Err-clause-kept g c =
    let at = (goal.at.returns-in-Err-clause-kept g c).After-run in
    kept.then c.args.claims.items c.run.new.claims [] c.args.slice.now c.run.new.slice c.give_back.new.slice (ran g at)
    (subst (λ (cs : List ClaimView). SliceKeeps cs c.run.new.slice [] c.give_back.new.slice) (back g at) c.give_back.ensures.kept)

pub returns-in-Err-clause-done : goal.returns-in-Err-clause-done
returns-in-Err-clause-done g c = c.give_back.ensures.tables ∙ ap (λ (s : SliceView). s.tables) c.in-Err.ensures.err.0
