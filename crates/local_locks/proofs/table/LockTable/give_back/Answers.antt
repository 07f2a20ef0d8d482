use Rattle.std.proofs.Common.{rules, ◌≡◌, [], ◌∷◌, List, refl, sym, ap, subst, ◌∙◌, arith}
use Rattle.std.specs.Prelude.{All}
use Rattle.std.proofs.lemmas.List.{nil_from_length}
use Rattle.std.proofs.lemmas.List.Elements.{All-head, All-tail}
use Rattle.tickets.specs.Claims.{ClaimView}
use Rattle.local_locks.specs.Asking.{all_kept_after, IsOfHome, IsSettled}
use Rattle.local_locks.specs.LockTableView.{Stand}
use Rattle.local_locks.proofs.EntryUses.{all_used, still_fewer}
use Rattle.local_locks.proofs.Returns.{AreBack, all_back, all_out, none_back, one_back}
use Rattle.local_locks.proofs.table.LockTable.give_back.Goals as goal

pub loop-claim-init : goal.loop-claim-init
loop-claim-init g c =
    let holdings = c.args.self.now.holdings in
    let same : c.into_iter-claim-iterator.result.rest.items ≡ c.args.claims.items = search rules in
    let home = IsOfHome c.args.self.now.w_id in
    record {
      can_next = tt;
      finite = tt;
      back = subst (λ (cs : List ClaimView). AreBack holdings c.args.claims.items cs holdings) (sym same) (none_back holdings c.args.claims.items);
      stands = ap (λ (cs : List ClaimView). all_kept_after cs c.args.self.now.stands) same;
      waiters = refl;
      entries = sym (all_used holdings c.args.self.now.waiters c.args.self.now.entries c.agree.ensures.entries.used);
      warehouse = refl;
      home = subst (λ (cs : List ClaimView). All home cs) (sym same) c.requires.home;
      settled = subst (λ (cs : List ClaimView). All IsSettled cs) (sym same) c.requires.committed;
    }

pub take_back-requires : goal.take_back-requires
take_back-requires g c =
    let rest = c.next.new.self.rest.items in
    let listed : c.loop-claim.claim-iterator.rest.items ≡ c.in-Some.claim ∷ rest = search rules in
    let home = IsOfHome c.args.self.now.w_id in
    record {
      home = All-head home c.in-Some.claim rest (subst (λ (cs : List ClaimView). All home cs) listed c.loop-claim.invariant.home) ∙ sym c.loop-claim.invariant.warehouse;
      committed = All-head IsSettled c.in-Some.claim rest (subst (λ (cs : List ClaimView). All IsSettled cs) listed c.loop-claim.invariant.settled);
    }

pub loop-claim-preserved : goal.loop-claim-preserved
loop-claim-preserved g c =
    let rest = c.next.new.self.rest.items in
    let claim = c.in-Some.claim in
    let listed : c.loop-claim.claim-iterator.rest.items ≡ claim ∷ rest = search rules in
    let home = IsOfHome c.args.self.now.w_id in
    let before = c.args.self.now in
    let table = c.loop-claim.self in
    let later = c.take_back.new.self in
    record {
      can_next = tt;
      finite = tt;
      back = one_back before.holdings table.holdings later.holdings claim c.args.claims.items rest (subst (λ (cs : List ClaimView). AreBack before.holdings c.args.claims.items cs table.holdings) listed c.loop-claim.invariant.back)
          c.take_back.ensures.out c.take_back.ensures.holdings;
      stands = ap (λ (ss : List Stand). all_kept_after rest ss) c.take_back.ensures.stands ∙ sym (ap (λ (cs : List ClaimView). all_kept_after cs table.stands) listed) ∙ c.loop-claim.invariant.stands;
      waiters = c.take_back.ensures.waiters ∙ c.loop-claim.invariant.waiters;
      entries = still_fewer claim table.holdings later.holdings table.waiters later.waiters before.entries table.entries later.entries c.loop-claim.invariant.entries c.take_back.ensures.out c.take_back.ensures.waiters c.take_back.ensures.entries;
      warehouse = c.take_back.ensures.warehouse ∙ c.loop-claim.invariant.warehouse;
      home = All-tail home claim rest (subst (λ (cs : List ClaimView). All home cs) listed c.loop-claim.invariant.home);
      settled = All-tail IsSettled claim rest (subst (λ (cs : List ClaimView). All IsSettled cs) listed c.loop-claim.invariant.settled);
    }

pub returns-clause-out : goal.returns-clause-out
returns-clause-out g c =
    let rest = c.loop-claim.claim-iterator.rest.items in
    let none : rest ≡ [] = nil_from_length rest (let long = c.loop-claim.claim-iterator.rest.ok in omega (arith, c.in-None.ensures.steps.0, long)) in
    all_out c.args.self.now.holdings c.loop-claim.self.holdings c.args.claims.items rest none c.loop-claim.invariant.back

pub returns-clause-holdings : goal.returns-clause-holdings
returns-clause-holdings g c =
    let rest = c.loop-claim.claim-iterator.rest.items in
    let none : rest ≡ [] = nil_from_length rest (let long = c.loop-claim.claim-iterator.rest.ok in omega (arith, c.in-None.ensures.steps.0, long)) in
    all_back c.args.self.now.holdings c.loop-claim.self.holdings c.args.claims.items rest none c.loop-claim.invariant.back

pub returns-clause-stands : goal.returns-clause-stands
returns-clause-stands g c =
    let rest = c.loop-claim.claim-iterator.rest.items in
    let none : rest ≡ [] = nil_from_length rest (let long = c.loop-claim.claim-iterator.rest.ok in omega (arith, c.in-None.ensures.steps.0, long)) in
    sym (ap (λ (cs : List ClaimView). all_kept_after cs c.loop-claim.self.stands) none) ∙ c.loop-claim.invariant.stands
