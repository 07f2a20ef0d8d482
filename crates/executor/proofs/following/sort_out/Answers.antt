use Rattle.std.proofs.Common.{◌≡◌, ◌∙◌, ◌++◌, ◌∷◌, None, length, refl, ap, subst, arith}
use Rattle.transactions.specs.declared.acting.Ran.{Ran}
use Rattle.transactions.specs.SortedOut.{found_by, held_by, refused_by}
use Rattle.rendezvous.proofs.Awaiting.{none_left}
use Rattle.executor.specs.Phases.{rans_said}
use Rattle.executor.proofs.Phases.{long_said}
use Rattle.executor.proofs.Sorting.{found_all, found_more, found_room_more, held_all, held_more, refusal_all, refusal_more, room_more}
use Rattle.executor.proofs.following.sort_out.Goals as goal

pub loop-said-init : goal.loop-said-init
loop-said-init g c =
    let one = c.sort_one in
    let rans = rans_said c.args.rest.now.items in
    let many = long_said c.args.rest.now.items in
    record {
      slot = refl;
      held = refl;
      room = room_more c.args.first rans (c.args.first ∷ rans) refl c.args.held one.new.held one.ensures.held (omega (arith, c.requires.room, many));
      refusal = refl;
      found = λ _. refl;
      found_room = found_room_more c.args.first rans (c.args.first ∷ rans) refl c.args.sorted.refusal one.new.self.refusal c.args.sorted.found.items one.new.self.found.items _ _ one.ensures.refusal
          one.ensures.found one.ensures.same (λ none. let ready = c.requires.found none in omega (arith, ready.1, ap length ready.0, many));
    }

pub loop-said-preserved : goal.loop-said-preserved
loop-said-preserved g c =
    let l = c.loop-said in
    let one = c.sort_one-in-Some in
    let said = c.in-Some.said in
    let rans = rans_said l.rest.items in
    let rest = rans_said c.next.new.self.items in
    let is : rans ≡ said.ran ∷ rest = ap rans_said c.in-Some.ensures.items in
    let same = c.ran_of.ensures in
    let put = subst (λ (own : Ran g.row.J.Denot). one.new.held ≡ l.held ++ held_by own) same one.ensures.held in
    let recorded = subst (λ (own : Ran g.row.J.Denot). one.new.self.refusal ≡ refused_by l.sorted.refusal own) same one.ensures.refusal in
    let finds = subst (λ (own : Ran g.row.J.Denot). one.new.self.refusal ≡ None → one.new.self.found.items ≡ l.sorted.found.items ++ found_by own) same one.ensures.found in
    record {
      slot = c.next.ensures.slot ∙ l.invariant.slot;
      held = held_more said.ran rest rans is l.held one.new.held _ put l.invariant.held;
      room = room_more said.ran rest rans is l.held one.new.held put l.invariant.room;
      refusal = refusal_more said.ran rest rans is l.sorted.refusal one.new.self.refusal _ recorded l.invariant.refusal;
      found = found_more said.ran rest rans is l.sorted.refusal one.new.self.refusal l.sorted.found.items one.new.self.found.items _ recorded finds l.invariant.found;
      found_room = found_room_more said.ran rest rans is l.sorted.refusal one.new.self.refusal l.sorted.found.items one.new.self.found.items _ _ recorded finds one.ensures.same l.invariant.found_room;
    }

pub returns-clause-held : goal.returns-clause-held
returns-clause-held g c =
    let l = c.loop-said in
    let none = ap rans_said (none_left l.rest.items c.next.result c.in_default.is c.next.ensures.some) in
    held_all c.args.first (rans_said c.args.rest.now.items) (rans_said l.rest.items) c.args.held c.sort_one.new.held l.held none c.sort_one.ensures.held l.invariant.held

pub returns-clause-refusal : goal.returns-clause-refusal
returns-clause-refusal g c =
    let l = c.loop-said in
    let none = ap rans_said (none_left l.rest.items c.next.result c.in_default.is c.next.ensures.some) in
    refusal_all c.args.first (rans_said c.args.rest.now.items) (rans_said l.rest.items) c.args.sorted.refusal c.sort_one.new.self.refusal l.sorted.refusal none c.sort_one.ensures.refusal l.invariant.refusal

pub returns-clause-found : goal.returns-clause-found
returns-clause-found g c =
    let l = c.loop-said in
    let one = c.sort_one in
    let none = ap rans_said (none_left l.rest.items c.next.result c.in_default.is c.next.ensures.some) in
    found_all c.args.first (rans_said c.args.rest.now.items) (rans_said l.rest.items) c.args.sorted.refusal one.new.self.refusal l.sorted.refusal c.args.sorted.found.items one.new.self.found.items l.sorted.found.items none
    one.ensures.refusal l.invariant.refusal (λ fresh. (c.requires.found fresh).0) one.ensures.found l.invariant.found
