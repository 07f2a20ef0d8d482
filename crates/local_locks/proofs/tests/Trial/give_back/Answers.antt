use Rattle.std.proofs.Common.{◌<◌, ◌++◌, List, length, map, sym, subst, arith}
use Rattle.std.specs.Prelude.{All}
use Rattle.tickets.specs.Claims.{ClaimView}
use Rattle.wait_die.specs.declared.deciding.Holder.{Holder}
use Rattle.local_locks.specs.Asking.{AreHeld, IsOfHome, IsSettled, held_by}
use Rattle.std.specs.List.Sorted.{IsPermutation}
use Rattle.local_locks.proofs.Left.{claims_home, out_fewer, out_held, out_settled}
use Rattle.local_locks.proofs.tests.Trial.give_back.Goals as goal

pub give_back-requires-clause-home : goal.give_back-requires-clause-home
give_back-requires-clause-home g c =
    let out = c.self.inside.out in
    let table = c.self.inside.table in
    let small : c.args.index < length out.items = let count = out.ok.0 in omega (arith, count, c.self.view_is, c.requires) in
    subst (λ (g : Holder × List ClaimView). All (IsOfHome table.w_id) g.1) (sym c.claims.view_is)
    (claims_home g.J.GroupNames.warehouses table.w_id table.holdings c.swap_remove.result.1 c.agree.ensures.claims (out_held table out.items c.args.index c.swap_remove.result c.self.invariant small c.swap_remove.ensures.value))

pub give_back-requires-clause-committed : goal.give_back-requires-clause-committed
give_back-requires-clause-committed g c =
    let out = c.self.inside.out in
    let small : c.args.index < length out.items = let count = out.ok.0 in omega (arith, count, c.self.view_is, c.requires) in
    subst (λ (g : Holder × List ClaimView). All IsSettled g.1) (sym c.claims.view_is)
    (out_settled c.self.inside.table out.items c.args.index c.swap_remove.result c.self.invariant small c.swap_remove.ensures.value)

pub invariant_of-self : goal.invariant_of-self
invariant_of-self g c =
    let out = c.self.inside.out in
    let table = c.self.inside.table in
    let small : c.args.index < length out.items = let count = out.ok.0 in omega (arith, count, c.self.view_is, c.requires) in
    let held = out_held table out.items c.args.index c.swap_remove.result c.self.invariant small c.swap_remove.ensures.value in
    let P : Holder × List ClaimView → Type 0 = λ g. AreHeld table.holdings g.1 → IsPermutation table.holdings (map held_by g.1 ++ c.give_back.new.self.holdings) in
    let back = subst P c.claims.view_is c.give_back.ensures.holdings in
    out_fewer table c.give_back.new.self out.items c.swap_remove.new.self.items c.args.index c.swap_remove.result c.self.invariant small c.swap_remove.ensures.value c.swap_remove.ensures.items (back held) c.give_back.ensures.warehouse
