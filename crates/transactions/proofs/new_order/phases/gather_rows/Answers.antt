use Rattle.std.proofs.Common.{◌≡◌, ◌≤◌, ◌∷◌, List, inl, inr, length, refl, ap, ◌∙◌, arith}
use Rattle.partitions.specs.Parts.{SharedTables}
use Rattle.requests.specs.declared.group.Group.{Group}
use Rattle.requests.specs.declared.new_order.NewOrder.{NewOrder}
use Rattle.groups.specs.NewOrder.{supplies_of}
use Rattle.tickets.specs.Claims.{ClaimView}
use Rattle.transactions.specs.declared.new_order.phases.Progress.TheVariants.{ReadRows}
use Rattle.transactions.specs.declared.work.Found.{Found}
use Rattle.transactions.specs.NewOrder.{works_of}
use Rattle.transactions.specs.Works.{HaveAllDone}
use Rattle.transactions.proofs.NewOrderKnown.{first_and_others, in_scale, some_supply}
use Rattle.transactions.proofs.NewOrderSteps.{nobody_follows, rows_done, rows_follow}
use Rattle.transactions.proofs.new_order.phases.gather_rows.Goals as goal

-- an accepted order has a line, and so a group that supplies it
some_group : (shared : SharedTables) (order : NewOrder) (found : List Found) (claims : List (List ClaimView)) → HaveAllDone shared (works_of (ReadRows order)) found claims
    → (groups : List Group) → groups ≡ supplies_of order.lines → 1 ≤ length groups
some_group shared order found claims done groups are =
    omega (arith, ap length are, some_supply order.lines (in_scale shared.scale order (rows_done shared order found claims done).accepted).some_line)

pub remove-first-requires : goal.remove-first-requires
remove-first-requires c =
    let some = some_group c.requires.0 c.args.order c.args.found.items c.requires.1 c.requires.2 c.in_ok-groups.groups.items (c.in_ok-groups.ensures ∙ ap supplies_of c.as_slice.ensures) in
    omega (arith, some, c.in_ok-groups.groups.ok.0)

pub rows_found-home-requires : goal.rows_found-home-requires
rows_found-home-requires c =
    let rows = rows_done c.requires.0 c.args.order c.args.found.items c.requires.1 c.requires.2 in
    (rows.home, rows.orderer, rows.found_is)

pub returns-in_default : goal.returns-in_default
returns-in_default c =
    nobody_follows c.args.order c.args.found.items c.rows_found-home.result.0 c.rows_found-home.result.1 c.rows_found-home.ensures (inl c.in_default.is)

pub returns-in_default-orderer : goal.returns-in_default-orderer
returns-in_default-orderer c =
    nobody_follows c.args.order c.args.found.items c.rows_found-home.result.0 c.rows_found-home.result.1 c.rows_found-home.ensures (inr c.in_default-orderer.is)

pub returns : goal.returns
returns c =
    let first = c.remove-first.result in
    let are = c.in_ok-groups.ensures ∙ ap supplies_of c.as_slice.ensures in
    let some = some_group c.requires.0 c.args.order c.args.found.items c.requires.1 c.requires.2 c.in_ok-groups.groups.items are in
    rows_follow c.args.order c.args.found.items c.rows_found-home.result.0 c.rows_found-home.result.1 c.rows_found-home.ensures
    (record { order = c.args.order; home = c.in-Shown.home; orderer = c.in-Shown-orderer.orderer; first = first; others = c.new.result })
    refl c.in-Shown.is c.in-Shown-orderer.is
    (ap (λ others. first ∷ others) (c.new.ensures ∙ c.remove-first.ensures.items)
    ∙ first_and_others c.in_ok-groups.groups.items first some c.remove-first.ensures.value ∙ are)
