-- An order has RECENT_LINES lines at most, and so what they come to fits.
use Rattle.std.proofs.Common.{◌≡◌, ◌+◌, ◌-◌, ◌≤◌, true, ◌&&◌, ◌==◌, nat_le, nat_lt, length, filter, ap, arith}
use Rattle.std.proofs.lemmas.Bool.Decides.{nat_tests}
use Rattle.std.proofs.lemmas.List.Sums.{count_by-le-length, length-filter}
use Rattle.std.specs.FinMap as table
use Rattle.rows.specs.Keys.{district_of_order}
use Rattle.rows.specs.declared.keys.OrderKey.{OrderKey}
use Rattle.rows.specs.declared.keys.OrderLineKey.{OrderLineKey}
use Rattle.rows.specs.declared.records.OrderLine.{OrderLine}
use Rattle.rows.specs.declared.limits.TheConstants.{RECENT_LINES}
use Rattle.schema.specs.Database.{Database, LinesNumbered, is_of_order}
use Rattle.schema.specs.Consistency.{lines_of}
use Rattle.schema.specs.OrderRows.{is_in_span}
use Rattle.machine.proofs.RecentLines.{few_lines}
use Rattle.machine.proofs.RowsChanged.{all_of, filter-within}

-- each line of the order is one of its district's of the orders up to it
in_span : (order : OrderKey) (key : OrderLineKey) → is_of_order order key ≡ true → is_in_span (district_of_order order) ((order.o_id + 1) - 20) (order.o_id + 1) key ≡ true
in_span order key of_it =
    let it : ((key.w_id == order.w_id) && ((key.d_id == order.d_id) && (key.o_id == order.o_id))) ≡ true = of_it in
    let from = (order.o_id + 1) - 20 in
    let low : from ≤ order.o_id = omega arith in
    let there : (((key.w_id == order.w_id) && (key.d_id == order.d_id)) && (nat_le from key.o_id && nat_lt key.o_id (order.o_id + 1))) ≡ true = grind (arith, nat_tests) in
    there

pub few_lines_of : (t : Database) (order : OrderKey) → LinesNumbered t → length (lines_of t order) ≤ RECENT_LINES
few_lines_of t order numbered =
    let of_it = λ (e : OrderLineKey × OrderLine). is_of_order order e.0 in
    let next = order.o_id + 1 in
    let near = λ (e : OrderLineKey × OrderLine). is_in_span (district_of_order order) (next - 20) next e.0 in
    let all = table.entries t.lines in
    let within : filter of_it (filter near all) ≡ filter of_it all =
    filter-within of_it near all (all_of (λ (e : OrderLineKey × OrderLine). of_it e ≡ true → near e ≡ true) (λ e passes. in_span order e.0 passes) all) in
    let few : length (filter near all) ≤ RECENT_LINES = few_lines t numbered (district_of_order order) next in
    omega (arith, few, length-filter of_it (filter near all), count_by-le-length of_it (filter near all), ap length within)
