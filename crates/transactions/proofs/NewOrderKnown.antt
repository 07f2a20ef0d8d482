-- The rows that an accepted New-Order refers to are there, and tables of the scale can have the order that is added.
use Rattle.std.proofs.Common.{◌≡◌, ◌≤◌, ◌+◌, ◌==◌, ℕ, zero, suc, Bool, true, false, cond, List, [], ◌∷◌, length, get_or, map, Option, Some, None, refl, sym, ap, subst, arith}
use Rattle.std.specs.Prelude.{find}
use Rattle.std.specs.List.{AllByRecursion, cons_option, filter_map, list_all, range_with_len, remove}
use Rattle.std.proofs.lemmas.Bool.{not-false}
use Rattle.std.proofs.lemmas.List.{length-map}
use Rattle.std.proofs.lemmas.List.Elements.{All-from_recursion}
use Rattle.rows.specs.Ranged.{is_between}
use Rattle.rows.specs.declared.records.OrderLine.{OrderLine}
use Rattle.rows.specs.declared.limits.TheConstants.{FEWEST_LINES, MOST_LINES}
use Rattle.partitions.specs.Parts.{SharedTables}
use Rattle.schema.specs.declared.scale.Scale.{Scale}
use Rattle.schema.specs.Scale.{has_warehouse}
use Rattle.schema.specs.OrderRows.{is_line_within}
use Rattle.requests.specs.declared.group.Group.{Group}
use Rattle.requests.specs.declared.request.Request.TheVariants as request
use Rattle.requests.specs.declared.new_order.NewOrder.{NewOrder}
use Rattle.requests.specs.declared.new_order.OrderedLine.{OrderedLine}
use Rattle.requests.specs.declared.refusal.Refusal.TheVariants.{BadWarehouse, BadDistrict, BadLines, BadQuantity, BadSupply, BadAmount, BadThreshold, BadCarrier}
use Rattle.requests.specs.Check.{applies, IsAccepted}
use Rattle.groups.specs.NewOrder.{supplies_of}
use Rattle.tickets.specs.Claims.{ClaimView}
use Rattle.machine.specs.NewOrderLines.{IsOrderWithin}
use Rattle.transactions.specs.declared.new_order.LineSold.{LineSold}
use Rattle.transactions.specs.declared.new_order.OrderPlaced.{OrderPlaced}
use Rattle.transactions.specs.declared.new_order.StockTaken.{StockTaken}
use Rattle.transactions.specs.declared.new_order.StockTaken.TheVariants.{NoItem, OutOfRange, Taken}
use Rattle.transactions.specs.NewOrder.{AreStocksTaken, IsOrderKnown, Numbered, all_sold, in_order, is_in, lines_in, numbered, order_rows}
use Rattle.transactions.specs.NewOrderStock.{AreNumbered}
use Rattle.transactions.specs.NewOrderLaws.{PlacedOrdersAreKnown}
use Rattle.transactions.proofs.EachOne.{each_filtered, each_mapped, each_of_both, each_tested, each_weaker, mapped_each, tested_each}
use Rattle.transactions.proofs.InScale.{between, not_first}
use Rattle.transactions.proofs.NewOrderCarriedOut.{is_placed}

-- ---- an accepted order

pub record IsInScale (scale : Scale) (n : NewOrder) : Type 0 where
  pub warehouse : has_warehouse scale n.home.w_id ≡ true
  pub district : is_between 1 10 n.home.d_id ≡ true
  pub some_line : 1 ≤ length n.lines
  pub most_lines : length n.lines ≤ MOST_LINES
  pub quantities : AllByRecursion (λ (line : OrderedLine). (1 ≤ line.quantity) × (line.quantity ≤ 10)) n.lines
  pub suppliers : list_all (λ (line : OrderedLine). has_warehouse scale line.supply_w_id) n.lines ≡ true

pub in_scale : (scale : Scale) (n : NewOrder) → IsAccepted scale (request.NewOrder n) → IsInScale scale n
in_scale scale n accepted =
    let test = applies scale (request.NewOrder n) in
    let first = not_first test BadWarehouse (BadDistrict ∷ BadLines ∷ BadQuantity ∷ BadSupply ∷ BadAmount ∷ BadThreshold ∷ BadCarrier ∷ []) accepted in
    let second = not_first test BadDistrict (BadLines ∷ BadQuantity ∷ BadSupply ∷ BadAmount ∷ BadThreshold ∷ BadCarrier ∷ []) first.1 in
    let third = not_first test BadLines (BadQuantity ∷ BadSupply ∷ BadAmount ∷ BadThreshold ∷ BadCarrier ∷ []) second.1 in
    let fourth = not_first test BadQuantity (BadSupply ∷ BadAmount ∷ BadThreshold ∷ BadCarrier ∷ []) third.1 in
    let fifth = not_first test BadSupply (BadAmount ∷ BadThreshold ∷ BadCarrier ∷ []) fourth.1 in
    let count = between FEWEST_LINES MOST_LINES (length n.lines) (not-false _ third.0) in
    record {
      warehouse = not-false _ first.0;
      district = not-false _ second.0;
      some_line = omega (arith, count.0);
      most_lines = count.1;
      quantities = each_weaker (λ (line : OrderedLine). is_between 1 10 line.quantity ≡ true) (λ (line : OrderedLine). (1 ≤ line.quantity) × (line.quantity ≤ 10))
          (λ line is. between 1 10 line.quantity is) n.lines (each_tested (λ (line : OrderedLine). is_between 1 10 line.quantity) n.lines (not-false _ fourth.0));
      suppliers = not-false _ fifth.0;
    }

pub order_within : (scale : Scale) (n : NewOrder) → IsAccepted scale (request.NewOrder n) → IsOrderWithin n
order_within scale n accepted =
    let is = in_scale scale n accepted in
    record {
      some_line = is.some_line;
      most_lines = is.most_lines;
      quantities = All-from_recursion (λ (line : OrderedLine). (1 ≤ line.quantity) × (line.quantity ≤ 10)) n.lines is.quantities;
    }

-- ---- the order that is added

-- as many lines as are counted, at most
pub in_order-few : (find_line : ℕ → Option LineSold) (low count : ℕ) → length (filter_map find_line (range_with_len low count)) ≤ count
in_order-few find_line low zero = omega arith
in_order-few find_line low (suc count) =
    let rest = filter_map find_line (range_with_len (low + 1) count) in
    elim (find_line low) as (λ o. length (cons_option o rest) ≤ suc count) [
      | None ↦ omega (arith, in_order-few find_line (low + 1) count)
      | Some line ↦ omega (arith, in_order-few find_line (low + 1) count)
    ]

-- and what holds of each that was sold holds of each of them
module _ (P : LineSold → Type 0) (sold : List LineSold) (each : AllByRecursion P sold) where
  found_passes : (test : LineSold → Bool) (lines : List LineSold) → AllByRecursion P lines → (line : LineSold) → find test lines ≡ Some line → P line
  found_passes test [] of_each line is = absurd cc
  found_passes test (other ∷ lines) of_each line is =
      elim (test other) as (λ b. cond b (Some other) (find test lines) ≡ Some line → P line) [
        | true ↦ λ e. let same : other ≡ line = cc in subst P same of_each.0
        | false ↦ λ e. found_passes test lines of_each.1 line e
      ] is

  pub in_order-each : (low count : ℕ) → AllByRecursion P (filter_map (λ number. find (λ (line : LineSold). line.number == number) sold) (range_with_len low count))
  in_order-each low zero = tt
  in_order-each low (suc count) =
      let rest = filter_map (λ number. find (λ (line : LineSold). line.number == number) sold) (range_with_len (low + 1) count) in
      elim (find (λ (line : LineSold). line.number == low) sold) as (λ o. find (λ (line : LineSold). line.number == low) sold ≡ o → AllByRecursion P (cons_option o rest)) [
        | None ↦ λ e. in_order-each (low + 1) count
        | Some line ↦ λ e. (found_passes (λ (line : LineSold). line.number == low) sold each line e, in_order-each (low + 1) count)
      ] refl

IsLineWithin : Scale → LineSold → Type 0
IsLineWithin scale line = is_line_within scale line.row ≡ true

all_within : (shared : SharedTables) (n : NewOrder) (groups : List Group) (found : List StockTaken) (stocks : List ClaimView) → AreStocksTaken shared n groups found stocks
    → AllByRecursion (IsLineWithin shared.scale) (all_sold found)
unfolding IsLineWithin
all_within shared n [] [] [] taken = tt
all_within shared n [] (one ∷ found) stocks taken = absurd taken
all_within shared n [] [] (stock ∷ stocks) taken = absurd taken
all_within shared n (group ∷ groups) [] stocks taken = absurd taken
all_within shared n (group ∷ groups) (one ∷ found) [] taken = absurd taken
all_within shared n (group ∷ groups) (NoItem ∷ found) (stock ∷ stocks) taken = all_within shared n groups found stocks taken.2
all_within shared n (group ∷ groups) (OutOfRange ∷ found) (stock ∷ stocks) taken = all_within shared n groups found stocks taken.2
all_within shared n (group ∷ groups) (Taken sold ∷ found) (stock ∷ stocks) taken =
    each_of_both (IsLineWithin shared.scale) sold (all_sold found)
    (each_tested (λ (line : LineSold). is_line_within shared.scale line.row) sold taken.1.1)
    (all_within shared n groups found stocks taken.2)

pub placed_orders_are_known : PlacedOrdersAreKnown
unfolding IsLineWithin
placed_orders_are_known shared n home orderer found given stocks accepted number orderer_known taken done =
    let by = is_placed n home orderer found given done in
    let sold = all_sold found in
    let lines = in_order (length n.lines) sold in
    let within = in_order-each (IsLineWithin shared.scale) sold (all_within shared n (supplies_of n.lines) found stocks taken) 1 (length n.lines) in
    let known : IsOrderKnown shared.scale (order_rows n home lines) = record {
      number = number by.next;
      customer = orderer_known;
      few = omega (arith, length-map lines (λ (line : LineSold). line.row), in_order-few (λ k. find (λ (line : LineSold). line.number == k) sold) 1 (length n.lines), (in_scale shared.scale n accepted).most_lines);
      lines = tested_each (is_line_within shared.scale) (map (λ (line : LineSold). line.row) lines)
          (mapped_each (λ (row : OrderLine). is_line_within shared.scale row ≡ true) (λ (line : LineSold). line.row) lines within);
    } in
    subst (λ (p : OrderPlaced). IsOrderKnown shared.scale p.rows) by.is known

-- ---- the numbers of what was sold

-- numbered lines have the numbers from the first on
each_between : (low : ℕ) (lines : List OrderedLine) → AllByRecursion (λ (line : Numbered). (low ≤ line.0) × (line.0 + 1 ≤ low + length lines)) (numbered low lines)
each_between low [] = tt
each_between low (line ∷ lines) = (
  (omega arith, omega arith),
  each_weaker (λ (line : Numbered). (low + 1 ≤ line.0) × (line.0 + 1 ≤ low + 1 + length lines)) (λ (line : Numbered). (low ≤ line.0) × (line.0 + 1 ≤ low + suc (length lines)))
      (λ line known. (omega (arith, known.0), omega (arith, known.1))) (numbered (low + 1) lines) (each_between (low + 1) lines),
)

HasNumber : ℕ → ℕ → Type 0
HasNumber count number = (1 ≤ number) × (number ≤ count)

sold_numbered : (n : NewOrder) (group : Group) (sold : List LineSold) → map (λ (line : LineSold). line.number) sold ≡ map (λ (line : Numbered). line.0) (lines_in group n.lines)
    → AllByRecursion (λ (line : LineSold). HasNumber (length n.lines) line.number) sold
unfolding HasNumber
sold_numbered n group sold same =
    let count = length n.lines in
    let each = each_weaker (λ (line : Numbered). (1 ≤ line.0) × (line.0 + 1 ≤ 1 + count)) (λ (line : Numbered). HasNumber count line.0) (λ line known. (known.0, omega (arith, known.1)))
    (lines_in group n.lines) (each_filtered (λ (line : Numbered). (1 ≤ line.0) × (line.0 + 1 ≤ 1 + count)) (is_in group) (numbered 1 n.lines) (each_between 1 n.lines)) in
    each_mapped (HasNumber count) (λ (line : LineSold). line.number) sold
    (subst (AllByRecursion (HasNumber count)) (sym same) (mapped_each (HasNumber count) (λ (line : Numbered). line.0) (lines_in group n.lines) each))

each_sold_numbered : (shared : SharedTables) (n : NewOrder) (groups : List Group) (found : List StockTaken) (stocks : List ClaimView) → AreStocksTaken shared n groups found stocks
    → AllByRecursion (λ (line : LineSold). HasNumber (length n.lines) line.number) (all_sold found)
each_sold_numbered shared n [] [] [] taken = tt
each_sold_numbered shared n [] (one ∷ found) stocks taken = absurd taken
each_sold_numbered shared n [] [] (stock ∷ stocks) taken = absurd taken
each_sold_numbered shared n (group ∷ groups) [] stocks taken = absurd taken
each_sold_numbered shared n (group ∷ groups) (one ∷ found) [] taken = absurd taken
each_sold_numbered shared n (group ∷ groups) (NoItem ∷ found) (stock ∷ stocks) taken = each_sold_numbered shared n groups found stocks taken.2
each_sold_numbered shared n (group ∷ groups) (OutOfRange ∷ found) (stock ∷ stocks) taken = each_sold_numbered shared n groups found stocks taken.2
each_sold_numbered shared n (group ∷ groups) (Taken sold ∷ found) (stock ∷ stocks) taken =
    each_of_both (λ (line : LineSold). HasNumber (length n.lines) line.number) sold (all_sold found)
    (sold_numbered n group sold taken.1.0) (each_sold_numbered shared n groups found stocks taken.2)

-- all that groups sold have the numbers of the order's lines
pub all_numbered : (shared : SharedTables) (n : NewOrder) (groups : List Group) (found : List StockTaken) (stocks : List ClaimView) → AreStocksTaken shared n groups found stocks
    → AreNumbered (length n.lines) (all_sold found)
unfolding HasNumber
all_numbered shared n groups found stocks taken =
    All-from_recursion (λ (line : LineSold). HasNumber (length n.lines) line.number) (all_sold found) (each_sold_numbered shared n groups found stocks taken)

-- some group supplies an order that has a line
pub some_supply : (lines : List OrderedLine) → 1 ≤ length lines → 1 ≤ length (supplies_of lines)
some_supply [] some = absurd (omega (arith, some))
some_supply (line ∷ lines) some = omega arith

-- the first of several groups, and the others
pub first_and_others : (groups : List Group) (first : Group) → 1 ≤ length groups → first ≡ get_or groups 0 first → first ∷ remove groups 0 ≡ groups
first_and_others [] first some is = absurd (omega (arith, some))
first_and_others (group ∷ groups) first some is = ap (λ g. g ∷ groups) is
