-- The two ways that a New-Order ends: rolled back, or with an order placed.
use Rattle.std.proofs.Common.{◌≡◌, ℕ, suc, ◌+◌, true, false, cond, List, [], ◌∷◌, map, length, Option, Some, None, refl, sym, ap, ◌∙◌, arith}
use Rattle.std.specs.List.{AllByRecursion}
use Rattle.std.specs.Option.{option_map}
use Rattle.std.specs.FinMap as table
use Rattle.std.proofs.lemmas.List.{length-map}
use Rattle.rows.specs.Ranged.{is_between}
use Rattle.rows.specs.declared.keys.DistrictKey.{DistrictKey}
use Rattle.rows.specs.declared.records.Item.{Item}
use Rattle.rows.specs.declared.records.Warehouse.{Warehouse}
use Rattle.rows.specs.declared.records.District.{District}
use Rattle.rows.specs.declared.records.Stock.{Stock}
use Rattle.rows.specs.declared.records.Customer.{Customer}
use Rattle.rows.specs.declared.records.OrderLine.{OrderLine}
use Rattle.schema.specs.Scale.{customer_key}
use Rattle.schema.specs.Database.{Database}
use Rattle.requests.specs.declared.new_order.NewOrder.{NewOrder}
use Rattle.requests.specs.declared.new_order.OrderedLine.{OrderedLine}
use Rattle.requests.specs.declared.reply.Fault.{Fault}
use Rattle.requests.specs.declared.reply.Fault.TheVariants.{NoCustomer, NoItem, Range}
use Rattle.machine.specs.Outcome.{Outcome, rolled_back}
use Rattle.machine.specs.NewOrder.{new_order, ordered, placed_of, placed_within, found_rows, district_ordered, supplies, supply, items_found, all_there, line_rows}

-- ---- the cases

within-cases : (t : Database) (n : NewOrder) (w : Warehouse) (d : District) (c : Customer) (items : List Item) (od : Option District) (os : Option (List Stock)) (G : Outcome → Type 0)
    → ((fault : Fault) → G (rolled_back t fault))
    → ((new_d : District) (stocks : List Stock) → od ≡ Some new_d → os ≡ Some stocks → G (placed_within t n (found_rows w d c items) (Some new_d) (Some stocks)))
    → G (placed_within t n (found_rows w d c items) od os)
within-cases t n w d c items (Some new_d) (Some stocks) G back put = put new_d stocks refl refl
within-cases t n w d c items None os G back put = back Range
within-cases t n w d c items (Some new_d) None G back put = back Range

of-cases : (t : Database) (n : NewOrder) (w : Warehouse) (d : District) (c : Customer) (oi : Option (List Item)) (G : Outcome → Type 0)
    → ((fault : Fault) → G (rolled_back t fault))
    → ((items : List Item) → oi ≡ Some items → G (placed_within t n (found_rows w d c items) (district_ordered d) (supplies t n)))
    → G (placed_of t n w d c oi)
of-cases t n w d c (Some items) G back put = put items refl
of-cases t n w d c None G back put = back (NoItem c.last c.credit d.next_o_id)

ordered-cases : (t : Database) (n : NewOrder) (ow : Option Warehouse) (od : Option District) (oc : Option Customer) (G : Outcome → Type 0)
    → ((fault : Fault) → G (rolled_back t fault))
    → ((w : Warehouse) (d : District) (c : Customer) → ow ≡ Some w → od ≡ Some d → oc ≡ Some c → G (placed_of t n w d c (items_found t n.lines)))
    → G (ordered t n ow od oc)
ordered-cases t n (Some w) (Some d) (Some c) G back put = put w d c refl refl refl
ordered-cases t n None od oc G back put = back NoCustomer
ordered-cases t n (Some w) None oc G back put = back NoCustomer
ordered-cases t n (Some w) (Some d) None G back put = back NoCustomer

-- a New-Order is rolled back, or places an order by the rows that are there
pub new_order-cases : (t : Database) (n : NewOrder) (G : Outcome → Type 0)
    → ((fault : Fault) → G (rolled_back t fault))
    → ((w : Warehouse) (d new_d : District) (c : Customer) (items : List Item) (stocks : List Stock)
    → table.get t.warehouses n.home.w_id ≡ Some w → table.get t.districts n.home ≡ Some d → table.get t.customers (customer_key n.home n.c_id) ≡ Some c
    → items_found t n.lines ≡ Some items → district_ordered d ≡ Some new_d → supplies t n ≡ Some stocks
    → G (placed_within t n (found_rows w d c items) (Some new_d) (Some stocks)))
    → G (new_order t n)
new_order-cases t n G back put =
    ordered-cases t n (table.get t.warehouses n.home.w_id) (table.get t.districts n.home) (table.get t.customers (customer_key n.home n.c_id)) G back (λ w d c w_is d_is c_is.
    of-cases t n w d c (items_found t n.lines) G back (λ items items_are.
    within-cases t n w d c items (district_ordered d) (supplies t n) G back (λ new_d stocks d_made stocks_are.
    put w d new_d c items stocks w_is d_is c_is items_are d_made stocks_are)))

-- ---- the new rows

-- a number in range made into a row is that number's row
made-of : {X : Type 0} (make : ℕ → X) (low high number : ℕ) (row : X) → option_map make (cond (is_between low high number) (Some number) None) ≡ Some row → row ≡ make number
made-of make low high number row =
    elim (is_between low high number) as (λ b. option_map make (cond b (Some number) None) ≡ Some row → row ≡ make number) [
      | true ↦ λ e. cc
      | false ↦ λ e. absurd cc
    ]

pub district_ordered-is : (row new : District) → district_ordered row ≡ Some new → new ≡ record row { next_o_id = row.next_o_id + 1 }
district_ordered-is row new = made-of (λ next. record row { next_o_id = next }) 1 10000000 (row.next_o_id + 1) new

-- values that are all there are as many as were looked for
all_there-length : {X : Type 0} (found : List (Option X)) (xs : List X) → all_there found ≡ Some xs → length xs ≡ length found
all_there-length [] xs e = let is : [] ≡ xs = cc in ap length (sym is)
all_there-length (None ∷ found) xs e = absurd cc
all_there-length {X} (Some x ∷ found) xs e =
    elim (all_there found) as (λ r. all_there found ≡ r → option_map (λ ys. x ∷ ys) r ≡ Some xs → length xs ≡ suc (length found)) [
      | None ↦ λ r f. absurd cc
      | Some ys ↦ λ r f.
          let is : x ∷ ys ≡ xs = cc in
          let rest : length ys ≡ length found = all_there-length found ys r in
          ap length (sym is) ∙ ap (λ n. suc n) rest
    ] refl e

pub items_found-length : (t : Database) (lines : List OrderedLine) (items : List Item) → items_found t lines ≡ Some items → length items ≡ length lines
items_found-length t lines items found =
    let f = λ (line : OrderedLine). table.get t.items line.i_id in
    all_there-length (map f lines) items found ∙ length-map lines f

pub supplies-length : (t : Database) (n : NewOrder) (stocks : List Stock) → supplies t n ≡ Some stocks → length stocks ≡ length n.lines
supplies-length t n stocks found = all_there-length (map (supply t n) n.lines) stocks found ∙ length-map n.lines (supply t n)

-- there is a row for each line
pub line_rows-length : (home : DistrictKey) (lines : List OrderedLine) (items : List Item) (stocks : List Stock) → length items ≡ length lines → length stocks ≡ length lines
    → length (line_rows home lines items stocks) ≡ length lines
line_rows-length home [] items stocks i s = refl
line_rows-length home (line ∷ lines) [] stocks i s = absurd (omega arith)
line_rows-length home (line ∷ lines) (item ∷ items) [] i s = absurd (omega arith)
line_rows-length home (line ∷ lines) (item ∷ items) (stock ∷ stocks) i s = ap (λ n. suc n) (line_rows-length home lines items stocks (omega arith) (omega arith))

-- and none is delivered
pub line_rows-undelivered : (home : DistrictKey) (lines : List OrderedLine) (items : List Item) (stocks : List Stock)
    → AllByRecursion (λ (row : OrderLine). row.delivery_d ≡ None) (line_rows home lines items stocks)
line_rows-undelivered home [] items stocks = tt
line_rows-undelivered home (line ∷ lines) [] stocks = tt
line_rows-undelivered home (line ∷ lines) (item ∷ items) [] = tt
line_rows-undelivered home (line ∷ lines) (item ∷ items) (stock ∷ stocks) = (refl, line_rows-undelivered home lines items stocks)
