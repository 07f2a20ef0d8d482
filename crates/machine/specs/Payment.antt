-- Payment (clause 2.5).
use Rattle.std.specs.Prelude.{ℕ, ◌+◌, ℤ, pos, ◌+ℤ◌, ◌-ℤ◌, List, [], ◌++◌, take, codes, Option, Some, None}
use Rattle.std.specs.Option.{option_map}
use Rattle.std.specs.FinMap as map
use Rattle.amounts.specs.Money.{money}
use Rattle.rows.specs.Ranged.{in_range}
use Rattle.schema.specs.Database.{with_payment}
use Rattle.rows.specs.PaymentNote.{payment_note}
use Rattle.schema.specs.Database.{Database}
use Rattle.rows.specs.declared.keys.CustomerKey.{CustomerKey}
use Rattle.rows.specs.declared.records.Warehouse.{Warehouse}
use Rattle.rows.specs.declared.records.District.{District}
use Rattle.rows.specs.declared.records.Customer.{Customer}
use Rattle.rows.specs.declared.records.History.{History}
use Rattle.rows.specs.declared.records.Credit.{Credit}
use Rattle.rows.specs.declared.records.Credit.TheVariants.{Good, Bad}
use Rattle.requests.specs.declared.payment.Payment.{Payment}
use Rattle.requests.specs.declared.payment.PaymentReply.{PaymentReply}
use Rattle.requests.specs.declared.reply.Shown.TheVariants.{Payment as Paid}
use Rattle.requests.specs.declared.reply.Fault.TheVariants.{NoCustomer, Range}
use Rattle.indexes.specs.Namesakes.{Keyed}
use Rattle.machine.specs.Chosen.{chosen}
use Rattle.machine.specs.Outcome.{Outcome, done, rolled_back}

-- W_YTD grows by the amount (clause 2.5.2.2)
abbrev pub warehouse_paid : Warehouse → ℤ → Option Warehouse
warehouse_paid row amount = option_map (λ ytd. record row { ytd = ytd }) (money (row.ytd +ℤ amount))

-- D_YTD grows by the amount (clause 2.5.2.2)
abbrev pub district_paid : District → ℤ → Option District
district_paid row amount = option_map (λ ytd. record row { ytd = ytd }) (money (row.ytd +ℤ amount))

-- for bad credit, a note of the payment is put before C_DATA; for good credit, C_DATA is unchanged (clause 2.5.2.2)
abbrev pub data_after : Credit → List ℕ → List ℕ → List ℕ
data_after Good note text = text
data_after Bad note text = take 500 (note ++ text)

-- the shown part of C_DATA: for bad credit its first 200 bytes, else nothing (clause 2.5.3.4)
abbrev pub data_shown : Credit → List ℕ → List ℕ
data_shown Good text = []
data_shown Bad text = take 200 text

-- the row with these sums, if all are in range
abbrev pub with_sums : Customer → List ℕ → Option ℤ → Option ℤ → Option ℕ → Option Customer
with_sums row text (Some balance) (Some ytd_payment) (Some payment_cnt) =
    Some (record row { balance = balance; ytd_payment = ytd_payment; payment_cnt = payment_cnt; «data» = text })
with_sums row text _ _ _ = None

-- C_BALANCE falls by the amount, C_YTD_PAYMENT grows by it, and C_PAYMENT_CNT grows by 1 (clause 2.5.2.2)
abbrev pub customer_paid : Customer → List ℕ → ℤ → Option Customer
customer_paid row note amount =
    with_sums row (data_after row.credit note row.data)
    (money (row.balance -ℤ amount)) (money (row.ytd_payment +ℤ amount)) (in_range 0 999999999 (row.payment_cnt + 1))

-- the row of HISTORY of a payment at a warehouse and a district with these names: H_DATA is W_NAME, four spaces and
-- D_NAME (clause 2.5.2.2)
abbrev pub history_row : Payment → CustomerKey → List ℕ → List ℕ → History
history_row p key warehouse district =
    record { customer = key; date = p.moment; amount = pos p.amount; «data» = warehouse ++ codes "    " ++ district }

-- the row of HISTORY, from the rows of the warehouse and of the district
abbrev pub payment_row : Payment → CustomerKey → Warehouse → District → History
payment_row p key w d = history_row p key w.name d.name

-- the shown data of the customer (clause 2.5.3.4)
abbrev pub payment_reply : CustomerKey → Customer → PaymentReply
payment_reply key c = record {
  c_id = key.c_id;
  first = c.first;
  middle = c.middle;
  last = c.last;
  credit = c.credit;
  discount = c.discount;
  balance = c.balance;
  «data» = data_shown c.credit c.data;
}

-- a payment with its customer and its row of HISTORY
pub record Posting : Type 0 where
  pub request : Payment
  pub customer : CustomerKey
  pub row : History

-- these together
abbrev pub posting : Payment → CustomerKey → History → Posting
posting p key row = record { request = p; customer = key; row = row }

-- all rows change at once; none changes if a sum would leave its range
abbrev pub posted : Database → Posting → Option Warehouse → Option District → Option Customer → Outcome
posted t put (Some w) (Some d) (Some c) =
    done
    (record t {
      warehouses = map.insert t.warehouses put.request.home.w_id w;
      districts = map.insert t.districts put.request.home d;
      customers = map.insert t.customers put.customer c;
      histories = with_payment t.histories put.request.home put.row;
    })
    (Paid (payment_reply put.customer c))
posted t put _ _ _ = rolled_back t Range

-- the outcome, given the rows; within the scale only the customer can be missing
abbrev pub paid : Database → Payment → Option Warehouse → Option District → Option Keyed → Outcome
paid t p (Some w) (Some d) (Some c) =
    posted t (posting p c.0 (payment_row p c.0 w d))
    (warehouse_paid w (pos p.amount)) (district_paid d (pos p.amount))
    (customer_paid c.1 (payment_note c.0 p.home p.amount) (pos p.amount))
paid t p _ _ _ = rolled_back t NoCustomer

-- the outcome of a payment
abbrev pub payment : Database → Payment → Outcome
payment t p =
    paid t p (map.get t.warehouses p.home.w_id) (map.get t.districts p.home) (chosen t.customers p.customer_home p.customer)
