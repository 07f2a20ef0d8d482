-- Requests that are drawn are accepted, and within what the terminal names.
use Rattle.std.proofs.Common.{◌≡◌, ℕ, zero, suc, ◌+◌, ◌-◌, ◌<◌, ◌≤◌, true, false, nat_lt, List, [], ◌∷◌, length, map, refl, ap, ◌∙◌, cond, arith}
use Rattle.std.specs.Prelude.{All, min}
use Rattle.std.proofs.lemmas.List.Elements.{All-nil, All-cons}
use Rattle.rand_pcg.specs.Lcg.{Lcg}
use Rattle.rows.specs.declared.limits.TheConstants.{FEWEST_LINES, MOST_DRAWN_LINES}
use Rattle.rows.specs.Ranged.{is_between}
use Rattle.rows.specs.LastName.{last_name_of}
use Rattle.schema.specs.declared.scale.Scale.{Scale}
use Rattle.requests.specs.declared.request.Choice.TheVariants.{Number, LastName}
use Rattle.number_draws.specs.Words.{word, beyond}
use Rattle.number_draws.specs.Draws.{random_of}
use Rattle.workload.specs.declared.kind.Kind.{Kind}
use Rattle.workload.specs.declared.kind.Kind.TheVariants.{NewOrder, Payment, OrderStatus, Delivery, StockLevel}
use Rattle.workload.specs.declared.terminal.Terminal.{Terminal}
use Rattle.workload.specs.Kinds.{kind_of}
use Rattle.workload.specs.Customers.{customer_id, name_number, choice_of}
use Rattle.workload.specs.NewOrders.{rolls_back, lines_drawn, new_order_drawn}
use Rattle.workload.specs.Payments.{payment_drawn}
use Rattle.workload.specs.Requests.{moment_at, order_status_drawn, request_drawn, requests_drawn}
use Rattle.workload.specs.Within.{AreAccepted, IsCustomer, IsWithin, NameItems}
use Rattle.workload.proofs.Numbers.{rest_between, random-between, nu_rand-within, nu_rand-between}
use Rattle.workload.proofs.Accepted.{accepted-alone, accepted-new_order, drawn-accepted, accepted-payment, accepted-order_status, accepted-stock_level, accepted-warehouse_delivery}
use Rattle.workload.proofs.OtherWarehouses.{IsDistrict, customer_home-there, customer_home-near}
use Rattle.workload.proofs.Lines.{lines-count, lines-quantities, lines-suppliers, lines-near, lines-items}

-- the number of a name is one of a customer's
name_below : (scale : Scale) (generator : Lcg) → name_number scale generator < min scale.customers 1000
name_below scale generator =
    let limits = scale.limits in
    let bounds = nu_rand-within 255 100 0 (min scale.customers 1000 - 1) generator (omega arith) in omega arith

choice-customer : (scale : Scale) (generator : Lcg) → IsCustomer scale (choice_of scale generator)
unfolding choice_of
choice-customer scale generator =
    let next = beyond 1 generator in
    let name = name_number scale next in
    elim (nat_lt 60 (random_of 1 100 generator)) as (λ b. IsCustomer scale (cond b (Number (customer_id scale next)) (LastName (last_name_of name)))) [
      | true ↦ nu_rand-between 1023 500 1 scale.customers next (omega arith)
      | false ↦ (name, name_below scale next, refl)
    ]

new_order-accepted : (terminal : Terminal) (moment : ℕ) (generator : Lcg) → IsDistrict terminal terminal.home → AreAccepted terminal.scale (request_drawn terminal moment NewOrder generator).0
unfolding request_drawn new_order_drawn
new_order-accepted terminal moment generator there =
    let back = rolls_back generator in
    let count = random_of FEWEST_LINES MOST_DRAWN_LINES (beyond 3 generator) in
    let lines = (lines_drawn terminal back count (beyond 5 generator)).0 in
    let many : is_between FEWEST_LINES MOST_DRAWN_LINES (length lines) ≡ true = ap (is_between FEWEST_LINES MOST_DRAWN_LINES) (lines-count terminal back count (beyond 5 generator)) ∙ random-between FEWEST_LINES MOST_DRAWN_LINES (beyond 3 generator) (omega arith) in
    accepted-alone terminal.scale _ (accepted-new_order terminal.scale (new_order_drawn terminal moment generator).0 there.warehouse (random-between 1 10 generator (omega arith)) (drawn-accepted (length lines) many)
    (lines-quantities terminal back count (beyond 5 generator)) (lines-suppliers terminal back count (beyond 5 generator) there))

-- of so many lines as are some
some-items : (terminal : Terminal) (back : _) (count : ℕ) (generator : Lcg) → 1 ≤ count → NameItems terminal.scale (lines_drawn terminal back count generator).0
some-items terminal back zero generator h = absurd (omega arith)
some-items terminal back (suc left) generator h = lines-items terminal back left generator

new_order-within : (terminal : Terminal) (moment : ℕ) (generator : Lcg) → IsWithin terminal (request_drawn terminal moment NewOrder generator).0
unfolding request_drawn new_order_drawn
new_order-within terminal moment generator =
    let back = rolls_back generator in
    let count = random_of FEWEST_LINES MOST_DRAWN_LINES (beyond 3 generator) in
    let bounds = rest_between FEWEST_LINES MOST_DRAWN_LINES (word (beyond 3 generator)) (omega arith) in (
      refl,
      nu_rand-between 1023 500 1 terminal.scale.customers (beyond 1 generator) (omega arith),
      some-items terminal back count (beyond 5 generator) (omega arith),
      lines-near terminal back count (beyond 5 generator),
    )

home-there : (terminal : Terminal) (generator : Lcg) → IsDistrict terminal terminal.home → IsDistrict terminal (record { w_id = terminal.home.w_id; d_id = random_of 1 10 generator })
home-there terminal generator there = record { warehouse = there.warehouse; district = random-between 1 10 generator (omega arith) }

payment-accepted : (terminal : Terminal) (moment : ℕ) (generator : Lcg) → IsDistrict terminal terminal.home → AreAccepted terminal.scale (request_drawn terminal moment Payment generator).0
unfolding request_drawn payment_drawn
payment-accepted terminal moment generator there =
    let own = home-there terminal generator there in
    let customers = customer_home-there terminal _ (beyond 1 generator) there own in
    accepted-alone terminal.scale _ (accepted-payment terminal.scale (payment_drawn terminal moment generator).0 own.warehouse customers.warehouse own.district customers.district (random-between 100 500000 _ (omega arith)))

payment-within : (terminal : Terminal) (moment : ℕ) (generator : Lcg) → IsWithin terminal (request_drawn terminal moment Payment generator).0
unfolding request_drawn payment_drawn
payment-within terminal moment generator =
    (refl, choice-customer terminal.scale _, λ none. ap (λ key. key.w_id) (customer_home-near terminal _ (beyond 1 generator) none))

-- whatever the kind
pub request-accepted : (terminal : Terminal) (moment : ℕ) (kind : Kind) (generator : Lcg) → IsDistrict terminal terminal.home → AreAccepted terminal.scale (request_drawn terminal moment kind generator).0
unfolding request_drawn order_status_drawn
request-accepted terminal moment NewOrder generator there = new_order-accepted terminal moment generator there
request-accepted terminal moment Payment generator there = payment-accepted terminal moment generator there
request-accepted terminal moment OrderStatus generator there =
    accepted-alone terminal.scale _ (accepted-order_status terminal.scale (order_status_drawn terminal generator).0 there.warehouse (random-between 1 10 generator (omega arith)))
request-accepted terminal moment Delivery generator there =
    accepted-warehouse_delivery terminal.scale (record { w_id = terminal.home.w_id; carrier_id = random_of 1 10 generator; moment = moment }) there.warehouse (random-between 1 10 generator (omega arith))
request-accepted terminal moment StockLevel generator there =
    accepted-alone terminal.scale _ (accepted-stock_level terminal.scale (record { home = terminal.home; threshold = random_of 10 20 generator }) there.warehouse there.district (random-between 10 20 generator (omega arith)))

pub request-within : (terminal : Terminal) (moment : ℕ) (kind : Kind) (generator : Lcg) → IsWithin terminal (request_drawn terminal moment kind generator).0
unfolding request_drawn order_status_drawn
request-within terminal moment NewOrder generator = new_order-within terminal moment generator
request-within terminal moment Payment generator = payment-within terminal moment generator
request-within terminal moment OrderStatus generator = (refl, choice-customer terminal.scale (beyond 1 generator))
request-within terminal moment Delivery generator = refl
request-within terminal moment StockLevel generator = refl

request-kind : (terminal : Terminal) (moment : ℕ) (kind : Kind) (generator : Lcg) → kind_of (request_drawn terminal moment kind generator).0 ≡ kind
unfolding request_drawn
request-kind terminal moment NewOrder generator = refl
request-kind terminal moment Payment generator = refl
request-kind terminal moment OrderStatus generator = refl
request-kind terminal moment Delivery generator = refl
request-kind terminal moment StockLevel generator = refl

-- ---- and so all of a script

pub requests-accepted : (terminal : Terminal) (now number : ℕ) (kinds : List Kind) (generator : Lcg) → IsDistrict terminal terminal.home → All (AreAccepted terminal.scale) (requests_drawn terminal now number kinds generator)
unfolding requests_drawn
requests-accepted terminal now number [] generator there = All-nil _
requests-accepted terminal now number (kind ∷ kinds) generator there =
    All-cons (AreAccepted terminal.scale) _ _ (request-accepted terminal (moment_at now number) kind generator there)
    (requests-accepted terminal now (number + 1) kinds (request_drawn terminal (moment_at now number) kind generator).1 there)

pub requests-within : (terminal : Terminal) (now number : ℕ) (kinds : List Kind) (generator : Lcg) → All (IsWithin terminal) (requests_drawn terminal now number kinds generator)
unfolding requests_drawn
requests-within terminal now number [] generator = All-nil _
requests-within terminal now number (kind ∷ kinds) generator =
    All-cons (IsWithin terminal) _ _ (request-within terminal (moment_at now number) kind generator)
    (requests-within terminal now (number + 1) kinds (request_drawn terminal (moment_at now number) kind generator).1)

pub requests-kinds : (terminal : Terminal) (now number : ℕ) (kinds : List Kind) (generator : Lcg) → map kind_of (requests_drawn terminal now number kinds generator) ≡ kinds
unfolding requests_drawn
requests-kinds terminal now number [] generator = refl
requests-kinds terminal now number (kind ∷ kinds) generator =
    let request = request_drawn terminal (moment_at now number) kind generator in
    let rest = requests-kinds terminal now (number + 1) kinds request.1 in
    ap (λ k. k ∷ map kind_of (requests_drawn terminal now (number + 1) kinds request.1)) (request-kind terminal (moment_at now number) kind generator) ∙ ap (λ ks. kind ∷ ks) rest
