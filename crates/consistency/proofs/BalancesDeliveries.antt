-- What was delivered to a customer, one line after another.
use Rattle.std.proofs.Common.{◌≡◌, true, false, cond, ◌&&◌, List, [], ◌∷◌, Option, Some, None, is_some, refl, ap, ◌∙◌, arith, if◌then◌else◌}
use Rattle.std.proofs.lemmas.Int.{ints}
use Rattle.std.specs.Prelude.{ℤ, pos, ◌+ℤ◌, ◌-ℤ◌}
use Rattle.std.specs.Option.{option_map}
use Rattle.std.specs.FinMap as map
use Rattle.rows.specs.declared.keys.CustomerKey.{CustomerKey}
use Rattle.rows.specs.declared.keys.OrderKey.{OrderKey}
use Rattle.rows.specs.declared.keys.OrderLineKey.{OrderLineKey}
use Rattle.rows.specs.declared.records.Order.{Order}
use Rattle.rows.specs.declared.records.OrderLine.{OrderLine}
use Rattle.rows.specs.Keys.{order_of_line}
use Rattle.schema.specs.Database.{Database, customer_of_order}
use Rattle.schema.specs.Sums.{sum_entries}
use Rattle.schema.specs.Consistency.{has_ordered, delivered}
use Rattle.consistency.specs.Balances.{is_customer, receiver}

-- what of an amount is the customer's, where another may be who receives it
abbrev pub share : CustomerKey → Option CustomerKey → ℤ → ℤ
share key None amount = pos 0
share key (Some other) amount = cond (is_customer key other) amount (pos 0)

-- what of a line was delivered to the customer
abbrev pub line_share : Database → CustomerKey → OrderLineKey → OrderLine → ℤ
line_share t key line_key line = share key (receiver line_key line (map.get t.orders (order_of_line line_key))) (pos line.amount)

same_weights : {K X : Type 0} (v w : K → X → ℤ) (es : List (K × X)) → ((k : K) (x : X) → v k x ≡ w k x) → sum_entries v es ≡ sum_entries w es
same_weights v w [] h = refl
same_weights v w (e ∷ es) h = ap (λ z. z +ℤ sum_entries v es) (h e.0 e.1) ∙ ap (λ z. w e.0 e.1 +ℤ z) (same_weights v w es h)

module _ (t : Database) (key : CustomerKey) where
  ordered_by : (q : OrderKey) (order : Order) → map.get t.orders q ≡ Some order → has_ordered t key q ≡ is_customer key (customer_of_order q order)
  ordered_by q order e = rw e refl

  no_order : (q : OrderKey) → map.get t.orders q ≡ None → has_ordered t key q ≡ false
  no_order q e = rw e refl

  same_share : (k : OrderLineKey) (line : OrderLine)
      → line_share t key k line ≡ (if is_some line.delivery_d && has_ordered t key (order_of_line k) then pos line.amount else pos 0)
  same_share k line =
      let q = order_of_line k in
      let amount = pos line.amount in
      elim (map.get t.orders q) as (λ r. map.get t.orders q ≡ r
      → share key (cond (is_some line.delivery_d) (option_map (λ order. customer_of_order q order) r) None) amount ≡ cond (is_some line.delivery_d && has_ordered t key q) amount (pos 0)) [
        | None ↦ λ e.
            let none = no_order q e in
            rw none (elim (is_some line.delivery_d) as (λ b. share key (cond b None None) amount ≡ cond (b && false) amount (pos 0)) [ true ↦ refl | false ↦ refl ])
        | Some order ↦ λ e.
            let is = ordered_by q order e in
            rw is (elim (is_some line.delivery_d) as (λ b. share key (cond b (Some (customer_of_order q order)) None) amount ≡ cond (b && is_customer key (customer_of_order q order)) amount (pos 0)) [ true ↦ refl | false ↦ refl ])
      ] refl

  -- the lines come to what the condition speaks of
  pub delivered_is : sum_entries (line_share t key) (map.entries t.lines) ≡ delivered t key
  delivered_is = same_weights _ _ (map.entries t.lines) same_share

-- ---- one line

module _ (t : Database) (key : CustomerKey) (k : OrderLineKey) (line : OrderLine) (rest : List (OrderLineKey × OrderLine)) (whole : ℤ) where
  -- a line that is credited is no longer left
  pub line_credited : (customer : CustomerKey) (amount : ℤ) → receiver k line (map.get t.orders (order_of_line k)) ≡ Some customer → amount ≡ pos line.amount
      → cond (is_customer key customer) ((whole -ℤ sum_entries (line_share t key) ((k, line) ∷ rest)) +ℤ amount) (whole -ℤ sum_entries (line_share t key) ((k, line) ∷ rest))
      ≡ (whole -ℤ sum_entries (line_share t key) rest)
  line_credited customer amount to is =
      let others = sum_entries (line_share t key) rest in
      let first : line_share t key k line ≡ cond (is_customer key customer) (pos line.amount) (pos 0) = ap (λ r. share key r (pos line.amount)) to in
      rw first (elim (is_customer key customer) as (λ b. cond b ((whole -ℤ (cond b (pos line.amount) (pos 0) +ℤ others)) +ℤ amount) (whole -ℤ (cond b (pos line.amount) (pos 0) +ℤ others)) ≡ (whole -ℤ others)) [
        | true ↦ omega (arith, ints)
        | false ↦ omega (arith, ints)
      ])

  -- and so is one that was delivered to nobody
  pub line_passed : receiver k line (map.get t.orders (order_of_line k)) ≡ None → (whole -ℤ sum_entries (line_share t key) ((k, line) ∷ rest)) ≡ (whole -ℤ sum_entries (line_share t key) rest)
  line_passed to =
      let first : line_share t key k line ≡ pos 0 = ap (λ r. share key r (pos line.amount)) to in
      omega (arith, ints)
