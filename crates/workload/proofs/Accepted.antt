-- Which requests the check accepts, by their fields.
use Rattle.std.proofs.Common.{◌≡◌, ◌≤◌, ℕ, true, List, [], ◌∷◌, length, map, refl, arith}
use Rattle.std.specs.Prelude.{All}
use Rattle.std.specs.List.{AllByRecursion, list_all, range_with_len}
use Rattle.std.proofs.lemmas.Bool.Decides.{nat_tests}
use Rattle.std.proofs.lemmas.List.Elements.{All-nil, All-cons}
use Rattle.rows.specs.Ranged.{is_between}
use Rattle.rows.specs.declared.limits.TheConstants.{FEWEST_LINES, MOST_DRAWN_LINES, MOST_LINES}
use Rattle.schema.specs.declared.scale.Scale.{Scale}
use Rattle.schema.specs.Scale.{has_warehouse}
use Rattle.requests.specs.declared.request.Request.{Request}
use Rattle.requests.specs.declared.request.Request.TheVariants.{NewOrder, Payment, OrderStatus, Delivery, StockLevel}
use Rattle.requests.specs.declared.new_order.NewOrder.{NewOrder as OrderRequest}
use Rattle.requests.specs.declared.payment.Payment.{Payment as PaymentRequest}
use Rattle.requests.specs.declared.order_status.OrderStatus.{OrderStatus as StatusRequest}
use Rattle.requests.specs.declared.delivery.Delivery.{Delivery as DeliveryRequest}
use Rattle.requests.specs.declared.stock_level.StockLevel.{StockLevel as LevelRequest}
use Rattle.requests.specs.declared.terminal_request.TerminalRequest.TheVariants as asked
use Rattle.requests.specs.declared.terminal_request.WarehouseDelivery.{WarehouseDelivery}
use Rattle.requests.specs.Check.{IsAccepted}
use Rattle.requests.specs.TerminalRequest.{delivery_in}
use Rattle.workload.specs.Within.{AreAccepted}

-- as many lines as an order is drawn with are some that the check accepts
pub drawn-accepted : (count : ℕ) → is_between FEWEST_LINES MOST_DRAWN_LINES count ≡ true → is_between FEWEST_LINES MOST_LINES count ≡ true
drawn-accepted count drawn = grind (arith, nat_tests)

pub accepted-new_order : (scale : Scale) (n : OrderRequest) → has_warehouse scale n.home.w_id ≡ true → is_between 1 10 n.home.d_id ≡ true → is_between FEWEST_LINES MOST_LINES (length n.lines) ≡ true
    → list_all (λ line. is_between 1 10 line.quantity) n.lines ≡ true → list_all (λ line. has_warehouse scale line.supply_w_id) n.lines ≡ true → IsAccepted scale (NewOrder n)
accepted-new_order scale n warehouse district count quantities suppliers = rw (warehouse, district, count, quantities, suppliers) refl

pub accepted-payment : (scale : Scale) (p : PaymentRequest) → has_warehouse scale p.home.w_id ≡ true → has_warehouse scale p.customer_home.w_id ≡ true
    → is_between 1 10 p.home.d_id ≡ true → is_between 1 10 p.customer_home.d_id ≡ true → is_between 100 500000 p.amount ≡ true → IsAccepted scale (Payment p)
accepted-payment scale p warehouse customers district customers_district amount = rw (warehouse, customers, district, customers_district, amount) refl

pub accepted-order_status : (scale : Scale) (o : StatusRequest) → has_warehouse scale o.home.w_id ≡ true → is_between 1 10 o.home.d_id ≡ true → IsAccepted scale (OrderStatus o)
accepted-order_status scale o warehouse district = rw (warehouse, district) refl

accepted-delivery : (scale : Scale) (d : DeliveryRequest) → has_warehouse scale d.home.w_id ≡ true → is_between 1 10 d.home.d_id ≡ true → is_between 1 10 d.carrier_id ≡ true → IsAccepted scale (Delivery d)
accepted-delivery scale d warehouse district carrier = rw (warehouse, district, carrier) refl

-- those of some districts
accepted-deliveries : (scale : Scale) (d : WarehouseDelivery) (ks : List ℕ) → has_warehouse scale d.w_id ≡ true → is_between 1 10 d.carrier_id ≡ true → AllByRecursion (λ k. is_between 1 10 k ≡ true) ks
    → All (IsAccepted scale) (map (λ k. Delivery (delivery_in d k)) ks)
accepted-deliveries scale d [] warehouse carrier all = All-nil _
accepted-deliveries scale d (k ∷ ks) warehouse carrier all =
    All-cons (IsAccepted scale) _ _ (accepted-delivery scale (delivery_in d k) warehouse all.0 carrier) (accepted-deliveries scale d ks warehouse carrier all.1)

pub accepted-warehouse_delivery : (scale : Scale) (d : WarehouseDelivery) → has_warehouse scale d.w_id ≡ true → is_between 1 10 d.carrier_id ≡ true → AreAccepted scale (asked.Delivery d)
accepted-warehouse_delivery scale d warehouse carrier =
    accepted-deliveries scale d (range_with_len 1 10) warehouse carrier (refl, (refl, (refl, (refl, (refl, (refl, (refl, (refl, (refl, (refl, tt))))))))))

-- what is one request
pub accepted-alone : (scale : Scale) (request : Request) → IsAccepted scale request → All (IsAccepted scale) (request ∷ [])
accepted-alone scale request one = All-cons (IsAccepted scale) request [] one (All-nil _)

pub accepted-stock_level : (scale : Scale) (s : LevelRequest) → has_warehouse scale s.home.w_id ≡ true → is_between 1 10 s.home.d_id ≡ true → is_between 10 20 s.threshold ≡ true
    → IsAccepted scale (StockLevel s)
accepted-stock_level scale s warehouse district threshold = rw (warehouse, district, threshold) refl
