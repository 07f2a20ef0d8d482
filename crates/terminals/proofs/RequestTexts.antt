-- The fields of a request determine it.
use Rattle.std.proofs.Common.{◌≡◌, ◌<◌, ◌^◌, ℕ, suc, List, [], ◌∷◌, length, get_or, flat_map, refl, sym, ap, subst, ◌∙◌, arith}
use Rattle.std.specs.Fmt.{decimal}
use Rattle.std.specs.List.{AllByRecursion}
use Rattle.std.proofs.lemmas.Fmt.{decimal_injective}
use Rattle.rows.specs.declared.keys.DistrictKey.{DistrictKey}
use Rattle.files.specs.MomentText.{IsMomentText}
use Rattle.files.proofs.Moments.{same_moment}
use Rattle.requests.specs.declared.request.Request.{Request}
use Rattle.requests.specs.declared.request.Request.TheVariants.{NewOrder, Payment, OrderStatus, Delivery, StockLevel}
use Rattle.requests.specs.declared.new_order.NewOrder.{NewOrder as AnOrder}
use Rattle.requests.specs.declared.new_order.OrderedLine.{OrderedLine}
use Rattle.requests.specs.declared.payment.Payment.{Payment as APayment}
use Rattle.requests.specs.declared.order_status.OrderStatus.{OrderStatus as AStatus}
use Rattle.requests.specs.declared.delivery.Delivery.{Delivery as ADelivery}
use Rattle.requests.specs.declared.stock_level.StockLevel.{StockLevel as ALevel}
use Rattle.requests.specs.declared.terminal_request.TerminalRequest.{TerminalRequest}
use Rattle.requests.specs.declared.terminal_request.TerminalRequest.TheVariants as asked
use Rattle.requests.specs.declared.terminal_request.WarehouseDelivery.{WarehouseDelivery}
use Rattle.requests.specs.TerminalRequest.{requests_of}
use Rattle.terminals.specs.ChoiceText.{choice_text}
use Rattle.terminals.specs.NewOrder.{IsNewOrder, ordered_line_fields, new_order_fields}
use Rattle.terminals.specs.Payment.{IsPayment, payment_fields}
use Rattle.terminals.specs.OrderStatus.{IsOrderStatus}
use Rattle.terminals.specs.Delivery.{IsDelivery, IsWarehouseDelivery, delivery_fields, warehouse_delivery_fields}
use Rattle.terminals.specs.StockLevel.{stock_level_fields}
use Rattle.terminals.specs.RequestFields.{IsRequest, IsTerminalRequest}
use Rattle.terminals.specs.RecordLaws.{CanBeAsked, IsDistrictKey, IsOrderedLine, IsWord}
use Rattle.terminals.proofs.Choices.{choice_texts_differ}
use Rattle.terminals.proofs.OrderedLines.{lines-count}

-- ---- fields

pub same_word : (a b : ℕ) → IsWord a → IsWord b → decimal a ≡ decimal b → a ≡ b
same_word a b x y e =
    let small : a < 2 ^ 64 = omega arith in
    let small_too : b < 2 ^ 64 = omega arith in
    decimal_injective a b small small_too e

pub same_key : (a b : DistrictKey) → IsDistrictKey a → IsDistrictKey b → decimal a.w_id ≡ decimal b.w_id → decimal a.d_id ≡ decimal b.d_id → a ≡ b
same_key a b x y w d =
    let w_id = same_word a.w_id b.w_id x.0 y.0 w in
    let d_id = same_word a.d_id b.d_id x.1 y.1 d in
    λ i. record { w_id = w_id i; d_id = d_id i }

pub same_date : (one other : List ℕ) (a b : ℕ) → one ≡ other → IsMomentText one a → IsMomentText other b → a ≡ b
same_date one other a b e x y =
    let Is : List ℕ → Type 0 = λ text. IsMomentText text b in
    same_moment one a b x (subst Is (sym e) y)

-- ---- kinds

-- the first byte of the first field
abbrev pub letter : List (List ℕ) → ℕ
letter fields = get_or (get_or fields 0 []) 0 0

-- the letter of a request's kind
abbrev letter_of : Request → ℕ
letter_of (NewOrder n) = 78
letter_of (Payment p) = 80
letter_of (OrderStatus o) = 79
letter_of (Delivery d) = 68
letter_of (StockLevel s) = 76

letter_is : (r : Request) (fields : List (List ℕ)) → IsRequest r fields → letter fields ≡ letter_of r
letter_is (NewOrder n) fields is = ap letter is.2
letter_is (Payment p) fields is = ap letter is.2
letter_is (OrderStatus o) fields is = ap letter is
letter_is (Delivery d) fields is = ap letter is.2
letter_is (StockLevel s) fields is = ap letter is

-- ---- each kind

same_ordered : (a b : OrderedLine) → IsOrderedLine a → IsOrderedLine b → decimal a.i_id ≡ decimal b.i_id → decimal a.supply_w_id ≡ decimal b.supply_w_id
    → decimal a.quantity ≡ decimal b.quantity → a ≡ b
same_ordered a b x y e f g =
    let i_id = same_word a.i_id b.i_id x.0 y.0 e in
    let supply_w_id = same_word a.supply_w_id b.supply_w_id x.1 y.1 f in
    let quantity = same_word a.quantity b.quantity x.2 y.2 g in
    λ i. record { i_id = i_id i; supply_w_id = supply_w_id i; quantity = quantity i }

same_lines : (xs ys : List OrderedLine) → AllByRecursion IsOrderedLine xs → AllByRecursion IsOrderedLine ys → flat_map ordered_line_fields xs ≡ flat_map ordered_line_fields ys → xs ≡ ys
same_lines [] [] p q e = refl
same_lines [] (y ∷ ys) p q e = absurd cc
same_lines (x ∷ xs) [] p q e = absurd cc
same_lines (x ∷ xs) (y ∷ ys) p q e =
    let item : decimal x.i_id ≡ decimal y.i_id = cc in
    let supply : decimal x.supply_w_id ≡ decimal y.supply_w_id = cc in
    let quantity : decimal x.quantity ≡ decimal y.quantity = cc in
    let more : flat_map ordered_line_fields xs ≡ flat_map ordered_line_fields ys = cc in
    let first = same_ordered x y p.0 q.0 item supply quantity in
    let rest = same_lines xs ys p.1 q.1 more in
    λ i. first i ∷ rest i

same_order : (a b : AnOrder) → CanBeAsked (NewOrder a) → CanBeAsked (NewOrder b) → (fields : List (List ℕ)) → IsNewOrder a fields → IsNewOrder b fields → a ≡ b
same_order a b x y fields s r =
    let e : new_order_fields a s.0 ≡ new_order_fields b r.0 = sym s.2 ∙ r.2 in
    let w : decimal a.home.w_id ≡ decimal b.home.w_id = cc in
    let d : decimal a.home.d_id ≡ decimal b.home.d_id = cc in
    let c : decimal a.c_id ≡ decimal b.c_id = cc in
    let m : s.0 ≡ r.0 = cc in
    let l : flat_map ordered_line_fields a.lines ≡ flat_map ordered_line_fields b.lines = cc in
    let home = same_key a.home b.home x.0 y.0 w d in
    let c_id = same_word a.c_id b.c_id x.1 y.1 c in
    let moment = same_date s.0 r.0 a.moment b.moment m s.1 r.1 in
    let lines = same_lines a.lines b.lines x.3 y.3 l in
    λ i. record { home = home i; c_id = c_id i; moment = moment i; lines = lines i }

same_payment : (a b : APayment) → CanBeAsked (Payment a) → CanBeAsked (Payment b) → (fields : List (List ℕ)) → IsPayment a fields → IsPayment b fields → a ≡ b
same_payment a b x y fields s r =
    let e : payment_fields a s.0 ≡ payment_fields b r.0 = sym s.2 ∙ r.2 in
    let w : decimal a.home.w_id ≡ decimal b.home.w_id = cc in
    let d : decimal a.home.d_id ≡ decimal b.home.d_id = cc in
    let cw : decimal a.customer_home.w_id ≡ decimal b.customer_home.w_id = cc in
    let cd : decimal a.customer_home.d_id ≡ decimal b.customer_home.d_id = cc in
    let who : choice_text a.customer ≡ choice_text b.customer = cc in
    let cents : decimal a.amount ≡ decimal b.amount = cc in
    let m : s.0 ≡ r.0 = cc in
    let home = same_key a.home b.home x.0 y.0 w d in
    let customer_home = same_key a.customer_home b.customer_home x.1 y.1 cw cd in
    let customer = choice_texts_differ a.customer b.customer x.2 y.2 who in
    let amount = same_word a.amount b.amount x.3 y.3 cents in
    let moment = same_date s.0 r.0 a.moment b.moment m s.1 r.1 in
    λ i. record { home = home i; customer_home = customer_home i; customer = customer i; amount = amount i; moment = moment i }

same_status : (a b : AStatus) → CanBeAsked (OrderStatus a) → CanBeAsked (OrderStatus b) → (fields : List (List ℕ)) → IsOrderStatus a fields → IsOrderStatus b fields → a ≡ b
same_status a b x y fields s r =
    let w : decimal a.home.w_id ≡ decimal b.home.w_id = cc in
    let d : decimal a.home.d_id ≡ decimal b.home.d_id = cc in
    let who : choice_text a.customer ≡ choice_text b.customer = cc in
    let home = same_key a.home b.home x.0 y.0 w d in
    let customer = choice_texts_differ a.customer b.customer x.1 y.1 who in
    λ i. record { home = home i; customer = customer i }

same_delivery : (a b : ADelivery) → CanBeAsked (Delivery a) → CanBeAsked (Delivery b) → (fields : List (List ℕ)) → IsDelivery a fields → IsDelivery b fields → a ≡ b
same_delivery a b x y fields s r =
    let e : delivery_fields a s.0 ≡ delivery_fields b r.0 = sym s.2 ∙ r.2 in
    let w : decimal a.home.w_id ≡ decimal b.home.w_id = cc in
    let d : decimal a.home.d_id ≡ decimal b.home.d_id = cc in
    let c : decimal a.carrier_id ≡ decimal b.carrier_id = cc in
    let m : s.0 ≡ r.0 = cc in
    let home = same_key a.home b.home x.0 y.0 w d in
    let carrier_id = same_word a.carrier_id b.carrier_id x.1 y.1 c in
    let moment = same_date s.0 r.0 a.moment b.moment m s.1 r.1 in
    λ i. record { home = home i; carrier_id = carrier_id i; moment = moment i }

same_level : (a b : ALevel) → CanBeAsked (StockLevel a) → CanBeAsked (StockLevel b) → stock_level_fields a ≡ stock_level_fields b → a ≡ b
same_level a b x y e =
    let w : decimal a.home.w_id ≡ decimal b.home.w_id = cc in
    let d : decimal a.home.d_id ≡ decimal b.home.d_id = cc in
    let t : decimal a.threshold ≡ decimal b.threshold = cc in
    let home = same_key a.home b.home x.0 y.0 w d in
    let threshold = same_word a.threshold b.threshold x.1 y.1 t in
    λ i. record { home = home i; threshold = threshold i }

-- ---- any kind

pub same_request : (a b : Request) → CanBeAsked a → CanBeAsked b → (fields : List (List ℕ)) → IsRequest a fields → IsRequest b fields → a ≡ b
same_request (NewOrder a) (NewOrder b) x y fields s r = ap NewOrder (same_order a b x y fields s r)
same_request (Payment a) (Payment b) x y fields s r = ap Payment (same_payment a b x y fields s r)
same_request (OrderStatus a) (OrderStatus b) x y fields s r = ap OrderStatus (same_status a b x y fields s r)
same_request (Delivery a) (Delivery b) x y fields s r = ap Delivery (same_delivery a b x y fields s r)
same_request (StockLevel a) (StockLevel b) x y fields s r = ap StockLevel (same_level a b x y (sym s ∙ r))
same_request a b x y fields s r =
    let clash : letter_of a ≡ letter_of b = sym (letter_is a fields s) ∙ letter_is b fields r in
    absurd (omega arith)

-- ---- what a terminal asks for

-- it can be asked for: each request that it is carried out as can be
abbrev pub CanBeAskedAt : TerminalRequest → Type 0
CanBeAskedAt one = AllByRecursion CanBeAsked (requests_of one)

same_warehouse_delivery : (a b : WarehouseDelivery) → CanBeAskedAt (asked.Delivery a) → CanBeAskedAt (asked.Delivery b) → (fields : List (List ℕ)) → IsWarehouseDelivery a fields → IsWarehouseDelivery b fields → a ≡ b
same_warehouse_delivery a b x y fields s r =
    let e : warehouse_delivery_fields a s.0 ≡ warehouse_delivery_fields b r.0 = sym s.2 ∙ r.2 in
    let w : decimal a.w_id ≡ decimal b.w_id = cc in
    let c : decimal a.carrier_id ≡ decimal b.carrier_id = cc in
    let m : s.0 ≡ r.0 = cc in
    let w_id = same_word a.w_id b.w_id x.0.0.0 y.0.0.0 w in
    let carrier_id = same_word a.carrier_id b.carrier_id x.0.1 y.0.1 c in
    let moment = same_date s.0 r.0 a.moment b.moment m s.1 r.1 in
    λ i. record { w_id = w_id i; carrier_id = carrier_id i; moment = moment i }

-- the letter of its kind
abbrev asked_letter : TerminalRequest → ℕ
asked_letter (asked.NewOrder n) = 78
asked_letter (asked.Payment p) = 80
asked_letter (asked.OrderStatus o) = 79
asked_letter (asked.Delivery d) = 68
asked_letter (asked.StockLevel s) = 76

asked_letter_is : (r : TerminalRequest) (fields : List (List ℕ)) → IsTerminalRequest r fields → letter fields ≡ asked_letter r
asked_letter_is (asked.NewOrder n) fields is = ap letter is.2
asked_letter_is (asked.Payment p) fields is = ap letter is.2
asked_letter_is (asked.OrderStatus o) fields is = ap letter is
asked_letter_is (asked.Delivery d) fields is = ap letter is.2
asked_letter_is (asked.StockLevel s) fields is = ap letter is

pub same_terminal : (a b : TerminalRequest) → CanBeAskedAt a → CanBeAskedAt b → (fields : List (List ℕ)) → IsTerminalRequest a fields → IsTerminalRequest b fields → a ≡ b
same_terminal (asked.NewOrder a) (asked.NewOrder b) x y fields s r = ap asked.NewOrder (same_order a b x.0 y.0 fields s r)
same_terminal (asked.Payment a) (asked.Payment b) x y fields s r = ap asked.Payment (same_payment a b x.0 y.0 fields s r)
same_terminal (asked.OrderStatus a) (asked.OrderStatus b) x y fields s r = ap asked.OrderStatus (same_status a b x.0 y.0 fields s r)
same_terminal (asked.Delivery a) (asked.Delivery b) x y fields s r = ap asked.Delivery (same_warehouse_delivery a b x y fields s r)
same_terminal (asked.StockLevel a) (asked.StockLevel b) x y fields s r = ap asked.StockLevel (same_level a b x.0 y.0 (sym s ∙ r))
same_terminal a b x y fields s r =
    let clash : asked_letter a ≡ asked_letter b = sym (asked_letter_is a fields s) ∙ asked_letter_is b fields r in
    absurd (omega arith)

-- ---- lengths

-- a request has few fields
pub few_fields : (r : Request) → CanBeAsked r → (fields : List (List ℕ)) → IsRequest r fields → length fields < 2 ^ 64
few_fields (NewOrder n) can fields is =
    let count : length fields ≡ suc (suc (suc (suc (suc (length (flat_map ordered_line_fields n.lines)))))) = ap length is.2 in
    omega (arith, lines-count n.lines, can.2)
few_fields (Payment p) can fields is = let count : length fields ≡ 8 = ap length is.2 in omega arith
few_fields (OrderStatus o) can fields is = let count : length fields ≡ 4 = ap length is in omega arith
few_fields (Delivery d) can fields is = let count : length fields ≡ 5 = ap length is.2 in omega arith
few_fields (StockLevel s) can fields is = let count : length fields ≡ 4 = ap length is in omega arith
