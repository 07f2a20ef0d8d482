-- The fields of a reply determine it.
use Rattle.std.proofs.Common.{◌≡◌, ◌<◌, ◌^◌, ℕ, List, [], ◌∷◌, ◌++◌, length, get_or, flat_map, Option, Some, None, IfSome, refl, sym, ap, subst, ◌∙◌, arith}
use Rattle.std.specs.Prelude.{ℤ}
use Rattle.std.specs.Fmt.{decimal, signed_decimal}
use Rattle.std.specs.List.{AllByRecursion, AllZip}
use Rattle.std.proofs.lemmas.Fmt.{signed_decimal_injective}
use Rattle.amounts.specs.Money.{IsMoney}
use Rattle.rows.specs.declared.records.Credit.{Credit}
use Rattle.rows.specs.declared.records.Credit.TheVariants.{Good, Bad}
use Rattle.rows.specs.declared.stock_rules.BrandGeneric.{BrandGeneric}
use Rattle.rows.specs.declared.stock_rules.BrandGeneric.TheVariants.{Brand, Generic}
use Rattle.files.specs.MomentText.{IsMomentText}
use Rattle.files.specs.Word.{credit_text}
use Rattle.files.proofs.Ascii.{small_money}
use Rattle.files.proofs.Moments.{some_moment_text}
use Rattle.files.proofs.Numerals.{some_digits}
use Rattle.requests.specs.declared.reply.Fault.{Fault}
use Rattle.requests.specs.declared.reply.Fault.TheVariants.{NoCustomer, NoItem, Range}
use Rattle.requests.specs.declared.reply.Reply.{Reply}
use Rattle.requests.specs.declared.reply.Reply.TheVariants.{Done, RolledBack}
use Rattle.requests.specs.declared.reply.Shown.{Shown}
use Rattle.requests.specs.declared.reply.Shown.TheVariants.{NewOrder, Payment, OrderStatus, Delivery, StockLevel}
use Rattle.requests.specs.declared.new_order.NewOrderReply.{NewOrderReply}
use Rattle.requests.specs.declared.new_order.NewOrderLine.{NewOrderLine}
use Rattle.requests.specs.declared.payment.PaymentReply.{PaymentReply}
use Rattle.requests.specs.declared.order_status.OrderStatusReply.{OrderStatusReply}
use Rattle.requests.specs.declared.order_status.StatusLine.{StatusLine}
use Rattle.requests.specs.declared.order_status.StatusOrder.{StatusOrder}
use Rattle.requests.specs.declared.delivery.DeliveryReply.{DeliveryReply}
use Rattle.requests.specs.declared.stock_level.StockLevelReply.{StockLevelReply}
use Rattle.terminals.specs.Nullable.{IsNullableMoment, nullable_text}
use Rattle.terminals.specs.NewOrder.{IsNewOrderReply, brand_text, new_order_line_fields, order_shown_fields}
use Rattle.terminals.specs.Payment.{payment_reply_fields}
use Rattle.terminals.specs.OrderStatus.{IsOrderStatusReply, IsStatusLine, IsStatusOrder}
use Rattle.terminals.specs.Delivery.{delivery_reply_fields}
use Rattle.terminals.specs.StockLevel.{stock_level_reply_fields}
use Rattle.terminals.specs.ReplyFields.{IsReply, IsShown, fault_fields}
use Rattle.terminals.specs.RecordLaws.{CanBeFault, CanBeReplied, CanBeShown, IsLineOfStatus, IsOrderOfStatus, IsShownLine, IsWord}
use Rattle.terminals.proofs.ListedTexts.{same_parts}
use Rattle.terminals.proofs.RequestTexts.{letter, same_date, same_word}

-- ---- fields

same_cents : (a b : ℤ) → IsMoney a → IsMoney b → signed_decimal a ≡ signed_decimal b → a ≡ b
same_cents a b x y e = signed_decimal_injective a b (small_money a x) (small_money b y) e

same_credit : (a b : Credit) → credit_text a ≡ credit_text b → a ≡ b
same_credit Good Good e = refl
same_credit Good Bad e = let clash : ◌≡◌ {A = ℕ} 71 66 = ap (λ (l : List ℕ). get_or l 0 0) e in absurd (omega arith)
same_credit Bad Good e = let clash : ◌≡◌ {A = ℕ} 66 71 = ap (λ (l : List ℕ). get_or l 0 0) e in absurd (omega arith)
same_credit Bad Bad e = refl

same_brand : (a b : BrandGeneric) → brand_text a ≡ brand_text b → a ≡ b
same_brand Brand Brand e = refl
same_brand Brand Generic e = let clash : ◌≡◌ {A = ℕ} 66 71 = ap (λ (l : List ℕ). get_or l 0 0) e in absurd (omega arith)
same_brand Generic Brand e = let clash : ◌≡◌ {A = ℕ} 71 66 = ap (λ (l : List ℕ). get_or l 0 0) e in absurd (omega arith)
same_brand Generic Generic e = refl

no_digits : (n : ℕ) → IsWord n → decimal n ≡ [] → ⊥
no_digits n x e = let small : n < 2 ^ 64 = omega arith in some_digits n small e

no_date : (seconds : ℕ) (text : List ℕ) → text ≡ [] → IsMomentText text seconds → ⊥
no_date seconds text e h =
    let P : List ℕ → Type 0 = λ t. IsMomentText t seconds in
    some_moment_text seconds (subst P e h)

same_nullable : (a b : Option ℕ) → IfSome a IsWord → IfSome b IsWord → nullable_text a ≡ nullable_text b → a ≡ b
same_nullable None None x y e = refl
same_nullable None (Some n) x y e = absurd (no_digits n y (sym e))
same_nullable (Some m) None x y e = absurd (no_digits m x e)
same_nullable (Some m) (Some n) x y e = ap Some (same_word m n x y e)

same_nullable_date : (one other : List ℕ) (a b : Option ℕ) → one ≡ other → IsNullableMoment one a → IsNullableMoment other b → a ≡ b
same_nullable_date one other None None e x y = refl
same_nullable_date one other None (Some n) e x y = absurd (no_date n other (sym e ∙ x) y)
same_nullable_date one other (Some m) None e x y = absurd (no_date m one (e ∙ y) x)
same_nullable_date one other (Some m) (Some n) e x y = ap Some (same_date one other m n e x y)

-- ---- what is shown

-- the letter of the kind of what is shown
abbrev shown_letter : Shown → ℕ
shown_letter (NewOrder n) = 78
shown_letter (Payment p) = 80
shown_letter (OrderStatus o) = 79
shown_letter (Delivery d) = 68
shown_letter (StockLevel s) = 76

shown_letter_is : (s : Shown) (fields : List (List ℕ)) → IsShown s fields → letter fields ≡ shown_letter s
shown_letter_is (NewOrder n) fields is = ap letter is.2
shown_letter_is (Payment p) fields is = ap letter is
shown_letter_is (OrderStatus o) fields is = ap letter is.2
shown_letter_is (Delivery d) fields is = ap letter is
shown_letter_is (StockLevel s) fields is = ap letter is

same_shown_line : (a b : NewOrderLine) → IsShownLine a → IsShownLine b → new_order_line_fields a ≡ new_order_line_fields b → a ≡ b
same_shown_line a b x y e =
    let w : decimal a.supply_w_id ≡ decimal b.supply_w_id = cc in
    let n : decimal a.i_id ≡ decimal b.i_id = cc in
    let name : a.name ≡ b.name = cc in
    let q : decimal a.quantity ≡ decimal b.quantity = cc in
    let s : decimal a.stock_quantity ≡ decimal b.stock_quantity = cc in
    let g : brand_text a.brand ≡ brand_text b.brand = cc in
    let p : decimal a.price ≡ decimal b.price = cc in
    let c : decimal a.amount ≡ decimal b.amount = cc in
    let supply_w_id = same_word a.supply_w_id b.supply_w_id x.0 y.0 w in
    let i_id = same_word a.i_id b.i_id x.1 y.1 n in
    let quantity = same_word a.quantity b.quantity x.2 y.2 q in
    let stock_quantity = same_word a.stock_quantity b.stock_quantity x.3 y.3 s in
    let brand = same_brand a.brand b.brand g in
    let price = same_word a.price b.price x.4 y.4 p in
    let amount = same_word a.amount b.amount x.5 y.5 c in
    λ i. record {
      supply_w_id = supply_w_id i;
      i_id = i_id i;
      name = name i;
      quantity = quantity i;
      stock_quantity = stock_quantity i;
      brand = brand i;
      price = price i;
      amount = amount i;
    }

-- the fields of a line, and those of the lines behind it
line_parts : (x y : NewOrderLine) (us vs : List (List ℕ)) → new_order_line_fields x ++ us ≡ new_order_line_fields y ++ vs
    → (new_order_line_fields x ≡ new_order_line_fields y) × (us ≡ vs)
line_parts x y us vs e = same_parts (new_order_line_fields x) (new_order_line_fields y) us vs refl e

same_shown_lines : (xs ys : List NewOrderLine) → AllByRecursion IsShownLine xs → AllByRecursion IsShownLine ys → flat_map new_order_line_fields xs ≡ flat_map new_order_line_fields ys → xs ≡ ys
same_shown_lines [] [] p q e = refl
same_shown_lines [] (y ∷ ys) p q e = absurd cc
same_shown_lines (x ∷ xs) [] p q e = absurd cc
same_shown_lines (x ∷ xs) (y ∷ ys) p q e =
    let parts = line_parts x y (flat_map new_order_line_fields xs) (flat_map new_order_line_fields ys) e in
    let first = same_shown_line x y p.0 q.0 parts.0 in
    let rest = same_shown_lines xs ys p.1 q.1 parts.1 in
    λ i. first i ∷ rest i

same_order_shown : (a b : NewOrderReply) → CanBeShown (NewOrder a) → CanBeShown (NewOrder b) → (fields : List (List ℕ)) → IsNewOrderReply a fields → IsNewOrderReply b fields → a ≡ b
same_order_shown a b x y fields s r =
    let e : order_shown_fields a s.0 ++ flat_map new_order_line_fields a.lines ≡ order_shown_fields b r.0 ++ flat_map new_order_line_fields b.lines = sym s.2 ∙ r.2 in
    let last : a.last ≡ b.last = cc in
    let g : credit_text a.credit ≡ credit_text b.credit = cc in
    let d : decimal a.discount ≡ decimal b.discount = cc in
    let w : decimal a.warehouse_tax ≡ decimal b.warehouse_tax = cc in
    let t : decimal a.district_tax ≡ decimal b.district_tax = cc in
    let o : decimal a.o_id ≡ decimal b.o_id = cc in
    let m : s.0 ≡ r.0 = cc in
    let c : signed_decimal a.total ≡ signed_decimal b.total = cc in
    let l : flat_map new_order_line_fields a.lines ≡ flat_map new_order_line_fields b.lines = cc in
    let credit = same_credit a.credit b.credit g in
    let discount = same_word a.discount b.discount x.0 y.0 d in
    let warehouse_tax = same_word a.warehouse_tax b.warehouse_tax x.1 y.1 w in
    let district_tax = same_word a.district_tax b.district_tax x.2 y.2 t in
    let o_id = same_word a.o_id b.o_id x.3 y.3 o in
    let entry_d = same_date s.0 r.0 a.entry_d b.entry_d m s.1 r.1 in
    let total = same_cents a.total b.total x.4 y.4 c in
    let lines = same_shown_lines a.lines b.lines x.5 y.5 l in
    λ i. record {
      last = last i;
      credit = credit i;
      discount = discount i;
      warehouse_tax = warehouse_tax i;
      district_tax = district_tax i;
      o_id = o_id i;
      entry_d = entry_d i;
      total = total i;
      lines = lines i;
    }

same_payment_shown : (a b : PaymentReply) → CanBeShown (Payment a) → CanBeShown (Payment b) → payment_reply_fields a ≡ payment_reply_fields b → a ≡ b
same_payment_shown a b x y e =
    let n : decimal a.c_id ≡ decimal b.c_id = cc in
    let first : a.first ≡ b.first = cc in
    let middle : a.middle ≡ b.middle = cc in
    let last : a.last ≡ b.last = cc in
    let g : credit_text a.credit ≡ credit_text b.credit = cc in
    let d : decimal a.discount ≡ decimal b.discount = cc in
    let c : signed_decimal a.balance ≡ signed_decimal b.balance = cc in
    let words : a.data ≡ b.data = cc in
    let c_id = same_word a.c_id b.c_id x.0 y.0 n in
    let credit = same_credit a.credit b.credit g in
    let discount = same_word a.discount b.discount x.1 y.1 d in
    let balance = same_cents a.balance b.balance x.2 y.2 c in
    λ i. record {
      c_id = c_id i;
      first = first i;
      middle = middle i;
      last = last i;
      credit = credit i;
      discount = discount i;
      balance = balance i;
      «data» = words i;
    }

-- a line of a status has five fields
status_line_parts : (a b : StatusLine) → IsLineOfStatus a → IsLineOfStatus b → (one other : List (List ℕ)) → IsStatusLine a one → IsStatusLine b other
    → (us vs : List (List ℕ)) → one ++ us ≡ other ++ vs → (a ≡ b) × (us ≡ vs)
status_line_parts a b x y one other s r us vs e =
    let even : length one ≡ length other = ap length s.2 ∙ sym (ap length r.2) in
    let parts = same_parts one other us vs even e in
    let same = sym s.2 ∙ parts.0 ∙ r.2 in
    let n : decimal a.i_id ≡ decimal b.i_id = cc in
    let w : decimal a.supply_w_id ≡ decimal b.supply_w_id = cc in
    let q : decimal a.quantity ≡ decimal b.quantity = cc in
    let c : decimal a.amount ≡ decimal b.amount = cc in
    let m : s.0 ≡ r.0 = cc in
    let i_id = same_word a.i_id b.i_id x.0 y.0 n in
    let supply_w_id = same_word a.supply_w_id b.supply_w_id x.1 y.1 w in
    let quantity = same_word a.quantity b.quantity x.2 y.2 q in
    let amount = same_word a.amount b.amount x.3 y.3 c in
    let delivery_d = same_nullable_date s.0 r.0 a.delivery_d b.delivery_d m s.1 r.1 in
    (λ i. record { i_id = i_id i; supply_w_id = supply_w_id i; quantity = quantity i; amount = amount i; delivery_d = delivery_d i }, parts.1)

-- and so is never left out
no_status_line : (a : StatusLine) (one us : List (List ℕ)) → IsStatusLine a one → one ++ us ≡ [] → ⊥
no_status_line a one us s e =
    let Empty : List (List ℕ) → Type 0 = λ l. l ++ us ≡ [] in
    let none : decimal a.i_id ∷ decimal a.supply_w_id ∷ decimal a.quantity ∷ decimal a.amount ∷ s.0 ∷ us ≡ [] = subst Empty s.2 e in
    absurd cc

same_status_lines : (xs ys : List StatusLine) → AllByRecursion IsLineOfStatus xs → AllByRecursion IsLineOfStatus ys → (us vs : List (List (List ℕ)))
    → AllZip IsStatusLine xs us → AllZip IsStatusLine ys vs → flat_map (λ line. line) us ≡ flat_map (λ line. line) vs → xs ≡ ys
same_status_lines [] [] p q us vs s r e = refl
same_status_lines [] (y ∷ ys) p q [] [] s r e = absurd r
same_status_lines [] (y ∷ ys) p q [] (v ∷ vs) s r e = absurd (no_status_line y v (flat_map (λ line. line) vs) r.0 (sym e))
same_status_lines [] (y ∷ ys) p q (u ∷ us) vs s r e = absurd s
same_status_lines (x ∷ xs) [] p q [] [] s r e = absurd s
same_status_lines (x ∷ xs) [] p q (u ∷ us) [] s r e = absurd (no_status_line x u (flat_map (λ line. line) us) s.0 e)
same_status_lines (x ∷ xs) [] p q us (v ∷ vs) s r e = absurd r
same_status_lines (x ∷ xs) (y ∷ ys) p q [] vs s r e = absurd s
same_status_lines (x ∷ xs) (y ∷ ys) p q (u ∷ us) [] s r e = absurd r
same_status_lines (x ∷ xs) (y ∷ ys) p q (u ∷ us) (v ∷ vs) s r e =
    let parts = status_line_parts x y p.0 q.0 u v s.0 r.0 (flat_map (λ line. line) us) (flat_map (λ line. line) vs) e in
    let first = parts.0 in
    let rest = same_status_lines xs ys p.1 q.1 us vs s.1 r.1 parts.1 in
    λ i. first i ∷ rest i

same_status_order : (a b : Option StatusOrder) → IfSome a IsOrderOfStatus → IfSome b IsOrderOfStatus → (one other : List (List ℕ)) → one ≡ other → IsStatusOrder a one → IsStatusOrder b other → a ≡ b
same_status_order None None x y one other e s r = refl
same_status_order None (Some b) x y one other e s r =
    let same = sym s ∙ e ∙ r.4 in
    let none : decimal b.o_id ≡ [] = cc in
    absurd (no_digits b.o_id y.0 none)
same_status_order (Some a) None x y one other e s r =
    let same = sym s.4 ∙ e ∙ r in
    let none : decimal a.o_id ≡ [] = cc in
    absurd (no_digits a.o_id x.0 none)
same_status_order (Some a) (Some b) x y one other e s r =
    let same = sym s.4 ∙ e ∙ r.4 in
    let n : decimal a.o_id ≡ decimal b.o_id = cc in
    let m : s.0 ≡ r.0 = cc in
    let c : nullable_text a.carrier_id ≡ nullable_text b.carrier_id = cc in
    let l : s.2 ≡ r.2 = cc in
    let o_id = same_word a.o_id b.o_id x.0 y.0 n in
    let entry_d = same_date s.0 r.0 a.entry_d b.entry_d m s.1 r.1 in
    let carrier_id = same_nullable a.carrier_id b.carrier_id x.1 y.1 c in
    let lines = same_status_lines a.lines b.lines x.2 y.2 s.3.0 r.3.0 s.3.1 r.3.1 (sym s.3.2 ∙ l ∙ r.3.2) in
    λ i. Some (record { o_id = o_id i; entry_d = entry_d i; carrier_id = carrier_id i; lines = lines i })

same_status_shown : (a b : OrderStatusReply) → CanBeShown (OrderStatus a) → CanBeShown (OrderStatus b) → (fields : List (List ℕ)) → IsOrderStatusReply a fields → IsOrderStatusReply b fields → a ≡ b
same_status_shown a b x y fields s r =
    let same = sym s.2 ∙ r.2 in
    let n : decimal a.c_id ≡ decimal b.c_id = cc in
    let first : a.first ≡ b.first = cc in
    let middle : a.middle ≡ b.middle = cc in
    let last : a.last ≡ b.last = cc in
    let c : signed_decimal a.balance ≡ signed_decimal b.balance = cc in
    let o : s.0 ≡ r.0 = cc in
    let c_id = same_word a.c_id b.c_id x.0 y.0 n in
    let balance = same_cents a.balance b.balance x.1 y.1 c in
    let order = same_status_order a.order b.order x.2 y.2 s.0 r.0 o s.1 r.1 in
    λ i. record { c_id = c_id i; first = first i; middle = middle i; last = last i; balance = balance i; order = order i }

same_delivery_shown : (a b : DeliveryReply) → CanBeShown (Delivery a) → CanBeShown (Delivery b) → delivery_reply_fields a ≡ delivery_reply_fields b → a ≡ b
same_delivery_shown a b x y e =
    let d : decimal a.d_id ≡ decimal b.d_id = cc in
    let c : decimal a.carrier_id ≡ decimal b.carrier_id = cc in
    let o : nullable_text a.order ≡ nullable_text b.order = cc in
    let d_id = same_word a.d_id b.d_id x.0 y.0 d in
    let carrier_id = same_word a.carrier_id b.carrier_id x.1 y.1 c in
    let order = same_nullable a.order b.order x.2 y.2 o in
    λ i. record { d_id = d_id i; carrier_id = carrier_id i; order = order i }

same_level_shown : (a b : StockLevelReply) → CanBeShown (StockLevel a) → CanBeShown (StockLevel b) → stock_level_reply_fields a ≡ stock_level_reply_fields b → a ≡ b
same_level_shown a b x y e =
    let c : decimal a.count ≡ decimal b.count = cc in
    let count = same_word a.count b.count x y c in
    λ i. record { count = count i }

same_shown : (a b : Shown) → CanBeShown a → CanBeShown b → (fields : List (List ℕ)) → IsShown a fields → IsShown b fields → a ≡ b
same_shown (NewOrder a) (NewOrder b) x y fields s r = ap NewOrder (same_order_shown a b x y fields s r)
same_shown (Payment a) (Payment b) x y fields s r = ap Payment (same_payment_shown a b x y (sym s ∙ r))
same_shown (OrderStatus a) (OrderStatus b) x y fields s r = ap OrderStatus (same_status_shown a b x y fields s r)
same_shown (Delivery a) (Delivery b) x y fields s r = ap Delivery (same_delivery_shown a b x y (sym s ∙ r))
same_shown (StockLevel a) (StockLevel b) x y fields s r = ap StockLevel (same_level_shown a b x y (sym s ∙ r))
same_shown a b x y fields s r =
    let clash : shown_letter a ≡ shown_letter b = sym (shown_letter_is a fields s) ∙ shown_letter_is b fields r in
    absurd (omega arith)

-- ---- what was rolled back

-- the length of the word for the reason
abbrev word_length : Fault → ℕ
word_length NoCustomer = 10
word_length (NoItem last credit o_id) = 6
word_length Range = 5

word_length_is : (f : Fault) → length (get_or (fault_fields f) 0 []) ≡ word_length f
word_length_is NoCustomer = refl
word_length_is (NoItem last credit o_id) = refl
word_length_is Range = refl

same_fault : (a b : Fault) → CanBeFault a → CanBeFault b → fault_fields a ≡ fault_fields b → a ≡ b
same_fault NoCustomer NoCustomer x y e = refl
same_fault (NoItem one credit m) (NoItem other debit n) x y e =
    let last : one ≡ other = cc in
    let g : credit_text credit ≡ credit_text debit = cc in
    let o : decimal m ≡ decimal n = cc in
    let same = same_credit credit debit g in
    let o_id = same_word m n x y o in
    λ i. NoItem (last i) (same i) (o_id i)
same_fault Range Range x y e = refl
same_fault a b x y e =
    let clash : word_length a ≡ word_length b = sym (word_length_is a) ∙ ap (λ (l : List (List ℕ)). length (get_or l 0 [])) e ∙ word_length_is b in
    absurd (omega arith)

-- what is shown has another letter
shown_letter_low : (s : Shown) → shown_letter s ≡ 88 → ⊥
shown_letter_low (NewOrder n) e = absurd (omega arith)
shown_letter_low (Payment p) e = absurd (omega arith)
shown_letter_low (OrderStatus o) e = absurd (omega arith)
shown_letter_low (Delivery d) e = absurd (omega arith)
shown_letter_low (StockLevel s) e = absurd (omega arith)

-- ---- any reply

pub same_reply : (a b : Reply) → CanBeReplied a → CanBeReplied b → (fields : List (List ℕ)) → IsReply a fields → IsReply b fields → a ≡ b
same_reply (Done a) (Done b) x y fields s r = ap Done (same_shown a b x y fields s r)
same_reply (Done a) (RolledBack b) x y fields s r = absurd (shown_letter_low a (sym (shown_letter_is a fields s) ∙ ap letter r))
same_reply (RolledBack a) (Done b) x y fields s r = absurd (shown_letter_low b (sym (shown_letter_is b fields r) ∙ ap letter s))
same_reply (RolledBack a) (RolledBack b) x y fields s r =
    let e = sym s ∙ r in
    let same : fault_fields a ≡ fault_fields b = cc in
    ap RolledBack (same_fault a b x y same)
