-- The fields of a New-Order and of its reply.
use Rattle.std.specs.Prelude.{◌≡◌, ℕ, List, [], ◌∷◌, ◌++◌, codes, flat_map}
use Rattle.std.specs.Fmt.{decimal, signed_decimal}
use Rattle.rows.specs.declared.stock_rules.BrandGeneric.{BrandGeneric}
use Rattle.rows.specs.declared.stock_rules.BrandGeneric.TheVariants.{Brand, Generic}
use Rattle.files.specs.MomentText.{IsMomentText}
use Rattle.files.specs.Word.{credit_text}
use Rattle.requests.specs.declared.new_order.NewOrder.{NewOrder}
use Rattle.requests.specs.declared.new_order.OrderedLine.{OrderedLine}
use Rattle.requests.specs.declared.new_order.NewOrderReply.{NewOrderReply}
use Rattle.requests.specs.declared.new_order.NewOrderLine.{NewOrderLine}

-- The values of a line: item, supply warehouse and quantity.
abbrev pub ordered_line_fields : OrderedLine → List (List ℕ)
ordered_line_fields line = decimal line.i_id ∷ decimal line.supply_w_id ∷ decimal line.quantity ∷ []

-- The letter and the values of an order whose moment has this text, and then those of each line.
abbrev pub new_order_fields : NewOrder → List ℕ → List (List ℕ)
new_order_fields n moment =
    codes "N" ∷ decimal n.home.w_id ∷ decimal n.home.d_id ∷ decimal n.c_id ∷ moment ∷ flat_map ordered_line_fields n.lines

-- These are the fields of the order.
abbrev pub IsNewOrder : NewOrder → List (List ℕ) → Type 0
IsNewOrder n fields = (moment : List ℕ) × IsMomentText moment n.moment × (fields ≡ new_order_fields n moment)

-- The text of a line's brand (clause 2.4.3.3).
abbrev pub brand_text : BrandGeneric → List ℕ
brand_text Brand = codes "B"
brand_text Generic = codes "G"

-- What is shown of a line (clause 2.4.3.3).
abbrev pub new_order_line_fields : NewOrderLine → List (List ℕ)
new_order_line_fields line =
    decimal line.supply_w_id ∷ decimal line.i_id ∷ line.name ∷ decimal line.quantity ∷ decimal line.stock_quantity
    ∷ brand_text line.brand ∷ decimal line.price ∷ decimal line.amount ∷ []

-- What is shown of the order before its lines; `entry` is the text of its moment. Money is in cents, the discount and the taxes
-- are in ten-thousandths (clause 2.4.3.3).
abbrev pub order_shown_fields : NewOrderReply → List ℕ → List (List ℕ)
order_shown_fields shown entry =
    codes "N" ∷ shown.last ∷ credit_text shown.credit ∷ decimal shown.discount ∷ decimal shown.warehouse_tax
    ∷ decimal shown.district_tax ∷ decimal shown.o_id ∷ entry ∷ signed_decimal shown.total ∷ []

-- The fields are the letter, what is shown of the order, and what is shown of each line.
abbrev pub IsNewOrderReply : NewOrderReply → List (List ℕ) → Type 0
IsNewOrderReply shown fields =
    (entry : List ℕ) × IsMomentText entry shown.entry_d
    × (fields ≡ order_shown_fields shown entry ++ flat_map new_order_line_fields shown.lines)
