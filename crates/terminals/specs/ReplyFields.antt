-- The fields of replies.
use Rattle.std.specs.Prelude.{◌≡◌, ℕ, List, [], ◌∷◌, codes}
use Rattle.std.specs.Fmt.{decimal}
use Rattle.files.specs.Word.{credit_text}
use Rattle.requests.specs.declared.reply.Fault.{Fault}
use Rattle.requests.specs.declared.reply.Fault.TheVariants.{NoCustomer, NoItem, Range}
use Rattle.requests.specs.declared.reply.Reply.{Reply}
use Rattle.requests.specs.declared.reply.Reply.TheVariants.{Done, RolledBack}
use Rattle.requests.specs.declared.reply.Shown.{Shown}
use Rattle.requests.specs.declared.reply.Shown.TheVariants.{NewOrder, Payment, OrderStatus, Delivery, StockLevel}
use Rattle.terminals.specs.NewOrder.{IsNewOrderReply}
use Rattle.terminals.specs.Payment.{payment_reply_fields}
use Rattle.terminals.specs.OrderStatus.{IsOrderStatusReply}
use Rattle.terminals.specs.Delivery.{delivery_reply_fields}
use Rattle.terminals.specs.StockLevel.{stock_level_reply_fields}

-- The reason of a rollback: a word, and for an unused item what is shown of the order (clause 2.4.3.4).
abbrev pub fault_fields : Fault → List (List ℕ)
fault_fields NoCustomer = codes "nocustomer" ∷ []
fault_fields (NoItem last credit o_id) = codes "noitem" ∷ last ∷ credit_text credit ∷ decimal o_id ∷ []
fault_fields Range = codes "range" ∷ []

-- The fields are the letter of the kind and what is shown.
abbrev pub IsShown : Shown → List (List ℕ) → Type 0
IsShown (NewOrder shown) fields = IsNewOrderReply shown fields
IsShown (Payment shown) fields = fields ≡ payment_reply_fields shown
IsShown (OrderStatus shown) fields = IsOrderStatusReply shown fields
IsShown (Delivery shown) fields = fields ≡ delivery_reply_fields shown
IsShown (StockLevel shown) fields = fields ≡ stock_level_reply_fields shown

-- These are the fields of the reply: what a terminal shows, or a letter and the reason of the rollback.
abbrev pub IsReply : Reply → List (List ℕ) → Type 0
IsReply (Done shown) fields = IsShown shown fields
IsReply (RolledBack fault) fields = fields ≡ codes "X" ∷ fault_fields fault
