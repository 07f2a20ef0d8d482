-- Requests, answers and scripts may go to another thread, and scripts may be shared by threads.
use denote.RattleType.{RattleType}
use denote.Param.{number}
use denote.Param.Send.{IsSend, IsSync, sendable, view_send, view_sync}
use denote.Param.SendFields.{declared_send, declared_sync, variants_send, variants_sync}
use Rattle.std.proofs.Crossing.{Box-send, Vec-send, Vec-sync}
use Rattle.rows.proofs.Sendable.{Text-send, Text-sync}
use Rattle.requests.specs.contracts.answer.Answer as Answer
use Rattle.requests.specs.contracts.delivery.Delivery as Delivery
use Rattle.requests.specs.contracts.delivery.DeliveryReply as DeliveryReply
use Rattle.requests.specs.contracts.group.Group as Group
use Rattle.requests.specs.contracts.last_name.LastName as LastName
use Rattle.requests.specs.contracts.lines.Lines as Lines
use Rattle.requests.specs.contracts.new_order.NewOrder as NewOrder
use Rattle.requests.specs.contracts.new_order.OrderedLine as OrderedLine
use Rattle.requests.specs.contracts.new_order.NewOrderReply as NewOrderReply
use Rattle.requests.specs.contracts.new_order.NewOrderLine as NewOrderLine
use Rattle.requests.specs.contracts.order_status.OrderStatus as OrderStatus
use Rattle.requests.specs.contracts.order_status.OrderStatusReply as OrderStatusReply
use Rattle.requests.specs.contracts.order_status.StatusOrder as StatusOrder
use Rattle.requests.specs.contracts.order_status.StatusLine as StatusLine
use Rattle.requests.specs.contracts.payment.Payment as Payment
use Rattle.requests.specs.contracts.payment.PaymentReply as PaymentReply
use Rattle.requests.specs.contracts.refusal.Refusal as Refusal
use Rattle.requests.specs.contracts.reply.Fault as Fault
use Rattle.requests.specs.contracts.reply.Shown as Shown
use Rattle.requests.specs.contracts.reply.Reply as Reply
use Rattle.requests.specs.contracts.request.Choice as Choice
use Rattle.requests.specs.contracts.request.Request as Request
use Rattle.requests.specs.contracts.script.Part as Part
use Rattle.requests.specs.contracts.script.Script as Script
use Rattle.requests.specs.contracts.shown_data.ShownData as ShownData
use Rattle.requests.specs.contracts.stock_level.StockLevel as StockLevel
use Rattle.requests.specs.contracts.stock_level.StockLevelReply as StockLevelReply

pub Group-send : IsSend Group.the_row
Group-send = search sendable depth 80

pub Refusal-send : IsSend Refusal.the_row
Refusal-send = search sendable depth 80

-- ---- requests
LastName-send : IsSend LastName.the_row
LastName-send = view_send _ _ _ _ _ (declared_send LastName.TheInside.the_type (Text-send (number 16), tt))

LastName-sync : IsSync LastName.the_row
LastName-sync = view_sync _ _ _ _ _ (declared_sync LastName.TheInside.the_type (Text-sync (number 16), tt))

Choice-send : IsSend Choice.the_row
Choice-send = search (LastName-send, sendable) depth 40

Choice-sync : IsSync Choice.the_row
Choice-sync = search (LastName-sync, sendable) depth 40

module _ (T : RattleType) where
  Lines-send : IsSend T → IsSend (Lines.the_row T)
  Lines-send s = view_send _ _ _ _ _ (declared_send (Lines.TheInside.the_type T) (search (Vec-send, sendable) depth 20, tt))

  Lines-sync : IsSync T → IsSync (Lines.the_row T)
  Lines-sync s = view_sync _ _ _ _ _ (declared_sync (Lines.TheInside.the_type T) (search (Vec-sync, sendable) depth 20, tt))

OrderedLine-send : IsSend OrderedLine.the_row
OrderedLine-send = search sendable depth 40

OrderedLine-sync : IsSync OrderedLine.the_row
OrderedLine-sync = search sendable depth 40

pub NewOrder-send : IsSend NewOrder.the_row
NewOrder-send = declared_send NewOrder.the_type (
  search sendable depth 40,
  (
    search sendable depth 40,
    (
      search sendable depth 40,
      (
        search (OrderedLine-send, Lines-send, sendable) depth 40,
        tt,
      ),
    ),
  ),
)

pub Payment-send : IsSend Payment.the_row
Payment-send = declared_send Payment.the_type (
  search sendable depth 40,
  (
    search sendable depth 40,
    (
      Choice-send,
      (
        search sendable depth 40,
        (
          search sendable depth 40,
          tt,
        ),
      ),
    ),
  ),
)

pub OrderStatus-send : IsSend OrderStatus.the_row
OrderStatus-send = declared_send OrderStatus.the_type (
  search sendable depth 40,
  (
    Choice-send,
    tt,
  ),
)

pub Delivery-send : IsSend Delivery.the_row
Delivery-send = search sendable depth 40

pub StockLevel-send : IsSend StockLevel.the_row
StockLevel-send = search sendable depth 40

pub Request-send : IsSend Request.the_row
Request-send = variants_send Request.enum (
  (NewOrder-send, tt),
  (
    (Payment-send, tt),
    (
      (OrderStatus-send, tt),
      (
        (Delivery-send, tt),
        (
          (StockLevel-send, tt),
          tt,
        ),
      ),
    ),
  ),
)

NewOrder-sync : IsSync NewOrder.the_row
NewOrder-sync = declared_sync NewOrder.the_type (
  search sendable depth 40,
  (
    search sendable depth 40,
    (
      search sendable depth 40,
      (
        search (OrderedLine-sync, Lines-sync, sendable) depth 40,
        tt,
      ),
    ),
  ),
)

Payment-sync : IsSync Payment.the_row
Payment-sync = declared_sync Payment.the_type (
  search sendable depth 40,
  (
    search sendable depth 40,
    (
      Choice-sync,
      (
        search sendable depth 40,
        (
          search sendable depth 40,
          tt,
        ),
      ),
    ),
  ),
)

OrderStatus-sync : IsSync OrderStatus.the_row
OrderStatus-sync = declared_sync OrderStatus.the_type (
  search sendable depth 40,
  (
    Choice-sync,
    tt,
  ),
)

Delivery-sync : IsSync Delivery.the_row
Delivery-sync = search sendable depth 40

StockLevel-sync : IsSync StockLevel.the_row
StockLevel-sync = search sendable depth 40

Request-sync : IsSync Request.the_row
Request-sync = variants_sync Request.enum (
  (NewOrder-sync, tt),
  (
    (Payment-sync, tt),
    (
      (OrderStatus-sync, tt),
      (
        (Delivery-sync, tt),
        (
          (StockLevel-sync, tt),
          tt,
        ),
      ),
    ),
  ),
)

pub Part-send : IsSend Part.the_row
Part-send = declared_send Part.the_type (search sendable depth 20, (Request-send, tt))

Part-sync : IsSync Part.the_row
Part-sync = declared_sync Part.the_type (search sendable depth 20, (Request-sync, tt))

pub Script-sync : IsSync Script.the_row
Script-sync = view_sync _ _ _ _ _ (declared_sync Script.TheInside.the_type (search (Part-sync, Vec-sync) depth 20, tt))

-- ---- answers
pub NewOrderLine-send : IsSend NewOrderLine.the_row
NewOrderLine-send = declared_send NewOrderLine.the_type (
  search sendable depth 40,
  (
    search sendable depth 40,
    (
      Text-send (number 24),
      (
        search sendable depth 40,
        (
          search sendable depth 40,
          (
            search sendable depth 40,
            (
              search sendable depth 40,
              (
                search sendable depth 40,
                tt,
              ),
            ),
          ),
        ),
      ),
    ),
  ),
)

pub NewOrderReply-send : IsSend NewOrderReply.the_row
NewOrderReply-send = declared_send NewOrderReply.the_type (
  Text-send (number 16),
  (
    search sendable depth 40,
    (
      search sendable depth 40,
      (
        search sendable depth 40,
        (
          search sendable depth 40,
          (
            search sendable depth 40,
            (
              search sendable depth 40,
              (
                search sendable depth 40,
                (
                  search (NewOrderLine-send, Lines-send, sendable) depth 40,
                  tt,
                ),
              ),
            ),
          ),
        ),
      ),
    ),
  ),
)

ShownData-send : IsSend ShownData.the_row
ShownData-send = view_send _ _ _ _ _ (declared_send ShownData.TheInside.the_type (search (Text-send, Box-send, sendable) depth 40, tt))

pub PaymentReply-send : IsSend PaymentReply.the_row
PaymentReply-send = declared_send PaymentReply.the_type (
  search sendable depth 40,
  (
    Text-send (number 16),
    (
      Text-send (number 2),
      (
        Text-send (number 16),
        (
          search sendable depth 40,
          (
            search sendable depth 40,
            (
              search sendable depth 40,
              (
                ShownData-send,
                tt,
              ),
            ),
          ),
        ),
      ),
    ),
  ),
)

StatusLine-send : IsSend StatusLine.the_row
StatusLine-send = declared_send StatusLine.the_type (
  search sendable depth 40,
  (
    search sendable depth 40,
    (
      search sendable depth 40,
      (
        search sendable depth 40,
        (
          search sendable depth 40,
          tt,
        ),
      ),
    ),
  ),
)

pub StatusOrder-send : IsSend StatusOrder.the_row
StatusOrder-send = declared_send StatusOrder.the_type (
  search sendable depth 40,
  (
    search sendable depth 40,
    (
      search sendable depth 40,
      (
        search (StatusLine-send, Lines-send, sendable) depth 40,
        tt,
      ),
    ),
  ),
)

OrderStatusReply-send : IsSend OrderStatusReply.the_row
OrderStatusReply-send = declared_send OrderStatusReply.the_type (
  search sendable depth 40,
  (
    Text-send (number 16),
    (
      Text-send (number 2),
      (
        Text-send (number 16),
        (
          search sendable depth 40,
          (
            search (StatusOrder-send, sendable) depth 40,
            tt,
          ),
        ),
      ),
    ),
  ),
)

DeliveryReply-send : IsSend DeliveryReply.the_row
DeliveryReply-send = search sendable depth 40

StockLevelReply-send : IsSend StockLevelReply.the_row
StockLevelReply-send = search sendable depth 40

Fault-send : IsSend Fault.the_row
Fault-send = search (Text-send, sendable) depth 80 fits 50000

Shown-send : IsSend Shown.the_row
Shown-send = variants_send Shown.enum (
  (NewOrderReply-send, tt),
  (
    (PaymentReply-send, tt),
    (
      (OrderStatusReply-send, tt),
      (
        (DeliveryReply-send, tt),
        (
          (StockLevelReply-send, tt),
          tt,
        ),
      ),
    ),
  ),
)

pub Reply-send : IsSend Reply.the_row
Reply-send = variants_send Reply.enum (
  (Shown-send, tt),
  (
    (Fault-send, tt),
    tt,
  ),
)

pub Answer-send : IsSend Answer.the_row
Answer-send = variants_send Answer.enum (
  (search sendable depth 20, (Reply-send, tt)),
  (
    (Refusal-send, tt),
    tt,
  ),
)
