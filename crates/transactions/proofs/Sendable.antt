-- Works, what they find, and progresses may go to another thread; so may a shard, if the type parameter of its groups and what
-- its waiting actions carry may.
use denote.RattleType.{RattleType}
use denote.Param.{number}
use denote.Param.Send.{IsSend, sendable, view_send}
use denote.Param.SendFields.{declared_send, variants_send}
use Rattle.std.proofs.Crossing.{Vec-send}
use Rattle.rows.proofs.Sendable.{Text-send, History-send, Order-send, OrderLine-send}
use Rattle.requests.proofs.Sendable as requests
use Rattle.tickets.proofs.Sendable.{Claims-send}
use Rattle.slices.proofs.Sendable.{Slice-send}
use Rattle.tickets.specs.declared.group_names.GroupNames.{Ghosts as GroupNames}
use Rattle.transactions.specs.contracts.acting.Ran as Ran
use Rattle.transactions.specs.contracts.delivery.phases.Progress as DeliveryProgress
use Rattle.transactions.specs.contracts.delivery.work.Work as DeliveryWork
use Rattle.transactions.specs.contracts.delivery.work.Found as DeliveryFound
use Rattle.transactions.specs.contracts.holding.HeldClaims as HeldClaims
use Rattle.transactions.specs.contracts.listed.Listed as Listed
use Rattle.transactions.specs.contracts.new_order.HomeFound as HomeFound
use Rattle.transactions.specs.contracts.new_order.HomeShown as HomeShown
use Rattle.transactions.specs.contracts.new_order.OrdererFound as OrdererFound
use Rattle.transactions.specs.contracts.new_order.Orderer as Orderer
use Rattle.transactions.specs.contracts.new_order.StockTaken as StockTaken
use Rattle.transactions.specs.contracts.new_order.LineSold as LineSold
use Rattle.transactions.specs.contracts.new_order.OrderBegun as OrderBegun
use Rattle.transactions.specs.contracts.new_order.OrderRows as OrderRows
use Rattle.transactions.specs.contracts.new_order.OrderPlaced as OrderPlaced
use Rattle.transactions.specs.contracts.new_order.phases.Progress as NewOrderProgress
use Rattle.transactions.specs.contracts.new_order.work.Work as NewOrderWork
use Rattle.transactions.specs.contracts.new_order.work.Found as NewOrderFound
use Rattle.transactions.specs.contracts.order_status.Work as OrderStatusWork
use Rattle.transactions.specs.contracts.order_status.Found as OrderStatusFound
use Rattle.transactions.specs.contracts.order_status.StatusCustomer as StatusCustomer
use Rattle.transactions.specs.contracts.order_status.CustomerShown as CustomerShown
use Rattle.transactions.specs.contracts.order_status.Progress as OrderStatusProgress
use Rattle.transactions.specs.contracts.order_status.StatusShown as StatusShown
use Rattle.transactions.specs.contracts.payment.Work as PaymentWork
use Rattle.transactions.specs.contracts.payment.Found as PaymentFound
use Rattle.transactions.specs.contracts.payment.HomePaid as HomePaid
use Rattle.transactions.specs.contracts.payment.CustomerPaid as CustomerPaid
use Rattle.transactions.specs.contracts.payment.Progress as PaymentProgress
use Rattle.transactions.specs.contracts.payment.Paid as Paid
use Rattle.transactions.specs.contracts.progress.Progress as Progress
use Rattle.transactions.specs.contracts.shard.Parked as Parked
use Rattle.transactions.specs.contracts.shard.Shard as Shard
use Rattle.transactions.specs.contracts.stock_level.Work as StockLevelWork
use Rattle.transactions.specs.contracts.stock_level.Found as StockLevelFound
use Rattle.transactions.specs.contracts.stock_level.Progress as StockLevelProgress
use Rattle.transactions.specs.contracts.stock_level.Items as Items
use Rattle.transactions.specs.contracts.work.Work as Work
use Rattle.transactions.specs.contracts.work.Found as Found

module _ (T : RattleType) (s : IsSend T) where
  Listed-send : IsSend (Listed.the_row T)
  Listed-send = view_send _ _ _ _ _ (declared_send (Listed.TheInside.the_type T) (search (Vec-send, sendable) depth 20, tt))

-- ---- New-Order
HomeShown-send : IsSend HomeShown.the_row
HomeShown-send = search sendable depth 40

HomeFound-send : IsSend HomeFound.the_row
HomeFound-send = variants_send HomeFound.enum (tt, ((HomeShown-send, tt), tt))

Orderer-send : IsSend Orderer.the_row
Orderer-send = declared_send Orderer.the_type (Text-send (number 16), (search sendable depth 40, (search sendable depth 40, tt)))

OrdererFound-send : IsSend OrdererFound.the_row
OrdererFound-send = variants_send OrdererFound.enum (tt, ((Orderer-send, tt), tt))

LineSold-send : IsSend LineSold.the_row
LineSold-send = declared_send LineSold.the_type (search sendable depth 20, (OrderLine-send, (requests.NewOrderLine-send, tt)))

StockTaken-send : IsSend StockTaken.the_row
StockTaken-send = variants_send StockTaken.enum (
  tt,
  (
    tt,
    (
      (search (LineSold-send, Listed-send, sendable) depth 40, tt),
      tt,
    ),
  ),
)

OrderBegun-send : IsSend OrderBegun.the_row
OrderBegun-send = declared_send OrderBegun.the_type (
  requests.NewOrder-send,
  (
    HomeShown-send,
    (
      Orderer-send,
      (
        requests.Group-send,
        (
          search (requests.Group-send, Listed-send, sendable) depth 40,
          tt,
        ),
      ),
    ),
  ),
)

OrderRows-send : IsSend OrderRows.the_row
OrderRows-send = declared_send OrderRows.the_type (
  search sendable depth 40,
  (
    Order-send,
    (
      search (OrderLine-send, Listed-send, sendable) depth 40,
      tt,
    ),
  ),
)

OrderPlaced-send : IsSend OrderPlaced.the_row
OrderPlaced-send = declared_send OrderPlaced.the_type (OrderRows-send, (requests.NewOrderReply-send, tt))

NewOrderProgress-send : IsSend NewOrderProgress.the_row
NewOrderProgress-send = variants_send NewOrderProgress.enum (
  (requests.NewOrder-send, tt),
  (
    (OrderBegun-send, tt),
    (
      (OrderPlaced-send, tt),
      tt,
    ),
  ),
)

NewOrderWork-send : IsSend NewOrderWork.the_row
NewOrderWork-send = variants_send NewOrderWork.enum (
  (requests.NewOrder-send, tt),
  (
    (requests.NewOrder-send, tt),
    (
      (requests.NewOrder-send, (requests.Group-send, tt)),
      (
        (OrderRows-send, tt),
        tt,
      ),
    ),
  ),
)

NewOrderFound-send : IsSend NewOrderFound.the_row
NewOrderFound-send = variants_send NewOrderFound.enum (
  (HomeFound-send, tt),
  (
    (OrdererFound-send, tt),
    (
      (StockTaken-send, tt),
      (
        tt,
        tt,
      ),
    ),
  ),
)

-- ---- Payment
Paid-send : IsSend Paid.the_row
Paid-send = declared_send Paid.the_type (requests.Payment-send, (History-send, (requests.PaymentReply-send, tt)))

HomePaid-send : IsSend HomePaid.the_row
HomePaid-send = variants_send HomePaid.enum (
  tt,
  (
    tt,
    (
      (Text-send (number 10), (Text-send (number 10), tt)),
      tt,
    ),
  ),
)

CustomerPaid-send : IsSend CustomerPaid.the_row
CustomerPaid-send = variants_send CustomerPaid.enum (
  tt,
  (
    tt,
    (
      (requests.PaymentReply-send, tt),
      tt,
    ),
  ),
)

PaymentProgress-send : IsSend PaymentProgress.the_row
PaymentProgress-send = variants_send PaymentProgress.enum ((requests.Payment-send, tt), ((Paid-send, tt), tt))

PaymentWork-send : IsSend PaymentWork.the_row
PaymentWork-send = variants_send PaymentWork.enum (
  (requests.Payment-send, tt),
  (
    (requests.Payment-send, tt),
    (
      (requests.Payment-send, (History-send, tt)),
      tt,
    ),
  ),
)

PaymentFound-send : IsSend PaymentFound.the_row
PaymentFound-send = variants_send PaymentFound.enum (
  (HomePaid-send, tt),
  (
    (CustomerPaid-send, tt),
    (
      tt,
      tt,
    ),
  ),
)

-- ---- Order-Status
StatusCustomer-send : IsSend StatusCustomer.the_row
StatusCustomer-send = declared_send StatusCustomer.the_type (
  Text-send (number 16),
  (
    Text-send (number 2),
    (
      Text-send (number 16),
      (
        search sendable depth 40,
        tt,
      ),
    ),
  ),
)

CustomerShown-send : IsSend CustomerShown.the_row
CustomerShown-send = variants_send CustomerShown.enum (
  tt,
  (
    (search sendable depth 40, (StatusCustomer-send, tt)),
    tt,
  ),
)

StatusShown-send : IsSend StatusShown.the_row
StatusShown-send = declared_send StatusShown.the_type (search sendable depth 40, (StatusCustomer-send, tt))

OrderStatusProgress-send : IsSend OrderStatusProgress.the_row
OrderStatusProgress-send = variants_send OrderStatusProgress.enum ((requests.OrderStatus-send, tt), ((StatusShown-send, tt), tt))

OrderStatusWork-send : IsSend OrderStatusWork.the_row
OrderStatusWork-send = variants_send OrderStatusWork.enum ((requests.OrderStatus-send, tt), ((search sendable depth 40, tt), tt))

OrderStatusFound-send : IsSend OrderStatusFound.the_row
OrderStatusFound-send = variants_send OrderStatusFound.enum (
  (CustomerShown-send, tt),
  (
    (search (requests.StatusOrder-send, sendable) depth 40, tt),
    tt,
  ),
)

-- ---- Delivery
DeliveryProgress-send : IsSend DeliveryProgress.the_row
DeliveryProgress-send = variants_send DeliveryProgress.enum (
  (requests.Delivery-send, tt),
  (
    (requests.Delivery-send, (search sendable depth 40, tt)),
    tt,
  ),
)

DeliveryWork-send : IsSend DeliveryWork.the_row
DeliveryWork-send = variants_send DeliveryWork.enum (
  (requests.Delivery-send, tt),
  (
    (requests.Delivery-send, (search sendable depth 40, tt)),
    tt,
  ),
)

DeliveryFound-send : IsSend DeliveryFound.the_row
DeliveryFound-send = variants_send DeliveryFound.enum (
  (search sendable depth 40, tt),
  (
    (search sendable depth 40, tt),
    tt,
  ),
)

-- ---- Stock-Level
Items-send : IsSend Items.the_row
Items-send = view_send _ _ _ _ _ (declared_send Items.TheInside.the_type (search (Vec-send, sendable) depth 20, tt))

StockLevelProgress-send : IsSend StockLevelProgress.the_row
StockLevelProgress-send = variants_send StockLevelProgress.enum (
  (requests.StockLevel-send, tt),
  (
    (requests.StockLevel-send, (search sendable depth 20, tt)),
    (
      (requests.StockLevel-send, (Items-send, tt)),
      tt,
    ),
  ),
)

StockLevelWork-send : IsSend StockLevelWork.the_row
StockLevelWork-send = variants_send StockLevelWork.enum (
  (requests.StockLevel-send, tt),
  (
    (requests.StockLevel-send, (search sendable depth 20, tt)),
    (
      (requests.StockLevel-send, (Items-send, tt)),
      tt,
    ),
  ),
)

StockLevelFound-send : IsSend StockLevelFound.the_row
StockLevelFound-send = variants_send StockLevelFound.enum (
  (search sendable depth 20, tt),
  (
    (Items-send, tt),
    (
      (search sendable depth 20, tt),
      tt,
    ),
  ),
)

-- ---- any transaction
pub Progress-send : IsSend Progress.the_row
Progress-send = variants_send Progress.enum (
  (NewOrderProgress-send, tt),
  (
    (PaymentProgress-send, tt),
    (
      (OrderStatusProgress-send, tt),
      (
        (DeliveryProgress-send, tt),
        (
          (StockLevelProgress-send, tt),
          tt,
        ),
      ),
    ),
  ),
)

pub Work-send : IsSend Work.the_row
Work-send = variants_send Work.enum (
  (NewOrderWork-send, tt),
  (
    (PaymentWork-send, tt),
    (
      (OrderStatusWork-send, tt),
      (
        (DeliveryWork-send, tt),
        (
          (StockLevelWork-send, tt),
          tt,
        ),
      ),
    ),
  ),
)

Found-send : IsSend Found.the_row
Found-send = variants_send Found.enum (
  (NewOrderFound-send, tt),
  (
    (PaymentFound-send, tt),
    (
      (OrderStatusFound-send, tt),
      (
        (DeliveryFound-send, tt),
        (
          (StockLevelFound-send, tt),
          tt,
        ),
      ),
    ),
  ),
)

-- ---- at a shard
module _ (J : RattleType) (names : GroupNames J.Denot) (s : IsSend J) where
  pub HeldClaims-send : IsSend (HeldClaims.the_row J names)
  HeldClaims-send = view_send _ _ _ _ _ (declared_send (HeldClaims.TheInside.the_type J names) (search (Claims-send, Vec-send) depth 10, tt))

  pub Ran-send : IsSend (Ran.the_row J names)
  Ran-send = variants_send (Ran.enum J names) (
    (Claims-send J names s, (Found-send, tt)),
    (
      (requests.Group-send, (search sendable depth 20, tt)),
      (
        tt,
        tt,
      ),
    ),
  )

  module _ (T : RattleType) (t : IsSend T) where
    Parked-send : IsSend (Parked.the_row T)
    Parked-send = declared_send (Parked.the_type T) (
      search sendable depth 40,
      (
        Work-send,
        (
          search sendable depth 20,
          tt,
        ),
      ),
    )

    pub Shard-send : IsSend (Shard.the_row J T names)
    Shard-send = view_send _ _ _ _ _ (declared_send (Shard.TheInside.the_type J T names) (
      Slice-send J names s,
      (
        search (Parked-send, Vec-send, sendable) depth 20,
        tt,
      ),
    ))
