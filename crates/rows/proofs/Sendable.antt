-- Rows may go to another thread, and items may be shared by threads.
use denote.RattleType.{RattleType}
use denote.Param.{number}
use denote.Param.SendFields.{declared_send, declared_sync}
use denote.Param.Send.{IsSend, IsSync, sendable, view_sync, fixed_sync, recorded_sync, struct_sync, number_array_sync, plain_sync}
use Rattle.rows.specs.contracts.text.Text as Text
use Rattle.rows.specs.contracts.records.Item as Item
use Rattle.rows.specs.contracts.records.Warehouse as Warehouse
use Rattle.rows.specs.contracts.records.District as District
use Rattle.rows.specs.contracts.records.Stock as Stock
use Rattle.rows.specs.contracts.records.Customer as Customer
use Rattle.rows.specs.contracts.records.History as History
use Rattle.rows.specs.contracts.records.Order as Order
use Rattle.rows.specs.contracts.records.OrderLine as OrderLine
use Rattle.rows.specs.contracts.records.Address as Address
use Rattle.rows.specs.contracts.keys.OrderKey as OrderKey
use Rattle.rows.specs.contracts.keys.OrderLineKey as OrderLineKey

pub Text-send : (N : RattleType) → IsSend (Text.the_row N)
Text-send N = search sendable depth 100 fits 50000

pub Text-sync : (N : RattleType) → IsSync (Text.the_row N)
Text-sync N = view_sync _ _ _ _ _ (declared_sync (Text.TheInside.the_type N) (search (tt, fixed_sync, recorded_sync, struct_sync, number_array_sync, plain_sync) depth 100 fits 50000, tt))

pub Item-send : IsSend Item.the_row
Item-send = search (Text-send, sendable) depth 100 fits 50000

pub Item-sync : IsSync Item.the_row
Item-sync = search (Text-sync, sendable) depth 100 fits 50000

pub Warehouse-send : IsSend Warehouse.the_row
Warehouse-send = search (Text-send, sendable) depth 100 fits 50000

pub District-send : IsSend District.the_row
District-send = search (Text-send, sendable) depth 100 fits 50000

pub Stock-send : IsSend Stock.the_row
Stock-send = search (Text-send, sendable) depth 100 fits 50000

Address-send : IsSend Address.the_row
Address-send = search (Text-send, sendable) depth 100 fits 50000

pub Customer-send : IsSend Customer.the_row
Customer-send = declared_send Customer.the_type (Text-send (number 16), (Text-send (number 2), (Text-send (number 16), (Address-send, (Text-send (number 16), (search sendable depth 40, (search sendable depth 40, (search sendable depth 40, (search sendable depth 40, (search sendable depth 40, (search sendable depth 40, (search sendable depth 40, (search sendable depth 40, (Text-send (number 500), tt))))))))))))))

pub History-send : IsSend History.the_row
History-send = search (Text-send, sendable) depth 100 fits 50000

pub Order-send : IsSend Order.the_row
Order-send = search sendable depth 100 fits 50000

pub OrderLine-send : IsSend OrderLine.the_row
OrderLine-send = search (Text-send, sendable) depth 100 fits 50000

pub OrderKey-send : IsSend OrderKey.the_row
OrderKey-send = search sendable depth 40

pub OrderLineKey-send : IsSend OrderLineKey.the_row
OrderLineKey-send = search sendable depth 40

pub ruleset crosses = (Text-send, Item-send, Item-sync, Warehouse-send, District-send, Stock-send, Customer-send, History-send, Order-send, OrderLine-send, OrderKey-send, OrderLineKey-send)
