-- A list of payments, the lines of orders, and the rows that an order replaced, may go to another thread.
use denote.Param.Send.{IsSend, sendable}
use Rattle.std.proofs.Crossing.{Vec-send}
use Rattle.std.proofs.MapsCrossing.{BTreeMap-send}
use Rattle.rows.proofs.Sendable.{History-send, Order-send, OrderKey-send, OrderLine-send}
use Rattle.schema.specs.contracts.history_list.HistoryList as HistoryList
use Rattle.schema.specs.contracts.numbered.Numbered as Numbered
use Rattle.schema.specs.contracts.order_lines.OrderLines as OrderLines
use Rattle.schema.specs.contracts.order_rows.Replaced as Replaced

pub HistoryList-send : IsSend HistoryList.the_row
HistoryList-send = search (History-send, Vec-send, sendable) depth 40

pub Replaced-send : IsSend Replaced.the_row
Replaced-send = search (Order-send, OrderLine-send, Vec-send, sendable) depth 40

Numbered-send : IsSend Numbered.the_row
Numbered-send = search (OrderLine-send, Vec-send, sendable) depth 40

pub OrderLines-send : IsSend OrderLines.the_row
OrderLines-send = search (OrderKey-send, Numbered-send, BTreeMap-send, sendable) depth 40
