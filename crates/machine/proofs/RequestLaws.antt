-- The laws of all requests, by the laws of each kind, and of lists of requests.
use Rattle.std.proofs.Common.{◌≡◌, List, [], ◌∷◌, refl, sym, ap, subst, ◌∙◌}
use Rattle.schema.specs.Database.{Database}
use Rattle.schema.specs.Consistency.{Consistent}
use Rattle.groups.specs.Content.{content, AreAlikeIn}
use Rattle.groups.specs.Footprint.{footprint, groups_of}
use Rattle.requests.specs.declared.request.Request.{Request}
use Rattle.requests.specs.declared.request.Request.TheVariants.{NewOrder, Payment, OrderStatus, Delivery, StockLevel}
use Rattle.requests.specs.declared.reply.Reply.TheVariants.{Done}
use Rattle.requests.specs.declared.reply.Shown.TheVariants.{StockLevel as LevelShown}
use Rattle.requests.specs.declared.new_order.NewOrder.{NewOrder as Ordered}
use Rattle.requests.specs.declared.delivery.Delivery.{Delivery as Delivered}
use Rattle.machine.specs.NewOrder.{new_order}
use Rattle.machine.specs.OrderStatus.{order_status}
use Rattle.machine.specs.Delivery.{delivery}
use Rattle.machine.specs.Machine.{transaction, tables_after}
use Rattle.machine.specs.MachineLaws.{TransactionKeepsConsistency, RequestsKeepConsistency, TransactionReadsItsGroups, TransactionKeepsOtherGroups}
use Rattle.machine.proofs.NewOrderCases.{new_order-cases}
use Rattle.machine.proofs.NewOrderConsistency.{new_order_keeps_consistency}
use Rattle.machine.proofs.NewOrderGroups.{new_order_reads_its_groups, new_order_keeps_other_groups}
use Rattle.machine.proofs.PaymentCases.{payment_local}
use Rattle.machine.proofs.PaymentGroups.{payment_reads_its_groups, payment_keeps_other_groups}
use Rattle.machine.proofs.StatusGroups.{status_keeps_tables, status_reads_its_groups}
use Rattle.machine.proofs.ConsistencyKept.{payment_keeps_consistency}
use Rattle.machine.proofs.DeliveryCases.{delivery-kept}
use Rattle.machine.proofs.DeliveryConsistency.{delivery_keeps_consistency}
use Rattle.machine.proofs.DeliveryGroups.{delivery_reads_its_groups, delivery_keeps_other_groups}
use Rattle.machine.proofs.StockLevelGroups.{stock_level_reads_its_groups}

-- ---- the scale and the items

-- the tables are of the same scale, and have the same items
abbrev AreOfScale : Database → Database → Type 0
AreOfScale s t = (s.scale ≡ t.scale) × (s.items ≡ t.items)

new_order_leaves_both : (t : Database) (n : Ordered) → AreOfScale (new_order t n).tables t
new_order_leaves_both t n =
    new_order-cases t n (λ o. AreOfScale o.tables t) (λ fault. (refl, refl)) (λ w d new_d c items stocks w_is d_is c_is items_are d_made stocks_are. (refl, refl))

delivery_leaves_both : (t : Database) (d : Delivered) → AreOfScale (delivery t d).tables t
delivery_leaves_both t d =
    delivery-kept (λ s. AreOfScale s t) t d (λ s o_id row c new oldest row_is c_is receives h. h) (refl, refl)

-- a request leaves the scale, and so do all requests of a list
transaction-scale : (t : Database) (request : Request) → (transaction t request).tables.scale ≡ t.scale
transaction-scale t (NewOrder n) = (new_order_leaves_both t n).0
transaction-scale t (Payment p) = (payment_local t p).scale
transaction-scale t (OrderStatus o) = ap (λ (s : Database). s.scale) (status_keeps_tables t o)
transaction-scale t (Delivery d) = (delivery_leaves_both t d).0
transaction-scale t (StockLevel s) = refl

pub tables_after-scale : (t : Database) (requests : List Request) → (tables_after t requests).scale ≡ t.scale
tables_after-scale t [] = refl
tables_after-scale t (request ∷ requests) = tables_after-scale (transaction t request).tables requests ∙ transaction-scale t request

-- and so the items
transaction-items : (t : Database) (request : Request) → (transaction t request).tables.items ≡ t.items
transaction-items t (NewOrder n) = (new_order_leaves_both t n).1
transaction-items t (Payment p) = (payment_local t p).items
transaction-items t (OrderStatus o) = ap (λ (s : Database). s.items) (status_keeps_tables t o)
transaction-items t (Delivery d) = (delivery_leaves_both t d).1
transaction-items t (StockLevel s) = refl

pub tables_after-items : (t : Database) (requests : List Request) → (tables_after t requests).items ≡ t.items
tables_after-items t [] = refl
tables_after-items t (request ∷ requests) = tables_after-items (transaction t request).tables requests ∙ transaction-items t request

-- ---- the laws

pub transaction_keeps_consistency : TransactionKeepsConsistency
transaction_keeps_consistency t (NewOrder n) consistent = new_order_keeps_consistency t n consistent
transaction_keeps_consistency t (Payment p) consistent = payment_keeps_consistency t p consistent
transaction_keeps_consistency t (OrderStatus o) consistent = subst Consistent (sym (status_keeps_tables t o)) consistent
transaction_keeps_consistency t (Delivery d) consistent = delivery_keeps_consistency t d consistent
transaction_keeps_consistency t (StockLevel s) consistent = consistent

pub transaction_reads_its_groups : TransactionReadsItsGroups
transaction_reads_its_groups s t (NewOrder n) items alike = new_order_reads_its_groups s t n items alike
transaction_reads_its_groups s t (Payment p) items alike = payment_reads_its_groups s t p alike
transaction_reads_its_groups s t (OrderStatus o) items alike =
    (status_reads_its_groups s t o alike, subst (λ a. AreAlikeIn (groups_of (footprint (OrderStatus o))) a (order_status t o).tables) (sym (status_keeps_tables s o)) (subst (AreAlikeIn (groups_of (footprint (OrderStatus o))) s) (sym (status_keeps_tables t o)) alike))
transaction_reads_its_groups s t (Delivery d) items alike = delivery_reads_its_groups s t d alike
transaction_reads_its_groups s t (StockLevel asked) items alike = (ap (λ shown. Done (LevelShown shown)) (stock_level_reads_its_groups s t asked alike), alike)

pub transaction_keeps_other_groups : TransactionKeepsOtherGroups
transaction_keeps_other_groups t (NewOrder n) group none = new_order_keeps_other_groups t n group none
transaction_keeps_other_groups t (Payment p) group none = payment_keeps_other_groups t p group none
transaction_keeps_other_groups t (OrderStatus o) group none = ap (λ s. content s group) (status_keeps_tables t o)
transaction_keeps_other_groups t (Delivery d) group none = delivery_keeps_other_groups t d group none
transaction_keeps_other_groups t (StockLevel asked) group none = refl

pub requests_keep_consistency : RequestsKeepConsistency
requests_keep_consistency t [] consistent = consistent
requests_keep_consistency t (request ∷ requests) consistent =
    requests_keep_consistency (transaction t request).tables requests (transaction_keeps_consistency t request consistent)
