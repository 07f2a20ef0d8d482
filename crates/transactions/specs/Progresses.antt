-- How far a transaction of any kind has come, and the step after a phase.
use Rattle.std.specs.Prelude.{◌≡◌, List, ◌++◌}
use Rattle.partitions.specs.Parts.{SharedTables, shared_of}
use Rattle.schema.specs.Database.{Database}
use Rattle.requests.specs.declared.request.Request.{Request}
use Rattle.tickets.specs.Claims.{ClaimView, all_claims}
use Rattle.commit_log.specs.Claimed.{IsCarriedOut}
use Rattle.transactions.specs.declared.work.Work.{Work}
use Rattle.transactions.specs.declared.work.Found.{Found}
use Rattle.transactions.specs.declared.progress.Progress.{Progress}
use Rattle.transactions.specs.declared.progress.Progress.TheVariants.{NewOrder, Payment, OrderStatus, Delivery, StockLevel}
use Rattle.transactions.specs.declared.progress.Gathered.{Gathered}
use Rattle.transactions.specs.declared.progress.Gathered.TheVariants.{Next, Finish}
use Rattle.transactions.specs.NewOrder as new_order
use Rattle.transactions.specs.Payment as payment
use Rattle.transactions.specs.OrderStatus as order_status
use Rattle.transactions.specs.Delivery as delivery
use Rattle.transactions.specs.StockLevel as stock_level
use Rattle.transactions.specs.Granted.{IsAsked}
use Rattle.transactions.specs.Works.{HaveAllDone}

-- the facts of a request's transaction that has come so far, under the claims of each action of its earlier phases, by place
abbrev pub IsReached : SharedTables → Request → Progress → List (List ClaimView) → Type 0
IsReached shared asked (NewOrder progress) held = new_order.IsReached shared asked progress held
IsReached shared asked (Payment progress) held = payment.IsReached shared asked progress held
IsReached shared asked (OrderStatus progress) held = order_status.IsReached shared asked progress held
IsReached shared asked (Delivery progress) held = delivery.IsReached shared asked progress held
IsReached shared asked (StockLevel progress) held = stock_level.IsReached shared asked progress held

-- A transaction of this request has come so far before any of its actions has claimed anything.
abbrev pub IsStartOf : Request → Progress → Type 0
IsStartOf given progress =
    (shared : SharedTables) (asked : Request) (held : List (List ClaimView))
    → IsAsked shared asked given held → IsReached shared asked progress held

-- the works of the phase's actions, by place
abbrev pub works_of : Progress → List Work
works_of (NewOrder progress) = new_order.works_of progress
works_of (Payment progress) = payment.works_of progress
works_of (OrderStatus progress) = order_status.works_of progress
works_of (Delivery progress) = delivery.works_of progress
works_of (StockLevel progress) = stock_level.works_of progress

-- ---- the step after a phase

-- all actions of its phase have done their work, and found this
abbrev pub HasFound : Progress → List Found → Type 0
HasFound progress found = (shared : SharedTables) × (claims : List (List ClaimView)) × HaveAllDone shared (works_of progress) found claims

-- Under these claims of each action the facts that the next phase needs hold; or the request was carried out with this reply, a
-- rollback or not, whatever opening tables of this scale with these items there were.
abbrev pub Follows : SharedTables → Request → List (List ClaimView) → Gathered → Type 0
Follows shared asked claims (Next progress) = IsReached shared asked progress claims
Follows shared asked claims (Finish shown) = (opening : Database) → shared_of opening ≡ shared → IsCarriedOut opening asked (all_claims claims) shown

-- The law of each phase: whatever the request, the claims of each action of its earlier phases and those of its own actions, this
-- step follows from what the actions found.
abbrev pub FollowsFrom : Progress → List Found → Gathered → Type 0
FollowsFrom progress found gathered =
    (shared : SharedTables) (asked : Request) (held claims : List (List ClaimView))
    → IsReached shared asked progress held → HaveAllDone shared (works_of progress) found claims
    → Follows shared asked (held ++ claims) gathered
