-- A Stock-Level (clause 2.8.2.2): what its actions find, stated of their claims alone, that is of the content that they record;
-- and its phases.
use Rattle.std.specs.Prelude.{◌≡◌, ℕ, List, [], ◌∷◌, map}
use Rattle.std.specs.List.{range_with_len}
use Rattle.std.specs.FinMap as table
use Rattle.rows.specs.declared.keys.DistrictKey.{DistrictKey}
use Rattle.rows.specs.declared.limits.TheConstants.{STOCK_GROUPS}
use Rattle.schema.specs.Database.{Database}
use Rattle.partitions.specs.Parts.{SharedTables}
use Rattle.requests.specs.declared.group.Group.{Group}
use Rattle.requests.specs.declared.group.Group.TheVariants as g
use Rattle.requests.specs.declared.request.Request.{Request}
use Rattle.requests.specs.declared.request.Request.TheVariants as request
use Rattle.requests.specs.declared.stock_level.StockLevel.{StockLevel}
use Rattle.requests.specs.declared.stock_level.StockLevelReply.{StockLevelReply}
use Rattle.requests.specs.Check.{IsAccepted}
use Rattle.groups.specs.Content.{content}
use Rattle.groups.specs.Groups.{group_of_district}
use Rattle.groups.specs.declared.group_wants.GroupWant.{GroupWant}
use Rattle.groups.specs.Footprint.{shared as sharing}
use Rattle.tickets.specs.Claims.{ClaimView}
use Rattle.tickets.specs.Committed.{Records}
use Rattle.machine.specs.StockLevel.{next_order, recent_items, low_stock}
use Rattle.transactions.specs.declared.stock_level.Work.{Work}
use Rattle.transactions.specs.declared.stock_level.Work.TheVariants.{ReadNext, ReadItems, CountLow}
use Rattle.transactions.specs.declared.stock_level.Found.{Found}
use Rattle.transactions.specs.declared.stock_level.Found.TheVariants as found
use Rattle.transactions.specs.declared.stock_level.Progress.{Progress}
use Rattle.transactions.specs.declared.stock_level.Progress.TheVariants as at
use Rattle.transactions.specs.declared.work.Work.{Work as AnyWork}
use Rattle.transactions.specs.declared.work.Work.TheVariants as any_work
use Rattle.transactions.specs.declared.work.Found.{Found as AnyFound}
use Rattle.transactions.specs.declared.work.Found.TheVariants as any_found
use Rattle.transactions.specs.Granted.{IsAsked, IsSharedOn, group_of_orders}

-- ---- the district

-- The number of the district's next order, in all tables whose content of the group is the recorded one.
pub record IsNextFound (home : DistrictKey) (next : ℕ) (district : ClaimView) : Type 0 where
  pub claim : IsSharedOn (group_of_district home) district
  pub shown : (t : Database) → content t district.group ≡ district.recorded → next ≡ next_order (table.get t.districts home)

-- ---- the lines of its last orders

-- the item of each line of the district's 20 orders before this number, likewise
pub record AreItemsFound (home : DistrictKey) (next : ℕ) (items : List ℕ) (orders : ClaimView) : Type 0 where
  pub claim : IsSharedOn (group_of_orders home) orders
  pub shown : (t : Database) → content t orders.group ≡ orders.recorded → items ≡ recent_items t home next

-- ---- the stock

-- all groups of a warehouse's stock
abbrev pub stock_of : ℕ → List Group
stock_of w_id = map (λ residue. g.Stock w_id residue) (range_with_len 0 STOCK_GROUPS)

-- these are shared claims on these groups, one on each in turn
abbrev pub AreSharedOn : List Group → List ClaimView → Type 0
AreSharedOn [] [] = Unit {0}
AreSharedOn (group ∷ groups) (claim ∷ claims) = IsSharedOn group claim × AreSharedOn groups claims
AreSharedOn groups claims = ⊥

-- how many of these items are low, in all tables whose contents of the groups are the recorded ones
pub record IsLowFound (s : StockLevel) (items : List ℕ) (count : ℕ) (stock : List ClaimView) : Type 0 where
  pub claims : AreSharedOn (stock_of s.home.w_id) stock
  pub shown : (t : Database) → Records (content t) stock → count ≡ low_stock t s.home.w_id s.threshold items

-- ---- the actions

-- the warehouse at which the work is done
abbrev pub home_of : Work → ℕ
home_of (ReadNext s) = s.home.w_id
home_of (ReadItems s next) = s.home.w_id
home_of (CountLow s items) = s.home.w_id

-- the wants of an action's work
abbrev pub group_wants_of : Work → List GroupWant
group_wants_of (ReadNext s) = sharing (group_of_district s.home) ∷ []
group_wants_of (ReadItems s next) = sharing (group_of_orders s.home) ∷ []
group_wants_of (CountLow s items) = map (λ residue. sharing (g.Stock s.home.w_id residue)) (range_with_len 0 STOCK_GROUPS)

-- The work can be done: its Stock-Level is one that the check accepts.
abbrev pub CanDo : SharedTables → Work → Type 0
CanDo shared (ReadNext s) = IsAccepted shared.scale (request.StockLevel s)
CanDo shared (ReadItems s next) = IsAccepted shared.scale (request.StockLevel s)
CanDo shared (CountLow s items) = IsAccepted shared.scale (request.StockLevel s)

-- The work found this, and was done under these claims.
abbrev pub HasDone : SharedTables → Work → Found → List ClaimView → Type 0
HasDone shared (ReadNext s) one claims =
    (next : ℕ) × (district : ClaimView) × (one ≡ found.Next next) × (claims ≡ district ∷ []) × IsNextFound s.home next district
HasDone shared (ReadItems s next) one claims =
    (items : List ℕ) × (orders : ClaimView) × (one ≡ found.Items items) × (claims ≡ orders ∷ []) × AreItemsFound s.home next items orders
HasDone shared (CountLow s items) one claims =
    (count : ℕ) × (one ≡ found.Low count) × IsLowFound s items count claims

-- ---- the phases

-- the number of the district's next order was read under this claim
pub record IsNextRead (shared : SharedTables) (asked : Request) (s : StockLevel) (next : ℕ) (held : List (List ClaimView)) : Type 0 where
  pub is : asked ≡ request.StockLevel s
  pub accepted : IsAccepted shared.scale asked
  pub district : ClaimView
  pub claims : held ≡ (district ∷ []) ∷ []
  pub read : IsNextFound s.home next district

-- and then the items of the district's last 20 orders, under the second claim
pub record AreItemsRead (shared : SharedTables) (asked : Request) (s : StockLevel) (items : List ℕ) (held : List (List ClaimView)) : Type 0 where
  pub is : asked ≡ request.StockLevel s
  pub accepted : IsAccepted shared.scale asked
  pub next : ℕ
  pub district : ClaimView
  pub orders : ClaimView
  pub claims : held ≡ (district ∷ []) ∷ (orders ∷ []) ∷ []
  pub next_read : IsNextFound s.home next district
  pub read : AreItemsFound s.home next items orders

-- the facts of a Stock-Level that has come so far, under the claims of each action of its earlier phases
abbrev pub IsReached : SharedTables → Request → Progress → List (List ClaimView) → Type 0
IsReached shared asked (at.ReadNext s) held = IsAsked shared asked (request.StockLevel s) held
IsReached shared asked (at.ReadItems s next) held = IsNextRead shared asked s next held
IsReached shared asked (at.CountLow s items) held = AreItemsRead shared asked s items held

-- the work of the phase's action: first the district is read, then the lines of its last orders, then the stock
abbrev pub work_of : Progress → Work
work_of (at.ReadNext s) = ReadNext s
work_of (at.ReadItems s next) = ReadItems s next
work_of (at.CountLow s items) = CountLow s items

-- this is the phase's only action
abbrev pub works_of : Progress → List AnyWork
works_of progress = any_work.StockLevel (work_of progress) ∷ []

-- what the action of the first phase found
abbrev pub IsNextOf : List AnyFound → Type 0
IsNextOf items = (next : ℕ) × (items ≡ any_found.StockLevel (found.Next next) ∷ [])

-- what the action of the second phase found
abbrev pub AreItemsOf : List AnyFound → Type 0
AreItemsOf items = (lines : List ℕ) × (items ≡ any_found.StockLevel (found.Items lines) ∷ [])

-- what the action of the third phase found
abbrev pub IsLowOf : List AnyFound → Type 0
IsLowOf items = (count : ℕ) × (items ≡ any_found.StockLevel (found.Low count) ∷ [])

-- the reply (clause 2.8.3.3)
abbrev pub reply_counted : ℕ → StockLevelReply
reply_counted count = record { count = count }
