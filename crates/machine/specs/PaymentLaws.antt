-- Laws that hold of every payment.
use Rattle.std.specs.Prelude.{◌≡◌, ◌≢◌, ℕ, ℤ, ◌-ℤ◌, IfSome}
use Rattle.std.specs.FinMap as map
use Rattle.rows.specs.declared.keys.DistrictKey.{DistrictKey}
use Rattle.rows.specs.declared.keys.CustomerKey.{CustomerKey}
use Rattle.schema.specs.Sums.{sum_rows}
use Rattle.schema.specs.Database.{Database, IsWithinScale}
use Rattle.schema.specs.Consistency.{amounts_of, Consistent}
use Rattle.requests.specs.declared.payment.Payment.{Payment}
use Rattle.requests.specs.declared.group.Group.{Group}
use Rattle.groups.specs.Content.{content, AreAlikeIn, IsNoneOf}
use Rattle.groups.specs.Payment.{payment_footprint}
use Rattle.groups.specs.Footprint.{groups_of}
use Rattle.machine.specs.Chosen.{chosen}
use Rattle.machine.specs.Payment.{payment}

-- the key is not that of the paying customer
abbrev pub IsNotPayer : Database → Payment → CustomerKey → Type 0
IsNotPayer t p key = IfSome (chosen t.customers p.customer_home p.customer) (λ c. key ≢ c.0)

-- only the rows of the home warehouse, the home district, its list of payments and the customer change
pub record ChangesItsRowsAlone (p : Payment) (old new : Database) : Type 0 where
  pub scale : new.scale ≡ old.scale
  pub items : new.items ≡ old.items
  pub warehouses : (key : ℕ) → key ≢ p.home.w_id → map.get new.warehouses key ≡ map.get old.warehouses key
  pub districts : (key : DistrictKey) → key ≢ p.home → map.get new.districts key ≡ map.get old.districts key
  pub stocks : new.stocks ≡ old.stocks
  pub customers : (key : CustomerKey) → IsNotPayer old p key → map.get new.customers key ≡ map.get old.customers key
  pub histories : (key : DistrictKey) → key ≢ p.home → map.get new.histories key ≡ map.get old.histories key
  pub orders : new.orders ≡ old.orders
  pub new_orders : new.new_orders ≡ old.new_orders
  pub lines : new.lines ≡ old.lines

-- a payment changes only its own four rows
abbrev pub PaymentIsLocal : Type 0
PaymentIsLocal = (t : Database) (p : Payment) → ChangesItsRowsAlone p t (payment t p).tables

-- The reply, and the contents of the payment's groups after it, depend only on the contents of these groups before it:
-- for two databases that are alike in these groups, both are the same.
abbrev pub PaymentReadsItsGroups : Type 0
PaymentReadsItsGroups =
    (s t : Database) (p : Payment) → AreAlikeIn (groups_of (payment_footprint p)) s t
    → ((payment s p).reply ≡ (payment t p).reply) × AreAlikeIn (groups_of (payment_footprint p)) (payment s p).tables (payment t p).tables

-- the contents of every other group are unchanged
abbrev pub PaymentKeepsOtherGroups : Type 0
PaymentKeepsOtherGroups =
    (t : Database) (p : Payment) (group : Group) → IsNoneOf (groups_of (payment_footprint p)) group
    → content (payment t p).tables group ≡ content t group

-- the tables stay within the scale
abbrev pub PaymentKeepsScale : Type 0
PaymentKeepsScale = (t : Database) (p : Payment) → IsWithinScale t → IsWithinScale (payment t p).tables

-- the sum of all W_YTD less the sum of all H_AMOUNT
abbrev pub unexplained : Database → ℤ
unexplained t = sum_rows (λ _ row. row.ytd) t.warehouses -ℤ sum_rows (λ _ rows. amounts_of rows) t.histories

-- each cent that is added to a W_YTD is also in a list of payments
abbrev pub PaymentKeepsSums : Type 0
PaymentKeepsSums = (t : Database) (p : Payment) → unexplained (payment t p).tables ≡ unexplained t

-- the tables stay consistent (clause 3.3)
abbrev pub PaymentKeepsConsistency : Type 0
PaymentKeepsConsistency = (t : Database) (p : Payment) → Consistent t → Consistent (payment t p).tables
