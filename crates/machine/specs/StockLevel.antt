-- Stock-Level (clause 2.8).
use Rattle.std.specs.Prelude.{ℕ, ◌-◌, Bool, false, ◌&&◌, ◌==◌, nat_lt, List, map, count_by, Option, Some, None}
use Rattle.std.specs.List.{list_any}
use Rattle.std.specs.FinMap as table
use Rattle.rows.specs.declared.keys.DistrictKey.{DistrictKey}
use Rattle.rows.specs.declared.keys.StockKey.{StockKey}
use Rattle.rows.specs.declared.records.District.{District}
use Rattle.rows.specs.declared.records.Stock.{Stock}
use Rattle.schema.specs.Scale.{stock_key}
use Rattle.schema.specs.Database.{Database, rows_where}
use Rattle.schema.specs.OrderRows.{is_in_span}
use Rattle.requests.specs.declared.stock_level.StockLevel.{StockLevel}
use Rattle.requests.specs.declared.stock_level.StockLevelReply.{StockLevelReply}
use Rattle.requests.specs.declared.reply.Shown.TheVariants.{StockLevel as LevelShown}
use Rattle.machine.specs.Outcome.{Outcome, done}

-- D_NEXT_O_ID, 0 if there is no such district
abbrev pub next_order : Option District → ℕ
next_order (Some row) = row.next_o_id
next_order None = 0

-- the item of each line of the district's 20 orders before number `next`
abbrev pub recent_items : Database → DistrictKey → ℕ → List ℕ
recent_items t home next = map (λ line. line.1.i_id) (rows_where (is_in_span home (next - 20) next) t.lines)

-- the item is in the list
abbrev pub is_one_of : List ℕ → ℕ → Bool
is_one_of items item = list_any (λ i. i == item) items

-- the row of STOCK is the warehouse's, its quantity is below the threshold, and its item is in the list
abbrev pub is_low : ℕ → ℕ → List ℕ → StockKey × Stock → Bool
is_low warehouse threshold items row =
    (row.0.w_id == warehouse) && (nat_lt row.1.quantity threshold && is_one_of items row.0.i_id)

-- the number of low rows of STOCK; an item has one row per warehouse, so it counts once however often it is in the list
abbrev pub low_stock : Database → ℕ → ℕ → List ℕ → ℕ
low_stock t warehouse threshold items = count_by (is_low warehouse threshold items) (table.entries t.stocks)

-- the reply: how many items of the district's last 20 orders are low in its warehouse (clause 2.8.2.2)
abbrev pub level_shown : Database → StockLevel → StockLevelReply
level_shown t asked = record {
  count = low_stock t asked.home.w_id asked.threshold (recent_items t asked.home (next_order (table.get t.districts asked.home)));
}

-- the outcome of Stock-Level: no table changes
abbrev pub stock_level : Database → StockLevel → Outcome
stock_level t asked = done t (LevelShown (level_shown t asked))

-- ---- one item

-- there is a row of STOCK, and its quantity is below the threshold
abbrev pub is_below : ℕ → Option Stock → Bool
is_below threshold (Some row) = nat_lt row.quantity threshold
is_below threshold None = false

-- the warehouse's stock of the item is below the threshold
abbrev pub is_short : Database → ℕ → ℕ → ℕ → Bool
is_short t warehouse threshold item = is_below threshold (table.get t.stocks (stock_key warehouse item))
