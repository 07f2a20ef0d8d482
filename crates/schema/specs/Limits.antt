-- The limits of the scale.
use Rattle.std.specs.Prelude.{ℕ, ◌≤◌}
use Rattle.rows.specs.declared.limits.TheConstants.{MOST_WAREHOUSES}

-- 1 to MOST_WAREHOUSES warehouses, 1 to 100,000 items, and 1 to 3,000 customers a district
pub record IsScale (warehouses items customers : ℕ) : Type 0 where
  pub some_warehouse : 1 ≤ warehouses
  pub most_warehouses : warehouses ≤ MOST_WAREHOUSES
  pub some_item : 1 ≤ items
  pub most_items : items ≤ 100000
  pub some_customer : 1 ≤ customers
  pub most_customers : customers ≤ 3000
