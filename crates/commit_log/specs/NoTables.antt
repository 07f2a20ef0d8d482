-- Empty tables, and a table of no log: the values of names where none are chosen.
use Rattle.std.specs.Prelude.{[]}
use Rattle.std.proofs.Common.{lit≤}
use Rattle.std.specs.FinMap as map
use Rattle.atomic_table.specs.Seated.{TableId}
use Rattle.schema.specs.Database.{Database}

-- tables of the smallest scale without a row, where a value is needed but not used
abbrev pub no_tables : Database
no_tables = record {
  scale = record {
    warehouses = 1;
    items = 1;
    customers = 1;
    limits = record {
      some_warehouse = lit≤ tt;
      most_warehouses = lit≤ tt;
      some_item = lit≤ tt;
      most_items = lit≤ tt;
      some_customer = lit≤ tt;
      most_customers = lit≤ tt;
    };
  };
  items = map.empty;
  warehouses = map.empty;
  districts = map.empty;
  stocks = map.empty;
  customers = map.empty;
  histories = map.empty;
  orders = map.empty;
  new_orders = map.empty;
  lines = map.empty;
}

-- the table of no agreement
abbrev pub no_table : TableId
no_table = record { words = 0; slots = 0; views_name = 0; atom = 0; block = 0; offset = 0; slot_names = [] }
