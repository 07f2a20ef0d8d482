-- Tables that are cut as far as some warehouse.
use Rattle.std.proofs.Common.{◌≡◌, ℕ, List, map}
use Rattle.std.specs.List.{range_with_len}
use Rattle.schema.specs.declared.scale.Scale.{Scale}
use Rattle.schema.specs.declared.table_rows.TableRows.{TableRows}
use Rattle.schema.specs.Database.{Database}
use Rattle.schema.specs.Rows.{database, FitsScale}
use Rattle.partitions.specs.declared.homes.Homes.{Homes}
use Rattle.partitions.specs.Parts.{Part, part_of}
use Rattle.partitions.specs.Splits.{AreHomesFrom}

-- the first parts are made, and the rows of the other warehouses are left
pub record IsCutTo (t : Database) (place : ℕ) (homes : Homes) (parts : List Part) : Type 0 where
  pub scale : Scale
  pub rows : TableRows
  pub same : database scale rows ≡ t
  pub fits : FitsScale scale rows
  pub left : AreHomesFrom scale rows place homes
  pub made : parts ≡ map (part_of t) (range_with_len 1 place)
