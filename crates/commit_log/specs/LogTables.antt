-- The view that contracts have of a new log.
use Rattle.std.specs.Prelude.{ℕ, List, slice_index_or}
use Rattle.atomic_table.specs.Seated.{TableId}
use Rattle.commit_log.specs.NoTables.{no_table}

-- the most entries, the table of the length, and those of the agreements on what each session has logged and on its
-- request, by session number
pub record LogTables : Type 0 where
  pub most : ℕ
  pub length : TableId
  pub mine : List TableId
  pub asks : List TableId

-- the table of a session
abbrev pub table_of : List TableId → ℕ → TableId
table_of tables session = slice_index_or tables session no_table
