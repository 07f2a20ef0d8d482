-- The district texts of a stock row (clause 1.3.1).
use Rattle.std.specs.Prelude.{ℕ, ◌-◌, List, [], slice_index_or}
use Rattle.rows.specs.declared.records.Stock.{Stock}

-- S_DIST_01 to S_DIST_10: the text of district d is at index d - 1
abbrev pub dist_info_of : Stock → ℕ → List ℕ
dist_info_of stock d_id = slice_index_or stock.dist (d_id - 1) []
