-- The name under which a file is written before it has its own.
use Rattle.std.specs.Prelude.{ℕ, List, ◌++◌, codes}
use Rattle.std.specs.Fmt.{decimal}

-- the path, `.tpcc-` and a number
abbrev pub other_name_of : List ℕ → ℕ → List ℕ
other_name_of path number = path ++ (codes ".tpcc-" ++ decimal number)
