-- Rows with their keys, as they are read.
use Rattle.std.specs.Borrow.{Bor}

-- a key and the row borrowed with it
abbrev pub entry : {K X : Type 0} → K × Bor X → K × X
entry p = (p.0, p.1.now)
