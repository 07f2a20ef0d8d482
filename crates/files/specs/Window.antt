-- What contracts see of a window.
use Rattle.std.specs.Prelude.{ℕ, ◌-◌, List, slice_range}
use Rattle.files.specs.declared.window.Window.{Window}

-- the bytes that have been read and not yet taken
abbrev pub items : Window → List ℕ
items w = slice_range w.bytes w.start w.end

-- the number of bytes that fit after them
abbrev pub room : Window → ℕ
room w = 65536 - w.end
