-- The table of no inbox: the value of names where none are chosen.
use Rattle.std.specs.Prelude.{[]}
use Rattle.atomic_table.specs.Seated.{TableId}

-- the table of no inbox
abbrev pub no_inbox : TableId
no_inbox = record { words = 0; slots = 0; views_name = 0; atom = 0; block = 0; offset = 0; slot_names = [] }
