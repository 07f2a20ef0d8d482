-- The items that a session has logged.
use Rattle.std.specs.Prelude.{ℕ, ◌+◌, ◌==◌, List, [], ◌∷◌, ◌++◌, if◌then◌else◌}
use Rattle.requests.specs.declared.request.Request.{Request}
use Rattle.requests.specs.declared.reply.Reply.{Reply}
use Rattle.commit_log.specs.declared.entry.Entry.{Entry}
use Rattle.commit_log.specs.declared.mine.Item.{Item}
use Rattle.commit_log.specs.declared.mine.Mine.{Mine}

-- the entry with this session, number, request and reply
abbrev pub entry_of : ℕ → ℕ → Request → Reply → Entry
entry_of session number request reply = record { session = session; number = number; request = request; reply = reply }

-- the item of an entry with this place, number, request and reply
abbrev pub item : ℕ → ℕ → Request → Reply → Item
item place number request reply = record { place = place; number = number; request = request; reply = reply }

-- this entry at its place, as an item of its session
abbrev pub item_of : ℕ → Entry → Item
item_of place entry = item place entry.number entry.request entry.reply

-- the items of a session among these entries, the first of which is at this place
abbrev pub items_from : ℕ → ℕ → List Entry → List Item
items_from session place [] = []
items_from session place (entry ∷ entries) =
    (if session == entry.session then item_of place entry ∷ [] else []) ++ items_from session (place + 1) entries

-- what a session has logged: its entries of the log, in log order, each with its place
abbrev pub items_of : ℕ → List Entry → List Item
items_of session entries = items_from session 0 entries

-- the value of a session that has logged this
abbrev pub mine_of : List Item → Mine
mine_of items = record { items = items }
