-- The invariants of a log's book, a pass and a session's seat.
use Rattle.std.specs.Prelude.{◌≡◌, ℕ, ◌<◌, ◌≤◌, List, length, All}
use Rattle.rows.specs.declared.limits.TheConstants.{MOST_ENTRIES, SESSIONS}
use mathlib.Core.Option.{some}
use lib.ListN.{get_elem?}
use Rattle.atomic_table.specs.Seated.{TableId}
use Rattle.agreement.specs.SeatView.{SeatView, seat_view}
use Rattle.length_word.specs.LengthView.{LengthView, length_view}
use Rattle.commit_log.specs.declared.asking.Asking.{Asking}
use Rattle.commit_log.specs.declared.entry.Entry.{Entry}
use Rattle.commit_log.specs.declared.mine.Mine.{Mine}
use Rattle.commit_log.specs.Items.{items_of, mine_of}

-- one of the two seats of the agreement at this table, with this value
abbrev pub seat_at : {V : Type 0} → TableId → V → SeatView V
seat_at table value = seat_view (record { table = table; count = 2 }) value 1

-- the two seats of an agreement on this value
abbrev pub IsPair : {V : Type 0} → V → SeatView V → SeatView V → Type 0
IsPair value one other = (one ≡ seat_at one.agreement.table value) × (other ≡ one)

-- each session's seat records what the session has logged
abbrev pub EachRecords : (ℕ → TableId) → List Entry → List (SeatView Mine) → Type 0
EachRecords tables entries seats =
    (session : ℕ) (seat : SeatView Mine) → get_elem? seats session ≡ some seat → seat ≡ seat_at (tables session) (mine_of (items_of session entries))

-- what the names of a log say of its book: the most entries, the table of its length, and those of the agreements on what
-- each session has logged
pub record BookNames : Type 0 where
  pub most : ℕ
  pub length_table : TableId
  pub mine_tables : ℕ → TableId

abbrev pub book_names : ℕ → TableId → (ℕ → TableId) → BookNames
book_names most length_table mine_tables = record { most = most; length_table = length_table; mine_tables = mine_tables }

-- the book has this limit, these entries, this length and these seats of the sessions
pub record IsBookOf (names : BookNames) (most : ℕ) (entries : List Entry) (word : LengthView) (seats : List (SeatView Mine)) : Type 0 where
  pub limit : most ≡ names.most
  pub in_range : most ≤ MOST_ENTRIES
  pub recorded_length : word ≡ length_view names.length_table (length entries)
  pub few : length entries ≤ most
  pub sessions : All (λ entry. entry.session < SESSIONS) entries
  pub seat_each : length seats ≡ SESSIONS
  pub each_records : EachRecords names.mine_tables entries seats

-- the tables of the agreements of which a pass has seats: on the log's length, on what its session has logged, and on
-- what it asks
pub record PassTables : Type 0 where
  pub log_length : TableId
  pub mine : TableId
  pub asks : TableId

-- these tables together
abbrev pub pass_tables : TableId → TableId → TableId → PassTables
pass_tables length_table mine_table asks_table = record { log_length = length_table; mine = mine_table; asks = asks_table }

-- the pass of this session has seen `seen` entries, and has this mark and these seats
pub record IsPassOf (tables : PassTables) (session seen : ℕ) (mark : LengthView) (mine : SeatView Mine) (asks : SeatView Asking) : Type 0 where
  pub some_session : session < SESSIONS
  pub marked : seen ≤ mark.entries
  pub mark_of_log : mark.table ≡ tables.log_length
  pub mine_of_session : mine ≡ seat_at tables.mine mine.value
  pub asks_of_session : asks ≡ seat_at tables.asks asks.value

-- the session's seat of the agreement on its request
pub record IsSeatOf (asks_table : TableId) (session : ℕ) (asks : SeatView Asking) : Type 0 where
  pub some_session : session < SESSIONS
  pub asks_of_session : asks ≡ seat_at asks_table asks.value
