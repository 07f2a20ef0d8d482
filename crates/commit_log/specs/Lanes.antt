-- The seats of a new log.
use Rattle.std.specs.Prelude.{◌≡◌, ℕ, List, [], length, map, All}
use Rattle.atomic_table.specs.Seated.{TableId}
use Rattle.agreement.specs.SeatView.{SeatView}
use Rattle.length_word.specs.LengthView.{LengthView, length_view}
use Rattle.commit_log.specs.declared.unnamed_log.Lane.{Lane}
use Rattle.commit_log.specs.declared.mine.Mine.{Mine}
use Rattle.commit_log.specs.Asks.{nothing_asked}
use Rattle.commit_log.specs.Items.{mine_of}
use Rattle.commit_log.specs.Kept.{seat_at}
use Rattle.commit_log.specs.LogTables.{LogTables}

-- the table of the agreement on what the session has logged
abbrev pub mine_table : Lane → TableId
mine_table lane = lane.mine.agreement.table

-- the table of the agreement on the session's request
abbrev pub asks_table : Lane → TableId
asks_table lane = lane.asks.agreement.table

-- a limit, and the tables of a length and of these sessions
abbrev pub tables_of : ℕ → LengthView → List Lane → LogTables
tables_of most word lanes = record { most = most; length = word.table; mine = map mine_table lanes; asks = map asks_table lanes }

-- the parts of a session at these tables, which has seen, logged and asked nothing
pub record IsLaneOf (length_table mine_table asks_table : TableId) (lane : Lane) : Type 0 where
  pub mark : lane.mark ≡ length_view length_table 0
  pub mine : lane.mine ≡ seat_at mine_table (mine_of [])
  pub asks : lane.asks ≡ seat_at asks_table nothing_asked
  pub asked : lane.asked ≡ seat_at asks_table nothing_asked

-- the same, at the lane's own tables
abbrev pub IsNewLane : TableId → Lane → Type 0
IsNewLane length_table lane = IsLaneOf length_table (mine_table lane) (asks_table lane) lane

-- the parts of this many sessions, with the length of an empty log and the log's seats
pub record AreLanes (sessions : ℕ) (word : LengthView) (seats : List (SeatView Mine)) (lanes : List Lane) : Type 0 where
  pub empty : word.entries ≡ 0
  pub many : length lanes ≡ sessions
  pub seats_of_log : seats ≡ map (λ lane. lane.mine) lanes
  pub new : All (IsNewLane word.table) lanes
