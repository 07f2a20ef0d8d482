-- The lanes and their positions.
use Rattle.std.specs.Prelude.{ℕ, ◌+◌, ◌*◌, ◌==◌, if◌then◌else◌, List, [], ◌∷◌, ◌++◌, position, unwrap_or, Option, Some, None}
use Rattle.std.specs.List.{list_any}
use Rattle.history.specs.declared.event.Event.TheVariants.{Submit}
use Rattle.history.specs.declared.schedule.Scheduled.{Scheduled}
use Rattle.history.specs.declared.schedule.Scheduled.TheVariants.{Event}

-- The session that submits.
abbrev pub submitter : Scheduled → Option ℕ
submitter (Event (Submit session number request)) = Some session
submitter item = None

-- A session gets a lane at the right of the others, if it has none yet.
abbrev pub with_lane : List ℕ → ℕ → List ℕ
with_lane sessions session = if list_any (λ other. other == session) sessions then sessions else sessions ++ session ∷ []

-- The sessions that have a lane, after one more item of a schedule. A session that submits gets one.
abbrev pub with_submitter : List ℕ → Option ℕ → List ℕ
with_submitter sessions None = sessions
with_submitter sessions (Some session) = with_lane sessions session

-- The sessions that have a lane, after these items of a schedule.
abbrev pub sessions_from : List ℕ → List Scheduled → List ℕ
sessions_from sessions [] = sessions
sessions_from sessions (item ∷ schedule) = sessions_from (with_submitter sessions (submitter item)) schedule

-- The position of orders, left of all lanes.
abbrev pub outside_x : ℕ
outside_x = 152

-- The number of session lanes before that of this one.
abbrev pub place_of : List ℕ → ℕ → ℕ
place_of sessions session = unwrap_or (position (λ other. other == session) sessions) 0

-- The line of a session.
abbrev pub session_x : List ℕ → ℕ → ℕ
session_x sessions session = 200 + 64 * place_of sessions session

-- The left edge of an executor's lane, after this many sessions.
abbrev pub executor_x : ℕ → ℕ → ℕ
executor_x sessions executor = 168 + 64 * sessions + 192 * executor

-- The line of what an executor takes.
abbrev pub takes_x : ℕ → ℕ → ℕ
takes_x sessions executor = executor_x sessions executor + 84

-- The line of what an executor sends.
abbrev pub sends_x : ℕ → ℕ → ℕ
sends_x sessions executor = executor_x sessions executor + 152

-- The edges of the log's squares and the log's line, after this many sessions and executors.
abbrev pub log_left : ℕ → ℕ → ℕ
log_left sessions executors = executor_x sessions executors + 24

abbrev pub log_x : ℕ → ℕ → ℕ
log_x sessions executors = executor_x sessions executors + 44

abbrev pub log_right : ℕ → ℕ → ℕ
log_right sessions executors = executor_x sessions executors + 64

-- The left edge of the names of what was taken or sent.
abbrev pub named_x : ℕ → ℕ → ℕ
named_x sessions executors = executor_x sessions executors + 96

-- The left edge of the output.
abbrev pub reported_x : ℕ → ℕ → ℕ
reported_x sessions executors = executor_x sessions executors + 240

-- The upper edge of the row at this index, from 0, its middle, the baseline of its text, and its lower edge.
abbrev pub row_top : ℕ → ℕ
row_top at = 75 + 20 * at

abbrev pub row_middle : ℕ → ℕ
row_middle at = 84 + 20 * at

abbrev pub row_words : ℕ → ℕ
row_words at = 88 + 20 * at

abbrev pub row_bottom : ℕ → ℕ
row_bottom at = 93 + 20 * at

-- The size of a picture with this many sessions, executors and rows.
abbrev pub width : ℕ → ℕ → ℕ
width sessions executors = executor_x sessions executors + 540

abbrev pub height : ℕ → ℕ
height rows = 260 + 20 * rows

-- The lower end of the rows.
abbrev pub rows_end : ℕ → ℕ
rows_end rows = 74 + 20 * rows
