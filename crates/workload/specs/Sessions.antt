-- The terminal and the script of each session.
use Rattle.std.specs.Prelude.{ℕ, ◌+◌, ◌*◌, ◌/◌, ◌%◌, ◌^◌, List, Option, Some, None}
use Rattle.rows.specs.declared.keys.DistrictKey.{DistrictKey}
use Rattle.requests.specs.declared.terminal_request.TerminalRequest.{TerminalRequest}
use Rattle.number_draws.specs.Words.{seeded}
use Rattle.workload.specs.declared.terminal.Terminal.{Terminal}
use Rattle.workload.specs.declared.sessions.Workload.{Workload}
use Rattle.workload.specs.Decks.{kinds_drawn}
use Rattle.workload.specs.Requests.{requests_drawn}

-- The home district of a session's terminal. If all sessions are at home in one warehouse: its districts in turn. Else
-- the first districts of all warehouses in turn, then the second ones, and so on.
abbrev pub home_of : Option ℕ → ℕ → ℕ → DistrictKey
home_of (Some w_id) warehouses session = record { w_id = w_id; d_id = session % 10 + 1 }
home_of None warehouses session = record { w_id = session % warehouses + 1; d_id = session / warehouses % 10 + 1 }

-- the terminal of a session
abbrev pub terminal_of : Workload → ℕ → Terminal
terminal_of workload session =
    record { scale = workload.scale; home = home_of workload.home workload.scale.warehouses session; remote = workload.remote }

-- The script of a session. One generator draws its kinds, from the seed plus 2 ^ 32 * (2 * session + 1); another draws
-- its requests, from the seed plus 2 ^ 32 * (2 * session + 2).
unfoldable pub script_drawn : Workload → ℕ → List TerminalRequest
script_drawn workload session =
    let kinds = kinds_drawn workload.mix workload.requests (seeded (workload.seed + 2 ^ 32 * (2 * session + 1))) in
    requests_drawn (terminal_of workload session) workload.start 0 kinds (seeded (workload.seed + 2 ^ 32 * (2 * session + 2)))
