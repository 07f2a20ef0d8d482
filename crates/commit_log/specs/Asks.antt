-- The request of a session.
use Rattle.std.specs.Prelude.{ℕ, List, []}
use Rattle.requests.specs.declared.request.Request.{Request}
use Rattle.requests.specs.Requests.{no_request}
use Rattle.commit_log.specs.declared.asking.Asking.{Asking}
use Rattle.commit_log.specs.declared.mine.Item.{Item}

-- the request of this number, made with a pass that has seen `seen` entries, by a session that has logged `mine`
abbrev pub asking : ℕ → Request → ℕ → List Item → Asking
asking number request seen mine = record { number = number; request = request; seen = seen; mine = mine }

-- the value of a session that has made no request yet
abbrev pub nothing_asked : Asking
nothing_asked = asking 0 no_request 0 []
