-- The seats of a group's two agreements.
use Rattle.std.specs.Prelude.{ℕ}
use Rattle.atomic_table.specs.Seated.{TableId}
use Rattle.agreement.specs.SeatView.{SeatView, seat_view}
use Rattle.groups.specs.Content.{Content}
use Rattle.groups.specs.declared.group_wants.Mode.{Mode}
use Rattle.groups.specs.declared.group_wants.Mode.TheVariants.{Shared, Exclusive}
use Rattle.tickets.specs.declared.work.CommittedContent.{CommittedContent}
use Rattle.tickets.specs.declared.work.Work.{Work}

-- A seat of the agreement on a group's committed content. Its ten shares are eight tickets, the slice's and the log's.
abbrev pub committed_seat : TableId → Content → ℕ → SeatView CommittedContent
committed_seat table content share = seat_view (record { table = table; count = 10 }) (record { content = content }) share

-- A seat of the agreement on the work in a group. Its nine shares are one for each ticket, and the slice's.
abbrev pub work_seat : TableId → Work → ℕ → SeatView Work
work_seat table work share = seat_view (record { table = table; count = 9 }) work share

-- the agreed work while nothing is done in a group with this content
abbrev pub untouched : Mode → Content → Work
untouched mode content = record { mode = mode; left = content; back = content }

-- the number of shares of the committed content that a claim holds: a ticket, or all tickets and the slice's share
abbrev pub recorded_shares : Mode → ℕ
recorded_shares Shared = 1
recorded_shares Exclusive = 9

-- the number of shares of the agreement on the work that a claim holds
abbrev pub work_shares : Mode → ℕ
work_shares Shared = 1
work_shares Exclusive = 8
