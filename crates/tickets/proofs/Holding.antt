-- What a box and a claim hold, from the value of each of their seats.
use Rattle.std.proofs.Common.{◌≡◌, ℕ, ◌+◌, ◌-◌, sym, ap, ◌∙◌, subst, arith}
use Rattle.atomic_table.specs.Seated.{TableId}
use Rattle.agreement.specs.SeatView.{Agreement, SeatView, seat_view, with_share}
use Rattle.groups.specs.Content.{Content}
use Rattle.groups.specs.declared.group_wants.Mode.{Mode}
use Rattle.groups.specs.declared.group_wants.Mode.TheVariants.{Shared, Exclusive}
use Rattle.tickets.specs.declared.work.CommittedContent.{CommittedContent}
use Rattle.tickets.specs.declared.work.Work.{Work}
use Rattle.tickets.specs.Seats.{committed_seat, work_seat, untouched, recorded_shares, work_shares}
use Rattle.tickets.specs.Claims.{HoldsClaim}
use Rattle.tickets.specs.Boxes.{HoldsBox, group_tables}

module _ {V : Type 0} where
  -- a seat that had no share and was given n
  pub given : (a : Agreement) (value : V) (k n : ℕ) (giver spent new : SeatView V) → giver ≡ seat_view a value k → spent.share ≡ 0 → new ≡ with_share giver (spent.share + n) → new ≡ seat_view a value n
  given a value k n giver spent new is none gives =
      let here : spent.share + n ≡ n = omega (arith, none) in
      gives ∙ ap (λ t. with_share t (spent.share + n)) is ∙ ap (seat_view a value) here

  -- a seat with another share
  pub reshared : (a : Agreement) (value : V) (k share m : ℕ) (was now : SeatView V) → was ≡ seat_view a value k → now ≡ with_share was share → share ≡ m → now ≡ seat_view a value m
  reshared a value k share m was now is changed same = changed ∙ ap (λ t. with_share t share) is ∙ ap (seat_view a value) same

-- a seat of the committed content has the value that it records
pub records_own : (table : TableId) (content : Content) (share : ℕ) (seat : SeatView CommittedContent) → seat ≡ committed_seat table content share → seat ≡ committed_seat table seat.value.content share
records_own table content share seat is = is ∙ ap (λ c. committed_seat table c share) (sym (ap (λ t. t.value.content) is))

-- the seats of a claim under which nothing was done
pub holds_claim : (committed done : TableId) (content : Content) (mode : Mode) (tickets : SeatView CommittedContent) (work : SeatView Work) → tickets ≡ committed_seat committed content (recorded_shares mode) → work ≡ work_seat done (untouched mode content) (work_shares mode) → HoldsClaim committed done mode tickets work
holds_claim committed done content Shared tickets work is_tickets is_work =
    let value = ap (λ t. t.value) is_work in (
      records_own committed content 1 tickets is_tickets,
      is_work ∙ ap (λ w. work_seat done w 1) (sym value),
      value ∙ ap (untouched Shared) (sym (ap (λ t. t.value.content) is_tickets)),
    )
holds_claim committed done content Exclusive tickets work is_tickets is_work =
    let value = ap (λ t. t.value) is_work in (
      records_own committed content 9 tickets is_tickets,
      is_work ∙ ap (λ w. work_seat done w 8) (sym value),
      ap (λ w. w.mode) value,
    )

-- the seats of a box of which no exclusive claim is out
pub holds_sharing : (committed done : TableId) (content : Content) (mode : Mode) (shared : ℕ) (tickets : SeatView CommittedContent) (work : SeatView Work) (spare : ℕ) → mode ≡ Shared → tickets ≡ committed_seat committed content (9 - shared) → work ≡ work_seat done (untouched Shared content) (9 - shared) → spare + shared ≡ 8 → HoldsBox (group_tables committed done) mode shared tickets work spare
holds_sharing committed done content mode shared tickets work spare is_shared is_tickets is_work all =
    subst (λ m. HoldsBox (group_tables committed done) m shared tickets work spare) (sym is_shared) (
      records_own committed content (9 - shared) tickets is_tickets,
      is_work ∙ ap (λ c. work_seat done (untouched Shared c) (9 - shared)) (sym (ap (λ t. t.value.content) is_tickets)),
      all,
    )

-- the mode by a box's seats
pub mode_recorded : (committed done : TableId) (mode : Mode) (shared : ℕ) (tickets : SeatView CommittedContent) (work : SeatView Work) (spare : ℕ) → HoldsBox (group_tables committed done) mode shared tickets work spare → work.value.mode ≡ mode
mode_recorded committed done Shared shared tickets work spare holds = ap (λ t. t.value.mode) holds.1
mode_recorded committed done Exclusive shared tickets work spare holds = holds.1.1

-- the seats of a box of which no exclusive claim is out
pub is_sharing : (committed done : TableId) (mode : Mode) (shared : ℕ) (tickets : SeatView CommittedContent) (work : SeatView Work) (spare : ℕ) → HoldsBox (group_tables committed done) mode shared tickets work spare → mode ≡ Shared → HoldsBox (group_tables committed done) Shared shared tickets work spare
is_sharing committed done mode shared tickets work spare holds is = subst (λ m. HoldsBox (group_tables committed done) m shared tickets work spare) is holds

-- the seats of a box whose exclusive claim is out
pub is_lent : (committed done : TableId) (mode : Mode) (shared : ℕ) (tickets : SeatView CommittedContent) (work : SeatView Work) (spare : ℕ) → HoldsBox (group_tables committed done) mode shared tickets work spare → mode ≡ Exclusive → HoldsBox (group_tables committed done) Exclusive shared tickets work spare
is_lent committed done mode shared tickets work spare holds is = subst (λ m. HoldsBox (group_tables committed done) m shared tickets work spare) is holds
