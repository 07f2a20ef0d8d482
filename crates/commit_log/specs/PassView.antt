-- The views that contracts have of a pass and of a session's seat.
use Rattle.std.specs.Prelude.{ℕ, ◌+◌, max, List, [], ◌∷◌, ◌++◌}
use Rattle.commit_log.specs.declared.asking.Asking.{Asking}
use Rattle.commit_log.specs.declared.log_book.AppendFault.{AppendFault}
use Rattle.commit_log.specs.declared.log_book.AppendFault.TheVariants.{NoMemory, LogFull}
use Rattle.commit_log.specs.declared.mine.Item.{Item}
use Rattle.commit_log.specs.Asks.{nothing_asked}

-- The view that contracts have of a pass.
pub record PassView : Type 0 where
  -- its session
  pub session : ℕ
  -- the number of entries that it has seen
  pub seen : ℕ
  -- a number of entries that the log has reached, at least the number seen
  pub reached : ℕ
  -- the items that the session has logged
  pub mine : List Item
  -- the session's request with this pass
  pub asks : Asking

-- the pass of this session, with these numbers
abbrev pub pass_view : ℕ → ℕ → ℕ → List Item → Asking → PassView
pass_view session seen reached mine asks = record { session = session; seen = seen; reached = reached; mine = mine; asks = asks }

-- the pass of a session that has seen, logged and asked nothing
abbrev pub new_pass : ℕ → PassView
new_pass session = pass_view session 0 0 [] nothing_asked

-- the pass after the session makes this request with it
abbrev pub with_asks : PassView → Asking → PassView
with_asks pass asks = pass_view pass.session pass.seen pass.reached pass.mine asks

-- the pass after its session logs this item: it has seen the log up to it
abbrev pub after_item : PassView → Item → PassView
after_item pass item = pass_view pass.session (item.place + 1) (item.place + 1) (pass.mine ++ item ∷ []) pass.asks

-- the pass after a log with this number of entries refuses the request: if the log is full, the pass records that the
-- log has reached them
abbrev pub after_refusal : AppendFault → ℕ → PassView → PassView
after_refusal NoMemory entries pass = pass
after_refusal LogFull entries pass = pass_view pass.session pass.seen entries pass.mine pass.asks

-- the pass after meeting another
abbrev pub having_met : PassView → PassView → PassView
having_met pass other = pass_view pass.session (max pass.seen other.seen) (max pass.reached other.reached) pass.mine pass.asks

-- The view that contracts have of a session's seat.
pub record SessionSeatView : Type 0 where
  -- its session
  pub session : ℕ
  -- the session's request, and the state of its pass when it made the request
  pub asking : Asking

-- the seat of this session, with this request
abbrev pub session_seat_view : ℕ → Asking → SessionSeatView
session_seat_view session asking = record { session = session; asking = asking }

-- the seat of a session that has made no request
abbrev pub new_seat : ℕ → SessionSeatView
new_seat session = session_seat_view session nothing_asked
