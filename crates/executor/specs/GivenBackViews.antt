-- The claims of an action on their way back.
use Rattle.std.specs.Prelude.{ℕ, List}
use Rattle.tickets.specs.Claims.{ClaimView}

-- the slot of the transaction, and the claims of one action
pub record GivenBackView : Type 0 where
  pub slot : ℕ
  pub claims : List ClaimView

abbrev pub given_back_view : ℕ → List ClaimView → GivenBackView
given_back_view slot claims = record { slot = slot; claims = claims }
