-- The identity of a transaction, which all its steps pass on.
use Rattle.std.specs.Prelude.{ℕ}
use Rattle.requests.specs.declared.request.Request.{Request}
use Rattle.commit_log.specs.PassView.{PassView}
use Rattle.executor.specs.declared.flow.Transaction.{Transaction}

-- its age, its slot, the number of its request, the request, and the session's pass
pub record TransactionView : Type 0 where
  pub age : ℕ
  pub slot : ℕ
  pub number : ℕ
  pub request : Request
  pub pass : PassView

abbrev pub transaction_view : {J : Type 0} → Transaction J → TransactionView
transaction_view t = record { age = t.age; slot = t.slot; number = t.number; request = t.body.value.request; pass = t.pass }
