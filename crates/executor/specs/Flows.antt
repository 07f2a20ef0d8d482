-- A transaction between two phases.
use Rattle.std.specs.Prelude.{◌≡◌, ℕ, List, [], All}
use Rattle.partitions.specs.Parts.{SharedTables}
use Rattle.requests.specs.declared.request.Request.{Request}
use Rattle.tickets.specs.Claims.{ClaimView}
use Rattle.commit_log.specs.PassView.{PassView}
use Rattle.transactions.specs.declared.progress.Progress.{Progress}
use Rattle.executor.specs.declared.flow.Transaction.{Transaction}
use Rattle.transactions.specs.Acting.{AreUndoneBy}
use Rattle.transactions.specs.Progresses.{IsReached}

-- Its session has asked this request with this pass. The pass has seen and logged nothing since.
pub record IsAskedBy (number : ℕ) (request : Request) (pass : PassView) : Type 0 where
  pub number_is : pass.asks.number ≡ number
  pub request_is : pass.asks.request ≡ request
  pub seen : pass.seen ≡ pass.asks.seen
  pub mine : pass.mine ≡ pass.asks.mine

-- a transaction between two phases: its age, its slot, the number of its request, the request, the session's pass,
-- the claims of the actions of its earlier phases, by place, and how far it has come
pub record FlowView : Type 0 where
  pub age : ℕ
  pub slot : ℕ
  pub number : ℕ
  pub request : Request
  pub pass : PassView
  pub held : List (List ClaimView)
  pub progress : Progress

-- the transaction under these claims
abbrev pub flow_view : {J : Type 0} → Transaction J → List (List ClaimView) → FlowView
flow_view t held = record {
  age = t.age;
  slot = t.slot;
  number = t.number;
  request = t.body.value.request;
  pass = t.pass;
  held = held;
  progress = t.body.value.progress;
}

-- Its session has asked it; its request has come so far under the claims of its earlier actions; and all that was done under them
-- can be undone.
pub record CarriesFlow (shared : SharedTables) (j : FlowView) : Type 0 where
  pub asked : IsAskedBy j.number j.request j.pass
  pub reached : IsReached shared j.request j.progress j.held
  pub undone : All (AreUndoneBy j.age) j.held

-- it has begun: it holds no claim
pub record HasBegun (age slot number : ℕ) (request : Request) (pass : PassView) (j : FlowView) : Type 0 where
  pub age_is : j.age ≡ age
  pub slot_is : j.slot ≡ slot
  pub number_is : j.number ≡ number
  pub request_is : j.request ≡ request
  pub pass_is : j.pass ≡ pass
  pub none : j.held ≡ []
