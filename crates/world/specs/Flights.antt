-- What is in flight: the claims, the transactions without an answer, and the tokens of messages, reports and items.
use Rattle.std.specs.Prelude.{ℕ, ◌+◌, List, [], ◌∷◌, ◌++◌, Option, Some, None, Result, Ok, Err, length}
use Rattle.requests.specs.declared.refusal.Refusal.{Refusal}
use Rattle.tickets.specs.Claims.{ClaimView, all_claims}
use Rattle.history.specs.History.{UnansweredTransaction}
use Rattle.transactions.specs.declared.work.Work.{Work}
use Rattle.transactions.specs.Acting.{claims_of_ran}
use Rattle.world.specs.declared.flight.Transaction.{Transaction}
use Rattle.world.specs.declared.flight.Flow.{Flow}
use Rattle.world.specs.declared.flight.Message.{Message}
use Rattle.world.specs.declared.flight.Message.TheVariants.{Start, Act, Settle, Undo}
use Rattle.world.specs.declared.flight.Report.{Report}
use Rattle.world.specs.declared.flight.SessionAnswer.{SessionAnswer}
use Rattle.world.specs.declared.flight.Item.{Item}
use Rattle.world.specs.declared.flight.Item.TheVariants as item

-- ---- tokens

-- What has to come back of the active transaction in a slot: that the action of a place has run, that the transaction was
-- logged, or that an action has given its claims back.
pub data Token : Type 0 where
  Acting : ℕ → ℕ → Token
  Committing : ℕ → Token
  Ending : ℕ → Token

-- What a part of the flight contains.
pub record InFlight : Type 0 where
  pub claims : List ClaimView
  pub pending : List UnansweredTransaction
  pub tokens : List Token

-- These claims, transactions and tokens.
abbrev pub part : List ClaimView → List UnansweredTransaction → List Token → InFlight
part claims pending tokens = record { claims = claims; pending = pending; tokens = tokens }

-- Nothing is in flight.
abbrev pub nothing : InFlight
nothing = part [] [] []

-- Both together.
abbrev pub join : InFlight → InFlight → InFlight
join a b = part (a.claims ++ b.claims) (a.pending ++ b.pending) (a.tokens ++ b.tokens)

-- All of these together.
abbrev pub parts : {X : Type 0} → (X → InFlight) → List X → InFlight
parts f [] = nothing
parts f (x ∷ xs) = join (f x) (parts f xs)

-- The tokens of these actions of the transaction in this slot, at consecutive places.
abbrev pub acting_from : ℕ → ℕ → List Work → List Token
acting_from slot place [] = []
acting_from slot place (work ∷ works) = Acting slot place ∷ acting_from slot (place + 1) works

-- The claims of an action that are to be given back.
abbrev pub part_held : ℕ → List ClaimView → InFlight
part_held slot claims = part claims [] (Ending slot ∷ [])

-- The place of the entry that an answer names.
abbrev pub place_answered : Result ℕ Refusal → Option ℕ
place_answered (Ok place) = Some place
place_answered (Err refusal) = None

module _ {J : Type 0} where
  -- ---- transactions

  -- A transaction that has no entry yet.
  abbrev pub unanswered_transaction : Transaction J → UnansweredTransaction
  unanswered_transaction t = record {
    age = t.age;
    session = t.pass.session;
    number = t.pass.asks.number;
    request = t.pass.asks.request;
    entry = None;
  }

  -- The transaction of an answer on its way.
  abbrev pub unanswered_reply : SessionAnswer J → UnansweredTransaction
  unanswered_reply recorded = record {
    age = recorded.age;
    session = recorded.pass.session;
    number = recorded.pass.asks.number;
    request = recorded.pass.asks.request;
    entry = place_answered recorded.answer;
  }

  -- ---- parts

  -- A transaction with all the claims it holds.
  abbrev pub part_transaction : Transaction J → List Token → InFlight
  part_transaction t tokens = part (all_claims t.held) (unanswered_transaction t ∷ []) tokens

  -- The transaction that is carried, if there is one.
  abbrev pub part_carried : Option (Flow J) → InFlight
  part_carried None = nothing
  part_carried (Some flow) = part_transaction flow.transaction []

  -- What a message has in flight.
  abbrev pub part_message : Message J → InFlight
  part_message (Start flow works) = part_transaction flow.transaction (acting_from flow.transaction.slot (length flow.transaction.held) works.items)
  part_message (Act act) = part (part_carried act.flow).claims (part_carried act.flow).pending (Acting act.slot act.place ∷ [])
  part_message (Settle slot claims) = part_held slot claims
  part_message (Undo slot claims) = part_held slot claims

  -- The claims of a carried transaction, then those of the action.
  abbrev pub claims_reported : Report J → List ClaimView
  claims_reported r = (part_carried r.flow).claims ++ claims_of_ran r.ran

  -- A report on its way to the rendezvous of its phase.
  abbrev pub part_report : Report J → InFlight
  part_report r = part (claims_reported r) (part_carried r.flow).pending (Acting r.slot r.place ∷ [])

  -- A report that has reached the rendezvous: its token has come back.
  abbrev pub part_met : Report J → InFlight
  part_met r = part (claims_reported r) (part_carried r.flow).pending []

  -- What an item has in flight.
  abbrev pub part_item : Item J → InFlight
  part_item (item.Push message) = part_message message
  part_item (item.Report r) = part_report r
  part_item (item.Ended slot) = part [] [] (Ending slot ∷ [])
  part_item (item.Commit commit) = part_transaction commit.transaction (Committing commit.transaction.slot ∷ [])
  part_item (item.Reply recorded) = part [] (unanswered_reply recorded ∷ []) []
