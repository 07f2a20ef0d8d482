-- The outcome of a transaction.
use Rattle.schema.specs.Database.{Database}
use Rattle.requests.specs.declared.reply.Reply.{Reply}
use Rattle.requests.specs.declared.reply.Reply.TheVariants.{Done, RolledBack}
use Rattle.requests.specs.declared.reply.Shown.{Shown}
use Rattle.requests.specs.declared.reply.Fault.{Fault}

-- the tables after a transaction, and its reply
pub record Outcome : Type 0 where
  pub tables : Database
  pub reply : Reply

-- a transaction is done: these tables, and the shown data
abbrev pub done : Database → Shown → Outcome
done t shown = record { tables = t; reply = Done shown }

-- a rollback changes nothing (clause 2.4.2.3)
abbrev pub rolled_back : Database → Fault → Outcome
rolled_back t fault = record { tables = t; reply = RolledBack fault }
