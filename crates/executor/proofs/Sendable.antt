-- ExecutorShards, phase owners, and all that goes between executors may go to another thread, if the type parameter may.
use denote.RattleType.{RattleType}
use denote.Param.Send.{IsSend, sendable, view_send}
use denote.Param.SendFields.{declared_send, variants_send}
use denote.Builtin.{u32}
use Rattle.std.specs.contracts.result.Result as Result
use Rattle.std.proofs.Crossing.{Box-send, Vec-send, crosses}
use Rattle.requests.specs.contracts.refusal.Refusal as Refusal
use Rattle.requests.proofs.Sendable.{Refusal-send, Reply-send, Request-send}
use Rattle.tickets.proofs.Sendable.{Claims-send}
use Rattle.commit_log.proofs.Sendable.{Pass-send}
use Rattle.transactions.proofs.Sendable.{HeldClaims-send, Progress-send, Work-send, Ran-send, Shard-send}
use Rattle.rendezvous.proofs.Sendable.{Convener-send, Meeting-send, Meeting-sync, Place-send}
use Rattle.tickets.specs.declared.group_names.GroupNames.{Ghosts as GroupNames}
use Rattle.commit_log.specs.declared.log_names.LogNames.{Ghosts as LogNames}
use Rattle.executor.specs.contracts.phase_owner.Said as Said
use Rattle.executor.specs.contracts.phase_owner.PhasePlace as PhasePlace
use Rattle.executor.specs.contracts.phase_owner.PhaseOwner as PhaseOwner
use Rattle.executor.specs.contracts.act.Act as Act
use Rattle.executor.specs.contracts.act.Carried as Carried
use Rattle.executor.specs.contracts.completion.CompletionOwner as CompletionOwner
use Rattle.executor.specs.contracts.completion.CompletionPlace as CompletionPlace
use Rattle.executor.specs.contracts.giving_back.Settle as Settle
use Rattle.executor.specs.contracts.giving_back.Undo as Undo
use Rattle.executor.specs.contracts.flow.FlowBody as FlowBody
use Rattle.executor.specs.contracts.flow.Transaction as Transaction
use Rattle.executor.specs.contracts.flow.Flow as Flow
use Rattle.executor.specs.contracts.counted_shard.CountedShard as CountedShard
use Rattle.executor.specs.contracts.shards.ExecutorShards as ExecutorShards
use Rattle.executor.specs.contracts.release.GivenBack as GivenBack
use Rattle.executor.specs.contracts.release.SessionAnswer as SessionAnswer

-- an answer: a place in the log, or a refusal
pub Answer-send : IsSend (Result.the_row u32 Refusal.the_row)
Answer-send = variants_send (Result.enum u32 Refusal.the_row) (
  (search sendable depth 20, tt),
  (
    (Refusal-send, tt),
    tt,
  ),
)

FlowBody-send : IsSend FlowBody.the_row
FlowBody-send = declared_send FlowBody.the_type (Request-send, (Progress-send, (Reply-send, tt)))

pub CompletionOwner-send : IsSend CompletionOwner.the_row
CompletionOwner-send = view_send _ _ _ _ _ (declared_send CompletionOwner.TheInside.the_type (
  search sendable depth 20,
  (
    search (Meeting-send, Meeting-sync, crosses, sendable) depth 40,
    (
      search (Convener-send, sendable) depth 40,
      tt,
    ),
  ),
))

pub CompletionPlace-send : IsSend CompletionPlace.the_row
CompletionPlace-send = view_send _ _ _ _ _ (declared_send CompletionPlace.TheInside.the_type (
  search sendable depth 20,
  (
    search (Meeting-send, Meeting-sync, crosses, sendable) depth 40,
    (
      search (Place-send, sendable) depth 40,
      tt,
    ),
  ),
))

module _ (J : RattleType) (log : LogNames J.Denot) (groups : GroupNames J.Denot) (s : IsSend J) where
  Transaction-send : IsSend (Transaction.the_row J log)
  Transaction-send = declared_send (Transaction.the_type J log) (
    search sendable depth 20,
    (
      search sendable depth 20,
      (
        search sendable depth 20,
        (
          Box-send FlowBody.the_row FlowBody-send,
          (
            Pass-send J log s,
            tt,
          ),
        ),
      ),
    ),
  )

  pub Flow-send : IsSend (Flow.the_row J log groups)
  Flow-send = view_send _ _ _ _ _ (declared_send (Flow.TheInside.the_type J log groups) (
    Transaction-send,
    (
      HeldClaims-send J groups s,
      tt,
    ),
  ))

  Said-send : IsSend (Said.the_row J log groups)
  Said-send = declared_send (Said.the_type J log groups) (
    Ran-send J groups s,
    (
      search (Flow-send, sendable) depth 20,
      tt,
    ),
  )

  PhasePlace-send : IsSend (PhasePlace.the_row J log groups)
  PhasePlace-send = view_send _ _ _ _ _ (declared_send (PhasePlace.TheInside.the_type J log groups) (
    search sendable depth 20,
    (
      search (Said-send, Meeting-send, Meeting-sync, crosses, sendable) depth 40,
      (
        search (Said-send, Place-send, sendable) depth 40,
        tt,
      ),
    ),
  ))

  pub PhaseOwner-send : IsSend (PhaseOwner.the_row J log groups)
  PhaseOwner-send = view_send _ _ _ _ _ (declared_send (PhaseOwner.TheInside.the_type J log groups) (
    search sendable depth 20,
    (
      search (Said-send, Meeting-send, Meeting-sync, crosses, sendable) depth 40,
      (
        search (Said-send, Convener-send, sendable) depth 40,
        tt,
      ),
    ),
  ))

  pub SessionAnswer-send : IsSend (SessionAnswer.the_row J log groups)
  SessionAnswer-send = view_send _ _ _ _ _ (declared_send (SessionAnswer.TheInside.the_type J log groups) (
    search sendable depth 20,
    (
      search sendable depth 20,
      (
        Pass-send J log s,
        (
          Answer-send,
          tt,
        ),
      ),
    ),
  ))

  pub Act-send : IsSend (Act.the_row J log groups)
  Act-send = view_send _ _ _ _ _ (declared_send (Act.TheInside.the_type J log groups) (
    search sendable depth 40,
    (
      Work-send,
      (
        PhasePlace-send,
        (
          search (Flow-send, sendable) depth 20,
          tt,
        ),
      ),
    ),
  ))

  Carried-send : IsSend (Carried.the_row J log groups)
  Carried-send = declared_send (Carried.the_type J log groups) (
    PhasePlace-send,
    (
      search (Flow-send, sendable) depth 20,
      tt,
    ),
  )

  Settle-send : IsSend (Settle.the_row J log groups)
  Settle-send = view_send _ _ _ _ _ (declared_send (Settle.TheInside.the_type J log groups) (
    search sendable depth 20,
    (
      Claims-send J groups s,
      tt,
    ),
  ))

  Undo-send : IsSend (Undo.the_row J log groups)
  Undo-send = view_send _ _ _ _ _ (declared_send (Undo.TheInside.the_type J log groups) (
    search sendable depth 20,
    (
      Claims-send J groups s,
      tt,
    ),
  ))

  pub GivenBack-send : IsSend (GivenBack.the_row J log groups)
  GivenBack-send = variants_send (GivenBack.enum J log groups) (
    (Settle-send, tt),
    (
      (Undo-send, tt),
      tt,
    ),
  )

  pub CountedShard-send : IsSend (CountedShard.the_row J log groups)
  CountedShard-send = view_send _ _ _ _ _ (declared_send (CountedShard.TheInside.the_type J log groups) (
    search (Carried-send, Shard-send, sendable) depth 20,
    (
      search sendable depth 20,
      tt,
    ),
  ))

  pub ExecutorShards-send : IsSend (ExecutorShards.the_row J log groups)
  ExecutorShards-send = declared_send (ExecutorShards.the_type J log groups) (
    search (CountedShard-send, Box-send, Vec-send, sendable) depth 20,
    tt,
  )
