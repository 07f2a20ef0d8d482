-- Executors may go to another thread, and what they share may be shared by threads, if the type parameter and the gate may.
use denote.RattleType.{RattleType}
use denote.Ref.{NamedLft}
use denote.Param.Send.{IsSend, IsSync, sendable, view_send, view_sync}
use denote.Param.SendFields.{declared_send, declared_sync, variants_send}
use Rattle.std.proofs.Crossing.{crosses, Box-send, Vec-send, Vec-sync, Deque-send}
use Rattle.queues.specs.contracts.sender.Sender as Sender
use Rattle.queues.proofs.Sendable.{Taker-send, Sender-send}
use Rattle.routing.proofs.Sendable.{SharedRouting-sync}
use Rattle.requests.proofs.Sendable.{Part-send, Script-sync}
use Rattle.closing_word.proofs.Sendable.{Closed-send, Closer-send, ClosingWord-sync}
use Rattle.commit_log.proofs.Sendable.{Log-send, Pass-send, SessionSeat-send}
use Rattle.executor.proofs.Sendable.{Answer-send, Act-send, CompletionOwner-send, CompletionPlace-send, GivenBack-send, Flow-send, PhaseOwner-send, CountedShard-send, ExecutorShards-send, SessionAnswer-send}
use Rattle.executor.specs.contracts.counted_shard.CountedShard as CountedShard
use Rattle.tickets.specs.declared.group_names.GroupNames.{Ghosts as GroupNames}
use Rattle.commit_log.specs.declared.log_names.LogNames.{Ghosts as LogNames}
use Rattle.engine.specs.declared.names.ServeNames.{Ghosts as ServeNames}
use Rattle.engine.specs.contracts.asking.Ready as Ready
use Rattle.engine.specs.contracts.asking.Asked as Asked
use Rattle.engine.specs.contracts.closed_engine.ClosedEngine as ClosedEngine
use Rattle.engine.specs.contracts.closed_engine.Closing as Closing
use Rattle.engine.specs.contracts.closed_engine.EngineCloser as EngineCloser
use Rattle.engine.specs.contracts.parking.Parking as Parking
use Rattle.engine.specs.contracts.engine.Engine as Engine
use Rattle.engine.specs.contracts.serving.Crew as Crew
use Rattle.engine.specs.contracts.belongings.Executor as Executor
use Rattle.engine.specs.contracts.belongings.Turn as Turn
use Rattle.engine.specs.contracts.message.Message as Message
use Rattle.engine.specs.contracts.moves.Moves as Moves
use Rattle.engine.specs.contracts.opening_scale.OpeningScale as OpeningScale
use Rattle.engine.specs.contracts.place.Place as Place
use Rattle.engine.specs.contracts.place.Stage as Stage
use Rattle.engine.specs.contracts.session.Session as Session

Parking-sync : IsSync Parking.the_row
Parking-sync = declared_sync Parking.the_type (search (crosses, sendable) depth 20, (search (crosses, sendable) depth 20, tt))

Turn-send : IsSend Turn.the_row
Turn-send = declared_send Turn.the_type (search sendable depth 20, (search sendable depth 20, tt))

Moves-sync : (a : NamedLft) → IsSync (Moves.the_row a)
Moves-sync a = declared_sync (Moves.the_type a) (
  search sendable depth 20,
  (
    search (crosses, sendable) depth 20,
    (
      search (crosses, sendable) depth 20,
      tt,
    ),
  ),
)

module _ (J : RattleType) (log : LogNames J.Denot) (groups : GroupNames J.Denot) (s : IsSend J) where
  Message-send : IsSend (Message.the_row J log groups)
  Message-send = variants_send (Message.enum J log groups) (
    (search sendable depth 20, tt),
    (
      (search sendable depth 20, tt),
      (
        (Act-send J log groups s, tt),
        (
          (GivenBack-send J log groups s, (CompletionPlace-send, tt)),
          (
            (search sendable depth 20, tt),
            (
              (search sendable depth 20, (search sendable depth 20, tt)),
              (
                (Box-send (CountedShard.the_row J log groups) (CountedShard-send J log groups s), tt),
                tt,
              ),
            ),
          ),
        ),
      ),
    ),
  )

  OpeningScale-sync : IsSync (OpeningScale.the_row J log groups)
  OpeningScale-sync = view_sync _ _ _ _ _ (declared_sync (OpeningScale.TheInside.the_type J log groups) (search sendable depth 40, (search sendable depth 20, tt)))

  Outlet-send : IsSend (Sender.the_row (Message.the_row J log groups))
  Outlet-send = Sender-send (Message.the_row J log groups) Message-send

  pub Executor-send : IsSend (Executor.the_row J log groups)
  Executor-send = declared_send (Executor.the_type J log groups) (
    search sendable depth 20,
    (
      ExecutorShards-send J log groups s,
      (
        search (Vec-send, sendable) depth 20,
        (
          Taker-send (Message.the_row J log groups) Message-send,
          (
            search (Outlet-send, Vec-send, sendable) depth 20,
            (
              search (Message-send, Deque-send, sendable) depth 20,
              (
                search (Deque-send, sendable) depth 20,
                (
                  search (Message-send, Deque-send, sendable) depth 20,
                  (
                    search (Message-send, Deque-send, sendable) depth 20,
                    (
                      search (Turn-send, Deque-send, sendable) depth 20,
                      (
                        search sendable depth 20,
                        (
                          search sendable depth 20,
                          tt,
                        ),
                      ),
                    ),
                  ),
                ),
              ),
            ),
          ),
        ),
      ),
    ),
  )

  -- the word by which the engine is closed, and a token that it was closed
  ClosedEngine-send : (serve : ServeNames J.Denot) → IsSend (ClosedEngine.the_row J serve log groups)
  ClosedEngine-send serve = view_send _ _ _ _ _ (declared_send (ClosedEngine.TheInside.the_type J serve log groups) (Closed-send, (search sendable depth 20, tt)))

  EngineCloser-send : (serve : ServeNames J.Denot) → IsSend (EngineCloser.the_row J serve log groups)
  EngineCloser-send serve = view_send _ _ _ _ _ (declared_send (EngineCloser.TheInside.the_type J serve log groups) (Closer-send, (search sendable depth 20, tt)))

  Closing-sync : (serve : ServeNames J.Denot) → IsSync (Closing.the_row J serve log groups)
  Closing-sync serve = view_sync _ _ _ _ _ (declared_sync (Closing.TheInside.the_type J serve log groups) (
    ClosingWord-sync,
    (
      search (EngineCloser-send, crosses, sendable) depth 20,
      tt,
    ),
  ))

  -- a session that asks interactively
  pub Session-send : (serve : ServeNames J.Denot) → IsSend (Session.the_row J serve log groups)
  Session-send serve = view_send _ _ _ _ _ (declared_send (Session.TheInside.the_type J serve log groups) (
    SessionSeat-send J log s,
    (
      Pass-send J log s,
      (
        search (Part-send, Vec-send) depth 10,
        (
          search (Answer-send, Vec-send) depth 10,
          (
            search sendable depth 20,
            (
              search (ClosedEngine-send, sendable) depth 20,
              (
                search (Outlet-send, Vec-send, sendable) depth 20,
                tt,
              ),
            ),
          ),
        ),
      ),
    ),
  ))

  module _ (a : NamedLft) (serve : ServeNames J.Denot) where
    Ready-send : IsSend (Ready.the_row a J serve log groups)
    Ready-send = view_send _ _ _ _ _ (declared_send (Ready.TheInside.the_type a J serve log groups) (
      search (Script-sync, sendable) depth 20,
      (
        SessionSeat-send J log s,
        (
          Pass-send J log s,
          (
            search (Answer-send, Vec-send) depth 10,
            (
              search sendable depth 20,
              (
                search sendable depth 20,
                tt,
              ),
            ),
          ),
        ),
      ),
    ))

    Asked-send : IsSend (Asked.the_row a J serve log groups)
    Asked-send = view_send _ _ _ _ _ (declared_send (Asked.TheInside.the_type a J serve log groups) (
      search (Script-sync, sendable) depth 20,
      (
        SessionSeat-send J log s,
        (
          search (Answer-send, Vec-send) depth 10,
          (
            search sendable depth 20,
            tt,
          ),
        ),
      ),
    ))

    Stage-send : IsSend (Stage.the_row a J serve log groups)
    Stage-send = variants_send (Stage.enum a J serve log groups) (
      (search (Ready-send, sendable) depth 20, tt),
      (
        (search (Asked-send, sendable) depth 20, tt),
        (
          (search (Ready-send, sendable) depth 20, tt),
          (
            tt,
            (
              (search sendable depth 20, (Flow-send J log groups s, tt)),
              (
                tt,
                (
                  (SessionAnswer-send J log groups s, tt),
                  (
                    tt,
                    (
                      tt,
                      tt,
                    ),
                  ),
                ),
              ),
            ),
          ),
        ),
      ),
    )

    Place-send : IsSend (Place.the_row a J serve log groups)
    Place-send = declared_send (Place.the_type a J serve log groups) (
      search (Stage-send, sendable) depth 20,
      (
        search (PhaseOwner-send, sendable) depth 20,
        (
          search sendable depth 20,
          (
            search (CompletionOwner-send, sendable) depth 20,
            tt,
          ),
        ),
      ),
    )

    module _ (G : RattleType) (y : IsSync G) where
      pub Engine-sync : IsSync (Engine.the_row a J G serve log groups)
      Engine-sync = declared_sync (Engine.the_type a J G serve log groups) (
        OpeningScale-sync,
        (
          search (Script-sync, sendable) depth 20,
          (
            search sendable depth 20,
            (
              SharedRouting-sync,
              (
                Moves-sync a,
                (
                  search sendable depth 20,
                  (
                    search (Log-send, crosses, sendable) depth 20,
                    (
                      search (Place-send, crosses, sendable) depth 20,
                      (
                        search (Parking-sync, Vec-sync, sendable) depth 20,
                        (
                          search (Parking-sync, Vec-sync, sendable) depth 20,
                          (
                            search (crosses, sendable) depth 20,
                            (
                              search (crosses, sendable) depth 20,
                              (
                                search (crosses, sendable) depth 20,
                                (
                                  Closing-sync serve,
                                  tt,
                                ),
                              ),
                            ),
                          ),
                        ),
                      ),
                    ),
                  ),
                ),
              ),
            ),
          ),
        ),
      )

      module _ (e : NamedLft) (R : RattleType) (r : IsSync R) where
        pub Crew-sync : IsSync (Crew.the_row e a J G R serve log groups)
        Crew-sync = declared_sync (Crew.the_type e a J G R serve log groups) (
          search (r, sendable) depth 10,
          (
            search sendable depth 20,
            (
              search (Engine-sync, sendable) depth 10,
              (
                search (Executor-send, Vec-sync, crosses, sendable) depth 20,
                tt,
              ),
            ),
          ),
        )
