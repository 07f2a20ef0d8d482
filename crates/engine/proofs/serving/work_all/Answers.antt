use denote.Exit.{no}
use denote.Param.{param}
use denote.Param.Send.{param_sync, arg_sync}
use Rattle.engine.proofs.Sendable.{Crew-sync}
use Rattle.engine.proofs.serving.work_all.Goals as goal

-- threads may share the crew
pub work_on_each-requires-sync-W : goal.work_on_each-requires-sync-W
work_on_each-requires-sync-W g c κs within =
    param_sync _ _ (arg_sync _ no _ (Crew-sync (param 0 g.row.J) g.J.LogNames g.J.GroupNames c.type_bounds.send-J _ g.J.ServeNames (param 1 g.row.G) c.type_bounds.sync-G _ (param 2 g.row.R) c.type_bounds.sync-R))
