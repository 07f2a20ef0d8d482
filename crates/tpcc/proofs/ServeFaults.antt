-- Why scripts were not served, of the tables and the moves that sources give.
use Rattle.std.proofs.Common.{ℕ, List, Option}
use Rattle.schema.specs.Database.{Database}
use Rattle.range_moves.specs.declared.order.MoveOrder.{MoveOrder}
use Rattle.engine.specs.declared.outcome.ServeFault.{ServeFault}
use Rattle.engine.specs.declared.outcome.ServeFault.TheVariants.{BadMove, NoMemory, NotConsistent, NoThread, Unsettled}
use Rattle.engine.specs.Faults.{IsFaultOf}
use Rattle.dataset.specs.Records.{AreRecordsOfEither}
use Rattle.files.specs.Place.{Gives}
use Rattle.tpcc.specs.EarlyEnds.{IsOfServing}
use Rattle.tpcc.specs.Faults.{fault_of_serving}
use Rattle.tpcc.specs.Run.{GivesMoves}

pub of_tables : (source : Option (List ℕ)) (executors : ℕ) (moving : Option (Option (List ℕ))) (tables : Database) (moves : List MoveOrder) (fault : ServeFault)
    → Gives source (AreRecordsOfEither tables) → GivesMoves moving moves → IsFaultOf tables executors moves fault → IsOfServing source executors moving (fault_of_serving fault)
of_tables source executors moving tables moves NoMemory gives given is = tt
of_tables source executors moving tables moves (BadMove place) gives given is = (tables, moves, gives, given, is)
of_tables source executors moving tables moves (NotConsistent condition) gives given is = (tables, moves, gives, given, is)
of_tables source executors moving tables moves NoThread gives given is = (tables, moves, gives, given, is)
of_tables source executors moving tables moves Unsettled gives given is = (tables, moves, gives, given, is)
