use Rattle.std.proofs.Common.{None}
use Rattle.schema.proofs.TableWrites.{written}
use Rattle.schema.proofs.row_writes.remove.Goals as goal

pub returns : goal.returns
returns g c = written g.met.K.Ord.total c.requires c.args.rows.now c.remove.new.self c.args.key None c.remove.ensures.updates
