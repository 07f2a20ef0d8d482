use Rattle.std.proofs.Common.{Some, sym, ◌∙◌}
use Rattle.schema.proofs.TableWrites.{read_tree, written, unchanged}
use Rattle.schema.proofs.row_writes.put.Goals as goal

pub returns-in-Ok-clause-was : goal.returns-in-Ok-clause-was
returns-in-Ok-clause-was g c = c.in-Ok.ensures.old ∙ sym (read_tree g.met.K.Ord.total c.requires c.args.rows.now c.args.key)

pub returns-in-Ok-clause-ok : goal.returns-in-Ok-clause-ok
returns-in-Ok-clause-ok g c = written g.met.K.Ord.total c.requires c.args.rows.now c.insert.new.self c.args.key (Some c.args.row) c.in-Ok.ensures.updates

pub returns-clause-err : goal.returns-clause-err
returns-clause-err g c = unchanged g.met.K.Ord.total c.requires c.args.rows.now c.insert.new.self c.in-Err.ensures.err
