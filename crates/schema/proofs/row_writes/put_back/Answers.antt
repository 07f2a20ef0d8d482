use Rattle.std.proofs.Common.{Some, None, is_some, sym, ap, ◌∙◌}
use Rattle.schema.specs.MapRows.{table_of, put_row}
use Rattle.schema.proofs.TableWrites.{read_tree, written}
use Rattle.schema.proofs.row_writes.put_back.Goals as goal

pub returns-in-Ok : goal.returns-in-Ok
returns-in-Ok g c =
    written g.met.K.Ord.total c.requires.exact c.args.rows.now c.insert.new.self c.args.key (Some c.in-Some.row) c.in-Ok.ensures.updates
    ∙ ap (put_row (table_of g.K.Ord.cmp c.args.rows.now) c.args.key) (sym c.in-Some.is)

pub returns-in-Some : goal.returns-in-Some
returns-in-Some g c =
    let none = read_tree g.met.K.Ord.total c.requires.exact c.args.rows.now c.args.key ∙ c.in-Err.ensures.absent in
    let gone = ap is_some (sym none) ∙ c.requires.there in
    absurd cc

pub returns : goal.returns
returns g c =
    written g.met.K.Ord.total c.requires.exact c.args.rows.now c.remove.new.self c.args.key None c.remove.ensures.updates
    ∙ ap (put_row (table_of g.K.Ord.cmp c.args.rows.now) c.args.key) (sym c.in-None.is)
