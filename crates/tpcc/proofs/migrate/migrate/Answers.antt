use Rattle.std.proofs.Common.{inl, inr}
use Rattle.std.proofs.lemmas.Result.{err_from_is_err_and}
use Rattle.tpcc.proofs.migrate.migrate.Goals as goal

pub returns-clause-migrates : goal.returns-clause-migrates
returns-clause-migrates g c =
    let named = c.in_ok-name_tables.ensures.ok in
    record {
      text = named.0;
      is_migration = record { tables = c.in_ok-tables.tables; is_dataset = c.in_ok-tables.ensures.tables; is_written = named.1 };
      shelved = named.2;
    }

pub returns-in_err-tables-clause-fault : goal.returns-in_err-tables-clause-fault
returns-in_err-tables-clause-fault g c =
    let p = err_from_is_err_and c.from_residual.result c.from_residual.ensures.1 in
    rw (p.1, p.2) (inl c.in_err-tables.ensures.fault)

pub returns-in_err-name_tables-clause-fault : goal.returns-in_err-name_tables-clause-fault
returns-in_err-name_tables-clause-fault g c =
    let p = err_from_is_err_and c.from_residual-in_err-name_tables.result c.from_residual-in_err-name_tables.ensures.1 in
    rw (p.1, p.2) (inr ((c.in_ok-tables.tables, c.in_ok-tables.ensures.tables), c.in_err-name_tables.ensures.fault))
