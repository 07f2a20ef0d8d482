use Rattle.tpcc.proofs.populate.make.Goals as goal

pub returns-clause-populates : goal.returns-clause-populates
returns-clause-populates g c =
    let named = c.in_ok-name_tables.ensures.ok in
    record {
      tables = c.in_ok-tables.tables;
      is_opening = c.in_ok-tables.ensures;
      text = named.0;
      written = named.1;
      shelved = named.2;
      no_fault = c.begin.ensures;
    }
