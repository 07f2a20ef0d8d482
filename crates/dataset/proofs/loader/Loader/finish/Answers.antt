use Rattle.std.proofs.Common.{ℕ, List, [], ◌∷◌, ◌++◌, sym, subst}
use Rattle.schema.specs.declared.table_rows.TableRows.{TableRows}
use Rattle.schema.specs.Database.{Database}
use Rattle.schema.specs.Rows.{database, FitsScale}
use Rattle.dataset.specs.Columns.{sizes}
use Rattle.dataset.specs.Records.{AreSpelt, AreRecordsIn}
use Rattle.dataset.specs.TableRow.{rows_read}
use Rattle.dataset.specs.Writing.{count_fields}
use Rattle.dataset.specs.Loading.{HasLoaded}
use Rattle.dataset.proofs.Completed.{either_fits}
use Rattle.dataset.proofs.Finished.{all_recorded, by_checked}
use Rattle.dataset.proofs.loader.Loader.finish.Goals as goal

pub returns-clause-tables : goal.returns-clause-tables
returns-clause-tables c =
    let l = c.args.self in
    let rows : TableRows = record l.rows { histories = c.open.new.lists } in
    let loaded : Database → Type 0 = λ t. (read : List (List (List ℕ))) (end : List (List ℕ)) → HasLoaded l read → AreSpelt (count_fields l.rows) end → AreRecordsIn l.format t (read ++ (end ∷ [])) in
    by_checked c.checked.result (database l.scale rows) (FitsScale l.scale rows) loaded c.checked.ensures.made c.checked.ensures.fits
    (λ fits read end h counted. subst (λ r. AreRecordsIn l.format (database l.scale rows) (r ++ (end ∷ []))) (sym h.are)
    (all_recorded l.format l.scale l.rows rows l.last h.records (rows_read (sizes l.format l.scale) h.records) h.rows c.in_ok-open.ensures fits.counts h.header end h.is_header counted))

pub returns-clause-completes : goal.returns-clause-completes
returns-clause-completes c = λ t read end within range h are.
    let l = c.args.self in
    let rows : TableRows = record l.rows { histories = c.open.new.lists } in
    c.checked.ensures.fits.1 (either_fits l rows read end t c.in_ok-open.ensures within range h are)
