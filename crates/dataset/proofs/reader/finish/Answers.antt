use Rattle.std.proofs.Common.{inr, subst}
use Rattle.std.proofs.lemmas.Result.{err_from_is_err_and}
use Rattle.files.specs.Place.{HasLeft, record_number}
use Rattle.files.specs.declared.fault.FaultKind.TheVariants.{ScaleBroken}
use Rattle.files.specs.FirstFault.{fault_at}
use Rattle.dataset.proofs.HeaderFault.{more_found}
use Rattle.std.proofs.Common.{[], ◌∷◌, ◌++◌}
use Rattle.dataset.proofs.Faultless.{is_no_err}
use Rattle.dataset.proofs.reader.finish.Goals as goal

pub returns-in-Ok-clause-tables : goal.returns-in-Ok-clause-tables
returns-in-Ok-clause-tables g c = λ text ended.
    let rows = ended.read ++ (ended.end ∷ []) in
    let tables = rw c.in-Ok.is at c.in_ok-tables.ensures.tables in
    (rows, c.in_ok-expect_end.ensures.reads text rows ended.has_read, tables ended.read ended.end ended.loaded ended.counted)

pub returns-in_err-expect_end-clause-first : goal.returns-in_err-expect_end-clause-first
returns-in_err-expect_end-clause-first g c =
    let p = err_from_is_err_and c.from_residual.result c.from_residual.ensures.1 in
    let failed = c.in_err-expect_end.ensures in
    rw (p.1, p.2) (λ more left few.
    more_found _ c.args.loader more (record_number c.args.records) (record_number c.expect_end.new.self) (c.expect_end.ensures.number few) failed.faults (λ after none. failed.after_end after (subst (λ l. HasLeft g.R.Input.remaining l c.args.records) none left)))

pub returns-clause-first : goal.returns-clause-first
returns-clause-first g c = λ more left few.
    inr (
      c.in_ok-expect_end.ensures.none_left more left,
      (λ i. fault_at ScaleBroken (c.number-end.ensures i)),
      λ t read end within range loaded are. is_no_err c.in_ok-tables.field-0 c.in-Err.field-0 (c.in_ok-tables.ensures.completes t read end within range loaded are) c.in-Err.is,
    )
