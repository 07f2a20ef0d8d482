use Rattle.std.proofs.Common.{◌+◌}
use Rattle.files.specs.Place.{record_number}
use Rattle.dataset.specs.FirstFault.{first_fault, header_first, reported_header}
use Rattle.files.proofs.RecordsLeft.{next_row}
use Rattle.dataset.proofs.HeaderFault.{header_error, header_fails, header_passes, header_unread}
use Rattle.files.specs.declared.fault.FaultKind.TheVariants.{NoHeader}
use Rattle.std.proofs.Common.{◌≡◌, [], Bool, true, rules, subst}
use Rattle.files.specs.Place.{HasReadOn, record_fields}
use Rattle.dataset.specs.Records.{IsHeader}
use Rattle.files.proofs.RecordsLeft.{no_row}
use Rattle.std.proofs.Common.{sym, ap, ◌∙◌, arith}
use Rattle.std.proofs.lemmas.Result.{err_from_is_err_and}
use Rattle.dataset.proofs.reader.read_header.Goals as goal

pub returns-in-Ok-clause-read : goal.returns-in-Ok-clause-read
returns-in-Ok-clause-read g c = λ text none_read.
    let found : c.in_ok-advance.field-0 ≡ true = search rules in
    let P : Bool → Type 0 = λ b. HasReadOn g.R.Input.remaining text [] b c.advance.new.self in
    let is_header = subst (IsHeader c.in-Ok.header.format c.in-Ok.header.scale) c.fields.ensures.left c.in-Ok.ensures.spelt in
    (record_fields c.advance.new.self, is_header, subst P found (c.in_ok-advance.ensures.reads text [] none_read))

pub returns-in_err-advance-clause-first : goal.returns-in_err-advance-clause-first
returns-in_err-advance-clause-first g c =
    let p = err_from_is_err_and c.from_residual.result c.from_residual.ensures.1 in
    let failed = c.in_err-advance.ensures in
    rw (p.1, p.2) (λ rows number left.
    header_unread _ (record_number c.advance.new.self) rows (c.advance.ensures.number (omega (arith, number)) ∙ ap (λ n. n + 1) number) failed.faults (λ long. failed.too_long long rows left))

pub returns-then-not-branch-clause-first : goal.returns-then-not-branch-clause-first
returns-then-not-branch-clause-first g c = λ rows number left.
    let after = c.in_ok-advance.ensures.reads_next rows left in
    let none = no_row g.R.Input.remaining rows c.in_ok-advance.field-0 c.advance.new.self c.if-not-branch.true after in
    header_error c.fault.result NoHeader (record_number c.advance.new.self) (header_first rows) c.fault.ensures (c.advance.ensures.number (omega (arith, number)) ∙ ap (λ n. n + 1) number) (ap header_first none)

pub returns-in-Ok-clause-first : goal.returns-in-Ok-clause-first
returns-in-Ok-clause-first g c = λ rows number left.
    let found : c.in_ok-advance.field-0 ≡ true = search rules in
    let next = next_row g.R.Input.remaining rows c.in_ok-advance.field-0 c.advance.new.self found (c.in_ok-advance.ensures.reads_next rows left) in
    let is_header = subst (IsHeader c.in-Ok.header.format c.in-Ok.header.scale) c.fields.ensures.left c.in-Ok.ensures.spelt in
    let reported = ap reported_header (sym c.fields.ensures.left) ∙ c.in-Ok.ensures.exact c.fields.ensures.fault in
    record {
      fields = record_fields c.advance.new.self;
      more = next.0;
      are = next.1;
      is_header = is_header;
      fault = ap first_fault next.1 ∙ header_passes c.in-Ok.header.format c.in-Ok.header.scale (record_fields c.advance.new.self) next.0 (c.in_ok-advance.ensures.kept found) reported is_header.is_spelt;
      left = next.2;
      number = c.advance.ensures.number (omega (arith, number)) ∙ ap (λ n. n + 1) number;
    }

pub returns-in-Err-clause-first : goal.returns-in-Err-clause-first
returns-in-Err-clause-first g c = λ rows number left.
    let found : c.in_ok-advance.field-0 ≡ true = search rules in
    let next = next_row g.R.Input.remaining rows c.in_ok-advance.field-0 c.advance.new.self found (c.in_ok-advance.ensures.reads_next rows left) in
    let reported = ap reported_header (sym c.fields.ensures.left) ∙ c.in-Err.ensures.exact c.fields.ensures.fault in
    header_error c.fault-in-Err.result c.in-Err.kind (record_number c.advance.new.self) (header_first rows) c.fault-in-Err.ensures (c.advance.ensures.number (omega (arith, number)) ∙ ap (λ n. n + 1) number)
    (ap header_first next.1 ∙ header_fails c.in-Err.kind (record_fields c.advance.new.self) next.0 (c.in_ok-advance.ensures.kept found) reported)
