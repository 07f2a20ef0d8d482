use Rattle.std.proofs.Common.{refl, ◌∙◌}
use Rattle.dataset.specs.Columns.{sizes}
use Rattle.dataset.proofs.RowsFault.{at_record, end_at, fault_advancing, fault_at_last, fault_at_record, next_at, row_done}
use Rattle.files.specs.declared.fault.FaultKind.TheVariants.{NoEnd}
use Rattle.files.specs.Place.{file_fault, record_number}
use Rattle.std.proofs.Common.{◌≡◌, [], ◌∷◌, ◌++◌, Bool, true, rules, sym, subst}
use Rattle.files.specs.Place.{HasReadOn, record_fields}
use Rattle.dataset.specs.Records.{AreSpelt}
use Rattle.dataset.specs.Writing.{count_fields}
use Rattle.dataset.specs.Loading.{HasLoaded}
use Rattle.dataset.proofs.reader.read_rows.Goals.{else-loop-test, then-loop-test+in_ok-advance+then-not-branch}
use Rattle.std.proofs.lemmas.Result.{err_from_is_err_and}
use Rattle.std.proofs.Common.{ap, arith}
use Rattle.dataset.proofs.reader.read_rows.Goals as goal

pub returns-in-End-clause-read : goal.returns-in-End-clause-read
returns-in-End-clause-read g c = λ text read has_read loaded.
    let inv = c.loop.invariant.0 text read has_read loaded in
    let found : c.in_ok-advance.field-0 ≡ true = search rules in
    let P : Bool → Type 0 = λ b. HasReadOn g.R.Input.remaining text inv.0 b c.advance.new.self in
    let end = record_fields c.advance.new.self in
    let ends = rw c.in-End.is at c.in_ok-read_record.ensures.done in
    record {
      read = inv.0;
      end = end;
      loaded = subst (λ l. HasLoaded l inv.0) (sym ends.1) inv.1;
      counted = subst (λ l. AreSpelt (count_fields l.rows) end) (sym ends.1) ends.2;
      has_read = subst P found (c.in_ok-advance.ensures.reads text inv.0 inv.2);
    }

pub loop-preserved : goal.loop-preserved
loop-preserved g c = (
  λ text read has_read loaded.
      let inv = c.loop.invariant.0 text read has_read loaded in
      let found : c.in_ok-advance.field-0 ≡ true = search rules in
      let P : Bool → Type 0 = λ b. HasReadOn g.R.Input.remaining text inv.0 b c.advance.new.self in
      let row = row_done c.loop.loader c.read_record.new.loader inv.0 (record_fields c.advance.new.self) (rw c.in-Row.is at c.in_ok-read_record.ensures.done) inv.1 in
      (inv.0 ++ (record_fields c.advance.new.self ∷ []), row.2, subst P found (c.in_ok-advance.ensures.reads text inv.0 inv.2)),
  λ read rows few at number left.
      let inv = c.loop.invariant.1 read rows few at number left in
      let found : c.in_ok-advance.field-0 ≡ true = search rules in
      let a = at_record g.R.Input.remaining (sizes c.args.loader.now.format c.args.loader.now.scale) read rows c.loop.loader c.loop.records c.advance.new.self c.loop.counter c.in_ok-advance.field-0 few inv found c.in_ok-advance.ensures.reads_next c.advance.ensures.number in
      let none = c.in_ok-read_record.ensures.exact a.few in
      let done = rw c.in-Row.is at c.in_ok-read_record.ensures.done in
      next_at g.R.Input.remaining (sizes c.args.loader.now.format c.args.loader.now.scale) read rows c.loop.loader c.read_record.new.loader c.loop.records c.advance.new.self c.loop.counter inv.same_scale a none done (c.in_ok-advance.ensures.kept found),
  λ fine. c.in_ok-advance.ensures.lasts (c.loop.invariant.2 fine),
)

pub loop-init : goal.loop-init
loop-init g c = (λ text read has_read loaded. (read, loaded, has_read), λ read rows few at number left. record { before = read; left = rows; at = at; whole = refl; same_scale = refl; number = number; has_left = left; fault = refl; long = refl; counted = omega arith }, λ fine. fine)

pub returns-in-End-clause-first : goal.returns-in-End-clause-first
returns-in-End-clause-first g c = λ read rows few at number left.
    let inv = c.loop.invariant.1 read rows few at number left in
    let found : c.in_ok-advance.field-0 ≡ true = search rules in
    let a = at_record g.R.Input.remaining (sizes c.args.loader.now.format c.args.loader.now.scale) read rows c.loop.loader c.loop.records c.advance.new.self c.loop.counter c.in_ok-advance.field-0 few inv found c.in_ok-advance.ensures.reads_next c.advance.ensures.number in
    let none = c.in_ok-read_record.ensures.exact a.few in
    let done = rw c.in-End.is at c.in_ok-read_record.ensures.done in
    end_at g.R.Input.remaining (sizes c.args.loader.now.format c.args.loader.now.scale) read rows c.loop.loader c.read_record.new.loader c.loop.records c.advance.new.self c.loop.counter inv.same_scale a none done (c.in_ok-advance.ensures.kept found)

pub returns-in_err-read_record-clause-first : goal.returns-in_err-read_record-clause-first
returns-in_err-read_record-clause-first g c =
    let p = err_from_is_err_and c.from_residual-in_err-read_record.result c.from_residual-in_err-read_record.ensures.1 in
    rw (p.1, p.2) (λ read rows few at number left.
    let inv = c.loop.invariant.1 read rows few at number left in
    let found : c.in_ok-advance.field-0 ≡ true = search rules in
    let a = at_record g.R.Input.remaining (sizes c.args.loader.now.format c.args.loader.now.scale) read rows c.loop.loader c.loop.records c.advance.new.self c.loop.counter c.in_ok-advance.field-0 few inv found c.in_ok-advance.ensures.reads_next c.advance.ensures.number in
    fault_at_record g.R.Input.remaining (sizes c.args.loader.now.format c.args.loader.now.scale) read rows c.loop.loader c.loop.records c.advance.new.self c.loop.counter _ inv.same_scale a (c.in_ok-advance.ensures.kept found) (c.in_err-read_record.ensures.exact a.few))

pub returns-in_err-advance-clause-first : goal.returns-in_err-advance-clause-first
returns-in_err-advance-clause-first g c =
    let p = err_from_is_err_and c.from_residual.result c.from_residual.ensures.1 in
    let failed = c.in_err-advance.ensures in
    rw (p.1, p.2) (λ read rows few at number left.
    let inv = c.loop.invariant.1 read rows few at number left in
    fault_advancing g.R.Input.remaining (sizes c.args.loader.now.format c.args.loader.now.scale) read rows c.loop.loader c.loop.records c.advance.new.self c.loop.counter few inv c.advance.ensures.number _ failed.faults failed.too_long)

pub returns-clause-first : goal.returns-clause-first
returns-clause-first g c = λ read rows few at number left.
    let inv = c.loop.invariant.1 read rows few at number left in
    elim c.loop-test.branch [
      | else-loop-test w ↦ let bound = inv.counted in let past = w.loop-test.false in absurd (omega (arith, bound, past, few))
      | then-loop-test+in_ok-advance+then-not-branch w ↦
          fault_at_last g.R.Input.remaining (sizes c.args.loader.now.format c.args.loader.now.scale) read rows c.loop.loader c.loop.records w.advance.new.self c.loop.counter few inv w.advance.ensures.number c.fault.result w.in_ok-advance.field-0
          (c.fault.ensures ∙ ap (λ r. file_fault NoEnd (record_number r)) w.records-is) w.if-not-branch.true w.in_ok-advance.ensures.reads_next
    ]
