use Rattle.files.specs.Unquoted.{machine_state}
use Rattle.files.proofs.Unquoting.{fed_skip, fed_copy, fed_end, fed_record, ended_size, size_kept, between_records}
use Rattle.files.proofs.unquoted.Unquoted.feed.Goals as goal

pub returns-in-Skip-clause-goes_on : goal.returns-in-Skip-clause-goes_on
returns-in-Skip-clause-goes_on c = λ _.
    let u = c.args.self.now in
    fed_skip (machine_state u.state) (machine_state c.step-state.result.0) u.bytes.items u.from c.args.byte c.args.spans.now.items (rw c.in-Skip.is at c.step-state.ensures) c.requires

pub returns-in-Ok-clause-goes_on : goal.returns-in-Ok-clause-goes_on
returns-in-Ok-clause-goes_on c = λ _.
    let u = c.args.self.now in
    let pushed = rw c.in-Ok.is at c.push.ensures.items in
    rw pushed (fed_copy (machine_state u.state) (machine_state c.step-state.result.0) u.bytes.items u.from c.args.byte c.args.spans.now.items (rw c.in-Copy.is at c.step-state.ensures) c.requires)

pub returns-in-Ok-end_field-clause-goes_on : goal.returns-in-Ok-end_field-clause-goes_on
returns-in-Ok-end_field-clause-goes_on c = λ _.
    let u = c.args.self.now in
    let ended = c.in-Ok-end_field.ensures in
    rw (ended.same, ended.ended) (fed_end (machine_state u.state) (machine_state c.step-state.result.0) u.bytes.items u.from c.args.byte c.args.spans.now.items (rw c.in-EndField.is at c.step-state.ensures) c.requires)

pub returns-in-Ok-end_field-2-clause-ends : goal.returns-in-Ok-end_field-2-clause-ends
returns-in-Ok-end_field-2-clause-ends c = λ _.
    let u = c.args.self.now in
    let ended = c.in-Ok-end_field-2.ensures in
    let stepped = rw c.in-EndRecord.is at c.step-state.ensures in
    let size = ended_size (machine_state u.state) u.bytes.items u.from c.args.spans.now.items c.requires in
    rw (ended.same, ended.ended) (
      between_records (machine_state u.state) (machine_state c.step-state.result.0) c.args.byte stepped,
      size_kept c.is_too_long.result _ _ _ size c.if-is_too_long.false c.is_too_long.ensures.1,
      fed_record (machine_state u.state) (machine_state c.step-state.result.0) u.bytes.items u.from c.args.byte c.args.spans.now.items stepped c.requires,
    )
