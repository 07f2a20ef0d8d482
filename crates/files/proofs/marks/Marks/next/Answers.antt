use Rattle.std.proofs.Common.{length, arith, w64}
use Rattle.std.specs.Int.{trailing_zeros}
use Rattle.files.proofs.NextMark.{first_reported, next_behind, none_reported, plain_more, rest_reported}
use Rattle.files.specs.Marks.{ArePlain}
use Rattle.files.proofs.marks.Marks.next.Goals.{In-loop-self}
use Rattle.files.proofs.marks.Marks.next.Goals as goal

-- where the mask is empty, the bytes up to its end are plain
passed : (c : In-loop-self) → ArePlain c.args.bytes.now c.args.at c.loop-self.self.end
passed c =
    plain_more c.args.bytes.now c.args.at c.loop-self.place c.loop-self.self.end c.loop-self.invariant.1
    (none_reported c.args.bytes.now c.loop-self.place c.loop-self.self c.loop-self.invariant.2 c.loop-self-test.true)

pub loop-self-preserved : goal.loop-self-preserved
loop-self-preserved c =
    let reports = c.loop-self.invariant.2 in
    let low = reports.low in
    (omega arith, passed (goal.at.loop-self-preserved c).In-loop-self, c.of_lanes.ensures.reports)

pub returns-in_err-place-clause-next : goal.returns-in_err-place-clause-next
returns-in_err-place-clause-next c =
    let passed = passed (goal.at.returns-in_err-place-clause-next c).In-loop-self in
    rw c.from_residual.ensures (plain_more c.args.bytes.now c.args.at c.loop-self.self.end (length c.args.bytes.now) passed c.in_err-place.ensures)

pub returns-then-bytes-place-lt-LANES-clause-next :
    goal.returns-then-bytes-place-lt-LANES-clause-next
returns-then-bytes-place-lt-LANES-clause-next c =
    let reports = c.loop-self.invariant.2 in
    let low = reports.low in
    let passed = passed (goal.at.returns-then-bytes-place-lt-LANES-clause-next c).In-loop-self in
    next_behind c.args.bytes.now c.args.at c.loop-self.self.end c.in_ok-place.place (omega arith) passed c.in_ok-place.ensures

pub overflow_shr-self : goal.overflow_shr-self
overflow_shr-self c =
    let reports = c.loop-self.invariant.2 in
    let few = reports.few in
    let first = first_reported c.args.bytes.now c.loop-self.place c.loop-self.self reports c.loop-self-test.false in
    omega arith

pub returns-clause-next : goal.returns-clause-next
returns-clause-next c =
    let first = first_reported c.args.bytes.now c.loop-self.place c.loop-self.self c.loop-self.invariant.2 c.loop-self-test.false in
    next_behind c.args.bytes.now c.args.at c.loop-self.place _ c.loop-self.invariant.0 c.loop-self.invariant.1 first.1

pub returns-clause-reports : goal.returns-clause-reports
returns-clause-reports c =
    let first = first_reported c.args.bytes.now c.loop-self.place c.loop-self.self c.loop-self.invariant.2 c.loop-self-test.false in
    rest_reported c.args.bytes.now c.loop-self.place (trailing_zeros w64 c.loop-self.self.mask) c.loop-self.self c.loop-self.invariant.2 first.0
