use Rattle.std.proofs.Common.{◌≡◌, ◌-◌, ℕ, sym, ap, ◌∙◌, arith}
use Rattle.world.specs.Following.{ending}
use Rattle.world.proofs.Completions.{another_left, awaits_then, none_left, still_active, waits_next}
use Rattle.world.proofs.transaction_meetings.Completion.report.Goals as goal

pub report-requires : goal.report-requires
report-requires g c = (omega arith, (omega arith, waits_next c.self.inside.next c.self.inside.left c.self.inside.meeting c.self.invariant))

pub invariant_of-result : goal.invariant_of-result
invariant_of-result g c =
    awaits_then c.self.inside.next c.self.inside.left c.self.inside.meeting c.self.invariant c.report.new.self c.in-NotLast.ensures.meeting c.in-NotLast.ensures.last.1

pub returns-in-NotLast : goal.returns-in-NotLast
returns-in-NotLast g c =
    let is : c.self.inside.left ≡ c.args.self = c.self.view_is in
    let more = another_left c.self.inside.next c.self.inside.left c.self.inside.meeting c.self.invariant c.in-NotLast.ensures.last.1 in
    sym (still_active {J = g.row.J.Denot} (c.self.inside.left - 1) more) ∙ ap (λ (n : ℕ). ending {J = g.row.J.Denot} (n - 1)) is

pub returns-in-Last : goal.returns-in-Last
returns-in-Last g c =
    let is : c.self.inside.left ≡ c.args.self = c.self.view_is in
    let none = none_left c.self.inside.next c.self.inside.left c.self.inside.meeting c.self.invariant (c.in-Last.ensures.last.0 tt) in
    sym (ap (λ (n : ℕ). ending {J = g.row.J.Denot} n) none) ∙ ap (λ (n : ℕ). ending {J = g.row.J.Denot} (n - 1)) is
