use Rattle.std.proofs.Common.{◌+◌, ℕ, List, Option, Some, slice_set, ap, ◌∙◌}
use Rattle.meeting_tests.proofs.Unwrapping.{same_results}
use Rattle.meeting_tests.proofs.sole.three_report.Goals as goal

pub returns : goal.returns
returns c = same_results _ _ (c.in-Last.ensures.results ∙ ap (λ (l : List (Option ℕ)). slice_set l 0 (Some c.args.first)) (c.in-NotLast-report.ensures.meeting ∙ ap (λ (l : List (Option ℕ)). slice_set l 2 (Some (c.args.first + 2))) (c.in-NotLast.ensures.meeting ∙ ap (λ (l : List (Option ℕ)). slice_set l 1 (Some (c.args.first + 1))) c.convene-meeting.ensures)))
