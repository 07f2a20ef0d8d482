-- The parts so far, followed by those of the districts that are left, are the parts of all districts.
use Rattle.std.proofs.Common.{◌≡◌, ◌+◌, ◌++◌, ℕ}
use Rattle.std.specs.List.{range_with_len}
use Rattle.requests.specs.declared.terminal_request.TerminalRequest.TheVariants as asked
use Rattle.requests.specs.Script.{parts_of}
use Rattle.requests.proofs.ScriptParts.{deliveries_in}
use Rattle.requests.proofs.script.push_deliveries.Given as goal

abbrev pub invariant-loop-d_id : goal.invariant-loop-d_id
invariant-loop-d_id l =
    (left : ℕ) × (l.d_id + left ≡ 11)
    × (l.parts.items ++ deliveries_in l.number l.asked (range_with_len l.d_id left) ≡ l.initial.parts.items ++ parts_of l.number (asked.Delivery l.asked))
