use Rattle.std.proofs.Common.{◌≡◌, ◌<◌, ℕ}
use Rattle.std.specs.Prelude.{slice_index_or}
use Rattle.groups.specs.Content.{content}
use Rattle.tickets.specs.Claims.{ClaimView}
use Rattle.transactions.proofs.stock_level.count_low.Given as goal

-- nothing changes, and each claim so far records the content of its group
abbrev pub invariant-loop-claim : goal.invariant-loop-claim
invariant-loop-claim g l = record {
  slice : l.slice ≡ l.initial.slice;
  stock : l.stock ≡ l.initial.stock;
  recorded : (k : ℕ) (d : ClaimView) → k < l.claim → (slice_index_or l.initial.stock k d).recorded ≡ content l.initial.slice.tables (slice_index_or l.initial.stock k d).group;
}
