use Rattle.std.proofs.Common.{◌≡◌, All, vec_len}
use Rattle.slices.specs.SliceView.{IsClaimAt, SliceKeeps}
use Rattle.transactions.specs.Acting.{CanBeSettled}
use Rattle.transactions.proofs.acting.give_back.Given as goal

-- what is given back so far keeps what is committed, and so can the rest be, in the same warehouse
abbrev pub invariant-loop-claim : goal.invariant-loop-claim
invariant-loop-claim g l = record {
  kept : SliceKeeps l.initial.claims.items l.initial.slice l.claims.items l.slice;
  tables : l.slice.tables ≡ l.initial.slice.tables;
  settled : All CanBeSettled l.claims.items;
  home : All (IsClaimAt l.initial.slice.home) l.claims.items;
}

abbrev pub decreases-loop-claim : goal.decreases-loop-claim
decreases-loop-claim g l = vec_len l.claims
