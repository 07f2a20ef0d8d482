use Rattle.std.proofs.Common.{◌+◌, ◌≤◌, length, vec_capacity}
use Rattle.std.specs.Prelude.{All}
use Rattle.partitions.specs.Parts.{shared_of}
use Rattle.transactions.specs.declared.laws.TheConstants.{MOST_ACTIONS}
use Rattle.transactions.specs.Works.{CanDo}
use Rattle.executor.specs.AtOnce.{HaveDoneBut, phase_to_run}
use Rattle.executor.proofs.paused.do_all.Given as goal

-- All works but those that are left were done; these can be done; and there is room for what they hold and find.
abbrev pub invariant-loop-work : goal.invariant-loop-work
invariant-loop-work g l = record {
  can_next : (goal.iterator-loop-work g).can_next l.work-iterator;
  finite : (goal.iterator-loop-work g).is_finite l.work-iterator;
  can : All (CanDo (shared_of g.J.LogNames.opening)) l.work-iterator.rest.items;
  done : HaveDoneBut (shared_of g.J.LogNames.opening) l.work-iterator.rest.items (phase_to_run l.fn.age l.fn.works.items l.fn.held) l.held l.found.items;
  few : length l.held + length l.work-iterator.rest.items ≤ MOST_ACTIONS;
  room : length l.found.items + length l.work-iterator.rest.items ≤ vec_capacity l.found;
}
