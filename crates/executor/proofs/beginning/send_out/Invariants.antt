use Rattle.std.proofs.Common.{◌≡◌, ◌+◌, ◌≤◌, ◌++◌, drop, length, vec_capacity}
use Rattle.executor.specs.Begins.{acts_from, acts_of}
use Rattle.executor.specs.Carrying.{IsCarriedAt, agreed_phase_of}
use Rattle.executor.specs.AgreedPhases.{phase_places_view}
use Rattle.transactions.specs.Progresses.{works_of}
use Rattle.executor.proofs.beginning.send_out.Given as goal

-- So many actions are made, with a place each; with those that are left they are all; there is room for them; and the
-- transaction is here until the first is made.
abbrev pub invariant-loop-work : goal.invariant-loop-work
invariant-loop-work g l = record {
  can_next : (goal.iterator-loop-work g).can_next l.work-iterator;
  finite : (goal.iterator-loop-work g).is_finite l.work-iterator;
  all : l.acts.items ++ acts_from l.fn.flow.slot (agreed_phase_of l.fn.flow) l.number l.carried l.work-iterator.rest.items ≡ acts_of l.fn.flow;
  left : drop l.number (works_of l.fn.flow.progress) ≡ l.work-iterator.rest.items;
  many : l.number + length l.work-iterator.rest.items ≡ length (works_of l.fn.flow.progress);
  room : length l.acts.items + length l.work-iterator.rest.items ≤ vec_capacity l.acts;
  carried : IsCarriedAt l.fn.flow.slot (agreed_phase_of l.fn.flow) l.number l.carried;
  places : l.places ≡ phase_places_view l.fn.flow.slot (agreed_phase_of l.fn.flow) l.number (length l.work-iterator.rest.items);
}
