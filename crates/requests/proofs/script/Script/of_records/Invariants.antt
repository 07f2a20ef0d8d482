-- The parts so far, followed by those of the records that are left, are the parts of all records.
use Rattle.std.proofs.Common.{◌≡◌, ◌≤◌, ◌+◌, ◌++◌, length}
use Rattle.requests.specs.Script.{parts_from}
use Rattle.requests.proofs.script.Script.of_records.Given as goal

abbrev pub invariant-loop-number : goal.invariant-loop-number
invariant-loop-number l = record {
  can_next : (goal.iterator-loop-number).can_next l.number-iterator;
  finite : (goal.iterator-loop-number).is_finite l.number-iterator;
  parts_are : l.parts.items ++ parts_from l.number-iterator.count l.number-iterator.iter.rest.items ≡ parts_from 0 l.fn.records.items;
  all : l.number-iterator.count + length l.number-iterator.iter.rest.items ≡ length l.fn.records.items;
  few : length l.fn.records.items ≤ 4294967296;
}
