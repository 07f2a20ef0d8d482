use Rattle.std.proofs.Common.{take}
use Rattle.std.specs.List.{AllByRecursion}
use Rattle.rows.specs.Text.{IsText}
use Rattle.dataset.proofs.ranges.read_texts.Given as goal

abbrev pub invariant-loop-text : goal.invariant-loop-text
invariant-loop-text l = AllByRecursion (IsText 24) (take l.text-index l.texts)
