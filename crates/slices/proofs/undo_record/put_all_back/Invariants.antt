use Rattle.std.proofs.Common.{vec_len}
use Rattle.requests.specs.declared.group.Group.{Group}
use Rattle.groups.specs.Content.{content}
use Rattle.slices.specs.Undo.{AreKept}
use Rattle.slices.proofs.Steps.{AreLeft}
use Rattle.slices.proofs.undo_record.put_all_back.Given as goal

-- what is left to be put back makes what all would have made
abbrev pub invariant-loop-kept : goal.invariant-loop-kept
invariant-loop-kept l = (group : Group) → AreKept l.initial.rows.tables.scale group l.initial.undo.items (content l.initial.rows.tables group) → AreLeft group l.initial.undo.items l.initial.rows l.undo.items l.rows

abbrev pub decreases-loop-kept : goal.decreases-loop-kept
decreases-loop-kept l = vec_len l.undo
