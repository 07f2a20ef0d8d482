use Rattle.std.proofs.Common.{List, sym, subst, ◌∙◌}
use Rattle.wait_die.specs.declared.deciding.Holder.{Holder}
use Rattle.wait_die.specs.declared.deciding.Decision.TheVariants as decision
use Rattle.wait_die.specs.Verdicts.{IsVerdict}
use Rattle.local_locks.proofs.Joins.{at_place, dies_there, waits_there}
use Rattle.local_locks.proofs.rulings.ruling_at.Goals as goal

pub returns-in-Waits : goal.returns-in-Waits
returns-in-Waits g c =
    let P : List Holder → Type 0 = λ holders. IsVerdict c.args.age holders decision.Waits in
    waits_there c.args.age c.args.locks.now c.args.number c.args.mode
    (subst P (c.conflicting.ensures ∙ sym (at_place c.args.locks.now c.args.mode c.args.number c.index-locks-number.result c.requires c.index-locks-number.is)) c.in-Waits.ensures)

pub returns-in-Dies : goal.returns-in-Dies
returns-in-Dies g c =
    let P : List Holder → Type 0 = λ holders. IsVerdict c.args.age holders (decision.Dies c.in-Dies.holder) in
    dies_there c.args.age c.args.locks.now c.args.number c.args.mode c.in-Dies.holder
    (subst P (c.conflicting.ensures ∙ sym (at_place c.args.locks.now c.args.mode c.args.number c.index-locks-number.result c.requires c.index-locks-number.is)) c.in-Dies.ensures)
