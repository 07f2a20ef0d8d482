use Rattle.std.proofs.Common.{rules, ◌≡◌, []}
use Rattle.slices.proofs.Steps.{all_left, last_can, one_fewer, none_left_over}
use Rattle.slices.proofs.undo_record.put_all_back.Goals as goal

pub loop-kept-init : goal.loop-kept-init
loop-kept-init c = λ group are. all_left group c.args.undo.now.items c.args.rows.now are

pub put_back-requires : goal.put_back-requires
put_back-requires c =
    let left = c.loop-kept.invariant c.requires.0 c.requires.1 in
    last_can c.requires.0 c.args.undo.now.items c.args.rows.now c.loop-kept.undo.items c.pop.new.self.items c.in-Some.kept c.loop-kept.rows left c.in-Some.ensures.items

pub loop-kept-preserved : goal.loop-kept-preserved
loop-kept-preserved c = λ group are.
    one_fewer group c.args.undo.now.items c.args.rows.now c.loop-kept.undo.items c.pop.new.self.items c.in-Some.kept c.loop-kept.rows c.put_back.new.rows (c.loop-kept.invariant group are) c.in-Some.ensures.items c.put_back.ensures

pub returns-clause-rows : goal.returns-clause-rows
returns-clause-rows c = λ group are.
    let none : c.loop-kept.undo.items ≡ [] = search rules in
    none_left_over group c.args.undo.now.items c.args.rows.now c.loop-kept.undo.items c.loop-kept.rows (c.loop-kept.invariant group are) none
