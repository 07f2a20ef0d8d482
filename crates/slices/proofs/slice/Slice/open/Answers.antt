use Rattle.std.proofs.Common.{◌≡◌, [], ◌∷◌, ℕ, length, length-append, ap, subst, sym, ◌∙◌, arith}
use Rattle.partitions.specs.Parts.{Part}
use Rattle.local_locks.specs.LockTableView.{AreBoxesOf, LockTableView, opened}
use Rattle.slices.specs.UndoLogs.{slice_view, IsSlice}
use Rattle.slices.proofs.Opened.{boxes_at_home, idle_more, opened_slice}
use Rattle.slices.proofs.slice.Slice.open.Goals as goal

pub open-requires : goal.open-requires
open-requires g c =
    subst (λ (n : ℕ). AreBoxesOf n c.home-home.result c.args.boxes.items) (sym c.requires.warehouses)
    (subst (λ (n : ℕ). AreBoxesOf c.args.partition.tables.scale.warehouses n c.args.boxes.items) (sym c.home-home.ensures.home) (boxes_at_home c.args.partition c.args.boxes.items c.requires.boxes))

pub loop-preserved : goal.loop-preserved
loop-preserved g c = record {
  many = omega (arith, c.loop.invariant.many, ap length c.in_ok-push.ensures.items, length-append c.loop.undo_logs.items (c.new.result ∷ []));
  idle = idle_more c.loop.undo_logs.items c.push.new.self.items c.new.result c.loop.invariant.idle c.new.ensures c.in_ok-push.ensures.items;
}

pub invariant_of-result : goal.invariant_of-result
invariant_of-result g c =
    let table : c.in_ok-locks.locks ≡ opened c.args.partition.home c.args.boxes.items = c.in_ok-locks.ensures ∙ ap (λ (n : ℕ). opened n c.args.boxes.items) c.home-home.ensures.home in
    let long : length c.loop.undo_logs.items ≡ 105 = omega (arith, c.loop.invariant.many, c.loop-test.false, c.loop.auto.counter-end) in
    subst (λ (p : Part). IsSlice g.J.GroupNames.warehouses p c.in_ok-locks.locks c.loop.undo_logs.items) (sym c.in_ok-rows.ensures)
    (opened_slice g.J.GroupNames.warehouses c.args.partition c.args.boxes.items c.in_ok-locks.locks c.loop.undo_logs.items c.requires.warehouses c.requires.boxes table long c.loop.invariant.idle)

pub returns : goal.returns
returns g c =
    let table : c.in_ok-locks.locks ≡ opened c.args.partition.home c.args.boxes.items = c.in_ok-locks.ensures ∙ ap (λ (n : ℕ). opened n c.args.boxes.items) c.home-home.ensures.home in
    ap (λ (p : Part). slice_view p c.in_ok-locks.locks) c.in_ok-rows.ensures ∙ ap (λ (t : LockTableView). slice_view c.args.partition t) table
