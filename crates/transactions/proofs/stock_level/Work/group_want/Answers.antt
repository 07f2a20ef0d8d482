use Rattle.std.proofs.Common.{◌∙◌, Some, sym, ap, arith}
use Rattle.std.proofs.lemmas.List.FromFn.{get_or-map-range_with_len, length-map-range_with_len}
use Rattle.std.proofs.lemmas.Option.{slice_get-get_or, slice_get_past}
use Rattle.std.specs.Prelude.{slice_get}
use Rattle.rows.specs.declared.limits.TheConstants.{STOCK_GROUPS}
use Rattle.transactions.specs.declared.stock_level.Work.{Work}
use Rattle.transactions.specs.StockLevel.{group_wants_of}
use Rattle.groups.specs.declared.group_wants.GroupWant.{GroupWant}
use Rattle.transactions.proofs.StockLevelWorks.{stock_group_want, stock_group_wants}
use Rattle.transactions.proofs.stock_level.Work.group_want.Goals as goal

pub returns-in-CountLow : goal.returns-in-CountLow
returns-in-CountLow c =
    let w_id = c.in-CountLow.asked.home.w_id in
    let group_want = stock_group_want w_id c.args.number in
    let many = length-map-range_with_len (stock_group_want w_id) 0 STOCK_GROUPS in
    ap (λ (w : GroupWant). Some w) (c.shared-in-CountLow.ensures ∙ sym (get_or-map-range_with_len (stock_group_want w_id) 0 STOCK_GROUPS c.args.number c.args.number group_want (omega (arith, c.if-number-lt-STOCK_WANTS.true)) (omega arith)))
    ∙ sym (slice_get-get_or (stock_group_wants w_id 0 STOCK_GROUPS) c.args.number group_want (omega (arith, many, c.if-number-lt-STOCK_WANTS.true)))
    ∙ ap (λ (work : Work). slice_get (group_wants_of work) c.args.number) (sym c.in-CountLow.is)

pub returns-in_default-3 : goal.returns-in_default-3
returns-in_default-3 c =
    let w_id = c.in-CountLow.asked.home.w_id in
    let many = length-map-range_with_len (stock_group_want w_id) 0 STOCK_GROUPS in
    sym (slice_get_past (stock_group_wants w_id 0 STOCK_GROUPS) c.args.number (omega (arith, many, c.if-number-lt-STOCK_WANTS.false)))
    ∙ ap (λ (work : Work). slice_get (group_wants_of work) c.args.number) (sym c.in-CountLow.is)
