use Rattle.std.proofs.Common.{◌≡◌, [], ◌∷◌, sym, ap, subst, ◌∙◌}
use Rattle.std.specs.FinMap as table
use Rattle.schema.specs.Database.{Database}
use Rattle.requests.specs.declared.group.Group.{Group}
use Rattle.groups.specs.Content.{content}
use Rattle.groups.specs.Laws.{ChangesOneGroup, with_stock}
use Rattle.groups.proofs.RowsPut.{each_put_changes_one_group}
use Rattle.tickets.specs.Claims.{ClaimView, leaving}
use Rattle.slices.specs.SliceView.{SliceView}
use Rattle.machine.specs.NewOrder.{Stocks}
use Rattle.transactions.specs.NewOrderStock.{AreOfGroup, puts_done}
use Rattle.transactions.proofs.Kept as kept
use Rattle.transactions.proofs.NewOrderPuts.{last_of_group, others_of_group, puts_last}
use Rattle.transactions.proofs.Returned.{put_back}
use Rattle.transactions.proofs.new_order.stock.put_stocks.Goals as goal

pub loop-put-preserved : goal.loop-put-preserved
loop-put-preserved g c =
    let start = c.args.slice.now in
    let was = c.args.stock.now in
    let put = c.in-Some.put in
    let rest = c.pop.new.self.items in
    let stocks = c.loop-put.slice.tables.stocks in
    let known = c.loop-put.invariant in
    let done = c.in_default-put_stock.ensures in
    let keys = subst (AreOfGroup was stocks) c.in-Some.ensures.items known.keys in
    let new : Stocks = table.insert stocks put.key put.row in
    let has : c.put_stock.new.self.tables.stocks ≡ new = ap (λ (s : SliceView). s.tables.stocks) done.rows in
    let left = with_stock put.key put.row c.loop-put.stock.left in
    record {
      kept = kept.then _ _ _ _ _ _ known.kept done.kept;
      claim = done.claim ∙ ap (λ (k : ClaimView). leaving k left) known.claim ∙ ap (leaving was) (sym (ap (λ (k : ClaimView). k.left) done.claim));
      slice = done.rows ∙ ap (λ (s : SliceView). record s { tables = record s.tables { stocks = new } }) known.slice
          ∙ ap (λ (s : Stocks). record start { tables = record start.tables { stocks = s } }) (sym has);
      same = ap (puts_done rest) has ∙ sym (puts_last rest put stocks) ∙ ap (λ puts. puts_done puts stocks) (sym c.in-Some.ensures.items) ∙ known.same;
      keys = subst (λ (s : Stocks). AreOfGroup was s rest) (sym has) (others_of_group was stocks put.key put.row rest put keys);
      elsewhere = λ other apart.
          ap (λ (s : SliceView). content s.tables other) done.rows
          ∙ ((each_put_changes_one_group c.loop-put.slice.tables).stocks put.key put.row).elsewhere other (λ same. apart (same ∙ sym (last_of_group was stocks rest put keys)))
          ∙ known.elsewhere other apart;
    }

pub returns-in-Err-clause-kept : goal.returns-in-Err-clause-kept
returns-in-Err-clause-kept g c =
    let same = c.in-Err.ensures.err in
    kept.then _ _ _ _ _ _ c.loop-put.invariant.kept
    (kept.then _ _ _ _ _ _
    (kept.unchanged (c.loop-put.stock ∷ []) (c.put_stock.new.claim ∷ []) c.loop-put.slice c.put_stock.new.self (λ i. same.1 i ∷ []) same.0)
    c.undo.ensures.kept)

-- the rows are taken back, and are what they were
pub returns-in-Err-clause-err : goal.returns-in-Err-clause-err
returns-in-Err-clause-err g c =
    let start = c.args.slice.now in
    let was = c.args.stock.now in
    let put = c.put_stock.new.claim in
    let known = c.loop-put.invariant in
    let same = c.in-Err.ensures.err in
    let fresh = c.requires.fresh in
    let made : put ≡ leaving was c.loop-put.stock.left = same.1 ∙ known.claim in
    let had : content start.tables was.group ≡ put.back = sym c.requires.left ∙ fresh.left ∙ sym fresh.back ∙ sym (ap (λ (k : ClaimView). k.back) made) in
    let still : c.put_stock.new.self ≡ record start { tables = c.loop-put.slice.tables } =
    same.0 ∙ known.slice ∙ ap (λ (t : Database). record start { tables = t }) (sym (ap (λ (s : SliceView). s.tables) known.slice)) in
    let before : leaving was was.back ≡ was = ap (leaving was) (fresh.back ∙ sym fresh.left) in (
      put_back was.group put.back start c.put_stock.new.self c.undo.new.self c.loop-put.slice.tables put c.undo.new.claim still
          (ap (λ (s : SliceView). s.tables.scale) known.slice) (ap (λ (s : SliceView). s.tables.items) known.slice) known.elsewhere had c.undo.ensures.kept
          (subst (λ (group : Group). ChangesOneGroup group (λ before. put.back) c.put_stock.new.self.tables c.undo.new.self.tables) (ap (λ (k : ClaimView). k.group) made) c.undo.ensures.rows)
          c.undo.ensures.locks,
      c.undo.ensures.claim ∙ (λ i. leaving (made i) (made i).back) ∙ before,
    )
