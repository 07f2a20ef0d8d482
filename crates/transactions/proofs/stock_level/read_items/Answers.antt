use Rattle.std.proofs.Common.{ap, ◌∙◌}
use Rattle.schema.specs.Database.{Database}
use Rattle.partitions.specs.Parts.{Part}
use Rattle.slices.specs.SliceView.{SliceView}
use Rattle.machine.specs.StockLevel.{recent_items}
use Rattle.transactions.proofs.StockLevelRead.{items_are_found}
use Rattle.transactions.proofs.stock_level.read_items.Goals as goal

pub returns-clause-read : goal.returns-clause-read
returns-clause-read g c =
    let seen = ap (λ (p : Part). p.tables) c.partition.ensures.rows ∙ ap (λ (s : SliceView). s.tables) c.look.ensures.same.0 in
    items_are_found c.args.slice.now.tables c.args.home c.args.next c.in_ok-ids.ids.items c.args.orders.now c.look.new.claim c.requires.claim c.look.ensures.left c.look_untouched.ensures.left c.look.ensures.same.1
    (c.in_ok-ids.ensures.value ∙ ap (λ (t : Database). recent_items t c.args.home c.args.next) seen)
