use Rattle.std.proofs.Common.{rules}
use Rattle.queues.specs.Order.{of}
use Rattle.queues.proofs.InOrder.{none_else}
use Rattle.queues.proofs.taker.Taker.audit.Goals as goal

pub returns-clause-beginning : goal.returns-clause-beginning
returns-clause-beginning g c =
    let standing = c.compare-empty.ensures.compared.0 in
    let put = c.compare-empty.ensures.compared.1.put in
    (of c.args.sender.now.number standing, search rules)

pub returns-clause-no_other : goal.returns-clause-no_other
returns-clause-no_other g c =
    let compared = c.compare-empty.ensures.compared in
    none_else _ compared.0 _ _ (search rules) (search rules) compared.1
