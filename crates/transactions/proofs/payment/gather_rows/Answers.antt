use Rattle.transactions.proofs.PaymentSteps.{rows_done, rows_follow}
use Rattle.transactions.proofs.payment.gather_rows.Goals as goal

pub rows_found-home-requires : goal.rows_found-home-requires
rows_found-home-requires c =
    let rows = rows_done c.requires.0 c.args.payment c.args.found.items c.requires.1 c.requires.2 in
    (rows.home, rows.customer, rows.found_is)

pub returns : goal.returns
returns c =
    let found = c.rows_found-home.result in
    rows_follow c.args.payment c.args.found.items found.0 found.1 c.decided.result c.rows_found-home.ensures c.decided.ensures
