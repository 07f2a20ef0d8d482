use Rattle.std.proofs.Common.{◌≡◌, ◌+◌, ◌*◌, ◌-◌, length, refl, ap, arith}
use Rattle.files.specs.Taken.{fields_left}
use Rattle.terminals.specs.RequestColumns.{delivery_columns, lines_in, new_order_columns, order_status_columns, payment_columns, request_columns, stock_level_columns}
use Rattle.terminals.proofs.ColumnsTaken.{lines_long}
use Rattle.terminals.proofs.request.take.Goals as goal

pub returns-in_ok-asked-in-N-clause-size : goal.returns-in_ok-asked-in-N-clause-size
returns-in_ok-asked-in-N-clause-size c =
    let left = length (fields_left c.args.fields.now) in
    let lines = c.in_ok-asked-in-N.ensures.lines in
    let long = lines_long (lines_in c.args.count (left - 4)) in
    let size : length (new_order_columns c.args.count left) + 1 ≡ 5 + 3 * length c.in_ok-asked-in-N.asked.lines = omega (arith, lines, long) in
    (new_order_columns c.args.count left, ap (λ w. request_columns c.args.count w left) c.in-N.is, size)

pub returns-in-P-clause-size : goal.returns-in-P-clause-size
returns-in-P-clause-size c = (payment_columns, ap (λ w. request_columns c.args.count w (length (fields_left c.args.fields.now))) c.in-P.is, refl)

pub returns-in-O-clause-size : goal.returns-in-O-clause-size
returns-in-O-clause-size c = (order_status_columns, ap (λ w. request_columns c.args.count w (length (fields_left c.args.fields.now))) c.in-O.is, refl)

pub returns-in-D-clause-size : goal.returns-in-D-clause-size
returns-in-D-clause-size c = (delivery_columns, ap (λ w. request_columns c.args.count w (length (fields_left c.args.fields.now))) c.in-D.is, refl)

pub returns-in-L-clause-size : goal.returns-in-L-clause-size
returns-in-L-clause-size c = (stock_level_columns, ap (λ w. request_columns c.args.count w (length (fields_left c.args.fields.now))) c.in-L.is, refl)
