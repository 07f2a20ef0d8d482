use Rattle.machine.proofs.ChosenRows.{by_name}
use Rattle.machine.proofs.choosing.chosen_number.Goals as goal

pub returns-in-LastName : goal.returns-in-LastName
returns-in-LastName g c =
    by_name (g.T.Rows.tables c.args.tables.now).customers c.args.home c.args.choice.now c.in-LastName.last c.as_str.result.now c.middle_of.result c.as_str.ensures.bytes c.in-LastName.is c.middle_of.ensures
