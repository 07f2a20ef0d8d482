use Rattle.std.proofs.Common.{◌≡◌, ◌++◌, OnOk, sym, subst}
use Rattle.requests.specs.Script.{parts_of}
use Rattle.requests.specs.declared.terminal_request.TerminalRequest.{TerminalRequest}
use Rattle.requests.proofs.script.push_parts.Goals as goal

pub returns-in-Delivery : goal.returns-in-Delivery
returns-in-Delivery c =
    let Pushed : TerminalRequest → Type 0 = λ asked. OnOk c.push_deliveries.result (c.push_deliveries.new.parts.items ≡ c.args.parts.now.items ++ parts_of c.args.number asked) in
    subst Pushed (sym c.in-Delivery.is) c.push_deliveries.ensures
