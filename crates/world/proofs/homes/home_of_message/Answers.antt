use Rattle.std.proofs.Common.{◌≡◌, ◌≤◌, length, sym, subst}
use Rattle.transactions.proofs.ClaimHomes.{home_is}
use Rattle.world.specs.declared.flight.Message.{Message}
use Rattle.world.specs.Envelopes.{HasHome, home_of_message}
use Rattle.world.proofs.homes.home_of_message.Goals as goal

pub returns-in-Settle : goal.returns-in-Settle
returns-in-Settle g c =
    let claims = c.in-Settle.claims in
    let home = c.home-in-Settle.result in
    let some : 1 ≤ length claims = subst (λ (m : Message g.row.J.Denot). HasHome m) c.in-Settle.is c.requires in
    subst (λ (m : Message g.row.J.Denot). home ≡ home_of_message m) (sym c.in-Settle.is) (home_is claims home some c.home-in-Settle.ensures.home)

pub returns-in-Undo : goal.returns-in-Undo
returns-in-Undo g c =
    let claims = c.in-Undo.claims in
    let home = c.home-in-Undo.result in
    let some : 1 ≤ length claims = subst (λ (m : Message g.row.J.Denot). HasHome m) c.in-Undo.is c.requires in
    subst (λ (m : Message g.row.J.Denot). home ≡ home_of_message m) (sym c.in-Undo.is) (home_is claims home some c.home-in-Undo.ensures.home)
