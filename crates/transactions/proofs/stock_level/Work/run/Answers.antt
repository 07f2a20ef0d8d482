use Rattle.std.proofs.Common.{sym, subst}
use Rattle.std.specs.Prelude.{List}
use Rattle.tickets.specs.Claims.{ClaimView}
use Rattle.transactions.specs.declared.stock_level.Work.{Work}
use Rattle.transactions.specs.Granted.{AreGrantedFor, AreLeft}
use Rattle.transactions.specs.StockLevel.{group_wants_of}
use Rattle.transactions.proofs.StockLevelRead.{granted_shared, left_themselves}
use Rattle.transactions.proofs.stock_level.Work.run.Goals as goal

pub count_low-requires-clause-claims : goal.count_low-requires-clause-claims
count_low-requires-clause-claims g c =
    granted_shared c.in-CountLow.asked.home.w_id c.args.claims.now (subst (λ (work : Work). AreGrantedFor (group_wants_of work) c.args.claims.now) c.in-CountLow.is c.requires.granted)

pub returns-in-CountLow-clause-left : goal.returns-in-CountLow-clause-left
returns-in-CountLow-clause-left g c = subst (λ (cs : List ClaimView). AreLeft c.args.claims.now cs) (sym c.count_low.ensures.same.1) (left_themselves c.args.claims.now)
