use Rattle.std.proofs.Common.{sym}
use Rattle.std.proofs.lemmas.Option.{slice_get_read}
use Rattle.queues.proofs.KeptDesks.{is_desk_set, put_more}
use Rattle.queues.proofs.desk.Desk.put.Goals as goal

pub invariant_of-self : goal.invariant_of-self
invariant_of-self g c =
    let desk = c.self.invariant in
    let at = slice_get_read c.self.inside.senders.items _ c.args.to c.index_mut.result.now (sym desk.count) c.requires c.index_mut.ensures.value in
    is_desk_set _ _ _ _ _ c.args.to _ c.put.new.self desk at c.put.ensures.same.0 c.put.ensures.same.1

pub returns-clause-put : goal.returns-clause-put
returns-clause-put g c =
    let desk = c.self.invariant in
    let at = slice_get_read c.self.inside.senders.items _ c.args.to c.index_mut.result.now (sym desk.count) c.requires c.index_mut.ensures.value in
    put_more c.put.result c.self.inside.number c.self.inside.senders.items c.self.inside.taker c.args.to c.index_mut.result.now c.put.new.self c.args.message c.args.self.now at c.self.view_is c.put.ensures.put
