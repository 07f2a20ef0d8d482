use Rattle.std.proofs.Common.{rules, ◌≡◌, ◌∷◌, [], ◌++◌, length, sym, ◌∙◌, arith}
use Rattle.tickets.specs.Boxes.{sharing}
use Rattle.tickets.specs.LogSeats.{committed}
use Rattle.tickets.proofs.AllOpened.{next_opening, named_at, one_more, pushed}
use Rattle.tickets.proofs.opening.named_all.Goals as goal

pub named-ticket_box-requires-clause-committed : goal.named-ticket_box-requires-clause-committed
named-ticket_box-requires-clause-committed g c =
    let rest : c.loop-opening.opening-iterator.rest.items ≡ c.in-Some.opening ∷ c.next.new.self.rest.items = search rules in
    let next = next_opening c.args.openings.items c.next.new.self.rest.items (length c.loop-opening.seats.items) c.in-Some.opening (sym c.loop-opening.invariant.rest ∙ rest) in
    (named_at c.args.warehouses g.J.GroupNames.committed g.J.GroupNames.work c.args.openings.items c.group_at-group.result (length c.loop-opening.seats.items) c.in-Some.opening c.requires.names c.group_at-group.ensures.known (omega (arith, c.group_at-group.ensures.place)) next.1).0

pub named-ticket_box-requires-clause-work : goal.named-ticket_box-requires-clause-work
named-ticket_box-requires-clause-work g c =
    let rest : c.loop-opening.opening-iterator.rest.items ≡ c.in-Some.opening ∷ c.next.new.self.rest.items = search rules in
    let next = next_opening c.args.openings.items c.next.new.self.rest.items (length c.loop-opening.seats.items) c.in-Some.opening (sym c.loop-opening.invariant.rest ∙ rest) in
    (named_at c.args.warehouses g.J.GroupNames.committed g.J.GroupNames.work c.args.openings.items c.group_at-group.result (length c.loop-opening.seats.items) c.in-Some.opening c.requires.names c.group_at-group.ensures.known (omega (arith, c.group_at-group.ensures.place)) next.1).1

pub loop-opening-preserved : goal.loop-opening-preserved
loop-opening-preserved g c =
    let rest : c.loop-opening.opening-iterator.rest.items ≡ c.in-Some.opening ∷ c.next.new.self.rest.items = search rules in
    let seats : c.push-in-loop-opening.new.self.items ≡ c.loop-opening.seats.items ++ committed c.group_at-group.result c.in-Some.opening.content ∷ [] =
    pushed c.loop-opening.seats.items c.push-in-loop-opening.new.self.items c.named-ticket_box.result.1 (committed c.group_at-group.result c.in-Some.opening.content) c.in_ok-push-2.ensures.items c.named-ticket_box.ensures.log in
    let boxes : c.push.new.self.items ≡ c.loop-opening.boxes.items ++ sharing c.group_at-group.result c.in-Some.opening.content 0 ∷ [] =
    pushed c.loop-opening.boxes.items c.push.new.self.items c.named-ticket_box.result.0 (sharing c.group_at-group.result c.in-Some.opening.content 0) c.in_ok-push.ensures.items c.named-ticket_box.ensures.ticket_box in
    let more = one_more c.args.warehouses c.args.openings.items c.next.new.self.rest.items c.loop-opening.seats.items c.push-in-loop-opening.new.self.items c.loop-opening.boxes.items c.push.new.self.items c.in-Some.opening c.group_at-group.result
    (sym c.loop-opening.invariant.rest ∙ rest) c.loop-opening.invariant.places c.loop-opening.invariant.contents c.loop-opening.invariant.boxes c.group_at-group.ensures.known (omega (arith, c.group_at-group.ensures.place)) seats boxes in
    record { can_next = tt; finite = tt; rest = more.0; places = more.1; contents = more.2; boxes = more.3 }
