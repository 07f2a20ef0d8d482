use Rattle.std.proofs.Common.{◌≡◌, arith, ap, subst, ◌∙◌}
use Rattle.std.specs.Prelude.{slice_get}
use Rattle.partitions.specs.Parts.{shared_of}
use Rattle.range_moves.specs.Placements.{route_of}
use Rattle.world.specs.Happening.{SubmitsAt, begins_at, beginning_at, has_room, submission}
use Rattle.world.proofs.Executing.{GoesOnWith}
use Rattle.world.proofs.Sent.{one_put, submits_at}
use Rattle.history.specs.declared.event.Event.TheVariants.{Submit}
use Rattle.world.proofs.world.Core.submit.Goals as goal
use Rattle.world.proofs.world.Core.submit.Given as given
use Rattle.world.proofs.world.Core.submit.Goals.{After-hand_out}

pub hand_out-requires-clause-one : goal.hand_out-requires-clause-one
hand_out-requires-clause-one g c =
    let old = c.args.self.now in
    (one_put c.has_room-has_room.result (slice_get old.parts.desk.sessions.items c.args.session) c.args.session c.args.number c.args.request.now old.parts c.submit-answer.new.self c.submit-answer.result
    c.submit-answer.ensures c.requires.sound.no_inbox).0

pub hand_out-requires-clause-room : goal.hand_out-requires-clause-room
hand_out-requires-clause-room g c = λ some.
    let old = c.args.self.now in
    c.has_room-has_room.ensures.room
    ((one_put c.has_room-has_room.result (slice_get old.parts.desk.sessions.items c.args.session) c.args.session c.args.number c.args.request.now old.parts c.submit-answer.new.self c.submit-answer.result
    c.submit-answer.ensures c.requires.sound.no_inbox).1 some)

goes_on : (g : given.Over) (c : After-hand_out g) → GoesOnWith (shared_of g.J.LogNames.opening) c.args.self.now (Submit c.args.session c.args.number c.args.request.now) c.submit-answer.result c.hand_out.new.self
goes_on g c =
    submits_at (shared_of g.J.LogNames.opening) c.args.self.now c.requires.sound c.args.session c.args.number c.args.request.now c.route-to.result (omega (arith, c.route-to.ensures.below, c.requires.sound.inboxes))
    c.has_room-has_room.result c.submit-answer.result c.submit-answer.new.self c.hand_out.new.self c.submit-answer.ensures c.hand_out.ensures

pub returns-clause-sound : goal.returns-clause-sound
returns-clause-sound g c = (goes_on g (goal.at.returns-clause-sound g c).After-hand_out).0

pub returns-clause-advances : goal.returns-clause-advances
returns-clause-advances g c = (goes_on g (goal.at.returns-clause-advances g c).After-hand_out).1

pub returns-clause-happens : goal.returns-clause-happens
returns-clause-happens g c =
    let old = c.args.self.now in
    let parts = c.submit-answer.new.self in
    let answer = c.submit-answer.result in
    let to_is : c.route-to.result ≡ begins_at c.args.request.now old = c.route-to.ensures.executor ∙ ap (route_of old.placements) c.home_of_request.ensures in
    let room_is : c.has_room-has_room.result ≡ has_room (begins_at c.args.request.now old) old =
    c.has_room-has_room.ensures.limit ∙ ap (λ t. has_room t old) to_is in (
      parts,
      (
        subst (λ b. SubmitsAt (submission b c.args.session c.args.number c.args.request.now) (slice_get old.parts.desk.sessions.items c.args.session) old.parts answer parts) room_is c.submit-answer.ensures,
        subst (λ t. c.hand_out.new.self ≡ beginning_at t parts old) to_is c.hand_out.ensures,
      ),
    )
