use Rattle.std.proofs.Common.{rules, ◌≡◌, List, [], None, length, replicate, refl, sym, ap, arith}
use Rattle.transactions.specs.declared.work.Work.{Work}
use Rattle.transactions.proofs.Reached.{few_actions}
use Rattle.world.proofs.Admissions.{admits, desk_read, pass_read}
use Rattle.world.proofs.world.Parts.admit.Goals as goal

pub ask-pass-requires-clause-session : goal.ask-pass-requires-clause-session
ask-pass-requires-clause-session g c =
    let desks = c.args.self.now.desk.sessions.items in
    let desk = c.index_mut.result.now in
    pass_read desks c.args.session desk c.requires.sessions (desk_read desks c.args.session desk c.requires.here c.index_mut.ensures.value).0

pub convene-meeting-requires-clause-some : goal.convene-meeting-requires-clause-some
convene-meeting-requires-clause-some g c =
    let some = c.phases_have_actions.ensures c.begin-progress.result in
    omega (arith, some, ap (λ (ws : List Work). length ws) c.in_ok-works.ensures)

pub convene-meeting-requires-clause-few : goal.convene-meeting-requires-clause-few
convene-meeting-requires-clause-few g c =
    let shared = c.args.self.now.catalog in
    let asked = c.args.request.now in
    let reached = c.begin-progress.ensures shared asked [] (record { is = sym c.in_ok-try_clone.ensures; accepted = c.requires.accepted; none = refl }) in
    omega (arith, few_actions shared asked c.begin-progress.result [] reached, ap (λ (ws : List Work). length ws) c.in_ok-works.ensures)

pub returns-clause-admitted : goal.returns-clause-admitted
returns-clause-admitted g c =
    let old = c.args.self.now in
    let asked = c.args.request.now in
    let desk = c.index_mut.result.now in
    let meeting : c.convene-meeting.result ≡ replicate (length c.in_ok-works.works.items) None = search rules in
    let read = desk_read old.desk.sessions.items c.args.session desk c.requires.here c.index_mut.ensures.value in (
      desk,
      (
        read.0,
        admits c.args.session c.args.number asked desk c.ask-pass.new.desk old _ _ _ _ read.1
            refl refl c.in_ok-own.ensures c.in_ok-held.ensures c.requires.free
            (λ shared accepted. c.begin-progress.ensures shared asked [] (record { is = sym c.in_ok-try_clone.ensures; accepted = accepted; none = refl }))
            c.ask-pass.ensures.pass c.in_ok-works.ensures meeting c.ask-pass.ensures.seat c.ask-pass.ensures.away
            refl refl c.put.ensures refl refl refl c.put-2.ensures refl,
      ),
    )
