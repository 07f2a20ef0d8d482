use Rattle.std.proofs.Common.{subst, arith}
use Rattle.commit_log.specs.declared.entry.Entry.{Entry}
use Rattle.transactions.specs.Logged.{Logs, log_and_claims}
use Rattle.world.proofs.Logging.{as_many_hold}
use Rattle.world.proofs.world.Parts.commit.Goals as goal

pub release-requires : goal.release-requires
release-requires g c =
    let t = c.args.commit.transaction in
    let now = c.log-answer in
    let entry : Entry = record { session = c.session.result; number = t.number; request = t.request; reply = c.args.commit.reply } in
    record {
      room = omega (arith, c.requires.room, c.requires.can.few, as_many_hold g.J.LogNames.most entry t.pass (log_and_claims c.args.self.now.log t.held) (log_and_claims now.new.log now.new.self) now.result now.ensures);
      slot = c.requires.can.slot;
      few = omega (arith, c.requires.can.few, as_many_hold g.J.LogNames.most entry t.pass (log_and_claims c.args.self.now.log t.held) (log_and_claims now.new.log now.new.self) now.result now.ensures);
    }

pub returns : goal.returns
returns g c =
    let t = c.args.commit.transaction in
    let now = c.log-answer in
    record {
      logged = now.result;
      log = now.new.log;
      held = now.new.self;
      logs = subst
          (λ n. Logs {J = g.row.J.Denot} g.J.LogNames.most (record { session = n; number = t.number; request = t.request; reply = c.args.commit.reply }) t.pass (log_and_claims c.args.self.now.log t.held) now.result (log_and_claims now.new.log now.new.self))
          c.session.ensures now.ensures;
      answered = c.recorded_of.ensures;
      over = c.release.ensures;
    }
