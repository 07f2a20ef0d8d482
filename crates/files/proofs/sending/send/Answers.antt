use Rattle.std.proofs.Common.{◌≡◌, take, arith, rules, take-add, append-nil, length-drop}
use Rattle.std.proofs.KnownBytes.{Appends-kept, Appends-nil, Appends-trans}
use Rattle.csv.proofs.WriteFacts.{slice-end}
use Rattle.files.proofs.Sent.{begins}
use Rattle.files.proofs.sending.send.Goals as goal
use Rattle.files.proofs.sending.send.Goals.{in-Ok, in-Err}

pub loop-init : goal.loop-init
loop-init g c = (omega arith, Appends-nil _)

pub returns-in-Ok-eq0-clause-begun : goal.returns-in-Ok-eq0-clause-begun
returns-in-Ok-eq0-clause-begun g c =
    let zero : c.in-Ok-eq0.field-0 ≡ 0 = search rules in
    let none = rw (c.in-Ok-eq0.is, zero) at c.write.ensures.bytes in
    begins _ _ c.args.bytes.now c.loop.sent (rw (append-nil (take c.loop.sent c.args.bytes.now)) at (Appends-trans _ _ _ _ _ c.loop.invariant.1 none))

pub returns-in-Err-2-clause-begun : goal.returns-in-Err-2-clause-begun
returns-in-Err-2-clause-begun g c = begins _ _ c.args.bytes.now c.loop.sent (Appends-kept _ _ _ _ c.loop.invariant.1 c.in-Err.ensures.bytes)

pub returns-clause-begun : goal.returns-clause-begun
returns-clause-begun g c = begins _ _ c.args.bytes.now c.loop.sent c.loop.invariant.1

pub loop-preserved : goal.loop-preserved
loop-preserved g c =
    let inv = c.loop.invariant in
    let all = c.args.bytes.now in
    let sent = c.loop.sent in
    elim c.match-write.branch [
      | in-Ok w ↦
          let more = rw (slice-end all sent) at w.in-Ok.ensures.bytes in
          let bound = rw (slice-end all sent) at w.in-Ok.ensures.bound in
          rw (w.sent-is, take-add sent w.in-Ok.count all) (omega (arith, inv.0, bound, length-drop sent all), Appends-trans _ _ _ _ _ inv.1 more)
      | in-Err w ↦ rw w.sent-is (inv.0, Appends-kept _ _ _ _ inv.1 w.in-Err.ensures.bytes)
    ]
