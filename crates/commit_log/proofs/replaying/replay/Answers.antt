use Rattle.std.proofs.Common.{refl}
use Rattle.std.proofs.lemmas.Option.{slice_get_read}
use Rattle.commit_log.proofs.Repeated.{one_more_so_far}
use Rattle.commit_log.proofs.replaying.replay.Goals as goal

pub loop-place-preserved : goal.loop-place-preserved
loop-place-preserved c =
    let said = c.in_ok-repeats.ensures in
    let same = c.if-not-branch.false in
    one_more_so_far c.args.opening c.args.entries.now c.loop-place.place c.loop-place.plain c.repeats.new.plain c.index-entries-place.result
    (slice_get_read _ _ _ _ refl c.loop-place-test.true c.index-entries-place.is) c.loop-place.invariant (said.does same) (said.done same)
