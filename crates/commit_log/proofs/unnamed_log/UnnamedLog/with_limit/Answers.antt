use Rattle.commit_log.specs.declared.unnamed_log.Lane.{Lane}
use Rattle.commit_log.proofs.Opening.{new_lane, lane_more}
use Rattle.commit_log.proofs.unnamed_log.UnnamedLog.with_limit.Goals as goal

pub loop-session-preserved : goal.loop-session-preserved
loop-session-preserved c =
    let so_far = c.loop-session.invariant in
    let lane : Lane = record { mark = c.in_ok-mark.mark; mine = c.in_ok-logged.logged; asks = c.in_ok-asks.asks; asked = c.in_ok-asks.asked } in
    let new = new_lane c.loop-session.length lane c.in_ok-logged.log_logged so_far.empty c.in_ok-mark.ensures.mark c.in_ok-logged.ensures c.in_ok-asks.ensures in
    rw (c.in_ok-mark.ensures.same, c.in_ok-push.ensures.items, c.in_ok-push_back.ensures.items) (lane_more _ _ _ _ lane c.in_ok-logged.log_logged so_far c.in_ok-logged.ensures.1 new)
