use Rattle.std.proofs.Common.{◌≡◌, ◌∙◌, ℕ, List, sym, ap, arith}
use Rattle.std.specs.Prelude.{filter}
use Rattle.local_locks.specs.EntryPlaces.{is_among, is_used_at, kept_if}
use Rattle.local_locks.proofs.WantedPlaces.{absent_looked, all_looked, looked, none_looked, stays}
use Rattle.local_locks.proofs.entries.keep_used.Goals as goal
use Rattle.local_locks.proofs.entries.keep_used.Goals.{then-has, else-has}

pub loop-place-init : goal.loop-place-init
loop-place-init g c = none_looked (is_used_at c.args.locks.now c.args.waiters.now) c.args.entries.now

pub loop-place-preserved : goal.loop-place-preserved
loop-place-preserved g c =
    let used = is_used_at c.args.locks.now c.args.waiters.now in
    let place = c.loop-place.place in
    let so_far : c.loop-place.entries ≡ filter (stays used place) c.args.entries.now = c.loop-place.invariant in
    elim c.if-has.branch [
      | then-has w ↦ w.entries-is ∙ w.leave_if_unused.ensures ∙ ap (kept_if (used place) place) so_far ∙ looked used place c.args.entries.now
      | else-has w ↦ w.entries-is ∙ so_far ∙ absent_looked used place c.args.entries.now (ap (λ (ps : List ℕ). is_among ps place) (sym so_far) ∙ sym c.has.ensures ∙ w.if-has.false)
    ]

pub returns : goal.returns
returns g c =
    let used = is_used_at c.args.locks.now c.args.waiters.now in
    let all : c.loop-place.place ≡ 105 = omega arith in
    c.loop-place.invariant ∙ ap (λ (n : ℕ). filter (stays used n) c.args.entries.now) all ∙ all_looked used c.args.entries.now c.requires.places
