use Rattle.std.proofs.Common.{◌≡◌, ◌+◌, ◌-◌, eqb, ap, sym, ◌∙◌, arith}
use Rattle.std.specs.Prelude.{ℕ, ◌++◌}
use Rattle.indexmap.specs.IndexSet.{insert_key, spare}
use Rattle.local_locks.proofs.WantedPlaces.{inserted, none_after, none_before, skipped, so_far}
use Rattle.local_locks.proofs.entries.insert_wanted.Goals as goal
use Rattle.local_locks.proofs.entries.insert_wanted.Goals.{then-wanted-place, else-wanted-place}

pub loop-place-init : goal.loop-place-init
loop-place-init g c = record { keys = none_before c.args.wants.now c.args.places.now.keys c.args.first c.requires.bounds.before; room = c.requires.room }

pub loop-place-preserved : goal.loop-place-preserved
loop-place-preserved g c =
    let wants = c.args.wants.now in
    let old = c.args.places.now.keys in
    let place = c.loop-place.place in
    let known = c.loop-place.invariant in
    let test = c.wanted_places-wanted.ensures place (omega (arith, c.loop-place-test.true, c.requires.bounds.inside)) in
    record {
      keys = elim c.if-wanted-place.branch [
        | then-wanted-place w ↦ ap (λ s. s.keys) w.places-is ∙ w.insert_reserved.ensures.keys ∙ ap (λ ks. insert_key eqb ks place) known.keys ∙ inserted wants old place (sym test ∙ w.if-wanted-place.true)
        | else-wanted-place w ↦ ap (λ s. s.keys) w.places-is ∙ known.keys ∙ skipped wants old place (sym test ∙ w.if-wanted-place.false)
      ];
      room = elim c.if-wanted-place.branch [
        | then-wanted-place w ↦ omega (arith, known.room, c.loop-place-test.true, ap {B = ℕ} spare w.places-is, w.insert_reserved.ensures.room)
        | else-wanted-place w ↦ omega (arith, known.room, c.loop-place-test.true, ap {B = ℕ} spare w.places-is)
      ];
    }

pub returns : goal.returns
returns g c =
    let wants = c.args.wants.now in
    let old = c.args.places.now.keys in
    let bounds = c.requires.bounds in
    let all : c.loop-place.place ≡ c.args.end = omega (arith, bounds.rising) in
    let last : c.args.end + (105 - c.args.end) ≡ 105 = omega (arith, bounds.inside) in
    c.loop-place.invariant.keys ∙ ap (λ (n : ℕ). old ++ so_far wants old n) all ∙ none_after wants old c.args.end (105 - c.args.end) bounds.after ∙ ap (λ (n : ℕ). old ++ so_far wants old n) last
