use Rattle.std.proofs.Common.{◌≡◌, ◌≤◌, ◌-◌, ◌+◌, ℕ, List, [], ◌∷◌, sym, ap, subst, ◌∙◌, arith}
use Rattle.local_locks.specs.Rulings.{IsRuling, joined, Spot, spot, spots, spots_of, first_place, count_in}
use Rattle.local_locks.specs.declared.rulings.Ruling.{Ruling}
use Rattle.local_locks.specs.declared.rulings.Ruling.TheVariants.{Free}
use Rattle.local_locks.proofs.Joins.{both, free_of_none}
use Rattle.local_locks.proofs.Spots.{spots-walked, spots_none}
use Rattle.local_locks.proofs.rulings.ruling_on_want.Goals as goal

pub loop-number-init : goal.loop-number-init
loop-number-init g c =
    let P : List Spot → Type 0 = λ wanted. IsRuling c.args.age c.args.locks.now wanted Free in
    let none = spots_none c.places_of-first.result.0 (c.places_of-first.result.0 - c.places_of-first.result.0) c.args.want.mode (omega arith) in
    subst P (sym none) (free_of_none c.args.age c.args.locks.now)

pub loop-number-preserved : goal.loop-number-preserved
loop-number-preserved g c =
    let first = c.places_of-first.result.0 in
    let from : first ≤ c.loop-number.number = omega arith in
    let walked = spots-walked first c.loop-number.number c.args.want.mode from in
    let now = both c.args.age c.args.locks.now (spots first (c.loop-number.number - first) c.args.want.mode) (spot c.loop-number.number c.args.want.mode ∷ []) c.loop-number.ruling c.ruling_at.result c.loop-number.invariant c.ruling_at.ensures in
    let P : Ruling → Type 0 = λ r. IsRuling c.args.age c.args.locks.now (spots first (c.loop-number.number + 1 - first) c.args.want.mode) r in
    let Q : List Spot → Type 0 = λ wanted. IsRuling c.args.age c.args.locks.now wanted (joined c.loop-number.ruling c.ruling_at.result) in
    subst P (sym c.join-ruling.ensures) (subst Q (sym walked) now)

pub returns : goal.returns
returns g c =
    let first = c.places_of-first.result.0 in
    let count : c.loop-number.number - first ≡ count_in c.args.want.extent = omega arith in
    let P : List Spot → Type 0 = λ wanted. IsRuling c.args.age c.args.locks.now wanted c.loop-number.ruling in
    let same : spots first (c.loop-number.number - first) c.args.want.mode ≡ spots_of c.args.want =
    ap (λ (n : ℕ). spots n (c.loop-number.number - first) c.args.want.mode) c.places_of-first.ensures.first ∙ ap (λ (n : ℕ). spots (first_place c.args.want.extent) n c.args.want.mode) count in
    subst P same c.loop-number.invariant
