use Rattle.std.proofs.Common.{[], ◌∷◌, sym, subst, ◌∙◌}
use Rattle.tickets.specs.Claims.{ClaimView}
use Rattle.slices.specs.SliceView.{SliceView, SliceKeeps}
use Rattle.transactions.proofs.Kept as kept
use Rattle.transactions.proofs.new_order.home_rows.take_number.Goals as goal
use Rattle.transactions.proofs.new_order.home_rows.take_number.Goals.{in-Some-next+in_ok-put_district, in_default-next}

pub returns-clause-kept : goal.returns-clause-kept
returns-clause-kept g c =
    let warehouse = c.args.warehouse.now in
    let district = c.args.district.now in
    let start = c.args.slice.now in
    let read = c.look.new.claim in
    let looked = kept.unchanged (warehouse ∷ district ∷ []) (read ∷ c.look-2.new.claim ∷ []) start c.look-2.new.self
    (λ i. c.look.ensures.same.1 i ∷ c.look-2.ensures.same.1 i ∷ []) (c.look-2.ensures.same.0 ∙ c.look.ensures.same.0) in
    elim c.match-next.branch [
      | in-Some-next+in_ok-put_district w ↦
          subst (λ (ends : ClaimView × SliceView). SliceKeeps (warehouse ∷ district ∷ []) start (read ∷ ends.0 ∷ []) ends.1) (λ i. (sym w.district-is i, sym w.slice-is i))
          (kept.then _ _ _ _ _ _ looked (kept.behind c.look-2.new.claim w.put_district.new.claim read c.look-2.new.self w.put_district.new.self w.in_ok-put_district.ensures.kept))
      | in_default-next w ↦
          subst (λ (ends : ClaimView × SliceView). SliceKeeps (warehouse ∷ district ∷ []) start (read ∷ ends.0 ∷ []) ends.1) (λ i. (sym w.district-is i, sym w.slice-is i)) looked
    ]
