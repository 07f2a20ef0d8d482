use Rattle.std.proofs.Common.{◌≡◌, [], ◌∷◌, refl, sym, ap, subst, ◌∙◌}
use Rattle.requests.specs.declared.group.Group.{Group}
use Rattle.groups.specs.Content.{content}
use Rattle.groups.specs.Groups.{group_of_warehouse}
use Rattle.groups.specs.Laws.{ChangesOneGroup}
use Rattle.groups.proofs.RowsPut.{each_put_changes_one_group}
use Rattle.tickets.specs.Claims.{ClaimView, leaving}
use Rattle.transactions.proofs.Kept as kept
use Rattle.transactions.proofs.Returned.{put_back}
use Rattle.transactions.proofs.payment.put_home.Goals as goal

pub returns-in-Ok-clause-kept : goal.returns-in-Ok-clause-kept
returns-in-Ok-clause-kept g c =
    let district = c.args.district.now in
    kept.then _ _ _ _ _ _
    (kept.beside c.args.warehouse.now c.put_warehouse.new.claim district c.args.slice.now c.put_warehouse.new.self c.in_ok-put_warehouse.ensures.kept)
    (kept.behind district c.put_district.new.claim c.put_warehouse.new.claim c.put_warehouse.new.self c.put_district.new.self c.in-Ok.ensures.kept)

pub returns-in-Err-clause-kept : goal.returns-in-Err-clause-kept
returns-in-Err-clause-kept g c =
    let district = c.args.district.now in
    let put = c.put_warehouse.new.claim in
    let still = c.put_district.new.claim in
    let same = c.in-Err.ensures.err in
    kept.then _ _ _ _ _ _
    (kept.beside c.args.warehouse.now put district c.args.slice.now c.put_warehouse.new.self c.in_ok-put_warehouse.ensures.kept)
    (kept.then _ _ _ _ _ _
    (kept.unchanged (put ∷ district ∷ []) (put ∷ still ∷ []) c.put_warehouse.new.self c.put_district.new.self (λ i. put ∷ same.1 i ∷ []) same.0)
    (kept.beside put c.undo.new.claim still c.put_district.new.self c.undo.new.self c.undo.ensures.kept))

-- the warehouse's row is taken back, and is what it was
pub returns-in-Err-clause-err : goal.returns-in-Err-clause-err
returns-in-Err-clause-err g c =
    let t = c.args.slice.now.tables in
    let own = group_of_warehouse c.args.payment.now.home.w_id in
    let was = c.args.warehouse.now in
    let put = c.put_warehouse.new.claim in
    let same = c.in-Err.ensures.err in
    let made = c.in_ok-put_warehouse.ensures.claim in
    let fresh = c.requires.warehouse_fresh in
    let on : put.group ≡ own = ap (λ (k : ClaimView). k.group) made ∙ c.requires.warehouse_claim.group in
    let had : content t own ≡ put.back =
    ap (content t) (sym c.requires.warehouse_claim.group) ∙ sym c.requires.warehouse_left ∙ fresh.left ∙ sym fresh.back ∙ sym (ap (λ (k : ClaimView). k.back) made) in
    let before : leaving was was.back ≡ was = ap (leaving was) (fresh.back ∙ sym fresh.left) in (
      put_back own put.back c.args.slice.now c.put_district.new.self c.undo.new.self _ put c.undo.new.claim (same.0 ∙ c.in_ok-put_warehouse.ensures.rows) refl refl
          ((each_put_changes_one_group t).warehouses c.args.payment.now.home.w_id c.args.warehouse_row).elsewhere had c.undo.ensures.kept
          (subst (λ (group : Group). ChangesOneGroup group (λ before. put.back) c.put_district.new.self.tables c.undo.new.self.tables) on c.undo.ensures.rows) c.undo.ensures.locks,
      c.undo.ensures.claim ∙ (λ i. leaving (made i) (made i).back) ∙ before,
      same.1,
    )
