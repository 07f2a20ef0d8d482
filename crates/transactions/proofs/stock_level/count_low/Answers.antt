use Rattle.std.proofs.Common.{◌≡◌, ◌<◌, ◌==◌, ℕ, true, false, length, refl, sym, ap, subst, ◌∙◌, arith}
use Rattle.std.specs.Prelude.{slice_index_or, slice_set, List}
use Rattle.std.proofs.lemmas.Bool.Decides.{nat_tests}
use Rattle.std.proofs.lemmas.List.{get_or_default, set-get_or}
use Rattle.schema.specs.Database.{Database}
use Rattle.partitions.specs.Parts.{Part}
use Rattle.groups.specs.Groups.{warehouse_of}
use Rattle.groups.specs.Content.{content}
use Rattle.groups.specs.declared.group_wants.Mode.TheVariants.{Shared}
use Rattle.tickets.specs.Claims.{ClaimView}
use Rattle.slices.specs.SliceView.{SliceView}
use Rattle.machine.specs.StockLevel.{low_stock}
use Rattle.transactions.specs.StockLevel.{IsLowFound}
use Rattle.transactions.proofs.StockLevelRead.{low_is_found, shared_at}
use Rattle.transactions.proofs.stock_level.count_low.Goals as goal

pub look-requires : goal.look-requires
look-requires g c =
    let w_id = c.args.asked.home.w_id in
    let stock = c.loop-claim.invariant.stock in
    let within : c.loop-claim.claim < length c.args.stock.now = omega (arith, c.loop-claim-test.true, c.loop-claim.auto.claim-end, c.loop-claim.auto.stock, ap (λ (cs : List ClaimView). length cs) stock) in
    let group = (shared_at w_id c.args.stock.now c.requires.claims c.loop-claim.claim c.index-stock-claim-in-loop-claim.result within).group in
    record {
      home =
          ap (λ (cs : List ClaimView). warehouse_of (slice_index_or cs c.loop-claim.claim c.index-stock-claim-in-loop-claim.result).group) stock
          ∙ ap warehouse_of group ∙ c.requires.home ∙ ap (λ (s : SliceView). s.home) (sym c.loop-claim.invariant.slice);
    }

pub loop-claim-preserved : goal.loop-claim-preserved
loop-claim-preserved g c =
    let k = c.loop-claim.claim in
    let stock = c.loop-claim.stock in
    let first = c.args.stock.now in
    let t = c.args.slice.now.tables in
    let same = c.loop-claim.invariant.stock in
    let within : k < length first = omega (arith, c.loop-claim-test.true, c.loop-claim.auto.claim-end, c.loop-claim.auto.stock, ap (λ (cs : List ClaimView). length cs) same) in
    let looked = c.index-stock-claim-in-loop-claim.result in
    let seen = c.index-stock-claim.result in
    let is : (e d : ClaimView) → slice_index_or stock k e ≡ slice_index_or first k d = λ e d. ap (λ (cs : List ClaimView). slice_index_or cs k e) same ∙ get_or_default first k e d within in
    let left : (d : ClaimView) → (slice_index_or first k d).left ≡ content t (slice_index_or first k d).group = λ d.
    subst (λ (claim : ClaimView). claim.left ≡ content t claim.group) (is looked d) (c.look.ensures.left ∙ ap (λ (s : SliceView). content s.tables (slice_index_or stock k looked).group) c.loop-claim.invariant.slice) in
    let untouched : (d : ClaimView) → (slice_index_or first k d).left ≡ (slice_index_or first k d).recorded = λ d.
    subst (λ (claim : ClaimView). claim.left ≡ claim.recorded) (is seen d)
    (c.look_untouched.ensures.left (subst (λ (claim : ClaimView). claim.mode ≡ Shared) (sym (is seen d)) (shared_at c.args.asked.home.w_id first c.requires.claims k d within).mode)) in
    record {
      slice = c.look.ensures.same.0 ∙ c.loop-claim.invariant.slice;
      stock = ap (slice_set stock k) c.look.ensures.same.1 ∙ set-get_or stock k _ ∙ same;
      recorded = λ n d less.
          elim (n == k) as (λ b. (n == k) ≡ b → (slice_index_or first n d).recorded ≡ content t (slice_index_or first n d).group) [
            | true ↦ λ e.
                let same_place : k ≡ n = grind (arith, nat_tests) in
                subst (λ (m : ℕ). (slice_index_or first m d).recorded ≡ content t (slice_index_or first m d).group) same_place (sym (untouched d) ∙ left d)
            | false ↦ λ e. let before : n < k = grind (arith, nat_tests) in c.loop-claim.invariant.recorded n d before
          ] refl;
    }

pub returns-clause-counted : goal.returns-clause-counted
returns-clause-counted g c =
    let s = c.args.asked in
    let first = c.args.stock.now in
    let t = c.args.slice.now.tables in
    let end : length first ≡ c.loop-claim.claim =
    omega (arith, c.loop-claim-test.false, c.loop-claim.auto.claim-end, c.loop-claim.auto.stock, ap (λ (cs : List ClaimView). length cs) c.loop-claim.invariant.stock) in
    let rows = ap (λ (p : Part). p.tables) c.partition.ensures.rows ∙ ap (λ (s : SliceView). s.tables) c.loop-claim.invariant.slice in
    let counted = c.low_stock.ensures.value ∙ ap (λ (u : Database). low_stock u s.home.w_id s.threshold c.items.inside.ids.items) rows ∙ ap (low_stock t s.home.w_id s.threshold) c.items.view_is in
    subst (λ (cs : List ClaimView). IsLowFound s c.args.items c.low_stock.result cs) (sym c.loop-claim.invariant.stock)
    (low_is_found t s c.args.items c.low_stock.result first c.requires.claims (λ k d less. c.loop-claim.invariant.recorded k d (omega (arith, less, end))) counted)
