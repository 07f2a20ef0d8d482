-- What the actions of a Stock-Level found holds in all tables that their claims record.
use Rattle.std.proofs.Common.{◌≡◌, ℕ, zero, suc, ◌+◌, ◌<◌, List, [], ◌∷◌, None, length, map, refl, sym, ap, subst, ◌∙◌, arith}
use Rattle.std.specs.Prelude.{slice_index_or}
use Rattle.std.specs.List.{range_with_len}
use Rattle.rows.specs.declared.keys.DistrictKey.{DistrictKey}
use Rattle.rows.specs.declared.limits.TheConstants.{STOCK_GROUPS}
use Rattle.schema.specs.Database.{Database}
use Rattle.requests.specs.declared.group.Group.{Group}
use Rattle.requests.specs.declared.group.Group.TheVariants as g
use Rattle.requests.specs.declared.stock_level.StockLevel.{StockLevel}
use Rattle.groups.specs.Content.{content}
use Rattle.groups.specs.Content.Content.{OfDistrict}
use Rattle.groups.specs.declared.group_wants.Mode.TheVariants.{Shared}
use Rattle.tickets.specs.Claims.{ClaimView}
use Rattle.machine.specs.StockLevel.{low_stock, recent_items}
use Rattle.machine.proofs.StockLevelGroups.{same_items, same_low}
use Rattle.transactions.specs.Granted.{AreGrantedFor, AreLeft, IsSharedOn}
use Rattle.transactions.specs.StockLevel.{AreItemsFound, AreSharedOn, IsLowFound, stock_of}
use Rattle.transactions.proofs.StockLevelWorks.{stock_group_wants}
use Rattle.transactions.proofs.OrderStatusShown.{on_still, recorded_here}

-- the items of its last orders
pub items_are_found : (t : Database) (home : DistrictKey) (next : ℕ) (items : List ℕ) (was now : ClaimView) → IsSharedOn (g.Orders home.w_id home.d_id) was
    → was.left ≡ content t was.group → (was.mode ≡ Shared → was.left ≡ was.recorded) → now ≡ was → items ≡ recent_items t home next → AreItemsFound home next items now
items_are_found t home next items was now on left untouched same is =
    let own : Group = g.Orders home.w_id home.d_id in
    let claim = on_still t own was now on left untouched same in
    record {
      claim = claim;
      shown = λ s records.
          let alike : content t own ≡ content s own = sym (recorded_here t own was now on left untouched same) ∙ sym records ∙ ap (content s) claim.group in
          is ∙ same_items home next t s alike;
    }

-- ---- the claims on all stock

module _ (w_id : ℕ) where
  abbrev stock_from : ℕ → ℕ → List Group
  stock_from from count = map (λ (residue : ℕ). g.Stock w_id residue) (range_with_len from count)

  -- they are as many as the groups
  many_from : (from count : ℕ) (claims : List ClaimView) → AreSharedOn (stock_from from count) claims → length claims ≡ count
  many_from from zero [] on = refl
  many_from from zero (claim ∷ claims) on = absurd on
  many_from from (suc count) [] on = absurd on
  many_from from (suc count) (claim ∷ claims) on = ap suc (many_from (from + 1) count claims on.1)

  pub many : (claims : List ClaimView) → AreSharedOn (stock_of w_id) claims → length claims ≡ STOCK_GROUPS
  many claims on = many_from 0 STOCK_GROUPS claims on

  -- each is a shared one on the group of its residue
  at_from : (from count : ℕ) (claims : List ClaimView) → AreSharedOn (stock_from from count) claims → (k : ℕ) (d : ClaimView) → k < length claims
      → IsSharedOn (g.Stock w_id (from + k)) (slice_index_or claims k d)
  at_from from zero [] on k d less = absurd (omega arith)
  at_from from zero (claim ∷ claims) on k d less = absurd on
  at_from from (suc count) [] on k d less = absurd on
  at_from from (suc count) (claim ∷ claims) on zero d less =
      let here : from ≡ from + 0 = omega arith in
      subst (λ (residue : ℕ). IsSharedOn (g.Stock w_id residue) claim) here on.0
  at_from from (suc count) (claim ∷ claims) on (suc k) d less =
      let there : (from + 1) + k ≡ from + suc k = omega arith in
      subst (λ (residue : ℕ). IsSharedOn (g.Stock w_id residue) (slice_index_or claims k d)) there (at_from (from + 1) count claims on.1 k d (omega arith))

  pub shared_at : (claims : List ClaimView) → AreSharedOn (stock_of w_id) claims → (k : ℕ) (d : ClaimView) → k < length claims
      → IsSharedOn (g.Stock w_id k) (slice_index_or claims k d)
  shared_at claims on k d less =
      let same : 0 + k ≡ k = omega arith in
      subst (λ (residue : ℕ). IsSharedOn (g.Stock w_id residue) (slice_index_or claims k d)) same (at_from 0 STOCK_GROUPS claims on k d less)

  -- those that were granted for the wants are such
  granted_from : (from count : ℕ) (claims : List ClaimView) → AreGrantedFor (stock_group_wants w_id from count) claims → AreSharedOn (stock_from from count) claims
  granted_from from zero [] granted = tt
  granted_from from zero (claim ∷ claims) granted = absurd granted
  granted_from from (suc count) [] granted = absurd granted
  granted_from from (suc count) (claim ∷ claims) granted =
      (record { group = granted.0.group; mode = granted.0.mode }, granted_from (from + 1) count claims granted.1)

  pub granted_shared : (claims : List ClaimView) → AreGrantedFor (stock_group_wants w_id 0 STOCK_GROUPS) claims → AreSharedOn (stock_of w_id) claims
  granted_shared claims granted = granted_from 0 STOCK_GROUPS claims granted

-- claims that stay left what they left
pub left_themselves : (claims : List ClaimView) → AreLeft claims claims
left_themselves [] = tt
left_themselves (claim ∷ claims) = (refl, left_themselves claims)

-- how many of the items are low
pub low_is_found : (t : Database) (s : StockLevel) (items : List ℕ) (count : ℕ) (stock : List ClaimView) → AreSharedOn (stock_of s.home.w_id) stock
    → ((k : ℕ) (d : ClaimView) → k < length stock → (slice_index_or stock k d).recorded ≡ content t (slice_index_or stock k d).group)
    → count ≡ low_stock t s.home.w_id s.threshold items → IsLowFound s items count stock
low_is_found t s items count stock on recorded is = record {
  claims = on;
  shown = λ other records.
      let w_id = s.home.w_id in
      let alike : (residue : ℕ) → residue < STOCK_GROUPS → content t (g.Stock w_id residue) ≡ content other (g.Stock w_id residue) = λ residue less.
      let none : ClaimView = record { by = record { age = 0; place = 0 }; group = g.Stock w_id 0; mode = Shared; recorded = OfDistrict None; left = OfDistrict None; back = OfDistrict None } in
      let within : residue < length stock = omega (arith, less, many w_id stock on) in
      let group = (shared_at w_id stock on residue none within).group in
      ap (content t) (sym group) ∙ sym (recorded residue none within) ∙ sym (records residue none within) ∙ ap (content other) group in
      is ∙ same_low w_id t other alike s.threshold items;
}
