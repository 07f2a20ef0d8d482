-- The slice of a warehouse, and all slices.
use Rattle.std.proofs.Common.{◌≡◌, ℕ, ◌+◌, ◌-◌, ◌<◌, ◌≤◌, List, [], ◌∷◌, length, sym, ap, subst, ◌∙◌, leb, arith}
use Rattle.std.specs.Prelude.{All, IsTrue, slice_index_or, slice_set}
use Rattle.std.proofs.lemmas.Bool.{and_parts, leb-true}
use Rattle.std.proofs.lemmas.List.Elements.{All-nil}
use Rattle.schema.specs.declared.scale.Scale.{Scale}
use Rattle.schema.specs.Scale.{has_warehouse}
use Rattle.partitions.specs.Parts.{SharedTables, IsPartAt, shared_of}
use Rattle.groups.specs.Groups.{warehouse_of}
use Rattle.tickets.specs.Claims.{ClaimView}
use Rattle.wait_die.specs.declared.deciding.Holder.{Holder}
use Rattle.slices.specs.SliceView.{AreOfOneHome, AreSlicesOf, IsClaimAt, SliceKeeps, SliceView, SlicesKeep, holdings_in, joined, part_in}
use Rattle.slices.proofs.Joined.{held_here, homed_from_one, one_slice_keeps_all}
use Rattle.transactions.specs.declared.acting.Ran.{Ran}
use Rattle.transactions.specs.declared.acting.Ran.TheVariants as ran
use Rattle.transactions.specs.declared.work.Work.{Work}
use Rattle.transactions.specs.Acting.{IsRan, claims_of_ran}
use Rattle.transactions.specs.Works.{CanDo, home_of}
use Rattle.transactions.proofs.GroupWanted.{works_are_at_warehouses, works_are_done_at_home}

-- ---- a slice among all

-- A warehouse of the scale, and its slice.
module _ (shared : SharedTables) (slices : List SliceView) (are : AreSlicesOf shared slices) (home : ℕ) (slice : SliceView)
    (first : 1 ≤ home) (last : home ≤ shared.scale.warehouses) (is : slice ≡ slice_index_or slices (home - 1) slice) where
  inside : home - 1 < length slices
  inside = omega (arith, are.many, first, last)

  next : (home - 1) + 1 ≡ home
  next = omega (arith, first)

  pub here : IsPartAt shared (home - 1) (part_in slice)
  here = subst (λ (s : SliceView). IsPartAt shared (home - 1) (part_in s)) (sym is) (are.each (home - 1) slice inside)

  pub shared_is : shared_of slice.tables ≡ shared
  shared_is = λ i. record { scale = here.scale i; items = here.items i }

  -- what it keeps, all keep
  pub all_keep : (new : SliceView) (before after : List ClaimView) → All (IsClaimAt home) before → All (IsClaimAt home) after → SliceKeeps before slice after new
      → AreSlicesOf shared (slice_set slices (home - 1) new) × SlicesKeep before (joined shared slices) after (joined shared (slice_set slices (home - 1) new))
  all_keep new before after held made keeps =
      one_slice_keeps_all shared slices (home - 1) slice new before after are inside
      (subst (λ n. All (IsClaimAt n) before) (sym next) held) (subst (λ n. All (IsClaimAt n) after) (sym next) made)
      (subst (λ (s : SliceView). SliceKeeps before s after new) is keeps)

  -- the claims on its groups are those of all slices on them
  pub there : (home_too : ℕ) → home_too ≡ home → holdings_in slices home_too ≡ slice.holdings
  there home_too same =
      ap (holdings_in slices) same
      ∙ held_here 1 slices home (home - 1) slice (homed_from_one shared slices are) inside (omega (arith, first))
      ∙ ap (λ (s : SliceView). s.holdings) (sym is)

-- the warehouses of the scale are numbered from 1
pub warehouse_within : (scale : Scale) (home : ℕ) → IsTrue (has_warehouse scale home) → (1 ≤ home) × (home ≤ scale.warehouses)
warehouse_within scale home has =
    let parts = and_parts (leb 1 home) (leb home scale.warehouses) has in
    (leb-true 1 home parts.0, leb-true home scale.warehouses parts.1)

-- the work of an action is at a warehouse of the scale
pub work_within : (shared : SharedTables) (work : Work) (home : ℕ) → home ≡ home_of work → CanDo shared work → (1 ≤ home) × (home ≤ shared.scale.warehouses)
work_within shared work home is can = warehouse_within shared.scale home (subst (λ n. IsTrue (has_warehouse shared.scale n)) (sym is) (works_are_at_warehouses shared work can))

-- ---- the claims of one action

-- those of an action that ran are on groups of its warehouse
pub ran_at_home : {J : Type 0} (by : Holder) (slice new : SliceView) (work : Work) (one : Ran J) → IsRan by slice work one new → All (IsClaimAt (home_of work)) (claims_of_ran one)
ran_at_home by slice new work (ran.Done claims found) of = (works_are_done_at_home (shared_of slice.tables) work found claims of.done).0
ran_at_home by slice new work (ran.Died group holder) of = All-nil (IsClaimAt (home_of work))
ran_at_home by slice new work ran.NoMemory of = All-nil (IsClaimAt (home_of work))

-- where they are on groups of one warehouse, all are on groups of that of the first
pub claims_at_home : (claims : List ClaimView) (home : ℕ) → ((d : ClaimView) → home ≡ warehouse_of (slice_index_or claims 0 d).group) → AreOfOneHome claims
    → All (IsClaimAt home) claims
claims_at_home [] home is none = absurd none
claims_at_home (claim ∷ claims) home is at = subst (λ n. All (IsClaimAt n) (claim ∷ claims)) (sym (is claim)) at
