-- What happens at one shard, seen over all of them.
use Rattle.slices.proofs.Joined.{held_here, homed_from_one}
use Rattle.std.proofs.Common.{◌≡◌, ℕ, ◌+◌, ◌-◌, ◌<◌, ◌≤◌, ◌==◌, zero, suc, List, [], ◌∷◌, Some, length, refl, sym, ap, subst, ◌∙◌, cond, map, arith, Option, ◌≢◌}
use Rattle.std.specs.Prelude.{All, slice_index_or, slice_set, Contains, option_map}
use Rattle.std.specs.List.{slice_get}
use Rattle.std.proofs.lemmas.List.{get_or-set_other, get_or-set_same, length-map, length-set, map-set, set-get_or, get_or-map}
use Rattle.std.proofs.lemmas.Option.{get_or_from_slice_get, slice_get-map, slice_get_within}
use Rattle.std.proofs.lemmas.Bool.{eq-eqb}
use Rattle.std.proofs.lemmas.Map.Views.{exact_unsigned_eq}
use Rattle.partitions.specs.Parts.{IsPartAt, Part, SharedTables, shared_of, whole_of}
use Rattle.tickets.specs.Claims.{ClaimView}
use Rattle.local_locks.specs.LockTableView.{HeldClaim, WaitingAction}
use Rattle.slices.specs.SliceView.{AreSlicesOf, IsClaimAt, SliceKeeps, SliceView, SlicesKeep, holdings_in, joined, part_in, with_waiters}
use Rattle.transactions.specs.Shards.{ShardView}
use Rattle.world.specs.declared.flight.Carried.{Carried}
use Rattle.world.specs.declared.flight.Item.{Item}
use Rattle.world.specs.declared.world.Parts.{Parts}
use Rattle.world.specs.Events.{AtShard}
use Rattle.world.specs.Parted.{joined_in}
use Rattle.world.specs.Shards.{part_of, slice_of, slices_in}
use Rattle.world.proofs.Parted.{all_keep, shared_is, there}
use Rattle.world.proofs.Tokens.{IsFalse, by_bool}

-- ---- the waiting actions of a slice do not affect its rows and claims

-- what a slice keeps of another, it keeps whichever actions wait
keeps_rewaited : (waiters : List WaitingAction) (before after : List ClaimView) (old new : SliceView) → SliceKeeps before (with_waiters waiters old) after new → SliceKeeps before old after (with_waiters old.waiters new)
keeps_rewaited waiters before after old new keeps = record {
  committed = keeps.committed;
  holdings = keeps.holdings;
  waiters = refl;
  home = keeps.home;
  scale = keeps.scale;
  items = keeps.items;
}

module _ (shared : SharedTables) (waiters : List WaitingAction) (s : SliceView) where
  slices_rewaited : (slices : List SliceView) (place : ℕ) → place < length slices → AreSlicesOf shared (slice_set slices place (with_waiters waiters s)) → AreSlicesOf shared (slice_set slices place s)
  slices_rewaited slices place below are = record {
    many = length-set slices place s ∙ sym (length-set slices place (with_waiters waiters s)) ∙ are.many;
    each = λ k d small.
        let inside : k < length (slice_set slices place (with_waiters waiters s)) = omega (arith, small, length-set slices place s, length-set slices place (with_waiters waiters s)) in
        by_bool (k == place)
        (λ same.
        let at : k ≡ place = exact_unsigned_eq k place same in
        let P : SliceView → Type 0 = λ t. IsPartAt shared place (part_in t) in
        let was : IsPartAt shared place (part_in (slice_index_or (slice_set slices place (with_waiters waiters s)) place d)) =
        subst (λ n. IsPartAt shared n (part_in (slice_index_or (slice_set slices place (with_waiters waiters s)) n d))) at (are.each k d inside) in
        let now : P s = subst P (get_or-set_same slices place (with_waiters waiters s) d below) was in
        subst (λ n. IsPartAt shared n (part_in (slice_index_or (slice_set slices place s) n d))) (sym at) (subst P (sym (get_or-set_same slices place s d below)) now))
        (λ differs.
        let apart : k ≢ place = λ at. absurd (subst (λ b. IsFalse b) (sym differs ∙ eq-eqb k place at) tt) in
        let P : SliceView → Type 0 = λ t. IsPartAt shared k (part_in t) in
        subst P (sym (get_or-set_other slices place k s d apart)) (subst P (get_or-set_other slices place k (with_waiters waiters s) d apart) (are.each k d inside)));
  }

  parts_rewaited : (slices : List SliceView) (place : ℕ) → map part_in (slice_set slices place (with_waiters waiters s)) ≡ map part_in (slice_set slices place s)
  parts_rewaited [] place = refl
  parts_rewaited (t ∷ slices) zero = refl
  parts_rewaited (t ∷ slices) (suc place) = ap (λ (ps : List Part). part_in t ∷ ps) (parts_rewaited slices place)

  holdings_rewaited : (slices : List SliceView) (place : ℕ) → holdings_in (slice_set slices place (with_waiters waiters s)) ≡ holdings_in (slice_set slices place s)
  holdings_rewaited [] place = refl
  holdings_rewaited (t ∷ slices) zero = refl
  holdings_rewaited (t ∷ slices) (suc place) = ap (λ (of : ℕ → List HeldClaim). λ w_id. cond (w_id == t.home) t.holdings (of w_id)) (holdings_rewaited slices place)

  pub joined_rewaited : (slices : List SliceView) (place : ℕ) → joined shared (slice_set slices place (with_waiters waiters s)) ≡ joined shared (slice_set slices place s)
  joined_rewaited slices place = λ i. record { tables = whole_of shared (parts_rewaited slices place i); holdings = holdings_rewaited slices place i }

-- ---- a shard among all

module _ {J : Type 0} (old new : Parts J) (are : AreSlicesOf old.catalog (slices_in old)) (home : ℕ) (items : List (Item J)) (of : ShardView (Carried J) → ShardView (Carried J) → Type 0)
    (at : AtShard home items of old new) where
  abbrev place : ℕ
  place = home - 1

  abbrev was : SliceView
  was = at.was.slice

  abbrev now : SliceView
  now = at.now.slice

  pub there_slice : slice_get (slices_in old) place ≡ Some was
  there_slice = slice_get-map slice_of old.shards.items place ∙ ap (λ (o : Option (ShardView (Carried J))). option_map slice_of o) at.there

  below : place < length (slices_in old)
  below = slice_get_within (slices_in old) place was there_slice

  stood : was ≡ slice_index_or (slices_in old) place was
  stood = sym (get_or_from_slice_get (slices_in old) place was was there_slice)

  first : 1 ≤ home
  first =
      let part = subst (λ (s : SliceView). IsPartAt old.catalog place (part_in s)) (sym stood) (are.each place was below) in
      omega (arith, part.home, at.home_is)

  last : home ≤ old.catalog.scale.warehouses
  last = omega (arith, below, are.many, first)

  -- what its rows share
  pub shares : shared_of was.tables ≡ old.catalog
  shares = shared_is old.catalog (slices_in old) are home was first last stood

  -- the claims on its groups are those of all slices on them
  pub holds : (joined_in old).holdings home ≡ was.holdings
  holds = there old.catalog (slices_in old) are home was first last stood home refl

  slices_now : slices_in new ≡ slice_set (slices_in old) place now
  slices_now = ap (map slice_of) at.shards ∙ map-set slice_of old.shards.items place at.now

  -- what its slice keeps, all keep, whichever actions wait there
  pub keeps_on : (waiters : List WaitingAction) (before after : List ClaimView) → All (IsClaimAt home) before → All (IsClaimAt home) after → SliceKeeps before (with_waiters waiters was) after now
      → AreSlicesOf old.catalog (slices_in new) × SlicesKeep before (joined_in old) after (joined old.catalog (slices_in new))
  keeps_on waiters before after held made keeps =
      let shared = old.catalog in
      let slices = slices_in old in
      let both = all_keep shared slices are home was first last stood (with_waiters was.waiters now) before after held made (keeps_rewaited waiters before after was now keeps) in
      let all = slices_rewaited shared was.waiters now slices place below both.0 in
      let same = joined_rewaited shared was.waiters now slices place in (
        subst (AreSlicesOf shared) (sym slices_now) all,
        subst (λ (l : List SliceView). SlicesKeep before (joined_in old) after (joined shared l)) (sym slices_now)
            (subst (SlicesKeep before (joined_in old) after) same both.1),
      )

  -- and if a slice is unchanged but for its waiting actions, all are
  pub stays_on : (waiters : List WaitingAction) → now ≡ with_waiters waiters was → AreSlicesOf old.catalog (slices_in new) × (joined old.catalog (slices_in new) ≡ joined_in old)
  stays_on waiters same =
      let shared = old.catalog in
      let slices = slices_in old in
      let back : slice_set slices place was ≡ slices = ap (slice_set slices place) stood ∙ set-get_or slices place was in
      let changed : slices_in new ≡ slice_set slices place (with_waiters waiters was) = slices_now ∙ ap (slice_set slices place) same in
      let are_now : AreSlicesOf shared (slice_set slices place (with_waiters waiters was)) =
      slices_rewaited shared was.waiters (with_waiters waiters was) slices place below (subst (AreSlicesOf shared) (sym back) are) in (
        subst (AreSlicesOf shared) (sym changed) are_now,
        ap (joined shared) changed ∙ joined_rewaited shared waiters was slices place ∙ ap (joined shared) back,
      )

-- the claims on the groups of a shard's warehouse are those of all slices on them
pub stands_among : {J : Type 0} (w : Parts J) → AreSlicesOf w.catalog (slices_in w) → (s : ShardView (Carried J)) → Contains w.shards.items s → (joined_in w).holdings s.slice.home ≡ s.slice.holdings
stands_among w are s is =
    let place = is.0 in
    let slice = s.slice in
    let inside : place < length (slices_in w) = omega (arith, is.1, length-map w.shards.items slice_of) in
    let stood : slice ≡ slice_index_or (slices_in w) place slice = ap slice_of (sym is.2) ∙ sym (get_or-map slice_of w.shards.items place s slice is.1) in
    let home : slice.home ≡ 1 + place = omega (arith, (subst (λ (t : SliceView). IsPartAt w.catalog place (part_in t)) (sym stood) (are.each place slice inside)).home) in
    held_here 1 (slices_in w) slice.home place slice (homed_from_one w.catalog (slices_in w) are) inside home ∙ ap (λ (t : SliceView). t.holdings) (sym stood)

-- the rows of the shards are those of their slices
pub parts_of_shards : {J : Type 0} (shards : List (ShardView (Carried J))) → map part_of shards ≡ map part_in (map slice_of shards)
parts_of_shards [] = refl
parts_of_shards (s ∷ shards) = ap (λ (ps : List Part). part_of s ∷ ps) (parts_of_shards shards)
