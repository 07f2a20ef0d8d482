-- A shard as it is found by its warehouse, and as it is put back.
use Rattle.std.proofs.Common.{◌≡◌, ℕ, ◌-◌, ◌<◌, ◌≤◌, List, [], ◌++◌, Some, length, map, sym, ap, subst, ◌∙◌, append-nil, arith, zero, suc, ◌∷◌, length-append}
use Rattle.std.specs.Prelude.{All, Vec, slice_index_or, slice_set}
use Rattle.std.specs.List.{flat_map, slice_get}
use Rattle.std.specs.declared.alloc.Global.{Global}
use Rattle.std.proofs.lemmas.List.{get_or-map, get_or-set_same, length-map}
use Rattle.std.proofs.lemmas.List.Elements.{All-set}
use Rattle.std.proofs.lemmas.Option.{slice_get-get_or}
use Rattle.partitions.specs.Parts.{IsPartAt, shared_of}
use Rattle.slices.specs.SliceView.{AreSlicesOf, SliceView, part_in}
use Rattle.transactions.specs.Shards.{ShardView}
use Rattle.world.specs.declared.flight.Carried.{Carried}
use Rattle.world.specs.declared.flight.Item.{Item}
use Rattle.world.specs.declared.world.Parts.{Parts}
use Rattle.world.specs.Events.{AtShard}
use Rattle.world.specs.Shards.{IsShardOf, slice_of, slices_in, waiting_at, waiting_in, message_of}

module _ {J : Type 0} (old : Parts J) (are : AreSlicesOf old.catalog (slices_in old)) (home : ℕ) (first : 1 ≤ home) (last : home ≤ old.catalog.scale.warehouses) where
  pub place_within : home - 1 < length old.shards.items
  place_within = omega (arith, first, last, are.many, length-map old.shards.items slice_of)

  module _ (was : ShardView (Carried J)) (is : was ≡ slice_index_or old.shards.items (home - 1) was) where
    pub found_there : slice_get old.shards.items (home - 1) ≡ Some was
    found_there = slice_get-get_or old.shards.items (home - 1) was place_within ∙ ap (λ (s : ShardView (Carried J)). Some s) (sym is)

    part_there : IsPartAt old.catalog (home - 1) (part_in was.slice)
    part_there =
        let inside : home - 1 < length (slices_in old) = omega (arith, place_within, length-map old.shards.items slice_of) in
        let same : slice_index_or (slices_in old) (home - 1) was.slice ≡ was.slice = get_or-map slice_of old.shards.items (home - 1) was was.slice place_within ∙ ap slice_of (sym is) in
        subst (λ (s : SliceView). IsPartAt old.catalog (home - 1) (part_in s)) same (are.each (home - 1) was.slice inside)

    pub home_there : was.slice.home ≡ home
    home_there = omega (arith, first, part_there.home)

    pub shared_there : shared_of was.slice.tables ≡ old.catalog
    shared_there = λ i. record { scale = part_there.scale i; items = part_there.items i }

    -- it has become another, and these items were put
    pub placed : (asked : ℕ) → home ≡ asked → (now : ShardView (Carried J)) (shards : Vec (ShardView (Carried J)) Global) (items : List (Item J)) (of : ShardView (Carried J) → ShardView (Carried J) → Type 0) (new : Parts J)
        → shards.items ≡ slice_set old.shards.items (home - 1) now → new ≡ record old { shards = shards; outbox = old.outbox ++ items } → of was now → AtShard asked items of old new
    placed asked same now shards items of new set given happened = record {
      was = was;
      now = now;
      home_is = home_there ∙ same;
      there = subst (λ n. slice_get old.shards.items (n - 1) ≡ Some was) same found_there;
      shards = ap (λ (w : Parts J). w.shards.items) given ∙ set ∙ ap (λ n. slice_set old.shards.items (n - 1) now) same;
      rest = given ∙ (λ i. record old { shards = sym (ap (λ (w : Parts J). w.shards) given) i; outbox = old.outbox ++ items });
      happened = happened;
    }

    -- and so where the outbox has them
    pub placed_with : (asked : ℕ) → home ≡ asked → (now : ShardView (Carried J)) (shards : Vec (ShardView (Carried J)) Global) (items put : List (Item J)) (of : ShardView (Carried J) → ShardView (Carried J) → Type 0)
        → shards.items ≡ slice_set old.shards.items (home - 1) now → put ≡ old.outbox ++ items → of was now → AtShard asked items of old (record old { shards = shards; outbox = put })
    placed_with asked same now shards items put of set put_is happened =
        placed asked same now shards items of (record old { shards = shards; outbox = put }) set (λ i. record old { shards = shards; outbox = put_is i }) happened

    -- and none were
    pub placed_alone : (asked : ℕ) → home ≡ asked → (now : ShardView (Carried J)) (shards : Vec (ShardView (Carried J)) Global) (of : ShardView (Carried J) → ShardView (Carried J) → Type 0)
        → shards.items ≡ slice_set old.shards.items (home - 1) now → of was now → AtShard asked [] of old (record old { shards = shards })
    placed_alone asked same now shards of set happened =
        placed asked same now shards [] of (record old { shards = shards }) set (λ i. record old { shards = shards; outbox = sym (append-nil old.outbox) i }) happened

-- all shards are as they should be, where the one that was changed is
pub shards_set : {J : Type 0} (warehouses : ℕ) (shards : List (ShardView (Carried J))) (place : ℕ) (now seen : ShardView (Carried J)) → place < length shards → All (IsShardOf warehouses) shards
    → seen ≡ slice_index_or (slice_set shards place now) place seen → IsShardOf warehouses seen → All (IsShardOf warehouses) (slice_set shards place now)
shards_set warehouses shards place now seen below all is fine =
    let same : seen ≡ now = is ∙ get_or-set_same shards place now seen below in
    All-set (IsShardOf warehouses) shards place now (subst (λ s. IsShardOf warehouses s) same fine) all

-- an action that waits at one shard is among all waiting actions
pub waits_among : {J : Type 0} (w : Parts J) (place : ℕ) (s : ShardView (Carried J)) → slice_get w.shards.items place ≡ Some s → length s.parked ≤ length (waiting_in w)
waits_among {J} w place s is = from w.shards.items place is
  where
    from : (shards : List (ShardView (Carried J))) (place : ℕ) → slice_get shards place ≡ Some s → length s.parked ≤ length (flat_map (λ list. list) (map waiting_at shards))
    from [] place is = absurd (cc)
    from (t ∷ shards) zero is =
        let same : t ≡ s = cc in
        omega (arith, length-append (waiting_at t) (flat_map (λ list. list) (map waiting_at shards)), length-map t.parked message_of, ap (λ (u : ShardView (Carried J)). length u.parked) same)
    from (t ∷ shards) (suc place) is = omega (arith, length-append (waiting_at t) (flat_map (λ list. list) (map waiting_at shards)), from shards place is)
