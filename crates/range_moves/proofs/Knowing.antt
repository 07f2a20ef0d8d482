-- Who knows of a slice does from then on, whatever a step of a move changes of it.
use Rattle.std.proofs.Common.{◌≡◌, ◌≢◌, ◌⊎◌, inl, inr, ⊎_elim, ℕ, ◌-◌, ◌<◌, ◌≤◌, ◌==◌, Bool, true, false, List, length, Option, Some, None, refl, sym, ◌∙◌, ap, subst, cond, arith}
use Rattle.std.specs.Prelude.{All, IsTrue, nat_le, slice_index_or, slice_set}
use Rattle.std.proofs.lemmas.Bool.{eq-eqb, eqb-false, le-leb, leb-false, leb-true}
use Rattle.std.proofs.lemmas.List.{get_or-set_same, get_or-set_other, length-set}
use Rattle.std.proofs.lemmas.List.Elements.{All-weaker, All-get_or}
use Rattle.std.proofs.lemmas.Map.Views.{exact_unsigned_eq}
use Rattle.std.proofs.Math.ListN.{get_or-eq_default}
use Rattle.range_moves.specs.declared.placement.Whereabouts.{Whereabouts}
use Rattle.range_moves.specs.declared.placement.Whereabouts.TheVariants.{Rests, Leaves, Travels}
use Rattle.range_moves.specs.declared.placement.Placement.{Placement}
use Rattle.range_moves.specs.Placements.{PlacementsView, IsPlacementOf, IsWarehouse, comes_to, placement_installed, placement_moved, placement_of, placement_taken, is_at, is_away, no_placement, note_of, place_moved, place_of, route_of, with_placement}
use Rattle.range_moves.specs.Laws.{KnowingStays}
use Rattle.range_moves.specs.Traffic.{ComesTo, MessageToSlice, IsAwayFrom, Knows, KnowsOf}

-- by both answers of a test
pub by_bool : {G : Type 0} (b : Bool) → (b ≡ true → G) → (b ≡ false → G) → G
by_bool true holds fails = holds refl
by_bool false holds fails = fails refl

-- a number is the same as itself, and no other
pub is_itself : (a b : ℕ) → a ≡ b → IsTrue (a == b)
is_itself a b is = eq-eqb a b is

pub not_both : {G : Type 0} (b : Bool) → IsTrue b → b ≡ false → G
not_both b holds fails = absurd (cc)

-- ---- of one slice

-- the executor has the slice, or gets it, or noted where it went
abbrev pub KnowsIn : Whereabouts → List (Option ℕ) → ℕ → Type 0
KnowsIn place notes executor = IsTrue (is_at place executor) ⊎ (ComesTo place executor ⊎ ((to : ℕ) × (slice_index_or notes executor None ≡ Some to)))

-- by what an executor knows
pub by_knowing : {G : Type 0} (place : Whereabouts) (notes : List (Option ℕ)) (executor : ℕ) → KnowsIn place notes executor
    → (IsTrue (is_at place executor) → G) → (ComesTo place executor → G) → ((to : ℕ) → slice_index_or notes executor None ≡ Some to → G) → G
by_knowing place notes executor knows at comes noted =
    ⊎_elim at (λ (other : ComesTo place executor ⊎ ((to : ℕ) × (slice_index_or notes executor None ≡ Some to))). ⊎_elim comes (λ (n : (to : ℕ) × (slice_index_or notes executor None ≡ Some to)). noted n.0 n.1) other) knows

-- a slice that is not to go rests where messages for it are sent
pub rests_there : (place : Whereabouts) → is_away place ≡ false → place ≡ Rests (comes_to place)
rests_there (Rests here) rests = refl
rests_there (Leaves here to) rests = absurd (cc)
rests_there (Travels to) rests = absurd (cc)

-- ---- what each step changes

-- with the note of one executor changed, the others' are the same
other_note : (notes : List (Option ℕ)) (at executor : ℕ) (note : Option ℕ) → (executor == at) ≡ false → slice_index_or (slice_set notes at note) executor None ≡ slice_index_or notes executor None
other_note notes at executor note differs = get_or-set_other notes at executor note None (eqb-false executor at differs)

-- a move begins: who knew of the slice has it, or gets it, or still has its note
moved_either : (stays : Bool) (here to : ℕ) (notes : List (Option ℕ)) (executor : ℕ) → (to == here) ≡ stays → KnowsIn (Rests here) notes executor
    → KnowsIn (cond stays (Rests here) (Leaves here to)) (slice_set notes to None) executor
moved_either true here to notes executor is knows =
    by_knowing (Rests here) notes executor knows (λ at. inl at) (λ comes. let away = comes.0 in absurd (cc))
    (λ then_to noted. by_bool (executor == to)
    (λ same. inl (is_itself executor here (exact_unsigned_eq executor to same ∙ exact_unsigned_eq to here is)))
    (λ differs. inr (inr (then_to, other_note notes to executor None differs ∙ noted))))
moved_either false here to notes executor is knows =
    by_knowing (Rests here) notes executor knows (λ at. inl at) (λ comes. let away = comes.0 in absurd (cc))
    (λ then_to noted. by_bool (executor == to)
    (λ same. inr (inl (refl, exact_unsigned_eq executor to same)))
    (λ differs. inr (inr (then_to, other_note notes to executor None differs ∙ noted))))

pub moved_knows : (place : Whereabouts) (to : ℕ) (notes : List (Option ℕ)) → is_away place ≡ false → (executor : ℕ) → KnowsIn place notes executor
    → KnowsIn (place_moved place to) (slice_set notes to None) executor
moved_knows (Rests here) to notes rests executor knows = moved_either (to == here) here to notes executor refl knows
moved_knows (Leaves here to') to notes rests executor knows = absurd (cc)
moved_knows (Travels to') to notes rests executor knows = absurd (cc)

-- the slice is taken out; the executor that had it noted its destination
pub taken_knows : (here to : ℕ) (notes : List (Option ℕ)) → here < length notes → (executor : ℕ) → KnowsIn (Leaves here to) notes executor
    → KnowsIn (Travels to) (slice_set notes here (Some to)) executor
taken_knows here to notes below executor knows =
    by_bool (executor == here)
    (λ same. inr (inr (
      to,
      subst (λ n. slice_index_or (slice_set notes here (Some to)) n None ≡ Some to) (sym (exact_unsigned_eq executor here same)) (get_or-set_same notes here (Some to) None below),
    )))
    (λ differs. by_knowing (Leaves here to) notes executor knows (λ at. not_both (executor == here) at differs) (λ comes. inr (inl comes))
    (λ then_to noted. inr (inr (then_to, other_note notes here executor (Some to) differs ∙ noted))))

-- it is installed: to whom it came has it
pub installed_knows : (here : ℕ) (notes : List (Option ℕ)) (executor : ℕ) → KnowsIn (Travels here) notes executor → KnowsIn (Rests here) notes executor
installed_knows here notes executor knows =
    by_knowing (Travels here) notes executor knows (λ at. absurd (cc)) (λ comes. inl (is_itself executor here comes.1)) (λ then_to noted. inr (inr (then_to, noted)))

-- ---- of one warehouse

pub warehouse_is : (h : PlacementsView) (w_id : ℕ) → 1 ≤ w_id → placement_of h w_id ≡ slice_index_or h.placements (w_id - 1) no_placement
warehouse_is h w_id some = ap (λ b. cond b (slice_index_or h.placements (w_id - 1) no_placement) no_placement) (le-leb 1 w_id some)

-- what is no warehouse
pub no_warehouse : (h : PlacementsView) (w_id : ℕ) → (IsWarehouse h w_id → ⊥) → placement_of h w_id ≡ no_placement
no_warehouse h w_id none =
    by_bool (nat_le 1 w_id)
    (λ some. warehouse_is h w_id (leb-true 1 w_id some) ∙ get_or-eq_default h.placements no_placement (past (leb-true 1 w_id some)))
    (λ zero. ap (λ b. cond b (slice_index_or h.placements (w_id - 1) no_placement) no_placement) zero)
  where
    past : 1 ≤ w_id → length h.placements ≤ w_id - 1
    past some = by_bool (nat_le w_id (length h.placements)) (λ within. absurd (none (some, leb-true w_id (length h.placements) within))) (λ beyond. let less = leb-false w_id (length h.placements) beyond in omega (arith, less))

-- by whether there is such a warehouse
pub by_warehouse : {G : Type 0} (h : PlacementsView) (w_id : ℕ) → (IsWarehouse h w_id → G) → (placement_of h w_id ≡ no_placement → G) → G
by_warehouse h w_id there none =
    by_bool (nat_le 1 w_id)
    (λ some. by_bool (nat_le w_id (length h.placements))
    (λ within. there (leb-true 1 w_id some, leb-true w_id (length h.placements) within))
    (λ beyond. none (no_warehouse h w_id (λ is. let less = leb-false w_id (length h.placements) beyond in absurd (omega (arith, less, is.1))))))
    (λ zero. none (no_warehouse h w_id (λ is. let less = leb-false 1 w_id zero in absurd (omega (arith, less, is.0)))))

-- what is kept of each placement is so of the warehouse's
pub kept_placement : (h : PlacementsView) (w_id : ℕ) → All (IsPlacementOf h.executors) h.placements → IsWarehouse h w_id → IsPlacementOf h.executors (placement_of h w_id)
kept_placement h w_id kept there =
    subst (λ placement. IsPlacementOf h.executors placement) (sym (warehouse_is h w_id there.0))
    (All-get_or (IsPlacementOf h.executors) h.placements (w_id - 1) no_placement (omega (arith, there.0, there.1)) kept)

-- the executor to which messages for a slice are sent knows of it
pub routed_knows : (h : PlacementsView) (w_id : ℕ) → Knows h (route_of h w_id) w_id
routed_knows h w_id = knows (place_of h w_id)
  where
    knows : (place : Whereabouts) → KnowsIn place (placement_of h w_id).notes (comes_to place)
    knows (Rests here) = inl (is_itself here here refl)
    knows (Leaves here to) = inr (inl (refl, refl))
    knows (Travels to) = inr (inl (refl, refl))

-- ---- one placement in the place of a warehouse's

module _ (h : PlacementsView) (w_id : ℕ) (placement : Placement) where
  pub placements_same : length (slice_set h.placements (w_id - 1) placement) ≡ length h.placements
  placements_same = length-set h.placements (w_id - 1) placement

  pub placement_same : IsWarehouse h w_id → placement_of (with_placement h w_id placement) w_id ≡ placement
  placement_same there = warehouse_is (with_placement h w_id placement) w_id there.0 ∙ get_or-set_same h.placements (w_id - 1) placement no_placement (omega (arith, there.0, there.1))

  pub placement_other : (v : ℕ) → 1 ≤ w_id → v ≢ w_id → placement_of (with_placement h w_id placement) v ≡ placement_of h v
  placement_other v some other =
      by_bool (nat_le 1 v)
      (λ is. let one : 1 ≤ v = leb-true 1 v is in
      warehouse_is (with_placement h w_id placement) v one
      ∙ get_or-set_other h.placements (w_id - 1) (v - 1) placement no_placement (λ same. other (omega (arith, same, one, some)))
      ∙ sym (warehouse_is h v one))
      (λ zero. ap (λ b. cond b (slice_index_or (slice_set h.placements (w_id - 1) placement) (v - 1) no_placement) no_placement) zero
      ∙ sym (ap (λ b. cond b (slice_index_or h.placements (v - 1) no_placement) no_placement) zero))

  pub warehouse_with : (v : ℕ) → IsWarehouse h v → IsWarehouse (with_placement h w_id placement) v
  warehouse_with v there = (there.0, subst (λ n. v ≤ n) (sym placements_same) there.1)

  pub warehouse_before : (v : ℕ) → IsWarehouse (with_placement h w_id placement) v → IsWarehouse h v
  warehouse_before v there = (there.0, subst (λ n. v ≤ n) placements_same there.1)

  -- where the other slices are
  pub place_other : (v : ℕ) → 1 ≤ w_id → v ≢ w_id → place_of (with_placement h w_id placement) v ≡ place_of h v
  place_other v some other = ap (λ (x : Placement). x.place) (placement_other v some other)

  pub place_same : IsWarehouse h w_id → place_of (with_placement h w_id placement) w_id ≡ placement.place
  place_same there = ap (λ (x : Placement). x.place) (placement_same there)

  module _ (there : IsWarehouse h w_id) where
    -- by whether it is the warehouse
    pub by_same : {G : Type 0} (v : ℕ) → (v ≡ w_id → G) → (v ≢ w_id → G) → G
    by_same v same other = by_bool (v == w_id) (λ is. same (exact_unsigned_eq v w_id is)) (λ differs. other (eqb-false v w_id differs))

    module _ (grows : (executor : ℕ) → KnowsIn (place_of h w_id) (placement_of h w_id).notes executor → KnowsIn placement.place placement.notes executor) where
      -- who knew of a slice knows of it where the placement that is changed forgets nobody
      pub still_knows : (executor v : ℕ) → Knows h executor v → Knows (with_placement h w_id placement) executor v
      still_knows executor v knows =
          by_same v
          (λ same. subst (λ n. Knows (with_placement h w_id placement) executor n) (sym same)
          (subst (λ (x : Placement). KnowsIn x.place x.notes executor) (sym (placement_same there)) (grows executor (subst (λ n. Knows h executor n) same knows))))
          (λ other. subst (λ (x : Placement). KnowsIn x.place x.notes executor) (sym (placement_other v there.0 other)) knows)

      pub all_know : (going : List MessageToSlice) → All (KnowsOf h) going → All (KnowsOf (with_placement h w_id placement)) going
      all_know going all = All-weaker (KnowsOf h) (KnowsOf (with_placement h w_id placement)) (λ g. still_knows g.to g.w_id) going all

      -- and so do those to whom executors noted that it went
      pub still_noted : ((executor v to : ℕ) → note_of h executor v ≡ Some to → Knows h to v × (to < h.executors))
          → ((executor to : ℕ) → slice_index_or placement.notes executor None ≡ Some to → KnowsIn placement.place placement.notes to × (to < h.executors))
          → (executor v to : ℕ) → note_of (with_placement h w_id placement) executor v ≡ Some to → Knows (with_placement h w_id placement) to v × (to < h.executors)
      still_noted noted here executor v to is =
          by_same v
          (λ same. subst (λ n. Knows (with_placement h w_id placement) to n × (to < h.executors)) (sym same)
          (subst (λ (x : Placement). KnowsIn x.place x.notes to × (to < h.executors)) (sym (placement_same there))
          (here executor to (subst (λ (x : Placement). slice_index_or x.notes executor None ≡ Some to) (placement_same there)
          (subst (λ n. note_of (with_placement h w_id placement) executor n ≡ Some to) same is)))))
          (λ other. let was = noted executor v to (subst (λ (x : Placement). slice_index_or x.notes executor None ≡ Some to) (placement_other v there.0 other) is) in
          (still_knows to v was.0, was.1))

    -- what is parked is parked for slices that are away
    pub still_away : (parked : List ℕ) → (IsTrue (is_away (place_of h w_id)) → IsTrue (is_away placement.place)) → All (IsAwayFrom h) parked → All (IsAwayFrom (with_placement h w_id placement)) parked
    still_away parked stays all =
        All-weaker (IsAwayFrom h) (IsAwayFrom (with_placement h w_id placement))
        (λ v away. by_same v
        (λ same. subst (λ n. IsAwayFrom (with_placement h w_id placement) n) (sym same)
        (subst (λ p. IsTrue (is_away p)) (sym (place_same there)) (stays (subst (λ n. IsAwayFrom h n) same away))))
        (λ other. subst (λ p. IsTrue (is_away p)) (sym (place_other v there.0 other)) away)) parked all

-- ---- so it is at each step

module _ (h : PlacementsView) (w_id : ℕ) (there : IsWarehouse h w_id) (executor v : ℕ) (knows : Knows h executor v) where
  pub moved_still : (to : ℕ) → is_away (place_of h w_id) ≡ false → Knows (with_placement h w_id (placement_moved (placement_of h w_id) to)) executor v
  moved_still to rests = still_knows h w_id (placement_moved (placement_of h w_id) to) there (moved_knows (place_of h w_id) to (placement_of h w_id).notes rests) executor v knows

  pub taken_still : (here to : ℕ) → place_of h w_id ≡ Leaves here to → here < length (placement_of h w_id).notes → Knows (with_placement h w_id (placement_taken (placement_of h w_id) here to)) executor v
  taken_still here to is below =
      still_knows h w_id (placement_taken (placement_of h w_id) here to) there
      (λ e known. taken_knows here to (placement_of h w_id).notes below e (subst (λ p. KnowsIn p (placement_of h w_id).notes e) is known)) executor v knows

  pub installed_still : (here : ℕ) → place_of h w_id ≡ Travels here → Knows (with_placement h w_id (placement_installed (placement_of h w_id) here)) executor v
  installed_still here is =
      still_knows h w_id (placement_installed (placement_of h w_id) here) there
      (λ e known. installed_knows here (placement_of h w_id).notes e (subst (λ p. KnowsIn p (placement_of h w_id).notes e) is known)) executor v knows

pub knowing_stays : KnowingStays
knowing_stays h w_id there executor v knows = (moved_still h w_id there executor v knows, taken_still h w_id there executor v knows, installed_still h w_id there executor v knows)
