use Rattle.std.proofs.Common.{rules, ◌≡◌, ℕ, ◌-◌, List, Ok, Bor, length, refl, ap, subst, arith}
use Rattle.std.specs.List.{range_with_len}
use Rattle.std.specs.List.Sorted.{IsPermutation}
use Rattle.std.specs.Ordering.{is_lt}
use Rattle.std.proofs.lemmas.Iterator.{items_from_collect, YieldsList-from_range}
use Rattle.std.proofs.lemmas.List.Sorted.{ranks_by}
use Rattle.std.proofs.lemmas.Fn.{always_returns_same}
use Rattle.std.specs.Fn.{Called, Mut, ComparesAs}
use Rattle.std.specs.declared.cmp.Ordering.{Ordering}
use Rattle.indexes.specs.NameOrder.{last_at, first_at, place_cmp}
use Rattle.indexes.proofs.Runs.{place_total}
use Rattle.indexes.proofs.name_run.NameRun.sorted.Goals as goal

-- a closure that answers by an order, and stays as it is
compares : {F : Type 0} {g : Mut F (Bor ℕ × (Bor ℕ × Unit {0})) Ordering} {f : F} (R : ℕ → ℕ → Ordering)
    → ((a : Bor ℕ × (Bor ℕ × Unit {0})) (r : Ordering) (f' : F) → Called g f a r f' → (r ≡ R a.0.now a.1.0.now) × (f' ≡ f)) → ComparesAs g (λ x y. is_lt (R x y)) f
compares {g = g} {f = f} R h = always_returns_same g (λ a r. is_lt r ≡ is_lt (R a.0.now a.1.0.now)) f (λ a r f' k. (ap is_lt (h a r f' k).0, (h a r f' k).1))

pub returns : goal.returns
returns c =
    let rows = c.args.rows.now in
    let count = length rows in
    let whole : count - 0 ≡ count = omega arith in
    let items : c.in_ok-places.places.items ≡ range_with_len 0 count =
    items_from_collect {E = Unit {0}} (Ok c.in_ok-places.places) c.in_ok-places.ensures.ran (YieldsList-from_range 0 count count refl whole) in
    record {
      all_places = subst (λ (l : List ℕ). IsPermutation l c.sort_unstable_by.new.self.items) items c.sort_unstable_by.ensures.permutation;
      in_order =
          c.sort_unstable_by.ensures.sorted (λ (x y : ℕ). is_lt (place_cmp (last_at rows) (first_at rows) x y)) (ranks_by (place_total (last_at rows) (first_at rows)) (λ (x : ℕ). x))
          (compares (place_cmp (last_at rows) (first_at rows)) (λ a r g h. search rules));
    }
