use Rattle.std.proofs.Common.{◌≡◌, ◌<◌, ℕ, ◌+◌, List, [], ◌∷◌, ◌++◌, length, arith, subst, sym, ◌∙◌, below_more, refl, ap}
use Rattle.std.specs.Prelude.{All, slice_index_or}
use Rattle.std.proofs.lemmas.List.{get_or_push, get_or_append_left, length_push}
use Rattle.std.proofs.lemmas.List.Elements.{All-from_get_or}
use Rattle.routing.specs.Routes.{Routes, executor_of}
use Rattle.range_moves.specs.declared.placement.Placement.{Placement}
use Rattle.range_moves.specs.Placements.{IsPlacementOf, at_home, no_placement}
use Rattle.range_moves.proofs.placements.Placements.open.Goals as goal

-- one placement more
more : (routes : Routes) (placements : List Placement) → ((k : ℕ) → k < length placements → slice_index_or placements k no_placement ≡ at_home (executor_of routes (k + 1)))
    → (k : ℕ) → k < length (placements ++ at_home (executor_of routes (length placements + 1)) ∷ []) → slice_index_or (placements ++ at_home (executor_of routes (length placements + 1)) ∷ []) k no_placement ≡ at_home (executor_of routes (k + 1))
more routes placements each k below =
    let one = at_home (executor_of routes (length placements + 1)) in
    below_more (λ n. slice_index_or (placements ++ one ∷ []) n no_placement ≡ at_home (executor_of routes (n + 1))) (length placements)
    (λ n less. get_or_append_left placements (one ∷ []) no_placement n less ∙ each n less)
    (get_or_push placements one no_placement (length placements) refl) k
    (omega (arith, below, length_push placements one))

more_there : (routes : Routes) (count : ℕ) → ((k : ℕ) → k < count → executor_of routes (k + 1) < routes.executors) → executor_of routes (count + 1) < routes.executors
    → (k : ℕ) → k < count + 1 → executor_of routes (k + 1) < routes.executors
more_there routes count there one = below_more (λ n. executor_of routes (n + 1) < routes.executors) count there one

kept : (routes : Routes) (placements : List Placement) → ((k : ℕ) → k < length placements → slice_index_or placements k no_placement ≡ at_home (executor_of routes (k + 1)))
    → ((k : ℕ) → k < length placements → executor_of routes (k + 1) < routes.executors) → All (IsPlacementOf routes.executors) placements
kept routes placements each there =
    All-from_get_or (IsPlacementOf routes.executors) placements no_placement
    (λ k below. subst (λ placement. IsPlacementOf routes.executors placement) (sym (each k below)) (record { there = there k below; notes = refl }))

pub loop-before-preserved : goal.loop-before-preserved
loop-before-preserved c =
    let l = c.loop-before.invariant in
    let placements = c.loop-before.placements.items in
    let routes = c.args.routing.now in
    let at : c.route.result ≡ executor_of routes (length placements + 1) = c.route.ensures.executor ∙ ap (λ n. executor_of routes (n + 1)) (sym l.many) in
    let pushed : c.push.new.self.items ≡ placements ++ at_home (executor_of routes (length placements + 1)) ∷ [] = c.in_ok-push.ensures.items ∙ ap (λ n. placements ++ at_home n ∷ []) at in
    let one : executor_of routes (length placements + 1) < routes.executors = subst (λ n. n < routes.executors) at c.route.ensures.below in
    let longer = length_push placements (at_home (executor_of routes (length placements + 1))) in
    record {
      many = ap length pushed ∙ longer ∙ ap (λ n. n + 1) l.many;
      within = omega arith;
      each = subst (λ (hs : List Placement). (k : ℕ) → k < length hs → slice_index_or hs k no_placement ≡ at_home (executor_of routes (k + 1))) (sym pushed) (more routes placements l.each);
      there = subst (λ (n : ℕ). (k : ℕ) → k < n → executor_of routes (k + 1) < routes.executors) (sym (ap length pushed ∙ longer)) (more_there routes (length placements) l.there one);
    }

pub invariant_of-result : goal.invariant_of-result
invariant_of-result c =
    let l = c.loop-before.invariant in
    let routes = c.args.routing.now in
    let placements = c.loop-before.placements.items in
    let some = l.there 0 (omega (arith, l.many)) in
    let all : All (IsPlacementOf c.executors.result) placements = subst (λ n. All (IsPlacementOf n) placements) (sym c.executors.ensures) (kept routes placements l.each l.there) in
    (omega (arith, some), (omega arith, (omega arith, all)))
