use Rattle.std.proofs.Common.{◌≡◌, List, sym, ap, ◌∙◌, refl, rules}
use Rattle.std.specs.List.{slice_get}
use Rattle.std.proofs.lemmas.List.Elements.{All-same, All-push}
use Rattle.number_draws.specs.Draws.{random_of}
use Rattle.rows.specs.declared.records.Item.{Item}
use Rattle.population.specs.Rows.{IsOpeningItem}
use Rattle.population.proofs.Lists.{pushed_at}
use Rattle.population.proofs.items.items.Goals as goal

pub loop-preserved : goal.loop-preserved
loop-preserved c =
    let items = c.loop.items.items in
    let had = c.loop.invariant in
    record {
      count = search rules;
      rows = All-same IsOpeningItem _ _ c.in_ok-push.ensures.items (All-push IsOpeningItem items c.item.result had.rows c.item.ensures.row);
      start = search rules;
      first = λ row found.
          pushed_at (λ place (r : Item). place ≡ 0 → r.im_id ≡ random_of 1 10000 c.args.draws.now.numbers) items c.item.result c.loop.counter (sym had.count)
          (λ none. c.item.ensures.first ∙ ap (random_of 1 10000) (had.start none))
          (λ place r there none. had.first r (ap (slice_get items) (sym none) ∙ there))
          0 row (ap (λ (l : List Item). slice_get l 0) (sym c.in_ok-push.ensures.items) ∙ found) refl;
    }
