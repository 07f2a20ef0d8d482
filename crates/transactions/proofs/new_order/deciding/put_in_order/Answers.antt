use Rattle.std.proofs.Common.{◌≡◌, ◌≤◌, ◌++◌, ℕ, List, Option, length, replicate, take, drop, IfOk, None, sym, ap, subst, ◌∙◌, arith}
use Rattle.std.specs.List.{filter_map}
use Rattle.std.proofs.Math.Seq.{take-append_seam}
use Rattle.std.proofs.lemmas.List.{length-replicate}
use Rattle.transactions.specs.declared.new_order.LineSold.{LineSold}
use Rattle.transactions.specs.NewOrder.{all_sold}
use Rattle.transactions.specs.NewOrderStock.{AreNumbered, filled}
use Rattle.transactions.proofs.NewOrderFilled.{filled-length, in_order-filled}
use Rattle.transactions.proofs.new_order.deciding.put_in_order.Goals as goal

-- the places are empty at first
empty : (places now : List (Option LineSold)) (counter count : ℕ) → now ≡ places → places ≡ replicate counter None → count ≤ counter → counter ≤ count → now ≡ replicate count None
empty places now counter count same is above below = same ∙ is ∙ ap (λ k. replicate k None) (omega (arith, above, below))

pub fill_all-requires : goal.fill_all-requires
fill_all-requires c =
    subst (λ n. AreNumbered n (all_sold c.args.found.items)) (sym (ap length (empty c.loop.places.items c.deref_mut.result.now c.loop.counter c.args.count c.deref_mut.ensures.value c.loop.invariant c.loop-test.false c.loop.auto.counter-end) ∙ length-replicate c.args.count None)) c.requires

pub returns : goal.returns
returns c =
    let filled_now = c.fill_all.ensures ∙ ap (filled (all_sold c.args.found.items)) (empty c.loop.places.items c.deref_mut.result.now c.loop.counter c.args.count c.deref_mut.ensures.value c.loop.invariant c.loop-test.false c.loop.auto.counter-end) in
    let many : c.loop.places.len ≡ length c.fill_all.new.places =
    omega (arith, c.loop.places.ok.0, ap length c.fill_all.ensures, filled-length (all_sold c.args.found.items) c.deref_mut.result.now, ap length c.deref_mut.ensures.value) in
    let written : take c.loop.places.len (c.fill_all.new.places ++ drop (length c.fill_all.new.places) c.loop.places.items) ≡ c.fill_all.new.places =
    ap (λ n. take n (c.fill_all.new.places ++ drop (length c.fill_all.new.places) c.loop.places.items)) many
    ∙ take-append_seam c.fill_all.new.places (drop (length c.fill_all.new.places) c.loop.places.items) in
    let P : List LineSold → Type 0 = λ those. IfOk c.filled_places.result (λ lines. lines.items ≡ those) in
    subst P (ap (filter_map (λ place. place)) (written ∙ filled_now) ∙ in_order-filled c.args.count (all_sold c.args.found.items) c.requires) c.filled_places.ensures
