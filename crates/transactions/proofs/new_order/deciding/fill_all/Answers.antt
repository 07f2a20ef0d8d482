use Rattle.std.proofs.Common.{◌≡◌, [], ◌∷◌, ◌++◌, List, length, refl, sym, ap, subst, ◌∙◌}
use Rattle.transactions.specs.declared.new_order.LineSold.{LineSold}
use Rattle.transactions.specs.declared.listed.Listed.{Listed}
use Rattle.transactions.specs.declared.new_order.StockTaken.{StockTaken}
use Rattle.transactions.specs.declared.new_order.StockTaken.TheVariants.{NoItem, OutOfRange, Taken}
use Rattle.transactions.specs.NewOrder.{all_sold}
use Rattle.transactions.specs.NewOrderStock.{AreNumbered, filled}
use Rattle.transactions.proofs.NewOrderFilled.{all_sold-more, filled_both, filled-length, numbered_first, numbered_second, sold_by}
use Rattle.transactions.proofs.new_order.deciding.fill_all.Goals as goal

-- all that were sold are those of the others, and of the last
parted : (found rest : List StockTaken) (one : StockTaken) → found ≡ rest ++ one ∷ [] → all_sold found ≡ all_sold rest ++ sold_by one
parted found rest one made = ap all_sold made ∙ all_sold-more rest one

pub fill-requires : goal.fill-requires
fill-requires c =
    let rest = c.pop.new.self.items in
    let all = parted c.loop-one.found.items rest c.in-Some.one c.in-Some.ensures.items ∙ ap (λ one. all_sold rest ++ sold_by one) c.in-Taken.is in
    let last = numbered_second (length c.loop-one.places) (all_sold rest) c.in-Taken.sold (subst (AreNumbered (length c.loop-one.places)) all c.loop-one.invariant.numbers) in
    subst (AreNumbered (length c.loop-one.places)) (sym c.into_vec.ensures) last

pub loop-one-preserved-in-Taken : goal.loop-one-preserved-in-Taken
loop-one-preserved-in-Taken c =
    let rest = c.pop.new.self.items in
    let all = parted c.loop-one.found.items rest c.in-Some.one c.in-Some.ensures.items ∙ ap (λ one. all_sold rest ++ sold_by one) c.in-Taken.is in
    let filled_now = c.fill.ensures ∙ ap (λ sold. filled sold c.loop-one.places) c.into_vec.ensures in
    record {
      numbers = subst (λ n. AreNumbered n (all_sold rest)) (sym (ap length filled_now ∙ filled-length c.in-Taken.sold c.loop-one.places))
          (numbered_first (length c.loop-one.places) (all_sold rest) c.in-Taken.sold (subst (AreNumbered (length c.loop-one.places)) all c.loop-one.invariant.numbers));
      same = ap (filled (all_sold rest)) filled_now ∙ sym (filled_both (all_sold rest) c.in-Taken.sold c.loop-one.places)
          ∙ ap (λ sold. filled sold c.loop-one.places) (sym all) ∙ c.loop-one.invariant.same;
    }

-- an action that sold none
none_sold : (one : StockTaken) → ((sold : Listed LineSold) → one ≡ Taken sold → ⊥) → sold_by one ≡ []
none_sold NoItem none = refl
none_sold OutOfRange none = refl
none_sold (Taken sold) none = absurd (none sold refl)

pub loop-one-preserved : goal.loop-one-preserved
loop-one-preserved c =
    let rest = c.pop.new.self.items in
    let none = none_sold c.in-Some.one c.in_default-one.not-Taken in
    let all = parted c.loop-one.found.items rest c.in-Some.one c.in-Some.ensures.items ∙ ap (λ sold. all_sold rest ++ sold) none in
    record {
      numbers = numbered_first (length c.loop-one.places) (all_sold rest) [] (subst (AreNumbered (length c.loop-one.places)) all c.loop-one.invariant.numbers);
      same = sym (filled_both (all_sold rest) [] c.loop-one.places) ∙ ap (λ sold. filled sold c.loop-one.places) (sym all) ∙ c.loop-one.invariant.same;
    }
