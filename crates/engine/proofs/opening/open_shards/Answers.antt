use Rattle.std.proofs.Common.{rules, ◌≡◌, ◌∷◌, subst}
use Rattle.std.specs.Prelude.{All}
use Rattle.std.proofs.lemmas.List.Elements.{All-tail}
use Rattle.engine.specs.Opening.{IsToOpen}
use Rattle.engine.proofs.opening.open_shards.Goals as goal

pub loop-slice-preserved : goal.loop-slice-preserved
loop-slice-preserved g c =
    let rest : c.loop-slice.slice-iterator.rest.items ≡ c.in-Some.slice ∷ c.next.new.self.rest.items = search rules in
    let opening = g.J.LogNames.opening in
    record {
      can_next = tt;
      finite = tt;
      left = All-tail (IsToOpen opening) c.in-Some.slice c.next.new.self.rest.items (subst (All (IsToOpen opening)) rest c.loop-slice.invariant.left);
    }
