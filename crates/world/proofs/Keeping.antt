-- Steps of the slices that keep what is committed, beside claims that were out before.
use Rattle.std.proofs.Common.{List, [], ◌++◌, refl, sym, subst, append_assoc}
use Rattle.std.specs.List.Sorted.{IsPermutation}
use Rattle.std.proofs.lemmas.List.Sorted.{IsPermutation-append_left, IsPermutation-append_comm}
use Rattle.tickets.specs.Claims.{ClaimView}
use Rattle.tickets.specs.Committed.{AreCommitted}
use Rattle.tickets.proofs.Committed as kept
use Rattle.slices.specs.SliceView.{AreAllHeld, JoinedSlices, SlicesKeep, all_standing, everywhere}
use Rattle.slices.proofs.Held.{held_in_any_order}

-- nothing is done
pub stays : (claims : List ClaimView) (slices : JoinedSlices) → SlicesKeep claims slices claims slices
stays claims slices = record { committed = λ tables others h. h; holdings = λ others h. h; scale = refl; items = refl }

-- more claims are out, after those of the step
beside : (before after more : List ClaimView) (old new : JoinedSlices)
    → SlicesKeep before old after new → SlicesKeep (before ++ more) old (after ++ more) new
beside before after more old new step = record {
  committed = λ tables others h.
      subst (λ claims. AreCommitted everywhere tables (all_standing new) claims) (sym (append_assoc after more others))
      (step.committed tables (more ++ others) (subst (λ claims. AreCommitted everywhere tables (all_standing old) claims) (append_assoc before more others) h));
  holdings = λ others h.
      subst (AreAllHeld new.holdings) (sym (append_assoc after more others))
      (step.holdings (more ++ others) (subst (AreAllHeld old.holdings) (append_assoc before more others) h));
  scale = step.scale;
  items = step.items;
}

-- the claims are in another order after the step
ordered : (before after last : List ClaimView) (old new : JoinedSlices)
    → IsPermutation after last → SlicesKeep before old after new → SlicesKeep before old last new
ordered before after last old new same step = record {
  committed = λ tables others h.
      kept.AreCommitted-permutation everywhere tables (all_standing new) (after ++ others) (last ++ others) (IsPermutation-append_left others after last same)
      (step.committed tables others h);
  holdings = λ others h. held_in_any_order new.holdings (after ++ others) (last ++ others) (IsPermutation-append_left others after last same) (step.holdings others h);
  scale = step.scale;
  items = step.items;
}

-- a step that makes claims, after those that are out
pub more : (claims made : List ClaimView) (old new : JoinedSlices)
    → SlicesKeep [] old made new → SlicesKeep claims old (claims ++ made) new
more claims made old new step =
    ordered claims (made ++ claims) (claims ++ made) old new (IsPermutation-append_comm made claims) (beside [] made claims old new step)
