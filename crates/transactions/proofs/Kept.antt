-- What is committed is kept: by doing nothing, by one call, by calls beside other claims, and claim by claim.
use Rattle.std.proofs.Common.{◌≡◌, [], ◌∷◌, ◌++◌, List, Result, Ok, Err, OnOk, OnErr, append_assoc, map, refl, sym, ap, subst, ◌∙◌}
use Rattle.std.specs.List.Sorted.{IsPermutation}
use Rattle.std.proofs.lemmas.List.{append-nil, map-append}
use Rattle.std.proofs.lemmas.List.Sorted.{IsPermutation-append_comm, IsPermutation-append_left, IsPermutation-map, IsPermutation-trans}
use Rattle.tickets.specs.Claims.{ClaimView}
use Rattle.tickets.specs.Committed.{AreCommitted, KeepsCommitted}
use Rattle.tickets.proofs.Committed.{keeps_permuted}
use Rattle.local_locks.specs.Asking.{held_by}
use Rattle.local_locks.specs.LockTableView.{HeldClaim}
use Rattle.slices.specs.SliceView.{SliceView, SliceKeeps, standing, at_home}

pub stays : (claims : List ClaimView) (slice : SliceView) → SliceKeeps claims slice claims slice
stays claims slice = record { committed = λ tables others h. h; holdings = λ others h. h; waiters = refl; home = refl; scale = refl; items = refl }

pub then : (first between last : List ClaimView) (old slice new : SliceView)
    → SliceKeeps first old between slice → SliceKeeps between slice last new → SliceKeeps first old last new
then first between last old slice new one two = record {
  committed = λ tables others h.
      let more = subst (λ home. KeepsCommitted (at_home home) between (standing slice) last (standing new)) one.home two.committed in
      more tables others (one.committed tables others h);
  holdings = λ others h. two.holdings others (one.holdings others h);
  waiters = two.waiters ∙ one.waiters;
  home = two.home ∙ one.home;
  scale = two.scale ∙ one.scale;
  items = two.items ∙ one.items;
}

-- nothing was done
pub unchanged : (before after : List ClaimView) (old new : SliceView) → after ≡ before → new ≡ old → SliceKeeps before old after new
unchanged before after old new claims slice =
    subst (λ (ends : List ClaimView × SliceView). SliceKeeps before old ends.0 ends.1) (λ i. (sym claims i, sym slice i)) (stays before old)

-- a call did what it ensures, or nothing
pub by_call : {T E : Type 0} (result : Result T E) (was now : ClaimView) (old new : SliceView)
    → OnOk result (SliceKeeps (was ∷ []) old (now ∷ []) new) → OnErr result ((new ≡ old) × (now ≡ was)) → SliceKeeps (was ∷ []) old (now ∷ []) new
by_call (Ok x) was now old new kept same = kept
by_call (Err fault) was now old new kept same = unchanged (was ∷ []) (now ∷ []) old new (λ i. same.1 i ∷ []) same.0

-- the holders of claims, with more of them and others
held_with : (claims more : List ClaimView) (others : List HeldClaim) → map held_by (claims ++ more) ++ others ≡ map held_by claims ++ (map held_by more ++ others)
held_with claims more others = ap (λ hs. hs ++ others) (map-append held_by claims more) ∙ append_assoc (map held_by claims) (map held_by more) others

-- beside more claims, which come after its own or before them
pub with_more : (before after more : List ClaimView) (old new : SliceView) → SliceKeeps before old after new → SliceKeeps (before ++ more) old (after ++ more) new
with_more before after more old new kept = record {
  committed = λ tables others h.
      subst (λ claims. AreCommitted (at_home old.home) tables (standing new) claims) (sym (append_assoc after more others))
      (kept.committed tables (more ++ others) (subst (λ claims. AreCommitted (at_home old.home) tables (standing old) claims) (append_assoc before more others) h));
  holdings = λ others h.
      subst (IsPermutation new.holdings) (sym (held_with after more others))
      (kept.holdings (map held_by more ++ others) (subst (IsPermutation old.holdings) (held_with before more others) h));
  waiters = kept.waiters;
  home = kept.home;
  scale = kept.scale;
  items = kept.items;
}

pub after_more : (more before after : List ClaimView) (old new : SliceView) → SliceKeeps before old after new → SliceKeeps (more ++ before) old (more ++ after) new
after_more more before after old new kept =
    let wide = with_more before after more old new kept in
    record {
      committed = keeps_permuted (at_home old.home) (before ++ more) (more ++ before) (after ++ more) (more ++ after) (standing old) (standing new)
          (IsPermutation-append_comm more before) (IsPermutation-append_comm after more) wide.committed;
      holdings = λ others h.
          let f = map held_by in
          let swap = λ (first last : List ClaimView). IsPermutation-append_left others (f (first ++ last)) (f (last ++ first)) (IsPermutation-map held_by (first ++ last) (last ++ first) (IsPermutation-append_comm first last)) in
          IsPermutation-trans new.holdings (f (after ++ more) ++ others) (f (more ++ after) ++ others)
          (wide.holdings others (IsPermutation-trans old.holdings (f (more ++ before) ++ others) (f (before ++ more) ++ others) h (swap more before))) (swap after more);
      waiters = kept.waiters;
      home = kept.home;
      scale = kept.scale;
      items = kept.items;
    }

-- beside another claim, which comes after it or before it
pub beside : (was now other : ClaimView) (old new : SliceView) → SliceKeeps (was ∷ []) old (now ∷ []) new → SliceKeeps (was ∷ other ∷ []) old (now ∷ other ∷ []) new
beside was now other = with_more (was ∷ []) (now ∷ []) (other ∷ [])

pub behind : (was now other : ClaimView) (old new : SliceView) → SliceKeeps (was ∷ []) old (now ∷ []) new → SliceKeeps (other ∷ was ∷ []) old (other ∷ now ∷ []) new
behind was now other = after_more (other ∷ []) (was ∷ []) (now ∷ [])

-- a claim is granted after those that are out, or the last of them is given back
pub one_more : (claims : List ClaimView) (claim : ClaimView) (first : List ClaimView) (start old new : SliceView)
    → SliceKeeps first start claims old → SliceKeeps [] old (claim ∷ []) new → SliceKeeps first start (claims ++ claim ∷ []) new
one_more claims claim first start old new kept granted =
    then first claims (claims ++ claim ∷ []) start old new kept
    (subst (λ before. SliceKeeps before old (claims ++ claim ∷ []) new) (append-nil claims) (after_more claims [] (claim ∷ []) old new granted))

pub one_fewer : (claims : List ClaimView) (claim : ClaimView) (first : List ClaimView) (start old new : SliceView)
    → SliceKeeps first start (claims ++ claim ∷ []) old → SliceKeeps (claim ∷ []) old [] new → SliceKeeps first start claims new
one_fewer claims claim first start old new kept returned =
    then first (claims ++ claim ∷ []) claims start old new kept
    (subst (λ after. SliceKeeps (claims ++ claim ∷ []) old after new) (append-nil claims) (after_more claims (claim ∷ []) [] old new returned))
