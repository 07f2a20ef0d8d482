-- What a box does keeps what is committed in its group.
use Rattle.std.proofs.Common.{◌≡◌, ◌≢◌, ◌+◌, ◌-◌, ◌<◌, ◌≤◌, [], ◌∷◌, refl, sym, ap, ◌∙◌, subst, arith}
use Rattle.std.specs.Prelude.{Bool, if◌then◌else◌}
use Rattle.requests.specs.declared.group.Group.{Group}
use Rattle.groups.specs.Content.{Content}
use Rattle.groups.specs.Groups.{is_same}
use Rattle.groups.specs.declared.group_wants.Mode.{Mode}
use Rattle.groups.specs.declared.group_wants.Mode.TheVariants.{Shared, Exclusive}
use Rattle.groups.proofs.SameGroups.{is_same-itself, is_same-other}
use Rattle.tickets.specs.Unset.{nothing}
use Rattle.tickets.specs.Claims.{ClaimView, fresh, leaving}
use Rattle.tickets.specs.Boxes.{TicketBoxView, sharing, lent, with_left, taken_back, tickets_home, standing, BoxKeepsCommitted}
use Rattle.tickets.specs.Committed.{tickets_held}
use Rattle.wait_die.specs.declared.deciding.Holder.{Holder}
use Rattle.tickets.proofs.Committed.{grant_keeps, write_keeps, give_back_keeps}

rows_home : (b : TicketBoxView) → (standing b).rows b.group ≡ b.left
rows_home b = ap (λ (same : Bool). if same then b.left else nothing) (is_same-itself b.group)

free_home : (b : TicketBoxView) → (standing b).free b.group ≡ tickets_home b.mode b.shared
free_home b = ap (λ (same : Bool). if same then tickets_home b.mode b.shared else 0) (is_same-itself b.group)

rows_elsewhere : (b : TicketBoxView) (group : Group) → group ≢ b.group → (standing b).rows group ≡ nothing
rows_elsewhere b group differ = ap (λ (same : Bool). if same then b.left else nothing) (is_same-other b.group group differ)

free_elsewhere : (b : TicketBoxView) (group : Group) → group ≢ b.group → (standing b).free group ≡ 0
free_elsewhere b group differ = ap (λ (same : Bool). if same then tickets_home b.mode b.shared else 0) (is_same-other b.group group differ)

-- a claim of either mode goes out
goes_out : (by : Holder) (old new : TicketBoxView) (mode : Mode) → new.group ≡ old.group → new.left ≡ old.left → tickets_home new.mode new.shared + tickets_held mode ≡ tickets_home old.mode old.shared
    → BoxKeepsCommitted [] old (fresh by old.group mode old.left ∷ []) new
goes_out by old new mode group left tickets = grant_keeps (is_same old.group) (fresh by old.group mode old.left) (standing old) (standing new) (record {
  tickets = omega (arith, ap (λ g. (standing new).free g) (sym group), free_home new, free_home old, tickets);
  recorded = sym (rows_home old);
  left = sym (rows_home old);
  rows = λ g i. if is_same (group i) g then left i else nothing;
  others = λ g differ. free_elsewhere new g (λ e. differ (e ∙ group)) ∙ sym (free_elsewhere old g differ);
})

pub share_keeps : (by : Holder) (old new : TicketBoxView) (claim : ClaimView) → old.mode ≡ Shared → old.shared < 8 → claim ≡ fresh by old.group Shared old.left → new ≡ sharing old.group old.left (old.shared + 1) → BoxKeepsCommitted [] old (claim ∷ []) new
share_keeps by old new claim shared room is_claim is_new =
    subst (λ c. BoxKeepsCommitted [] old (c ∷ []) new) (sym is_claim)
    (goes_out by old new Shared (ap (λ b. b.group) is_new) (ap (λ b. b.left) is_new)
    (omega (arith, ap (λ b. tickets_home b.mode b.shared) is_new, ap (λ m. tickets_home m old.shared) shared, room)))

pub lend_keeps : (by : Holder) (old new : TicketBoxView) (claim : ClaimView) → old.mode ≡ Shared → old.shared ≡ 0 → claim ≡ fresh by old.group Exclusive old.left → new ≡ lent old.group old.left → BoxKeepsCommitted [] old (claim ∷ []) new
lend_keeps by old new claim shared none is_claim is_new =
    subst (λ c. BoxKeepsCommitted [] old (c ∷ []) new) (sym is_claim)
    (goes_out by old new Exclusive (ap (λ b. b.group) is_new) (ap (λ b. b.left) is_new)
    (omega (arith, ap (λ b. tickets_home b.mode b.shared) is_new, ap (λ m. tickets_home m old.shared) shared, none)))

-- what is left in the group changes
pub leave_keeps : (old new : TicketBoxView) (was now : ClaimView) (content : Content) → was.group ≡ old.group → was.mode ≡ Exclusive → now ≡ leaving was content → new ≡ with_left old content → BoxKeepsCommitted (was ∷ []) old (now ∷ []) new
leave_keeps old new was now content group exclusive is_now is_new =
    let left = ap (λ c. c.left) is_now in
    write_keeps (is_same old.group) was now (standing old) (standing new) (record {
      exclusive = exclusive;
      claim = is_now ∙ ap (leaving was) (sym left);
      rows = ap (λ g. (standing new).rows g) (group ∙ sym (ap (λ b. b.group) is_new)) ∙ rows_home new ∙ ap (λ b. b.left) is_new ∙ sym left;
      others = λ g differ.
          let apart : g ≢ old.group = λ e. differ (e ∙ sym group) in
          ap (λ b. (standing b).rows g) is_new ∙ rows_elsewhere (with_left old content) g apart ∙ sym (rows_elsewhere old g apart);
      free = λ g. ap (λ b. (standing b).free g) is_new;
    })

-- how many tickets are at home once a claim of this mode is back
home_again : (mode : Mode) (old : TicketBoxView) → mode ≡ old.mode → (mode ≡ Shared → (0 < old.shared) × (old.shared ≤ 8)) → (mode ≡ Exclusive → old.shared ≡ 0) → 8 - (old.shared - 1) ≡ tickets_home old.mode old.shared + tickets_held mode
home_again Shared old is some none = let out = some refl in omega (arith, ap (λ m. tickets_home m old.shared) (sym is), out.0, out.1)
home_again Exclusive old is some none = omega (arith, ap (λ m. tickets_home m old.shared) (sym is), none refl)

pub take_back_keeps : (old new : TicketBoxView) (claim : ClaimView) → claim.group ≡ old.group → (claim.mode ≡ Exclusive → claim.recorded ≡ claim.left) → claim.mode ≡ old.mode → (claim.mode ≡ Shared → (0 < old.shared) × (old.shared ≤ 8)) → (claim.mode ≡ Exclusive → old.shared ≡ 0)
    → new ≡ taken_back old → BoxKeepsCommitted (claim ∷ []) old [] new
take_back_keeps old new claim group settled mode some none is_new =
    let same = ap (λ b. b.group) is_new in
    give_back_keeps (is_same old.group) claim (standing old) (standing new) (record {
      settled = settled;
      tickets = ap (λ g. (standing new).free g) (group ∙ sym same) ∙ free_home new ∙ ap (λ b. tickets_home b.mode b.shared) is_new ∙ home_again claim.mode old mode some none
          ∙ ap (λ n. n + tickets_held claim.mode) (sym (free_home old) ∙ ap (λ g. (standing old).free g) (sym group));
      rows = λ g. ap (λ b. (standing b).rows g) is_new;
      others = λ g differ.
          let apart : g ≢ old.group = λ e. differ (e ∙ sym group) in
          free_elsewhere new g (λ e. apart (e ∙ same)) ∙ sym (free_elsewhere old g apart);
    })
