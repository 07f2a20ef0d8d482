-- What is in flight in a world, as messages and items are taken and put.
use Rattle.std.proofs.Common.{◌≡◌, ℕ, ◌+◌, List, [], ◌∷◌, ◌++◌, sym, ◌∙◌, ap, subst, cond}
use Rattle.std.specs.List.{count_by}
use Rattle.std.specs.List.Sorted.{IsPermutation}
use Rattle.std.proofs.lemmas.List.Sorted.{IsPermutation-refl, sum_by-IsPermutation, length_permutation}
use Rattle.history.specs.History.{is_of}
use Rattle.slices.specs.SliceView.{AreAllHeld, JoinedSlices}
use Rattle.slices.proofs.Held.{held_in_any_order}
use Rattle.world.specs.declared.desk.Desk.{Desk}
use Rattle.world.specs.declared.flight.Message.{Message}
use Rattle.world.specs.declared.flight.Item.{Item}
use Rattle.world.specs.declared.world.Parts.{Parts}
use Rattle.world.specs.Flights.{InFlight, part, join, parts, part_message, part_item, part_met}
use Rattle.world.specs.Sound.{IsBalanced, is_here, flight, reported_to_all}
use Rattle.world.proofs.Joins.{IsSame, same-refl, same-trans, same-is, same-join, same-swap, same-middle, join-assoc, join-nothing, parts-append}

-- ---- three lots together: the inbox, the outbox and what meets

abbrev pub fly : InFlight → InFlight → InFlight → InFlight
fly inbox outbox met = join inbox (join outbox met)

pub fly_first : (p i o h : InFlight) → fly (join p i) o h ≡ join p (fly i o h)
fly_first p i o h = join-assoc p i (join o h)

pub fly_middle : (p i o h : InFlight) → IsSame (fly i (join p o) h) (join p (fly i o h))
fly_middle p i o h =
    subst (λ q. IsSame (join i q) (join p (fly i o h))) (sym (join-assoc p o h)) (same-middle i p (join o h))

pub fly_last : (p i o h : InFlight) → IsSame (fly i o (join p h)) (join p (fly i o h))
fly_last p i o h =
    same-trans (fly i o (join p h)) (join i (join p (join o h))) (join p (fly i o h))
    (same-join i i (join o (join p h)) (join p (join o h)) (same-refl i) (same-middle o p h))
    (same-middle i p (join o h))

-- lots that are the same
pub fly_same : (i j o q h k : InFlight) → IsSame i j → IsSame o q → IsSame h k → IsSame (fly i o h) (fly j q k)
fly_same i j o q h k a b c = same-join i j (join o h) (join q k) a (same-join o q h k b c)

-- more at the end
pub parts_more : {X : Type 0} (f : X → InFlight) (xs ys : List X) → IsSame (parts f (xs ++ ys)) (join (parts f ys) (parts f xs))
parts_more f xs ys =
    subst (λ p. IsSame p (join (parts f ys) (parts f xs))) (sym (parts-append f xs ys)) (same-swap (parts f xs) (parts f ys))

-- the claims that the lock tables have out are those in flight, in whatever order
pub held_same : (slices : JoinedSlices) (a b : InFlight) → IsSame a b → AreAllHeld slices.holdings a.claims → AreAllHeld slices.holdings b.claims
held_same slices a b same h = held_in_any_order slices.holdings a.claims b.claims same.claims h

module _ {J : Type 0} where
  -- ---- the worlds

  abbrev pub in_inbox : Parts J → InFlight
  in_inbox w = parts part_message w.inbox

  abbrev pub in_outbox : Parts J → InFlight
  in_outbox w = parts part_item w.outbox

  abbrev pub in_meeting : Parts J → InFlight
  in_meeting w = parts part_met (reported_to_all w.desk.active)

  pub message_taken : (w : Parts J) (message : Message J) (rest : List (Message J)) → w.inbox ≡ message ∷ rest
      → flight w ≡ join (part_message message) (flight (record w { inbox = rest }))
  message_taken w message rest is =
      ap (λ ms. fly (parts part_message ms) (in_outbox w) (in_meeting w)) is
      ∙ fly_first (part_message message) (parts part_message rest) (in_outbox w) (in_meeting w)

  pub item_taken : (w : Parts J) (item : Item J) (rest : List (Item J)) → w.outbox ≡ item ∷ rest
      → IsSame (flight w) (join (part_item item) (flight (record w { outbox = rest })))
  item_taken w item rest is =
      subst (λ is. IsSame (fly (in_inbox w) (parts part_item is) (in_meeting w)) (join (part_item item) (flight (record w { outbox = rest })))) (sym is)
      (fly_middle (part_item item) (in_inbox w) (parts part_item rest) (in_meeting w))

  pub message_put : (w : Parts J) (message : Message J) → IsSame (flight (record w { inbox = w.inbox ++ message ∷ [] })) (join (part_message message) (flight w))
  message_put w message =
      let one : parts part_message (message ∷ []) ≡ part_message message = join-nothing (part_message message) in
      let all = parts_more part_message w.inbox (message ∷ []) in
      same-trans (fly (parts part_message (w.inbox ++ message ∷ [])) (in_outbox w) (in_meeting w))
      (fly (join (parts part_message (message ∷ [])) (in_inbox w)) (in_outbox w) (in_meeting w))
      (join (part_message message) (flight w))
      (fly_same _ _ _ _ _ _ all (same-refl (in_outbox w)) (same-refl (in_meeting w)))
      (same-is _ _ (fly_first (parts part_message (message ∷ [])) (in_inbox w) (in_outbox w) (in_meeting w) ∙ ap (λ p. join p (flight w)) one))

  pub items_put : (w : Parts J) (items : List (Item J)) → IsSame (flight (record w { outbox = w.outbox ++ items })) (join (parts part_item items) (flight w))
  items_put w items =
      same-trans (fly (in_inbox w) (parts part_item (w.outbox ++ items)) (in_meeting w))
      (fly (in_inbox w) (join (parts part_item items) (in_outbox w)) (in_meeting w))
      (join (parts part_item items) (flight w))
      (fly_same _ _ _ _ _ _ (same-refl (in_inbox w)) (parts_more part_item w.outbox items) (same-refl (in_meeting w)))
      (fly_middle (parts part_item items) (in_inbox w) (in_outbox w) (in_meeting w))

  -- ---- what is balanced

  pub balanced_same : (desk : Desk J) (a b : InFlight) → IsSame a b → IsBalanced desk a → IsBalanced desk b
  balanced_same desk a b same h = record {
    tokens = λ weight. sum_by-IsPermutation weight a.tokens b.tokens same.tokens ∙ h.tokens weight;
    alone = λ number session there. ap (λ (n : ℕ). n + cond (is_here session) 1 0) (sum_by-IsPermutation (λ u. cond (is_of number u) 1 0) a.pending b.pending same.pending) ∙ h.alone number session there;
    many = ap (λ (n : ℕ). n + count_by is_here desk.sessions.items) (length_permutation a.pending b.pending same.pending) ∙ h.many;
  }

  pub balanced_like : (desk : Desk J) (a b : InFlight) → b.pending ≡ a.pending → b.tokens ≡ a.tokens → IsBalanced desk a → IsBalanced desk b
  balanced_like desk a b pending tokens h =
      balanced_same desk (part b.claims a.pending a.tokens) b
      (record {
        claims = IsPermutation-refl b.claims;
        pending = subst (λ us. IsPermutation a.pending us) (sym pending) (IsPermutation-refl a.pending);
        tokens = subst (λ ts. IsPermutation a.tokens ts) (sym tokens) (IsPermutation-refl a.tokens);
      })
      (record { tokens = h.tokens; alone = h.alone; many = h.many })
