-- What is in flight in another order: a world stays sound, and a history that fits goes on fitting.
use Rattle.std.proofs.Common.{◌≡◌, ℕ, ◌<◌, zero, suc, List, [], ◌∷◌, ◌++◌, length, Some, sym, subst, arith}
use Rattle.std.specs.Prelude.{slice_index_or, slice_set}
use Rattle.std.specs.List.{remove, slice_get}
use Rattle.std.specs.List.Sorted.{IsPermutation}
use Rattle.std.proofs.lemmas.List.{set-get_or}
use Rattle.std.proofs.lemmas.List.Sorted.{All-permutation, IsPermutation-sym, IsPermutation-trans, IsPermutation-cons, IsPermutation-refl, IsPermutation-append_comm, IsPermutation-append_left, IsPermutation-middle}
use Rattle.partitions.specs.Parts.{SharedTables}
use Rattle.schema.specs.Database.{Database}
use Rattle.history.specs.History.{Step}
use Rattle.world.specs.declared.flight.Message.{Message}
use Rattle.world.specs.declared.flight.Item.{Item}
use Rattle.world.specs.declared.world.Parts.{Parts}
use Rattle.world.specs.Parted.{joined_in}
use Rattle.world.specs.Flights.{InFlight, join, parts, part_message, part_item}
use Rattle.world.specs.Sound.{IsSoundWith, IsSoundMessage, IsSoundItem, flight}
use Rattle.world.specs.Queues.{all_of}
use Rattle.world.specs.Worlds.{Fits}
use Rattle.world.proofs.Joins.{IsSame, same-refl, same-sym, same-trans, same-is, same-join, same-swap, same-middle, parts-append}
use Rattle.world.proofs.Balances.{fly_same, in_meeting, balanced_same, held_same}
use Rattle.world.proofs.Fitting.{fits_same}
use Rattle.world.proofs.Apart.{others, own_first}

-- the same, in another order, and so what they have with them
pub record Reordered {X : Type 0} (f : X → InFlight) (xs ys : List X) : Type 0 where
  pub order : IsPermutation xs ys
  pub part : IsSame (parts f xs) (parts f ys)

module _ {X : Type 0} (f : X → InFlight) where
  pub reordered-sym : (xs ys : List X) → Reordered f xs ys → Reordered f ys xs
  reordered-sym xs ys r = record { order = IsPermutation-sym xs ys r.order; part = same-sym (parts f xs) (parts f ys) r.part }

  pub reordered-trans : (xs ys zs : List X) → Reordered f xs ys → Reordered f ys zs → Reordered f xs zs
  reordered-trans xs ys zs r s = record {
    order = IsPermutation-trans xs ys zs r.order s.order;
    part = same-trans (parts f xs) (parts f ys) (parts f zs) r.part s.part;
  }

  -- one more in front of both
  pub reordered-cons : (x : X) (xs ys : List X) → Reordered f xs ys → Reordered f (x ∷ xs) (x ∷ ys)
  reordered-cons x xs ys r = record {
    order = IsPermutation-cons x xs ys r.order;
    part = same-join (f x) (f x) (parts f xs) (parts f ys) (same-refl (f x)) r.part;
  }

  pub reordered-refl : (xs : List X) → Reordered f xs xs
  reordered-refl xs = record { order = IsPermutation-refl xs; part = same-refl (parts f xs) }

  -- more in front of both
  pub reordered-append : (zs xs ys : List X) → Reordered f xs ys → Reordered f (zs ++ xs) (zs ++ ys)
  reordered-append [] xs ys r = r
  reordered-append (z ∷ zs) xs ys r = reordered-cons z (zs ++ xs) (zs ++ ys) (reordered-append zs xs ys r)

  -- and behind both
  pub reordered-behind : (zs xs ys : List X) → Reordered f xs ys → Reordered f (xs ++ zs) (ys ++ zs)
  reordered-behind zs xs ys r = record {
    order = IsPermutation-append_left zs xs ys r.order;
    part = subst (λ p. IsSame p (parts f (ys ++ zs))) (sym (parts-append f xs zs))
        (subst (λ p. IsSame (join (parts f xs) (parts f zs)) p) (sym (parts-append f ys zs))
        (same-join (parts f xs) (parts f ys) (parts f zs) (parts f zs) r.part (same-refl (parts f zs))));
  }

  -- one in the middle comes to the front
  pub reordered-middle : (xs : List X) (x : X) (ys : List X) → Reordered f (xs ++ x ∷ ys) (x ∷ (xs ++ ys))
  reordered-middle [] x ys = reordered-refl (x ∷ ys)
  reordered-middle (z ∷ xs) x ys =
      let neighbours : Reordered f (z ∷ x ∷ (xs ++ ys)) (x ∷ z ∷ (xs ++ ys)) = record { order = IsPermutation-middle (z ∷ []) x (xs ++ ys); part = same-middle (f z) (f x) (parts f (xs ++ ys)) } in
      reordered-trans (z ∷ (xs ++ x ∷ ys)) (z ∷ x ∷ (xs ++ ys)) (x ∷ z ∷ (xs ++ ys)) (reordered-cons z (xs ++ x ∷ ys) (x ∷ (xs ++ ys)) (reordered-middle xs x ys)) neighbours

  -- the one at a place comes to the front
  pub reordered-front : (xs : List X) (place : ℕ) (x : X) → slice_get xs place ≡ Some x → Reordered f xs (x ∷ remove xs place)
  reordered-front [] place x is = absurd (cc)
  reordered-front (y ∷ xs) zero x is =
      let same : y ≡ x = cc in
      subst (λ z. Reordered f (y ∷ xs) (z ∷ xs)) same (reordered-refl (y ∷ xs))
  reordered-front (y ∷ xs) (suc place) x is =
      let rest = remove xs place in
      let neighbours : Reordered f (y ∷ x ∷ rest) (x ∷ y ∷ rest) = record { order = IsPermutation-middle (y ∷ []) x rest; part = same-middle (f y) (f x) (parts f rest) } in
      reordered-trans (y ∷ xs) (y ∷ x ∷ rest) (x ∷ y ∷ rest) (reordered-cons y xs (x ∷ rest) (reordered-front xs place x is)) neighbours

  -- two lots change places
  pub reordered-swap : (xs ys : List X) → Reordered f (xs ++ ys) (ys ++ xs)
  reordered-swap xs ys = record {
    order = IsPermutation-append_comm xs ys;
    part = subst (λ p. IsSame p (parts f (ys ++ xs))) (sym (parts-append f xs ys))
        (subst (λ p. IsSame (join (parts f xs) (parts f ys)) p) (sym (parts-append f ys xs)) (same-swap (parts f xs) (parts f ys)));
  }

  -- what one queue has comes before what the others have
  own_part : (queues : List (List X)) (place : ℕ) (own : List X) → place < length queues
      → IsSame (parts f (all_of (slice_set queues place own))) (join (parts f own) (parts f (others place queues)))
  own_part [] place own below = absurd (omega (arith, below))
  own_part (queue ∷ queues) zero own below = same-is _ _ (parts-append f own (all_of queues))
  own_part (queue ∷ queues) (suc place) own below =
      let rest = own_part queues place own (omega (arith, below)) in
      let here = parts f queue in
      let later = parts f (others place queues) in
      subst (λ p. IsSame p (join (parts f own) (parts f (queue ++ others place queues)))) (sym (parts-append f queue (all_of (slice_set queues place own))))
      (subst (λ p. IsSame (join here (parts f (all_of (slice_set queues place own)))) (join (parts f own) p)) (sym (parts-append f queue (others place queues)))
      (same-trans (join here (parts f (all_of (slice_set queues place own)))) (join here (join (parts f own) later)) (join (parts f own) (join here later))
      (same-join here here (parts f (all_of (slice_set queues place own))) (join (parts f own) later) (same-refl here) rest)
      (same-middle here (parts f own) later)))

  pub reordered_own : (queues : List (List X)) (place : ℕ) (own : List X) → place < length queues
      → Reordered f (all_of (slice_set queues place own)) (own ++ others place queues)
  reordered_own queues place own below = record {
    order = own_first queues place own below;
    part = subst (λ p. IsSame (parts f (all_of (slice_set queues place own))) p) (sym (parts-append f own (others place queues))) (own_part queues place own below);
  }

  -- and so they are unchanged
  pub reordered_now : (queues : List (List X)) (place : ℕ) → place < length queues → Reordered f (all_of queues) (slice_index_or queues place [] ++ others place queues)
  reordered_now queues place below =
      subst (λ qs. Reordered f (all_of qs) (slice_index_or queues place [] ++ others place queues)) (set-get_or queues place [])
      (reordered_own queues place (slice_index_or queues place []) below)

-- ---- a world

module _ {J : Type 0} where
  -- with these messages and these items
  abbrev pub queued : Parts J → List (Message J) → List (Item J) → Parts J
  queued w messages items = record w { inbox = messages; outbox = items }

  module _ (w : Parts J) (ms ns : List (Message J)) (is js : List (Item J)) (messages : Reordered part_message ms ns) (items : Reordered part_item is js) where
    flight_same : IsSame (flight (queued w ms is)) (flight (queued w ns js))
    flight_same = fly_same _ _ _ _ _ _ messages.part items.part (same-refl (in_meeting w))

    pub sound_in_order : (shared : SharedTables) (hand : InFlight) → IsSoundWith shared hand (queued w ms is) → IsSoundWith shared hand (queued w ns js)
    sound_in_order shared hand h = record {
      shared_is = h.shared_is;
      slices = h.slices;
      in_flight = h.in_flight;
      inbox = All-permutation (IsSoundMessage shared h.in_flight) ms ns messages.order h.inbox;
      outbox = All-permutation (IsSoundItem shared h.in_flight) is js items.order h.outbox;
      slots = h.slots;
      active = h.active;
      ages = h.ages;
      seats = h.seats;
      sessions = h.sessions;
      balance = balanced_same w.desk (join hand (flight (queued w ms is))) (join hand (flight (queued w ns js)))
          (same-join hand hand (flight (queued w ms is)) (flight (queued w ns js)) (same-refl hand) flight_same) h.balance;
      held = held_same (joined_in w) (join hand (flight (queued w ms is))) (join hand (flight (queued w ns js)))
          (same-join hand hand (flight (queued w ms is)) (flight (queued w ns js)) (same-refl hand) flight_same) h.held;
    }

    pub fits_in_order : (opening : Database) (history : List Step) → Fits opening history (queued w ms is) → Fits opening history (queued w ns js)
    fits_in_order opening history f =
        fits_same opening history w.log (joined_in w) w.desk.admitted (flight (queued w ms is)) (flight (queued w ns js)) flight_same f
