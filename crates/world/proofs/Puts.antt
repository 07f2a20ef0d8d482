-- Items are put for what is in hand, and the transaction in one slot goes on.
use Rattle.std.proofs.Common.{◌≡◌, ℕ, ◌+◌, ◌<◌, List, [], ◌∷◌, ◌++◌, length, Option, Some, None, refl, sym, ◌∙◌, ap, subst, cond, arith}
use Rattle.std.specs.Prelude.{All, count_by, slice_set}
use Rattle.std.specs.List.{slice_get, sum_by}
use Rattle.std.specs.List.Sorted.{IsPermutation}
use Rattle.std.proofs.lemmas.List.{length-set, set-set}
use Rattle.std.proofs.lemmas.List.Elements.{All-head, All-tail, All-append}
use Rattle.std.proofs.lemmas.List.Sorted.{IsPermutation-refl, IsPermutation-append, sum_by-IsPermutation}
use Rattle.std.proofs.lemmas.List.Sums.{sum_by-append}
use Rattle.std.proofs.lemmas.Option.{slice_get_within}
use Rattle.rows.specs.declared.limits.TheConstants.{SESSIONS}
use Rattle.partitions.specs.Parts.{SharedTables}
use Rattle.schema.specs.Database.{Database}
use Rattle.history.specs.History.{Step, UnansweredTransaction, is_of}
use Rattle.slices.specs.SliceView.{AreAllHeld, AreSlicesOf}
use Rattle.slices.proofs.Held.{held_in_any_order}
use Rattle.world.specs.declared.desk.Active.{Active}
use Rattle.world.specs.declared.desk.Desk.{Desk}
use Rattle.world.specs.declared.desk.SessionDesk.{SessionDesk}
use Rattle.world.specs.declared.flight.Item.{Item}
use Rattle.world.specs.declared.slots.TheConstants.{MOST_ACTIVE}
use Rattle.world.specs.declared.world.Parts.{Parts}
use Rattle.world.specs.Parted.{joined_in}
use Rattle.world.specs.Shards.{slices_in}
use Rattle.world.specs.Flights.{Token, InFlight, part, nothing, join, parts, part_item, part_met}
use Rattle.world.specs.Sound.{ActiveTransactions, HaveTheirAges, ActiveTransaction, IsSoundWith, IsSoundMessage, IsSoundItem, IsSoundActive, AreSoundActive, IsSessionOf, IsBalanced, WeighAlike, flight, reported_to, reported_to_all, awaited, awaited_by_all, is_here}
use Rattle.world.specs.Following.{putting, with_active}
use Rattle.world.specs.Worlds.{FitsPart, Fits}
use Rattle.world.proofs.Joins.{IsSame, same-refl, same-sym, same-trans, same-join, join-assoc}
use Rattle.world.proofs.Balances.{in_inbox, in_outbox, item_taken, balanced_same, held_same}
use Rattle.world.proofs.Fitting.{fits_same, fits_like}
use Rattle.world.proofs.Reported.{met_tokens}
use Rattle.world.proofs.OneSlot.{lots, without, of_slot, weigh_slots, awaited_of, awaited_then, flight_apart, flight_then, flight_with, none_of_slot, sound_then}
use Rattle.world.proofs.Ages.{ages_on, ages_then}
use Rattle.world.proofs.ActiveTransactions.{transaction_on, transaction_elsewhere, messages_stay, items_stay}
use Rattle.world.proofs.Tokens.{one_weighs}

module _ {J : Type 0} where
  -- what is known of the first item of the outbox, once it is in hand
  pub item_in_hand : (shared : SharedTables) (old : Parts J) (item : Item J) (rest : List (Item J)) → old.outbox ≡ item ∷ rest
      → IsSoundWith shared nothing old
      → (h : IsSoundWith shared (part_item item) (record old { outbox = rest })) × IsSoundItem shared h.in_flight item
  item_in_hand shared old item rest is h =
      let all = subst (λ is. All (IsSoundItem shared h.in_flight) is) is h.outbox in (
        record {
          shared_is = h.shared_is;
          slices = h.slices;
          in_flight = h.in_flight;
          inbox = h.inbox;
          outbox = All-tail (IsSoundItem shared h.in_flight) item rest all;
          slots = h.slots;
          active = h.active;
          ages = h.ages;
          seats = h.seats;
          sessions = h.sessions;
          balance = balanced_same old.desk (flight old) (join (part_item item) (flight (record old { outbox = rest }))) (item_taken old item rest is) h.balance;
          held = held_same (joined_in old) (flight old) (join (part_item item) (flight (record old { outbox = rest }))) (item_taken old item rest is) h.held;
        },
        All-head (IsSoundItem shared h.in_flight) item rest all,
      )

  pub fits_in_hand : (opening : Database) (history : List Step) (old : Parts J) (item : Item J) (rest : List (Item J)) → old.outbox ≡ item ∷ rest
      → Fits opening history old → FitsPart opening history old.log (joined_in old) old.desk.admitted (join (part_item item) (flight (record old { outbox = rest })))
  fits_in_hand opening history old item rest is f =
      fits_same opening history old.log (joined_in old) old.desk.admitted (flight old) (join (part_item item) (flight (record old { outbox = rest }))) (item_taken old item rest is) f

  -- each session has its one pass or its one transaction, and there are SESSIONS of them
  pub record AreServed (desk : Desk J) (pending : List UnansweredTransaction) : Type 0 where
    pub alone : (number : ℕ) (session : SessionDesk J) → slice_get desk.sessions.items number ≡ Some session
        → count_by (is_of number) pending + cond (is_here session) 1 0 ≡ 1
    pub many : length pending + count_by is_here desk.sessions.items ≡ SESSIONS

  -- ---- the world but for one slot

  -- All is sound but for the transaction in this slot, of which nothing is in flight: of what is, there is just what the others
  -- await.
  pub record Rests (shared : SharedTables) (at : ActiveTransactions) (slot : ℕ) (w : Parts J) : Type 0 where
    pub shared_is : w.catalog ≡ shared
    pub slices : AreSlicesOf w.catalog (slices_in w)
    pub inbox : All (IsSoundMessage shared at) w.inbox
    pub outbox : All (IsSoundItem shared at) w.outbox
    pub slots : length w.desk.active ≡ MOST_ACTIVE
    pub below : slot < MOST_ACTIVE
    pub others : AreSoundActive shared at 0 (without slot w.desk.active)
    pub ages : HaveTheirAges at w.desk.admitted w.desk.active
    pub seats : length w.desk.sessions.items ≡ SESSIONS
    pub sessions : (number : ℕ) (session : SessionDesk J) → slice_get w.desk.sessions.items number ≡ Some session → IsSessionOf number session
    pub tokens : WeighAlike (lots slot w).tokens (awaited_by_all 0 (without slot w.desk.active))

  -- where all that the transaction awaits is in hand
  pub rests_of : (shared : SharedTables) (hand : InFlight) (w : Parts J) (h : IsSoundWith shared hand w) (slot : ℕ) (a : Option (Active J)) → slice_get w.desk.active slot ≡ Some a
      → WeighAlike hand.tokens (awaited slot a) → Rests shared h.in_flight slot w
  rests_of shared hand w h slot a is own = record {
    shared_is = h.shared_is;
    slices = h.slices;
    inbox = h.inbox;
    outbox = h.outbox;
    slots = h.slots;
    below = subst (λ n. slot < n) h.slots (slice_get_within w.desk.active slot a is);
    others = sound_then shared h.in_flight h.in_flight slot w.desk.active None (λ m other. refl) h.active tt;
    ages = h.ages;
    seats = h.seats;
    sessions = h.sessions;
    tokens = λ weight.
        let met = parts part_met (reported_to a) in
        omega (
          arith,
          h.balance.tokens weight,
          own weight,
          sum_by-append weight hand.tokens (flight w).tokens,
          sum_by-IsPermutation weight (flight w).tokens (met.tokens ++ (lots slot w).tokens) (flight_apart w slot a is).tokens,
          ap (λ ts. sum_by weight (ts ++ (lots slot w).tokens)) (met_tokens (reported_to a)),
          awaited_of weight slot w.desk.active a is,
        );
  }

  -- and then it may have come as far as it likes, if it is as old as it was
  pub rests_with : (shared : SharedTables) (at : ActiveTransactions) (slot : ℕ) (w : Parts J) (u : ActiveTransaction) → ((x : Active J) → slice_get w.desk.active slot ≡ Some (Some x) → u.age ≡ (at slot).age)
      → Rests shared at slot w → Rests shared (transaction_on at slot u) slot w
  rests_with shared at slot w u aged r =
      let g = of_slot slot in
      let bt = transaction_on at slot u in
      let stays : (m : ℕ) → g m ≡ 0 → at m ≡ bt m = λ m none. transaction_elsewhere at slot u m (λ is. one_at m is none) in
      let rest = lots slot w in
      let zero_all : sum_by (weigh_slots g) rest.tokens ≡ 0 = r.tokens (weigh_slots g) ∙ none_of_slot slot w.desk.active in
      let met = parts part_met (reported_to_all (without slot w.desk.active)) in
      let front = sum_by-append (weigh_slots g) (in_inbox w).tokens ((in_outbox w).tokens ++ met.tokens) in
      let back = sum_by-append (weigh_slots g) (in_outbox w).tokens met.tokens in
      record {
        shared_is = r.shared_is;
        slices = r.slices;
        inbox = messages_stay shared g at bt stays w.inbox (omega (arith, zero_all, front, back)) r.inbox;
        outbox = items_stay shared g at bt stays w.outbox (omega (arith, zero_all, front, back)) r.outbox;
        slots = r.slots;
        below = r.below;
        others = subst (λ (l : List (Option (Active J))). AreSoundActive shared bt 0 l) (set-set w.desk.active slot None None)
            (sound_then shared at bt slot (without slot w.desk.active) None (λ m other. transaction_elsewhere at slot u m other) r.others tt);
        ages = ages_on at w.desk.admitted slot w.desk.active u aged r.ages;
        seats = r.seats;
        sessions = r.sessions;
        tokens = r.tokens;
      }
    where
      one_at : (m : ℕ) → m ≡ slot → of_slot slot m ≡ 0 → ⊥
      one_at m is none = omega (arith, none, ap {B = ℕ} (λ n. of_slot slot n) is, one_weighs slot)

  -- ---- the transaction in the slot goes on

  -- what is in flight then
  lots_put : (w : Parts J) (items : List (Item J)) (slot : ℕ) (a : Option (Active J)) → reported_to a ≡ [] → slot < length w.desk.active
      → IsSame (flight (putting items slot a w)) (join (parts part_item items) (lots slot w))
  lots_put w items slot a none below =
      subst (λ rs. IsSame (flight (putting items slot a w)) (join (parts part_met rs) (join (parts part_item items) (lots slot w)))) none (flight_then w items slot a below)

  pub puts_fits : (opening : Database) (history : List Step) (w : Parts J) (hand : InFlight) (items : List (Item J)) (slot : ℕ) (a : Option (Active J)) → reported_to a ≡ [] → slot < length w.desk.active
      → IsPermutation hand.claims (parts part_item items).claims → IsPermutation hand.pending (parts part_item items).pending
      → FitsPart opening history w.log (joined_in w) w.desk.admitted (join hand (lots slot w)) → Fits opening history (putting items slot a w)
  puts_fits opening history w hand items slot a none below claims pending f =
      let put = parts part_item items in
      let rest = lots slot w in
      fits_same opening history w.log (joined_in w) w.desk.admitted (join put rest) (flight (putting items slot a w)) (same-sym _ _ (lots_put w items slot a none below))
      (fits_like opening history w.log (joined_in w) w.desk.admitted (join hand rest) (join put rest)
      (IsPermutation-append hand.claims put.claims rest.claims rest.claims claims (IsPermutation-refl rest.claims))
      (IsPermutation-append hand.pending put.pending rest.pending rest.pending pending (IsPermutation-refl rest.pending)) f)

  pub puts_sound : (shared : SharedTables) (at : ActiveTransactions) (slot : ℕ) (w : Parts J) (hand : InFlight) (items : List (Item J)) (a : Option (Active J)) → Rests shared at slot w → (x : Active J) × (slice_get w.desk.active slot ≡ Some (Some x)) → reported_to a ≡ []
      → All (IsSoundItem shared at) items → IsSoundActive shared slot (at slot) a
      → IsPermutation hand.pending (parts part_item items).pending
      → AreServed w.desk (hand.pending ++ (lots slot w).pending)
      → IsPermutation hand.claims (parts part_item items).claims
      → AreAllHeld (joined_in w).holdings (hand.claims ++ (lots slot w).claims)
      → WeighAlike (parts part_item items).tokens (awaited slot a)
      → IsSoundWith shared nothing (putting items slot a w)
  puts_sound shared at slot w hand items a r was none fine sound pending served claims held tokens =
      let put = parts part_item items in
      let rest = lots slot w in
      let desk : Desk J = record w.desk { active = slice_set w.desk.active slot a } in
      let below : slot < length w.desk.active = subst (λ n. slot < n) (sym r.slots) r.below in
      let first : InFlight = part put.claims hand.pending put.tokens in
      let same : IsSame first put = record { claims = IsPermutation-refl put.claims; pending = pending; tokens = IsPermutation-refl put.tokens } in
      let balance : IsBalanced desk (join first rest) = record {
        tokens = λ weight. omega (arith, tokens weight, r.tokens weight, sum_by-append weight put.tokens rest.tokens, awaited_then weight slot w.desk.active a below);
        alone = served.alone;
        many = served.many;
      } in
      record {
        shared_is = r.shared_is;
        slices = r.slices;
        in_flight = at;
        inbox = r.inbox;
        outbox = All-append (IsSoundItem shared at) w.outbox items r.outbox fine;
        slots = length-set w.desk.active slot a ∙ r.slots;
        active = subst (λ (l : List (Option (Active J))). AreSoundActive shared at 0 l) (set-set w.desk.active slot None a)
            (sound_then shared at at slot (without slot w.desk.active) a (λ m other. refl) r.others sound);
        ages = ages_then at w.desk.admitted slot w.desk.active a was.0 was.1 r.ages;
        seats = r.seats;
        sessions = r.sessions;
        balance = balanced_same desk (join put rest) (flight (putting items slot a w)) (same-sym _ _ (lots_put w items slot a none below))
            (balanced_same desk (join first rest) (join put rest) (same-join first put rest rest same (same-refl rest)) balance);
        held = held_same (joined_in w) (join put rest) (flight (putting items slot a w)) (same-sym _ _ (lots_put w items slot a none below))
            (held_in_any_order (joined_in w).holdings (hand.claims ++ rest.claims) (put.claims ++ rest.claims) (IsPermutation-append hand.claims put.claims rest.claims rest.claims claims (IsPermutation-refl rest.claims)) held);
      }

  -- from what was in hand, the next world is sound, and a history that fits goes on fitting
  pub record GoesOn (shared : SharedTables) (hand : InFlight) (old new : Parts J) : Type 0 where
    pub sound : IsSoundWith shared nothing new
    pub fits : (opening : Database) (history : List Step) → FitsPart opening history old.log (joined_in old) old.desk.admitted (join hand (flight old)) → Fits opening history new

  -- ---- what is in hand joins what the slot has

  -- What is in hand, with what has met in the slot, is what has met there then; and it awaits so much less.
  pub joins_on : (shared : SharedTables) (hand : InFlight) (w : Parts J) (h : IsSoundWith shared hand w) (slot : ℕ) (a b : Option (Active J)) → slice_get w.desk.active slot ≡ Some a → (x : Active J) × (a ≡ Some x)
      → IsSoundActive shared slot (h.in_flight slot) b
      → ((weight : Token → ℕ) → sum_by weight hand.tokens + sum_by weight (awaited slot b) ≡ sum_by weight (awaited slot a))
      → IsPermutation (hand.claims ++ (parts part_met (reported_to a)).claims) (parts part_met (reported_to b)).claims
      → IsPermutation (hand.pending ++ (parts part_met (reported_to a)).pending) (parts part_met (reported_to b)).pending
      → GoesOn shared hand w (with_active slot b w)
  joins_on shared hand w h slot a b is some sound awaits claims pending =
      let next : Parts J = with_active slot b w in
      let was = parts part_met (reported_to a) in
      let now = parts part_met (reported_to b) in
      let rest = lots slot w in
      let within = slice_get_within w.desk.active slot a is in
      let apart : IsSame (join hand (flight w)) (join (join hand was) rest) =
      subst (λ q. IsSame (join hand (flight w)) q) (sym (join-assoc hand was rest)) (same-join hand hand (flight w) (join was rest) (same-refl hand) (flight_apart w slot a is)) in
      let met : InFlight = part now.claims now.pending (hand.tokens ++ was.tokens) in
      let joined : IsSame (join hand was) met = record { claims = claims; pending = pending; tokens = IsPermutation-refl (hand.tokens ++ was.tokens) } in
      let with_token : IsSame (join hand (flight w)) (join met rest) = same-trans (join hand (flight w)) (join (join hand was) rest) (join met rest) apart (same-join (join hand was) met rest rest joined (same-refl rest)) in
      let then : IsSame (join now rest) (flight next) = same-sym _ _ (flight_with w slot b within) in
      let desk : Desk J = next.desk in
      let before = balanced_same w.desk (join hand (flight w)) (join met rest) with_token h.balance in
      let balance : IsBalanced desk (join now rest) = record {
        tokens = λ weight.
            omega (
              arith,
              before.tokens weight,
              awaits weight,
              sum_by-append weight (hand.tokens ++ was.tokens) rest.tokens,
              sum_by-append weight hand.tokens was.tokens,
              sum_by-append weight now.tokens rest.tokens,
              ap (λ ts. sum_by weight ts) (met_tokens (reported_to a)),
              ap (λ ts. sum_by weight ts) (met_tokens (reported_to b)),
              awaited_of weight slot w.desk.active a is,
              awaited_then weight slot w.desk.active b within,
            );
        alone = before.alone;
        many = before.many;
      } in
      record {
        sound = record {
          shared_is = h.shared_is;
          slices = h.slices;
          in_flight = h.in_flight;
          inbox = h.inbox;
          outbox = h.outbox;
          slots = length-set w.desk.active slot b ∙ h.slots;
          active = sound_then shared h.in_flight h.in_flight slot w.desk.active b (λ m other. refl) h.active sound;
          ages = ages_then h.in_flight w.desk.admitted slot w.desk.active b some.0 (is ∙ ap (λ (o : Option (Active J)). Some o) some.1) h.ages;
          seats = h.seats;
          sessions = h.sessions;
          balance = balanced_same desk (join now rest) (flight next) then balance;
          held = held_same (joined_in w) (join now rest) (flight next) then (held_same (joined_in w) (join hand (flight w)) (join met rest) with_token h.held);
        };
        fits = λ opening history f.
            let together = fits_same opening history w.log (joined_in w) w.desk.admitted (join hand (flight w)) (join met rest) with_token f in
            fits_same opening history w.log (joined_in w) w.desk.admitted (join now rest) (flight next) then
            (record { recorded = together.recorded; committed = together.committed; held = together.held; accepted = together.accepted; claimed = together.claimed; scale = together.scale; items = together.items });
      }
