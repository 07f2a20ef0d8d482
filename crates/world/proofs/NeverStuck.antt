-- No action waits for itself, through any others, and if nothing can be taken or sent no action waits at all.
use Rattle.std.proofs.Common.{◌≡◌, ℕ, ◌<◌, ◌≤◌, zero, suc, List, [], ◌∷◌, ◌++◌, map, Some, refl, sym, ap, subst, ◌∙◌, cond, append-nil, arith, ◌==◌}
use Rattle.std.specs.Prelude.{All, Contains}
use Rattle.std.specs.List.{sum_by}
use Rattle.std.specs.List.Sorted.{IsPermutation}
use Rattle.std.proofs.lemmas.List.Elements.{All-contains}
use Rattle.std.proofs.lemmas.List.Sorted.{Contains-permutation}
use Rattle.std.proofs.lemmas.List.Sums.{sum_by-append, sum_by-cons}
use Rattle.std.proofs.lemmas.Map.Views.{exact_unsigned_eq}
use Rattle.partitions.specs.Parts.{SharedTables}
use Rattle.tickets.specs.Claims.{ClaimView}
use Rattle.local_locks.specs.Asking.{StillWaits}
use Rattle.local_locks.specs.Laws.{Path}
use Rattle.local_locks.specs.LockTableView.{HeldClaim, WaitingAction}
use Rattle.local_locks.proofs.Members.{contains_here, joined_contains}
use Rattle.slices.specs.SliceView.{held_at}
use Rattle.transactions.specs.declared.shard.Parked.{Parked}
use Rattle.transactions.specs.Shards.{ShardView, waiting_of}
use Rattle.world.specs.declared.flight.Carried.{Carried}
use Rattle.world.specs.declared.flight.Item.{Item}
use Rattle.world.specs.declared.flight.Message.{Message}
use Rattle.world.specs.declared.world.Core.{Core}
use Rattle.world.specs.declared.world.Parts.{Parts}
use Rattle.world.specs.Flights.{Token, Acting, parts, part_item, part_message, part_met}
use Rattle.world.specs.Parted.{joined_in}
use Rattle.world.specs.Envelopes.{arrived_of, going_in, home_of_message, items_in, envelopes_out, messages_in, sent_in}
use Rattle.range_moves.specs.Traffic.{IsLocatedWith}
use Rattle.range_moves.proofs.Located.{at_rest as located_at_rest}
use Rattle.world.specs.declared.flight.Envelope.{Envelope}
use Rattle.world.specs.declared.flight.Outgoing.{Outgoing}
use Rattle.world.specs.Sound.{ActiveTransactions, IsSoundAct, IsSoundMessage, awaited_by_all, flight, reported_to_all}
use Rattle.world.specs.Shards.{HaveToWait, IsShardOf, act_of, message_of, waiting_at, waiting_in}
use Rattle.world.specs.Together.{IsSound, arrived_in, envelopes_of_all, together}
use Rattle.world.specs.Queues.{all_of}
use Rattle.range_moves.proofs.Parcels.{owned}
use Rattle.world.specs.Worlds.{IsAtRest, IsIdleAt, IsNeverStuck, IsOwned, WaitsFor, count_busy}
use Rattle.world.proofs.OneSlot.{awaited_of, of_slot, sound_in, weigh_slots}
use Rattle.world.proofs.Quiet.{quiet_rests}
use Rattle.world.proofs.ShardView.{stands_among}
use Rattle.world.proofs.Tokens.{by_bool}
use Rattle.world.proofs.Holders.{active_awaits, claim_of, contains_mapped, counted_in, empty_of, holder_active, mapped_contains, whose_token}
use Rattle.world.proofs.Reported.{met_tokens}

-- ---- a waiting action is older than those it waits for

module _ {J : Type 0} where
  pub older : (w : Parts J) → All HaveToWait w.shards.items → (t u : ℕ) → WaitsFor w t u → t < u
  older w wait t u waits =
      let have : HaveToWait waits.shard = All-contains HaveToWait w.shards.items waits.shard wait waits.there in
      let must = All-contains (StillWaits waits.shard.slice.holdings) waits.shard.slice.waiters waits.waiting have waits.waits in
      omega (arith, must.younger waits.holding waits.blocks, waits.age, waits.holder)

-- ages rise along a path
path_rises : (waits : ℕ → ℕ → Type 0) → ((t u : ℕ) → waits t u → t < u) → (t : ℕ) (ages : List ℕ) (u : ℕ) → Path waits t ages u → t < u
path_rises waits rises t [] u path = rises t u path
path_rises waits rises t (next ∷ ages) u path = omega (arith, rises t next path.0, path_rises waits rises next ages u path.1)

module _ {J : Type 0} where
  -- ---- where nothing can be taken or sent

  -- an action of this age waits at a shard
  abbrev Waits : Parts J → ℕ → Type 0
  Waits w n = (s : ShardView (Carried J)) × (Contains w.shards.items s × ((p : Parked (Carried J)) × (Contains s.parked p × (p.by.age ≡ n))))

  -- a message of `waiting_in` is that of a waiting action
  who_waits : (w : Parts J) (m : Message J) → Contains (waiting_in w) m → (s : ShardView (Carried J)) × (Contains w.shards.items s × ((p : Parked (Carried J)) × (Contains s.parked p × (message_of p ≡ m))))
  who_waits w m is =
      let in_lists = joined_contains (λ queue. queue) (map waiting_at w.shards.items) m is in
      let shard = mapped_contains waiting_at w.shards.items in_lists.0 in_lists.1 in
      let action = mapped_contains message_of shard.0.parked m (subst (λ (q : List (Message J)). Contains q m) (sym shard.1.1) in_lists.2) in
      (shard.0, (shard.1.0, (action.0, (action.1.0, action.1.1))))

  module _ (shared : SharedTables) (w : Core J) (h : IsSound shared w) (rest : IsAtRest w) where
    abbrev all : Parts J
    all = together w

    abbrev waiting : List (Message J)
    waiting = waiting_in w.parts

    -- no move is outstanding, and nothing is parked
    unmoved : (w.placements.awaited ≡ 0) × (map home_of_message w.parked ≡ [])
    unmoved =
        let envelopes : envelopes_of_all w ≡ [] = ap (λ (ls : List (Envelope J)). ls ++ envelopes_out (all_of w.outboxes)) rest.0 ∙ ap (λ (ps : List (Outgoing J)). envelopes_out ps) rest.1 in
        located_at_rest w.placements (map home_of_message w.parked)
        (subst (λ (ls : List (Envelope J)). IsLocatedWith 0 w.placements (going_in ls) (sent_in ls) 0 (map home_of_message w.parked)) envelopes
        (subst (λ (ps : List (Outgoing J)). IsLocatedWith 0 w.placements (going_in (envelopes_of_all w)) (sent_in (envelopes_of_all w)) (sum_by arrived_of ps) (map home_of_message w.parked)) rest.1 h.located))

    none_parked : w.parked ≡ []
    none_parked = by w.parked unmoved.1
      where
        by : (ms : List (Message J)) → map home_of_message ms ≡ [] → ms ≡ []
        by [] is = refl
        by (m ∷ ms) is = absurd (cc)

    inbox_is : all.inbox ≡ waiting
    inbox_is = ap (λ (ls : List (Envelope J)). waiting ++ (messages_in ls ++ w.parked)) rest.0 ∙ ap (λ (q : List (Message J)). waiting ++ q) none_parked ∙ append-nil waiting

    outbox_is : all.outbox ≡ []
    outbox_is = ap (λ (ps : List (Outgoing J)). items_in ps) rest.1

    abbrev at : ActiveTransactions
    at = h.all.in_flight

    -- what is in flight belongs to a waiting action or has met
    tokens_are : (weight : Token → ℕ) → sum_by weight (parts part_message waiting).tokens ≡ sum_by weight (awaited_by_all 0 all.desk.active)
    tokens_are weight =
        let met = parts part_met (reported_to_all all.desk.active) in
        let of_outbox = parts part_item all.outbox in
        omega (
          arith,
          h.all.balance.tokens weight,
          ap (λ (q : List (Message J)). sum_by weight (parts part_message q).tokens) inbox_is,
          ap (λ (is : List (Item J)). sum_by weight (parts part_item is).tokens) outbox_is,
          sum_by-append weight (parts part_message all.inbox).tokens (of_outbox.tokens ++ met.tokens),
          sum_by-append weight of_outbox.tokens met.tokens,
          ap (λ (ts : List Token). sum_by weight ts) (met_tokens (reported_to_all all.desk.active)),
        )

    sound_waiting : (m : Message J) → Contains waiting m → IsSoundMessage shared at m
    sound_waiting m is = All-contains (IsSoundMessage shared at) waiting m (subst (All (IsSoundMessage shared at)) inbox_is h.all.inbox) is

    -- for each slot whose transaction awaits something, an action waits
    slot_waits : (slot : ℕ) → 1 ≤ sum_by (weigh_slots (of_slot slot)) (awaited_by_all 0 all.desk.active) → Waits w.parts (at slot).age
    slot_waits slot some =
        let one = whose_token part_message (weigh_slots (of_slot slot)) waiting (omega (arith, some, tokens_are (weigh_slots (of_slot slot)))) in
        let who = who_waits w.parts one.0 one.1.0 in
        let p = who.1.1.0 in
        let weighs : 1 ≤ sum_by (weigh_slots (of_slot slot)) (part_message (message_of p)).tokens = subst (λ (m : Message J). 1 ≤ sum_by (weigh_slots (of_slot slot)) (part_message m).tokens) (sym who.1.1.1.1) one.1.1 in
        let fine : IsSoundAct shared (at p.carried.slot) (act_of p) = subst (λ (m : Message J). IsSoundMessage shared at m) (sym who.1.1.1.1) (sound_waiting one.0 one.1.0) in
        let same : slot ≡ p.carried.slot =
        by_bool (slot == p.carried.slot)
        (λ is. exact_unsigned_eq slot p.carried.slot is)
        (λ other. absurd (omega (arith, weighs, sum_by-cons (weigh_slots (of_slot slot)) (Acting p.carried.slot p.by.place) [], ap {B = ℕ} (λ b. cond b 1 0) other))) in
        (who.0, (who.1.0, (p, (who.1.1.1.0, fine.age ∙ ap (λ n. (at n).age) (sym same)))))

    -- a holder of a claim waits too
    holder_waits : (c : ClaimView) → Contains (flight all).claims c → Waits w.parts c.by.age
    holder_waits c is =
        let holder = holder_active shared all h.all c is in
        let slot = holder.0 in
        let some = active_awaits shared slot (at slot) holder.1.0 (sound_in shared at slot all.desk.active (Some holder.1.0) h.all.active holder.1.1.0) in
        subst (Waits w.parts) (sym holder.1.1.1)
        (slot_waits slot (omega (arith, some, awaited_of (weigh_slots (of_slot slot)) slot all.desk.active (Some holder.1.0) holder.1.1.0)))

    -- a waiting action waits for a younger one that waits too
    younger_waits : (n : ℕ) → Waits w.parts n → (m : ℕ) × ((n < m) × Waits w.parts m)
    younger_waits n waits =
        let s = waits.0 in
        let p = waits.1.1.0 in
        let shard = All-contains (IsShardOf shared.scale.warehouses) w.parts.shards.items s h.shards waits.1.0 in
        let have : HaveToWait s = All-contains HaveToWait w.parts.shards.items s h.wait waits.1.0 in
        let parked : Contains (map waiting_of s.parked) (waiting_of p) = contains_mapped waiting_of s.parked p waits.1.1.1.0 in
        let must = All-contains (StillWaits s.slice.holdings) s.slice.waiters (waiting_of p) have (subst (λ (ws : List WaitingAction). Contains ws (waiting_of p)) (sym shard.waiters) parked) in
        let holding = must.some.0 in
        let w_id = s.slice.home in
        let held : Contains ((joined_in w.parts).holdings w_id) holding =
        subst (λ (hs : List HeldClaim). Contains hs holding) (sym (stands_among w.parts h.all.slices s waits.1.0)) must.some.1.0 in
        let out = Contains-permutation ((joined_in w.parts).holdings w_id) (held_at w_id (flight all).claims) holding (h.all.held w_id) held in
        let claim = claim_of w_id (flight all).claims holding out in
        (claim.0.by.age, (omega (arith, must.younger holding must.some.1, waits.1.1.1.1, ap (λ (x : HeldClaim). x.by.age) claim.1.1), holder_waits claim.0 claim.1.0))

    -- so if an action waits, arbitrarily young ones wait
    as_young : (bound n : ℕ) → Waits w.parts n → (m : ℕ) × ((bound ≤ m) × Waits w.parts m)
    as_young zero n waits = (n, (omega arith, waits))
    as_young (suc bound) n waits =
        let one = as_young bound n waits in
        let next = younger_waits one.0 one.1.1 in
        (next.0, (omega (arith, one.1.0, next.1.0), next.1.1))

    none_waits : (n : ℕ) → Waits w.parts n → ⊥
    none_waits n waits =
        let bound = sum_by (λ (s : ShardView (Carried J)). sum_by (λ (p : Parked (Carried J)). p.by.age) s.parked) w.parts.shards.items in
        let one = as_young (suc bound) n waits in
        let who = one.1.1 in
        omega (
          arith,
          one.1.0,
          who.1.1.1.1,
          counted_in (λ (p : Parked (Carried J)). p.by.age) who.0.parked who.1.1.0 who.1.1.1.0,
          counted_in (λ (s : ShardView (Carried J)). sum_by (λ (p : Parked (Carried J)). p.by.age) s.parked) w.parts.shards.items who.0 who.1.0,
        )

    nobody_waits : waiting ≡ []
    nobody_waits = by waiting refl
      where
        by : (ms : List (Message J)) → waiting ≡ ms → ms ≡ []
        by [] is = refl
        by (m ∷ ms) is =
            let who = who_waits w.parts m (subst (λ (q : List (Message J)). Contains q m) (sym is) (contains_here m ms)) in
            absurd (none_waits who.1.1.0.by.age (who.0, (who.1.0, (who.1.1.0, (who.1.1.1.0, refl)))))

    pub rests : IsIdleAt w
    rests =
        let both = quiet_rests shared all h.all (inbox_is ∙ nobody_waits) outbox_is in
        record {
          active = both.0;
          claims = both.1;
          waiting = nobody_waits;
          holdings = λ w_id. empty_of ((joined_in w.parts).holdings w_id) (subst (λ (cs : List ClaimView). IsPermutation ((joined_in w.parts).holdings w_id) (held_at w_id cs)) both.1 (h.all.held w_id));
          awaited = unmoved.0;
          parked = none_parked;
        }

  pub never_stuck : (shared : SharedTables) (w : Core J) → IsSound shared w → IsNeverStuck w
  never_stuck shared w h = record {
    rises = older w.parts h.wait;
    no_circle = λ t ages path. let up = path_rises (WaitsFor w.parts) (older w.parts h.wait) t ages t path in omega (arith, up);
    idle = λ rest. rests shared w h rest;
  }

  -- it is so of how the world is seen
  pub never_stuck_seen : (shared : SharedTables) (w seen : Core J) → w ≡ seen → IsSound shared w → IsNeverStuck seen
  never_stuck_seen shared w seen same h = subst IsNeverStuck same (never_stuck shared w h)

  pub rests_idle : (shared : SharedTables) (w seen : Core J) → w ≡ seen → IsSound shared w → IsAtRest seen → count_busy seen ≡ 0
  rests_idle shared w seen same h rest =
      let idle = (never_stuck_seen shared w seen same h).idle rest in
      omega (arith, idle.active, idle.awaited)

  -- each slice is somewhere
  pub is_owned : (shared : SharedTables) (w : Core J) → IsSound shared w → IsOwned w
  is_owned shared w h =
      let envelopes = envelopes_of_all w in
      owned 0 w.placements (going_in envelopes) (sent_in envelopes) (arrived_in w) (map home_of_message w.parked) h.located
