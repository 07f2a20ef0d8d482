-- A world that was just opened.
use Rattle.std.specs.List.{AllByRecursion}
use Rattle.world.specs.declared.flight.Carried.{Carried}
use Rattle.world.specs.Shards.{HaveToWait, IsShardOf, NobodyWaitsIn, slice_of, slices_in, shard_of, waiting_at, waiting_in}
use Rattle.transactions.specs.Shards.{ShardView}
use Rattle.local_locks.specs.Asking.{StillWaits}
use Rattle.std.proofs.Common.{◌≡◌, ℕ, ◌+◌, ◌<◌, zero, suc, List, [], ◌∷◌, Option, Some, None, map, length, get_or, refl, sym, ap, subst, ◌∙◌, cond, arith, option_map, IsPermutation, ◌++◌}
use Rattle.std.specs.Prelude.{count_by, replicate, slice_get, slice_index_or, sum_by, All, flat_map}
use Rattle.std.proofs.lemmas.List.{get_or-map, length-map, length-replicate}
use Rattle.std.proofs.lemmas.List.Elements.{All-nil, All-map, All-weaker, All-from_recursion}
use Rattle.std.proofs.lemmas.List.Sums.{sum_by-cons}
use Rattle.std.proofs.lemmas.Option.{slice_get-map, slice_get_within}
use Rattle.std.proofs.lemmas.List.Sorted.{IsPermutation-refl}
use Rattle.rows.specs.declared.limits.TheConstants.{SESSIONS}
use Rattle.schema.specs.Database.{Database, IsWithinScale}
use Rattle.partitions.specs.Parts.{SharedTables, parts_of, shared_of, Part}
use Rattle.schema.specs.Consistency.{Consistent}
use Rattle.groups.specs.Content.{content}
use Rattle.tickets.specs.Boxes.{TicketBoxView}
use Rattle.tickets.specs.LogSeats.{CommittedGroup}
use Rattle.tickets.specs.Openings.{OpenedGroup, box_beside, contents_committed, contents_opened}
use Rattle.tickets.specs.Places.{AreInPlace}
use Rattle.tickets.proofs.Committed as kept
use Rattle.commit_log.specs.PassView.{PassView, SessionSeatView, new_pass, new_seat}
use Rattle.history.proofs.Fitting.{empty_history_fits}
use Rattle.transactions.proofs.Unasked.{unasked, unasked_progress}
use Rattle.slices.specs.Openings.{AreOpenedFor, IsBoxOf}
use Rattle.slices.specs.SliceView.{SliceView, AreSlicesOf, all_at_rest, all_standing, at_rest, everywhere, joined, held_at}
use Rattle.slices.proofs.Joined.{cut_slices_are_at_rest}
use Rattle.slices.proofs.Opened.{opened_groups_have_boxes}
use Rattle.world.specs.declared.desk.Active.{Active}
use Rattle.world.specs.declared.desk.SessionDesk.{SessionDesk}
use Rattle.world.specs.declared.world.Parts.{Parts}
use Rattle.world.specs.declared.world.Core.{Core}
use Rattle.world.specs.declared.flight.Message.{Message}
use Rattle.routing.specs.Routes.{Routes}
use Rattle.world.specs.Together.{IsSound, arrived_in, envelopes_of_all, together}
use Rattle.world.specs.Queues.{all_of}
use Rattle.world.specs.Envelopes.{IsOutgoing, IsTo, arrived_of, going_in, home_of_message, items_in, envelopes_out, messages_in, sent_in}
use Rattle.range_moves.specs.Placements.{IsOpenedBy}
use Rattle.range_moves.specs.Traffic.{IsLocatedWith}
use Rattle.range_moves.proofs.Located.{opened_located}
use Rattle.world.specs.declared.flight.Envelope.{Envelope}
use Rattle.world.specs.declared.flight.Outgoing.{Outgoing}
use Rattle.world.specs.declared.slots.TheConstants.{MOST_ACTIVE}
use Rattle.world.specs.Parted.{joined_in}
use Rattle.world.specs.Flights.{nothing, join, parts, part_message, part_item, part_met, InFlight}
use Rattle.world.specs.declared.setup.Setup.{Setup}
use Rattle.world.specs.Openings.{AreNewLanes, IsNew, session_with}
use Rattle.world.specs.Sound.{HaveTheirAges, IsSoundWith, IsSoundMessage, IsSoundItem, AreSoundActive, IsPassOf, IsBalanced, ActiveTransactions, awaited_by_all, is_here, reported_to_all, flight}
use Rattle.world.specs.Worlds.{Fits, FitsPart, IsAcceptedIn, IsClaimOf}
use Rattle.world.proofs.Ages.{no_ages}

-- ---- the log's seats

-- they have what the tables have
pub seats_record : (t : Database) (openings : List OpenedGroup) (seats : List CommittedGroup) → AreOpenedFor t openings → AreInPlace t.scale.warehouses seats → contents_committed seats ≡ contents_opened openings
    → (place : ℕ) (d : CommittedGroup) → place < length seats → content t (get_or seats place d).group ≡ (get_or seats place d).content
seats_record t openings seats opened in_place same place d small =
    let boxes = opened_groups_have_boxes t openings seats opened in_place same in
    let long : length (map box_beside seats) ≡ length seats = length-map seats box_beside in
    let is : IsBoxOf t place (get_or (map box_beside seats) place (box_beside d)) = boxes.each place (box_beside d) (omega (arith, small, long)) in
    let here : IsBoxOf t place (box_beside (get_or seats place d)) = subst (IsBoxOf t place) (get_or-map box_beside seats place d (box_beside d) small) is in
    sym (ap (λ (b : TicketBoxView). b.left) here.has)

-- ---- the slices

-- those of the tables that were cut are the slices of all warehouses, at rest
pub cut_slices : (t : Database) (shared : SharedTables) (slices : List SliceView) → IsWithinScale t → shared ≡ shared_of t → slices ≡ map at_rest (parts_of t)
    → AreSlicesOf shared slices × (joined shared slices ≡ all_at_rest t)
cut_slices t shared slices within same are =
    let Are : SharedTables → List SliceView → Type 0 = λ s l. AreSlicesOf s l × (joined s l ≡ all_at_rest t) in
    subst (λ s. Are s slices) (sym same) (subst (Are (shared_of t)) (sym are) (cut_slices_are_at_rest t within))

-- ---- the shards

-- of shards that were just opened, the slices are those that they were opened with
pub slices_back : (J : Type 0) (slices : List SliceView) → map slice_of (map (shard_of {J = J}) slices) ≡ slices
slices_back J [] = refl
slices_back J (s ∷ slices) = ap (λ (l : List SliceView). s ∷ l) (slices_back J slices)

module _ {J : Type 0} where
  -- and no action waits there
  pub nobody_waits : (slices : List SliceView) → flat_map (λ queue. queue) (map (waiting_at {J = J}) (map shard_of slices)) ≡ []
  nobody_waits [] = refl
  nobody_waits (s ∷ slices) = nobody_waits slices

  pub have_not_to_wait : (slices : List SliceView) → All NobodyWaitsIn slices → All (HaveToWait {J = J}) (map shard_of slices)
  have_not_to_wait slices none = All-map HaveToWait shard_of slices (All-weaker NobodyWaitsIn (λ s. HaveToWait {J = J} (shard_of s)) (λ s is. subst (All (StillWaits s.holdings)) (sym is) (All-nil (StillWaits s.holdings))) slices none)

-- the shards of slices that were just cut
pub opened_shards : {J : Type 0} (t : Database) (shared : SharedTables) (slices : List SliceView) (shards : List (ShardView (Carried J))) → AreSlicesOf shared slices × (joined shared slices ≡ all_at_rest t) → shards ≡ map shard_of slices
    → AreSlicesOf shared (map slice_of shards) × ((flat_map (λ queue. queue) (map waiting_at shards) ≡ []) × (joined shared (map slice_of shards) ≡ all_at_rest t))
opened_shards {J} t shared slices shards are made =
    let back : map slice_of shards ≡ slices = ap (map slice_of) made ∙ slices_back J slices in (
      subst (AreSlicesOf shared) (sym back) are.0,
      (ap (λ (l : List (ShardView (Carried J))). flat_map (λ queue. queue) (map waiting_at l)) made ∙ nobody_waits slices, ap (joined shared) back ∙ are.1),
    )

-- no action waits in slices that were just cut
pub cut_waits : (parts : List Part) → All NobodyWaitsIn (map at_rest parts)
cut_waits parts = All-map NobodyWaitsIn at_rest parts (All-from_recursion (λ p. NobodyWaitsIn (at_rest p)) parts (each parts))
  where
    each : (parts : List Part) → AllByRecursion (λ p. NobodyWaitsIn (at_rest p)) parts
    each [] = tt
    each (p ∷ parts) = (refl, each parts)

-- ---- the sessions

-- a transaction in each slot, where there is none
none_in_flight : ActiveTransactions
none_in_flight slot = record { request = unasked; progress = unasked_progress; held = []; age = 0 }

-- free slots
none_met : (J : Type 0) (n : ℕ) → reported_to_all {J = J} (replicate n None) ≡ []
none_met J zero = refl
none_met J (suc n) = none_met J n

none_awaited : (J : Type 0) (slot n : ℕ) → awaited_by_all {J = J} slot (replicate n None) ≡ []
none_awaited J slot zero = refl
none_awaited J slot (suc n) = none_awaited J (suc slot) n

none_active : (J : Type 0) (shared : SharedTables) (at : ActiveTransactions) (slot n : ℕ) → AreSoundActive {J = J} shared at slot (replicate n None)
none_active J shared at slot zero = tt
none_active J shared at slot (suc n) = (tt, none_active J shared at (suc slot) n)

found_in : {X Y : Type 0} (f : X → Y) (o : Option X) (y : Y) (x : X) → option_map f o ≡ Some y → o ≡ Some x → y ≡ f x
found_in f o y x found is = cc

all_here : (J : Type 0) (lanes : List (PassView × SessionSeatView)) → count_by (is_here {J = J}) (map session_with lanes) ≡ length lanes
all_here J [] = refl
all_here J (lane ∷ lanes) =
    sum_by-cons (λ (s : SessionDesk J). cond (is_here s) 1 0) (session_with lane) (map session_with lanes) ∙ ap {B = ℕ} (λ n. 1 + n) (all_here J lanes) ∙ one_more (length lanes)
  where
    one_more : (n : ℕ) → 1 + n ≡ suc n
    one_more n = omega arith

module _ {J : Type 0} where
  session_is : (lanes : List (PassView × SessionSeatView)) (number : ℕ) (session : SessionDesk J) → AreNewLanes lanes → slice_get (map session_with lanes) number ≡ Some session
      → session ≡ session_with (new_pass number, new_seat number)
  session_is lanes number session new found =
      let inside : number < length (map (session_with {J = J}) lanes) = slice_get_within (map session_with lanes) number session found in
      let below : number < SESSIONS = omega (arith, inside, length-map lanes (session_with {J = J}), new.many) in
      found_in session_with (slice_get lanes number) session (new_pass number, new_seat number) (sym (slice_get-map session_with lanes number) ∙ found) (new.each number below)

  -- ---- the world

  nothing_flies : (w : Parts J) → w.inbox ≡ [] → w.outbox ≡ [] → w.desk.active ≡ replicate MOST_ACTIVE None → flight w ≡ nothing
  nothing_flies w inbox outbox active =
      ap (λ ms. join (parts part_message ms) (join (parts part_item w.outbox) (parts part_met (reported_to_all w.desk.active)))) inbox
      ∙ ap (λ is. join nothing (join (parts part_item is) (parts part_met (reported_to_all w.desk.active)))) outbox
      ∙ ap (λ rs. join nothing (join nothing (parts part_met rs))) (ap reported_to_all active ∙ none_met J MOST_ACTIVE)

  pub opened_sound : (shared : SharedTables) (lanes : List (PassView × SessionSeatView)) (w : Parts J) → AreNewLanes lanes → w.catalog ≡ shared → AreSlicesOf w.catalog (slices_in w) → ((w_id : ℕ) → (joined_in w).holdings w_id ≡ []) → w.inbox ≡ [] → w.outbox ≡ [] → w.desk.active ≡ replicate MOST_ACTIVE None
      → w.desk.sessions.items ≡ map session_with lanes → IsSoundWith shared nothing w
  opened_sound shared lanes w new shared_is slices none inbox outbox active sessions =
      let found_at : (number : ℕ) (session : SessionDesk J) → slice_get w.desk.sessions.items number ≡ Some session → session ≡ session_with (new_pass number, new_seat number) =
      λ number session found. session_is lanes number session new (sym (ap (λ l. slice_get l number) sessions) ∙ found) in
      let here : count_by is_here w.desk.sessions.items ≡ length lanes = ap (λ l. count_by is_here l) sessions ∙ all_here J lanes in
      record {
        shared_is = shared_is;
        slices = slices;
        in_flight = none_in_flight;
        inbox = subst (All (IsSoundMessage shared none_in_flight)) (sym inbox) (All-nil (IsSoundMessage shared none_in_flight));
        outbox = subst (All (IsSoundItem shared none_in_flight)) (sym outbox) (All-nil (IsSoundItem shared none_in_flight));
        slots = ap (λ (l : List (Option (Active J))). length l) active ∙ length-replicate {A = Option (Active J)} MOST_ACTIVE None;
        active = subst (AreSoundActive shared none_in_flight 0) (sym active) (none_active J shared none_in_flight 0 MOST_ACTIVE);
        ages = subst (HaveTheirAges none_in_flight w.desk.admitted) (sym active) (no_ages none_in_flight w.desk.admitted MOST_ACTIVE);
        seats = ap length sessions ∙ length-map lanes session_with ∙ new.many;
        sessions = λ number session found.
            let is = found_at number session found in
            (ap (λ (s : SessionDesk J). s.seat.session) is, subst (IsPassOf number) (sym (ap (λ (s : SessionDesk J). s.pass) is)) refl);
        balance = subst (λ p. IsBalanced w.desk (join nothing p)) (sym (nothing_flies w inbox outbox active)) (record {
          tokens = λ weight. ap (λ ts. sum_by weight ts) (sym (ap (awaited_by_all 0) active ∙ none_awaited J 0 MOST_ACTIVE));
          alone = λ number session found. ap {B = ℕ} (λ (s : SessionDesk J). 0 + cond (is_here s) 1 0) (found_at number session found);
          many = omega (arith, here, new.many);
        });
        held = λ w_id. subst (λ hs. IsPermutation hs (held_at w_id (flight w).claims)) (sym (none w_id))
            (subst (λ (p : InFlight). IsPermutation [] (held_at w_id p.claims)) (sym (nothing_flies w inbox outbox active)) (IsPermutation-refl []));
      }

  pub opened_new : (t : Database) (setup : Setup) (lanes : List (PassView × SessionSeatView)) (w : Core J) → AreNewLanes lanes → w.parts.catalog ≡ shared_of t → w.parts.shards.items ≡ map shard_of (map at_rest (parts_of t))
      → AreSlicesOf w.parts.catalog (slices_in w.parts) → waiting_in w.parts ≡ [] → joined_in w.parts ≡ all_at_rest t
      → IsOpenedBy (record { warehouses = t.scale.warehouses; executors = setup.executors }) w.placements → w.parked ≡ [] → w.log_limit ≡ setup.limits.log → w.inbox_limit ≡ setup.limits.inbox
      → w.inboxes ≡ replicate setup.executors [] → w.outboxes ≡ replicate setup.executors []
      → w.parts.inbox ≡ [] → w.parts.outbox ≡ [] → w.parts.log ≡ [] → w.parts.desk.admitted ≡ 0 → w.parts.desk.active ≡ replicate MOST_ACTIVE None
      → w.parts.desk.sessions.items ≡ map session_with lanes → IsNew t setup w
  opened_new t setup lanes w new catalog shards slices none_waits rows placements parked log_limit limit inboxes outboxes inbox outbox log admitted active sessions = record {
    catalog = catalog;
    shards = shards;
    slices = slices;
    none_waits = none_waits;
    rows = rows;
    placements = placements;
    parked = parked;
    log_limit = log_limit;
    inbox_limit = limit;
    inboxes = inboxes;
    outboxes = outboxes;
    in_hand = (inbox, outbox);
    log = log;
    admitted = admitted;
    active = active;
    many = ap length sessions ∙ length-map lanes session_with ∙ new.many;
    each = λ number below.
        ap (λ l. slice_get l number) sessions ∙ slice_get-map session_with lanes number ∙ ap (λ lane. option_map session_with lane) (new.each number below);
  }

-- nothing waits in empty queues
none_waits : (X : Type 0) (executors : ℕ) → all_of {X = X} (replicate executors []) ≡ []
none_waits X zero = refl
none_waits X (suc n) = none_waits X n

none_at : (X : Type 0) (executors place : ℕ) → slice_index_or {A = List X} (replicate executors []) place [] ≡ []
none_at X zero place = refl
none_at X (suc n) zero = refl
none_at X (suc n) (suc place) = none_at X n place

module _ {J : Type 0} where
  -- so it is where each executor has empty queues
  pub opened_core : (shared : SharedTables) (executors : ℕ) (lanes : List (PassView × SessionSeatView)) (w : Core J) → AreNewLanes lanes → w.parts.catalog ≡ shared → AreSlicesOf w.parts.catalog (slices_in w.parts)
      → ((w_id : ℕ) → (joined_in w.parts).holdings w_id ≡ []) → waiting_in w.parts ≡ [] → All (IsShardOf shared.scale.warehouses) w.parts.shards.items → All HaveToWait w.parts.shards.items
      → IsOpenedBy (record { warehouses = shared.scale.warehouses; executors = executors }) w.placements → w.parked ≡ [] → w.inboxes ≡ replicate executors [] → w.outboxes ≡ replicate executors []
      → w.parts.inbox ≡ [] → w.parts.outbox ≡ [] → w.parts.desk.active ≡ replicate MOST_ACTIVE None → w.parts.desk.sessions.items ≡ map session_with lanes → IsSound shared w
  opened_core shared executors lanes w new shared_is slices none none_wait shards wait placements parked inboxes outboxes inbox outbox active sessions =
      let no_envelopes : all_of w.inboxes ≡ [] = ap (λ qs. all_of qs) inboxes ∙ none_waits (Envelope J) executors in
      let no_posts : all_of w.outboxes ≡ [] = ap (λ qs. all_of qs) outboxes ∙ none_waits (Outgoing J) executors in
      let routes : Routes = record { warehouses = shared.scale.warehouses; executors = executors } in
      let envelopes : envelopes_of_all w ≡ [] = ap (λ (ls : List (Envelope J)). ls ++ envelopes_out (all_of w.outboxes)) no_envelopes ∙ ap (λ (ps : List (Outgoing J)). envelopes_out ps) no_posts in
      record {
        shards = shards;
        wait = wait;
        all = opened_sound shared lanes (together w) new shared_is slices none
            (ap (λ (q : List (Message J)). q ++ (messages_in (all_of w.inboxes) ++ w.parked)) none_wait ∙ ap (λ (ls : List (Envelope J)). messages_in ls ++ w.parked) no_envelopes ∙ parked)
            (ap (λ (ps : List (Outgoing J)). items_in ps) no_posts) active sessions;
        warehouses = placements.many;
        inboxes = ap (λ qs. length qs) inboxes ∙ length-replicate executors [] ∙ sym placements.executors;
        outboxes = ap (λ qs. length qs) outboxes ∙ length-replicate executors [] ∙ sym placements.executors;
        own = λ executor. subst (λ (q : List (Envelope J)). All (IsTo executor) q) (sym (ap (λ (qs : List (List (Envelope J))). slice_index_or qs executor []) inboxes ∙ none_at (Envelope J) executors executor)) (All-nil (IsTo executor));
        outgoing = subst (λ (ps : List (Outgoing J)). All (IsOutgoing w.placements.executors) ps) (sym no_posts) (All-nil (IsOutgoing w.placements.executors));
        located = subst (λ (ls : List (Envelope J)). IsLocatedWith 0 w.placements (going_in ls) (sent_in ls) (arrived_in w) (map home_of_message w.parked)) (sym envelopes)
            (subst (λ (ps : List (Outgoing J)). IsLocatedWith 0 w.placements [] [] (sum_by arrived_of ps) (map home_of_message w.parked)) (sym no_posts)
            (subst (λ (ms : List (Message J)). IsLocatedWith 0 w.placements [] [] 0 (map home_of_message ms)) (sym parked) (opened_located routes w.placements placements)));
        no_inbox = inbox;
        no_outbox = outbox;
      }

-- ---- its history

module _ (t : Database) (consistent : Consistent t) where
  rest_fits : FitsPart t [] [] (all_at_rest t) 0 nothing
  rest_fits = record {
    recorded = empty_history_fits t consistent;
    committed = (kept.rest_is_committed everywhere (content t) (all_standing (all_at_rest t))).0 (record {
      free = λ group near. refl;
      rows = λ group near. refl;
    });
    held = λ w_id. IsPermutation-refl [];
    accepted = All-nil (IsAcceptedIn []);
    claimed = All-nil (IsClaimOf []);
    scale = refl;
    items = refl;
  }

  opened_parts : {J : Type 0} (w : Parts J) → joined_in w ≡ all_at_rest t → w.log ≡ [] → w.inbox ≡ [] → w.outbox ≡ [] → w.desk.active ≡ replicate MOST_ACTIVE None → w.desk.admitted ≡ 0
      → Fits t [] w
  opened_parts w rest empty inbox outbox active admitted =
      subst (λ p. FitsPart t [] w.log (joined_in w) w.desk.admitted p) (sym (nothing_flies w inbox outbox active))
      (subst (λ n. FitsPart t [] w.log (joined_in w) n nothing) (sym admitted)
      (subst (λ l. FitsPart t [] l (joined_in w) 0 nothing) (sym empty) (subst (λ s. FitsPart t [] [] s 0 nothing) (sym rest) rest_fits)))

  pub opened_fits : {J : Type 0} (executors : ℕ) (w : Core J) → waiting_in w.parts ≡ [] → joined_in w.parts ≡ all_at_rest t → w.parts.log ≡ [] → w.parked ≡ [] → w.inboxes ≡ replicate executors [] → w.outboxes ≡ replicate executors []
      → w.parts.desk.active ≡ replicate MOST_ACTIVE None → w.parts.desk.admitted ≡ 0 → Fits t [] (together w)
  opened_fits {J} executors w none_wait rest empty parked inboxes outboxes active admitted =
      opened_parts (together w) rest empty
      (ap (λ (q : List (Message J)). q ++ (messages_in (all_of w.inboxes) ++ w.parked)) none_wait ∙ ap (λ qs. messages_in (all_of qs) ++ w.parked) inboxes ∙ ap (λ (ls : List (Envelope J)). messages_in ls ++ w.parked) (none_waits (Envelope J) executors) ∙ parked)
      (ap (λ qs. items_in (all_of qs)) outboxes ∙ ap (λ (ps : List (Outgoing J)). items_in ps) (none_waits (Outgoing J) executors)) active admitted
