-- What one event may change, by the event.
use Rattle.std.proofs.Common.{◌≡◌, ◌≢◌, inl, inr, ℕ, ◌+◌, ◌-◌, ◌<◌, ◌≤◌, zero, suc, Bool, true, false, List, [], ◌∷◌, ◌++◌, length, map, Option, Some, None, refl, sym, ◌∙◌, ap, subst, ⊎_elim, arith}
use Rattle.std.specs.Prelude.{All, slice_set}
use Rattle.std.specs.List.{slice_get}
use Rattle.std.proofs.lemmas.List.{length-map}
use Rattle.std.proofs.lemmas.List.Elements.{All-head}
use Rattle.partitions.specs.Parts.{SharedTables}
use Rattle.requests.specs.declared.request.Request.{Request}
use Rattle.history.specs.declared.event.Event.{Event}
use Rattle.history.specs.declared.event.Event.TheVariants.{Submit, Order, Take, Send}
use Rattle.history.specs.declared.event.EventAnswer.{EventAnswer}
use Rattle.history.specs.declared.event.EventAnswer.TheVariants.{Ordered, Nothing}
use Rattle.range_moves.specs.declared.placement.Found.{Found}
use Rattle.range_moves.specs.declared.placement.Found.TheVariants.{Here, Went, Unknown}
use Rattle.range_moves.specs.declared.order.Moving.{Moving}
use Rattle.range_moves.specs.declared.order.Moving.TheVariants as moving
use Rattle.range_moves.specs.Placements.{AreKept, PlacementsView, found_by, placement_moved, placement_of, with_placement}
use Rattle.range_moves.specs.Orders.{size_of}
use Rattle.range_moves.specs.Traffic.{Dispatch, IsRight, IsSentRight}
use Rattle.range_moves.proofs.Knowing.{placement_other}
use Rattle.slices.specs.SliceView.{AreSlicesOf}
use Rattle.transactions.specs.Works.{home_of_request}
use Rattle.world.specs.declared.desk.SessionDesk.{SessionDesk}
use Rattle.world.specs.declared.flight.Envelope.{Envelope}
use Rattle.world.specs.declared.flight.Load.{Load}
use Rattle.world.specs.declared.flight.Load.TheVariants.{Work, Move}
use Rattle.world.specs.declared.flight.Message.{Message}
use Rattle.world.specs.declared.flight.Message.TheVariants as message
use Rattle.world.specs.declared.flight.Outgoing.{Outgoing}
use Rattle.world.specs.declared.flight.Outgoing.TheVariants as outgoing
use Rattle.world.specs.declared.world.Core.{Core}
use Rattle.world.specs.declared.world.Parts.{Parts}
use Rattle.world.specs.Changes.{ChangesOnly, HasMore, IsAbout, IsAsBefore, IsShardAsBefore, OrderChanges, OthersStay, SendChanges, SubmitChanges, TakeChanges}
use Rattle.world.specs.Happening.{CanOrder, CannotSubmit, Delivers, FindsSlice, Happens, Opens, SendsFirst, SendsOutgoing, SubmitsAt, TakesFirst, WorksIfHere, WorksOn, begins_at, beginning_at, bringing, has_room, placements_begun, moves, ordering, posting, posts_begun, submission}
use Rattle.world.specs.Envelopes.{home_of_message, is_for_slice, envelope, parked_for, outgoing_by, sent_in, sent_of, to_itself}
use Rattle.world.specs.Queues.{put_into, queue_of}
use Rattle.world.specs.Shards.{slices_in}
use Rattle.world.specs.Together.{IsSound, envelopes_of_all}
use Rattle.world.proofs.Answered.{nothing_exactly, outgoing_something}
use Rattle.world.proofs.Changing.{item_changes, left_there, more_put, none_more, others_set, parked_less, parked_more, takes_one, takes_others, turned_more, turned_none}
use Rattle.world.proofs.Posting.{is_outgoing, takes_envelope, there_in, there_out}
use Rattle.world.proofs.Sent.{none_begins, submit_cases}
use Rattle.world.proofs.Steps.{routes_below}

-- ---- where slices are, as a move begins

begun_rest : (n w_id to : ℕ) (h : PlacementsView) → placements_begun n w_id to h ≡ record h { placements = (placements_begun n w_id to h).placements }
begun_rest zero w_id to h = refl
begun_rest (suc n) w_id to h = begun_rest n (w_id + 1) to (with_placement h w_id (placement_moved (placement_of h w_id) to))

begun_other : (n w_id to : ℕ) (h : PlacementsView) (v : ℕ) → 1 ≤ w_id → (w_id ≤ v → v < w_id + n → ⊥) → placement_of (placements_begun n w_id to h) v ≡ placement_of h v
begun_other zero w_id to h v first out = refl
begun_other (suc n) w_id to h v first out =
    let placement = placement_moved (placement_of h w_id) to in
    begun_other n (w_id + 1) to (with_placement h w_id placement) v (omega arith) (λ low high. out (omega (arith, low)) (omega (arith, high)))
    ∙ placement_other h w_id placement v first (λ same. out (omega (arith, same)) (omega (arith, same)))

module _ {J : Type 0} where
  -- ---- a request is submitted

  submit_changes : (room : Bool) (found : Option (SessionDesk J)) (session number : ℕ) (asked : Request) (old : Core J) (parts : Parts J) (answer : EventAnswer) → old.parts.inbox ≡ [] → begins_at asked old < length old.inboxes
      → SubmitsAt (submission room session number asked) found old.parts answer parts → SubmitChanges asked old (beginning_at (begins_at asked old) parts old)
  submit_changes room found session number asked old parts answer none there said =
      ⊎_elim
      (λ same.
      subst (λ (v : Core J). SubmitChanges asked old v) (sym (ap (λ (v : Parts J). beginning_at to v old) same ∙ none_begins old to none))
      (record { more = []; one = omega arith; inbox = none_more to old.inboxes; rest = refl }))
      (λ admitted.
      let a = admitted.1.1 in
      let one : length parts.inbox ≡ 1 = ap (λ (ms : List (Message J)). length ms) (a.inbox ∙ ap (λ (ms : List (Message J)). ms ++ message.Start a.flow a.works ∷ []) none) in
      record {
        more = envelopes;
        one = omega (arith, one, length-map parts.inbox (λ (m : Message J). envelope to (Work m)));
        inbox = more_put to old.inboxes envelopes there;
        rest = λ k. record old {
          parts = record { catalog = a.catalog k; shards = a.shards k; inbox = sym none k; outbox = a.outbox k; desk = parts.desk; log = a.log k };
          inboxes = put_into to envelopes old.inboxes;
        };
      })
      (submit_cases room found session number asked old.parts parts answer said)
    where
      to : ℕ
      to = begins_at asked old

      envelopes : List (Envelope J)
      envelopes = map (λ (m : Message J). envelope to (Work m)) parts.inbox

  -- one that can't be submitted changes nothing
  submit_stays : (room : Bool) (found : Option (SessionDesk J)) (session number : ℕ) (asked : Request) (old new : Parts J) (answer : EventAnswer) → CannotSubmit room found asked old
      → SubmitsAt (submission room session number asked) found old answer new → new ≡ old
  submit_stays room None session number asked old new answer cannot said = said.1
  submit_stays room (Some desk) session number asked old new answer cannot said =
      ⊎_elim (λ same. same) (λ admitted. let can = admitted.0 in let none = cannot.1 in absurd (cc)) (submit_cases room (Some desk) session number asked old new answer said)

  -- ---- an envelope is opened

  -- what opening an envelope changes
  record OpenChanges (executor : ℕ) (load : Load J) (old new : Core J) : Type 0 where
    pub more : List (Outgoing J)
    pub outbox : HasMore executor more old.outboxes new.outboxes
    pub elsewhere : (w_id : ℕ) → 1 ≤ w_id → found_by old.placements executor w_id ≢ Here → IsShardAsBefore w_id old new
    pub others : (w_id : ℕ) → 1 ≤ w_id → ¬ IsAbout load w_id → IsAsBefore w_id old new
    pub many : length new.parts.shards.items ≡ length old.parts.shards.items
    pub rest : new
        ≡ record old {
          parts = record old.parts { shards = new.parts.shards };
          placements = record old.placements { placements = new.placements.placements };
          parked = new.parked;
          outboxes = new.outboxes;
        }

  -- what a move has sent is as it should be
  abbrev IsRightLoad : PlacementsView → ℕ → Load J → Type 0
  IsRightLoad h to (Work m) = Unit {0}
  IsRightLoad h to (Move m) = IsRight h to m

  right_load : (h : PlacementsView) (to : ℕ) (load : Load J) (more : List Dispatch) → All (IsSentRight h) (sent_of to load ++ more) → IsRightLoad h to load
  right_load h to (Work m) more all = tt
  right_load h to (Move m) more all = All-head (IsSentRight h) (record { to = to; what = m }) more all

  -- the executor has an outbox, nothing is in hand, and there is a slice for each warehouse
  module _ (old : Core J) (executor : ℕ) (there : executor < length old.outboxes) (no_outbox : old.parts.outbox ≡ []) (slices : AreSlicesOf old.parts.catalog (slices_in old.parts)) where
    works_changes : (m : Message J) (new : Core J) (said : WorksOn executor m old new)
        → ((w_id : ℕ) → 1 ≤ w_id → found_by old.placements executor w_id ≢ Here → slice_get said.0.shards.items (w_id - 1) ≡ slice_get old.parts.shards.items (w_id - 1))
        → OpenChanges executor (Work m) old new
    works_changes m new said away =
        let parts = said.0 in
        let takes = said.1.0 in
        let one = takes_one m old.parts parts takes in
        subst (λ (v : Core J). OpenChanges executor (Work m) old v) (sym said.1.1) (record {
          more = map (outgoing_by old.placements) parts.outbox;
          outbox = more_put executor old.outboxes (map (outgoing_by old.placements) parts.outbox) there;
          elsewhere = away;
          others = λ w_id some other. record { shard = takes_others m old.parts parts slices takes w_id some other; placement = refl; parked = refl };
          many = one.many;
          rest = λ k. record (bringing executor parts old) {
            parts = (ap (λ (v : Parts J). record v { outbox = [] }) one.rest ∙ (λ n. record old.parts { shards = parts.shards; outbox = sym no_outbox n })) k;
          };
        })

    outgoing_changes : (m : Message J) (new : Core J) (more : List (Outgoing J)) → new ≡ posting executor more old → OpenChanges executor (Work m) old new
    outgoing_changes m new more is =
        subst (λ (v : Core J). OpenChanges executor (Work m) old v) (sym is) (record {
          more = more;
          outbox = more_put executor old.outboxes more there;
          elsewhere = λ w_id some away. refl;
          others = λ w_id some other. record { shard = refl; placement = refl; parked = refl };
          many = refl;
          rest = refl;
        })

    parked_changes : (m : Message J) (new : Core J) → new ≡ record old { parked = old.parked ++ m ∷ [] } → OpenChanges executor (Work m) old new
    parked_changes m new is =
        subst (λ (v : Core J). OpenChanges executor (Work m) old v) (sym is) (record {
          more = [];
          outbox = none_more executor old.outboxes;
          elsewhere = λ w_id some away. refl;
          others = λ w_id some other. record { shard = refl; placement = refl; parked = parked_more w_id old.parked m other };
          many = refl;
          rest = refl;
        })

    found_changes : (m : Message J) (new : Core J) (found : Found) → found_by old.placements executor (home_of_message m) ≡ found → FindsSlice found executor m old new → OpenChanges executor (Work m) old new
    found_changes m new Here is said =
        works_changes m new said
        (λ w_id some away. takes_others m old.parts said.0 slices said.1.0 w_id some (λ same. away (ap (λ v. found_by old.placements executor v) same ∙ is)))
    found_changes m new (Went to) is said = outgoing_changes m new (outgoing.Envelope (envelope to (Work m)) ∷ []) said
    found_changes m new Unknown is said = parked_changes m new said

    work_changes : (m : Message J) (new : Core J) → WorksIfHere (is_for_slice m) executor m old new → OpenChanges executor (Work m) old new
    work_changes (message.Start flow works) new said =
        works_changes (message.Start flow works) new said (λ w_id some away. ap (λ (v : Parts J). slice_get v.shards.items (w_id - 1)) said.1.0)
    work_changes (message.Act act) new said = found_changes (message.Act act) new _ refl said
    work_changes (message.Settle slot claims) new said = found_changes (message.Settle slot claims) new _ refl said
    work_changes (message.Undo slot claims) new said = found_changes (message.Undo slot claims) new _ refl said

    move_changes : (to : ℕ) (m : Moving) (new : Core J) → IsRight old.placements to m → new ≡ moves executor m old → OpenChanges executor (Move m) old new
    move_changes to (moving.Order order) new right is =
        let more : List (Outgoing J) = posts_begun (size_of order) order.lo order.to old.placements in
        let within = right.1.0 in
        subst (λ (v : Core J). OpenChanges executor (Move (moving.Order order)) old v) (sym is) (record {
          more = more;
          outbox = more_put executor old.outboxes more there;
          elsewhere = λ w_id some away. refl;
          others = λ w_id some other. record {
            shard = refl;
            placement = begun_other (size_of order) order.lo order.to old.placements w_id within.first (λ low high. other (low, omega (arith, low, high, within.some)));
            parked = refl;
          };
          many = refl;
          rest = λ k. record (moves executor (moving.Order order) old) { placements = begun_rest (size_of order) order.lo order.to old.placements k };
        })
    move_changes to (moving.Fetch moved then_to) new right is =
        let more : List (Outgoing J) = outgoing.Envelope (envelope then_to (Move (moving.Parcel moved))) ∷ [] in
        subst (λ (v : Core J). OpenChanges executor (Move (moving.Fetch moved then_to)) old v) (sym is) (record {
          more = more;
          outbox = more_put executor old.outboxes more there;
          elsewhere = λ w_id some away. refl;
          others = λ w_id some other. record { shard = refl; placement = placement_other old.placements moved _ w_id right.0.0 other; parked = refl };
          many = refl;
          rest = refl;
        })
    move_changes to (moving.Parcel moved) new right is =
        let more : List (Outgoing J) = outgoing.Arrived ∷ to_itself executor (parked_for moved old.parked) in
        subst (λ (v : Core J). OpenChanges executor (Move (moving.Parcel moved)) old v) (sym is) (record {
          more = more;
          outbox = more_put executor old.outboxes more there;
          elsewhere = λ w_id some away. refl;
          others = λ w_id some other. record { shard = refl; placement = placement_other old.placements moved _ w_id right.0.0 other; parked = parked_less w_id moved old.parked other };
          many = refl;
          rest = refl;
        })

    open_changes : (to : ℕ) (load : Load J) (new : Core J) → IsRightLoad old.placements to load → Opens executor load old new → OpenChanges executor load old new
    open_changes to (Work m) new right said = work_changes m new said
    open_changes to (Move m) new right said = move_changes to m new right said

  take_changes : (shared : SharedTables) (w : Core J) (h : IsSound shared w) (executor : ℕ) (l : Envelope J) (rest : List (Envelope J)) → queue_of executor w.inboxes ≡ l ∷ rest → (new : Core J)
      → Opens executor l.load (record w { inboxes = slice_set w.inboxes executor rest }) new → TakeChanges executor w new
  take_changes shared w h executor l rest first new said =
      let left : Core J = record w { inboxes = slice_set w.inboxes executor rest } in
      let hand = takes_envelope shared w h executor l rest first in
      let there = there_in shared w h executor l rest first in
      let right = right_load w.placements l.to l.load (sent_in (envelopes_of_all left)) hand.located.right in
      let opens = open_changes left executor (omega (arith, there, h.inboxes, h.outboxes)) h.no_outbox h.all.slices l.to l.load new right said in
      let inboxes : new.inboxes ≡ left.inboxes = ap (λ (v : Core J). v.inboxes) opens.rest in
      record {
        taken = l;
        more = opens.more;
        inbox = record {
          here = first ∙ ap (λ (q : List (Envelope J)). l ∷ q) (sym (ap (λ (qs : List (List (Envelope J))). queue_of executor qs) inboxes ∙ left_there executor w.inboxes l rest first there));
          rest = subst (λ (qs : List (List (Envelope J))). OthersStay executor w.inboxes qs) (sym inboxes) (others_set executor w.inboxes rest);
        };
        outbox = opens.outbox;
        elsewhere = opens.elsewhere;
        others = λ w_id some other. let same = opens.others w_id some other in record { shard = same.shard; placement = same.placement; parked = same.parked };
        many = opens.many;
        rest = opens.rest
            ∙ (λ k. record w {
              parts = record w.parts { shards = new.parts.shards };
              placements = record w.placements { placements = new.placements.placements };
              parked = new.parked;
              inboxes = sym inboxes k;
              outboxes = new.outboxes;
            });
      }

  -- ---- what is first in an outbox is sent

  module _ (shared : SharedTables) (w : Core J) (h : IsSound shared w) (executor : ℕ) (rest : List (Outgoing J)) (new : Core J) (answer : EventAnswer) where
    delivered_changes : (room : Bool) (l : Envelope J) → queue_of executor w.outboxes ≡ outgoing.Envelope l ∷ rest → Delivers room executor l (record w { outboxes = slice_set w.outboxes executor rest }) answer new → SendChanges executor w new
    delivered_changes true l first said =
        let p : Outgoing J = outgoing.Envelope l in
        let there = there_out shared w h executor p rest first in
        let to_there : l.to < length w.inboxes = omega (arith, is_outgoing shared w h executor p rest first, h.inboxes) in
        subst (λ (v : Core J). SendChanges executor w v) (sym said.1)
        (record { sent = p; more = []; outbox = turned_none executor w.outboxes p rest first there; rest = (inl (more_put l.to w.inboxes (l ∷ []) to_there, refl), refl) })
    delivered_changes false l first said =
        let p : Outgoing J = outgoing.Envelope l in
        let there = there_out shared w h executor p rest first in
        subst (λ (v : Core J). SendChanges executor w v) (sym said.1)
        (record { sent = p; more = p ∷ []; outbox = turned_more executor w.outboxes p rest first there (p ∷ []); rest = (inr (refl, refl), refl) })

    send_changes : (p : Outgoing J) → queue_of executor w.outboxes ≡ p ∷ rest → SendsOutgoing executor p (record w { outboxes = slice_set w.outboxes executor rest }) answer new → SendChanges executor w new
    send_changes (outgoing.Envelope l) first said = delivered_changes (has_room l.to w) l first said
    send_changes (outgoing.Item i) first said =
        let p : Outgoing J = outgoing.Item i in
        let parts = said.0 in
        let there = there_out shared w h executor p rest first in
        let changes = item_changes w.log_limit i w.parts parts answer (is_outgoing shared w h executor p rest first) said.1.0 in
        let more = map (outgoing_by w.placements) parts.outbox in
        subst (λ (v : Core J). SendChanges executor w v) (sym said.1.1) (record {
          sent = p;
          more = more;
          outbox = turned_more executor w.outboxes p rest first there more;
          rest = (
            changes.log,
            λ k. record w {
              parts = (ap (λ (v : Parts J). record v { outbox = [] }) changes.rest ∙ (λ n. record w.parts { outbox = sym h.no_outbox n; desk = parts.desk; log = parts.log })) k;
              outboxes = put_into executor more (slice_set w.outboxes executor rest);
            },
          );
        })
    send_changes outgoing.Arrived first said =
        let p : Outgoing J = outgoing.Arrived in
        let there = there_out shared w h executor p rest first in
        subst (λ (v : Core J). SendChanges executor w v) (sym said.1)
        (record { sent = p; more = []; outbox = turned_none executor w.outboxes p rest first there; rest = (refl, refl) })

  -- ---- one event

  pub changes_only : (shared : SharedTables) (event : Event) (old new : Core J) (answer : EventAnswer) → AreKept old.placements → IsSound shared old → Happens event old answer new → ChangesOnly event answer old new
  changes_only shared (Submit session number asked) old new answer kept h said =
      let to = begins_at asked old in
      let found = slice_get old.parts.desk.sessions.items session in
      let there : to < length old.inboxes = omega (arith, routes_below old.placements kept.some kept.each (home_of_request asked), h.inboxes) in
      record {
        nothing = λ is.
            let cannot = (nothing_exactly (Submit session number asked) old new answer said).0 is in
            let same = submit_stays (has_room to old) found session number asked old.parts said.0 answer cannot said.1.0 in
            said.1.1 ∙ ap (λ (v : Parts J). beginning_at to v old) same ∙ none_begins old to h.no_inbox;
        something = λ is.
            subst (λ (v : Core J). SubmitChanges asked old v) (sym said.1.1)
            (submit_changes (has_room to old) found session number asked old said.0 answer h.no_inbox there said.1.0);
      }
  changes_only shared (Order order) old new answer kept h said = ⊎_elim ordered stays said
    where
      ordered : CanOrder order old × ((answer ≡ Ordered) × (new ≡ ordering order old)) → ChangesOnly (Order order) answer old new
      ordered can =
          let there : order.to < length old.inboxes = omega (arith, can.0.within.there, h.inboxes) in
          record {
            nothing = λ is. let recorded = can.1.0 in absurd (cc);
            something = λ is.
                subst (λ (v : Core J). OrderChanges order old v) (sym can.1.1)
                (record { inbox = more_put order.to old.inboxes (envelope order.to (Move (moving.Order order)) ∷ []) there; rest = refl });
          }

      stays : (¬ CanOrder order old) × ((answer ≡ Nothing) × (new ≡ old)) → ChangesOnly (Order order) answer old new
      stays same = record { nothing = λ is. same.1.1; something = λ is. absurd (is same.1.0) }
  changes_only shared (Take executor) old new answer kept h said = took (queue_of executor old.inboxes) refl said
    where
      took : (envelopes : List (Envelope J)) → queue_of executor old.inboxes ≡ envelopes → TakesFirst executor envelopes old answer new → ChangesOnly (Take executor) answer old new
      took [] first said = record { nothing = λ is. said.1; something = λ is. absurd (is said.0) }
      took (l ∷ rest) first said = record {
        nothing = λ is. let recorded = said.0 in absurd (cc);
        something = λ is. take_changes shared old h executor l rest first new said.1;
      }
  changes_only shared (Send executor) old new answer kept h said = sent (queue_of executor old.outboxes) refl said
    where
      sent : (posts : List (Outgoing J)) → queue_of executor old.outboxes ≡ posts → SendsFirst executor posts old answer new → ChangesOnly (Send executor) answer old new
      sent [] first said = record { nothing = λ is. said.1; something = λ is. absurd (is said.0) }
      sent (p ∷ rest) first said = record {
        nothing = λ is. absurd (outgoing_something executor p (record old { outboxes = slice_set old.outboxes executor rest }) new answer said is);
        something = λ is. send_changes shared old h executor rest new answer p first said;
      }
