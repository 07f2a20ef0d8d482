-- A message is taken and processed, and then the waiting actions have their turns.
use Rattle.world.proofs.OneSlot.{got_set}
use Rattle.transactions.specs.declared.work.Work.{Work}
use Rattle.std.proofs.Common.{◌≡◌, ℕ, ◌-◌, List, [], ◌∷◌, ◌++◌, Some, length, map, refl, sym, ap, subst, ◌∙◌, append_assoc, arith, ◌≤◌, ◌<◌, Option, append-nil}
use Rattle.std.specs.Prelude.{All, Contains, Vec, slice_set, option_map}
use Rattle.std.specs.List.{remove, slice_get, flat_map}
use Rattle.std.specs.declared.alloc.Global.{Global}
use Rattle.std.proofs.lemmas.List.{map-append, map-set, set-get_or, set-set}
use Rattle.std.proofs.lemmas.List.Elements.{All-head, All-tail, All-append, All-nil, All-set, Contains-append_right}
use Rattle.std.proofs.lemmas.Option.{get_or_from_slice_get, slice_get-get_or, slice_get-map, slice_get_within}
use Rattle.partitions.specs.Parts.{SharedTables}
use Rattle.schema.specs.Database.{Database}
use Rattle.history.specs.History.{Step}
use Rattle.tickets.specs.Claims.{ClaimView, all_claims}
use Rattle.local_locks.proofs.Members.{contains_here, contains_itself}
use Rattle.local_locks.proofs.Taken.{map_removed}
use Rattle.slices.specs.SliceView.{AreOfOneHome, AreSlicesOf, IsClaimAt, SliceKeeps, joined, with_waiters, AreAllHeld, JoinedSlices, SlicesKeep}
use Rattle.transactions.specs.declared.acting.Ran.{Ran}
use Rattle.transactions.specs.declared.shard.Acted.{Acted}
use Rattle.transactions.specs.declared.shard.Acted.TheVariants as acted
use Rattle.transactions.specs.declared.shard.Parked.{Parked}
use Rattle.transactions.specs.declared.shard.Turned.{Turned}
use Rattle.transactions.specs.Acting.{claims_of_ran}
use Rattle.transactions.specs.Laws.{TransactionsClaimEachGroupOnce}
use Rattle.transactions.specs.Shards.{ActsAs, OneTurn, ShardView, parked}
use Rattle.transactions.specs.Works.{home_of, home_of_claims}
use Rattle.transactions.proofs.Reached.{some_actions}
use Rattle.world.specs.declared.flight.Act.{Act as AnyAct}
use Rattle.world.specs.declared.flight.Carried.{Carried}
use Rattle.world.specs.declared.flight.Message.{Message}
use Rattle.world.specs.declared.flight.Message.TheVariants.{Start, Act, Settle, Undo}
use Rattle.world.specs.declared.flight.Item.{Item}
use Rattle.world.specs.declared.flight.Item.TheVariants as item
use Rattle.world.specs.declared.world.Parts.{Parts}
use Rattle.world.specs.Parted.{joined_in}
use Rattle.world.specs.Flights.{nothing, join, parts, part_message, part_item, InFlight}
use Rattle.world.specs.Following.{acts_of}
use Rattle.world.specs.Sound.{IsSoundWith, IsSoundMessage, IsSoundItem, IsBalanced, flight}
use Rattle.world.specs.Shards.{HaveToWait, act_of, message_of, slice_of, slices_in, waiting_at, waiting_in}
use Rattle.world.specs.Events.{AllTurns, AtShard, GivesBack, TakesMessage, TakesTurn, TurnsFollow, carried_by, holder_of, put_for, report_of}
use Rattle.world.specs.Worlds.{FitsPart, Fits, IsClaimOf}
use Rattle.world.proofs.Apart.{others}
use Rattle.world.proofs.Joins.{IsSame, same-sym}
use Rattle.world.proofs.Balances.{message_taken, items_put, balanced_same, balanced_like, held_same}
use Rattle.world.proofs.Fitting.{fits_same, fits_work}
use Rattle.world.proofs.Parted.{ran_at_home}
use Rattle.world.proofs.Puts.{GoesOn}
use Rattle.world.proofs.Reordered.{Reordered, fits_in_order, queued, reordered-behind, reordered-cons, reordered-front, reordered-refl, reordered-swap, reordered-sym, reordered-trans, reordered_now, reordered_own, sound_in_order}
use Rattle.world.proofs.Reporting.{pushes_fits, pushes_sound}
use Rattle.world.proofs.Older.{dies_of_older, ran_claimed}
use Rattle.world.proofs.ShardView.{holds, keeps_on, shares, stays_on}
use Rattle.world.proofs.Works.{Works, acts, settles, starts, undoes, part_acts}
use Rattle.tickets.proofs.Committed.{All-front}

-- the element at a place, set there again
pub put_again : {X : Type 0} (xs : List X) (place : ℕ) (x : X) → slice_get xs place ≡ Some x → slice_set xs place x ≡ xs
put_again xs place x is = ap (slice_set xs place) (sym (get_or_from_slice_get xs place x x is)) ∙ set-get_or xs place x

-- claims on groups of one warehouse are at that of the first
at_home_of : (claims : List ClaimView) → AreOfOneHome claims → All (IsClaimAt (home_of_claims claims)) claims
at_home_of [] none = absurd none
at_home_of (claim ∷ claims) at = at

module _ {J : Type 0} where
  -- what is known of the first message of the inbox, once it is in hand
  pub message_in_hand : (shared : SharedTables) (old : Parts J) (message : Message J) (rest : List (Message J)) → old.inbox ≡ message ∷ rest
      → IsSoundWith shared nothing old
      → (h : IsSoundWith shared (part_message message) (record old { inbox = rest })) × IsSoundMessage shared h.in_flight message
  message_in_hand shared old message rest is h =
      let all = subst (λ ms. All (IsSoundMessage shared h.in_flight) ms) is h.inbox in (
        record {
          shared_is = h.shared_is;
          slices = h.slices;
          in_flight = h.in_flight;
          inbox = All-tail (IsSoundMessage shared h.in_flight) message rest all;
          outbox = h.outbox;
          slots = h.slots;
          active = h.active;
          ages = h.ages;
          seats = h.seats;
          sessions = h.sessions;
          balance = subst (λ p. IsBalanced old.desk p) (message_taken old message rest is) h.balance;
          held = subst (λ p. AreAllHeld (joined_in old).holdings p.claims) (message_taken old message rest is) h.held;
        },
        All-head (IsSoundMessage shared h.in_flight) message rest all,
      )

  -- one thing after another
  pub then_goes_on : (shared : SharedTables) (hand : InFlight) (first mid last : Parts J) → GoesOn shared hand first mid → GoesOn shared nothing mid last → GoesOn shared hand first last
  then_goes_on shared hand first mid last a b = record { sound = b.sound; fits = λ opening history f. b.fits opening history (a.fits opening history f) }

  -- The world as one, while an event has these parts in hand: the waiting actions come before these messages, and what is in the
  -- outbox behind these items.
  abbrev pub seen : Parts J → List (Message J) → List (Item J) → Parts J
  seen w ms is = queued w (waiting_in w ++ ms) (is ++ w.outbox)

  -- ---- the shards make way for others

  module _ (shared : SharedTables) (w : Parts J) (shards : Vec (ShardView (Carried J)) Global) (are : AreSlicesOf w.catalog (map slice_of shards.items)) (same : joined w.catalog (map slice_of shards.items) ≡ joined_in w) where
    shard_replaced : IsSoundWith shared nothing w → IsSoundWith shared nothing (record w { shards = shards })
    shard_replaced h = record {
      shared_is = h.shared_is;
      slices = are;
      in_flight = h.in_flight;
      inbox = h.inbox;
      outbox = h.outbox;
      slots = h.slots;
      active = h.active;
      ages = h.ages;
      seats = h.seats;
      sessions = h.sessions;
      balance = h.balance;
      held = subst (λ (j : JoinedSlices). AreAllHeld j.holdings (flight w).claims) (sym same) h.held;
    }

    fits_shard_replaced : (opening : Database) (history : List Step) → Fits opening history w → Fits opening history (record w { shards = shards })
    fits_shard_replaced opening history f = subst (λ (j : JoinedSlices). FitsPart opening history w.log j w.desk.admitted (flight w)) (sym same) f

  -- ---- one thing happens

  module _ (once : TransactionsClaimEachGroupOnce) (shared : SharedTables) (ms : List (Message J)) (is : List (Item J)) where
    -- the claims that items have are on groups of what was accepted, where those in hand are and all others
    abbrev AreClaimed : Parts J → List (Message J) → Message J → List (Item J) → Type 0
    AreClaimed old ms message items =
        (opening : Database) (history : List Step) → FitsPart opening history old.log (joined_in old) old.desk.admitted (join (part_message message) (flight (queued old ms (is ++ old.outbox))))
        → All (IsClaimOf history) (parts part_item items).claims

    -- the message in hand is worked on
    worked_on : (old new : Parts J) (ms : List (Message J)) (message : Message J) (items : List (Item J))
        → (h : IsSoundWith shared (part_message message) (queued old ms (is ++ old.outbox))) → IsSoundMessage shared h.in_flight message
        → new ≡ record old { shards = new.shards; outbox = old.outbox ++ items } → AreSlicesOf old.catalog (slices_in new) → Works shared message (joined_in old) items (joined old.catalog (slices_in new)) → AreClaimed old ms message items
        → GoesOn shared (part_message message) (queued old ms (is ++ old.outbox)) (queued new ms (is ++ new.outbox))
    worked_on old new ms message items h fine rest are works claimed =
        let u = h.in_flight in
        let hand = part_message message in
        let put = parts part_item items in
        let before : Parts J = queued old ms (is ++ old.outbox) in
        let moved : Parts J = record before { shards = new.shards } in
        let next : Parts J = record moved { outbox = moved.outbox ++ items } in
        let flying = flight before in
        let after : IsSame (join put flying) (flight next) = same-sym _ _ (items_put moved items) in
        let next_is : queued new ms (is ++ new.outbox) ≡ next =
        ap (λ (w : Parts J). queued w ms (is ++ w.outbox)) rest ∙ (λ i. record next { outbox = sym (append_assoc is old.outbox items) i }) in
        let sound : IsSoundWith shared nothing next = record {
          shared_is = h.shared_is;
          slices = are;
          in_flight = u;
          inbox = h.inbox;
          outbox = All-append (IsSoundItem shared u) (is ++ old.outbox) items h.outbox (works.fine u fine);
          slots = h.slots;
          active = h.active;
          ages = h.ages;
          seats = h.seats;
          sessions = h.sessions;
          balance = balanced_same old.desk (join put flying) (flight next) after
              (balanced_like old.desk (join hand flying) (join put flying) (ap (λ us. us ++ flying.pending) works.pending) (ap (λ ts. ts ++ flying.tokens) works.tokens) h.balance);
          held = held_same (joined_in next) (join put flying) (flight next) after (works.kept.holdings flying.claims h.held);
        } in
        record {
          sound = subst (λ w. IsSoundWith shared nothing w) (sym next_is) sound;
          fits = λ opening history f.
              subst (λ w. Fits opening history w) (sym next_is)
              (fits_same opening history old.log (joined_in next) old.desk.admitted (join put flying) (flight next) after
              (fits_work opening history old.log (joined_in old) (joined_in next) old.desk.admitted hand put flying works.kept works.pending (claimed opening history f) f));
        }

    -- ---- at a shard

    module _ (old new : Parts J) (home : ℕ) (items : List (Item J)) (of : ShardView (Carried J) → ShardView (Carried J) → Type 0) (at : AtShard home items of old new) where
      -- the actions that wait at each shard
      abbrev lists : List (List (Message J))
      lists = map waiting_at old.shards.items

      abbrev place : ℕ
      place = home - 1

      lists_now : map waiting_at new.shards.items ≡ slice_set lists place (waiting_at at.now)
      lists_now = ap (map waiting_at) at.shards ∙ map-set waiting_at old.shards.items place at.now

      list_was : slice_get lists place ≡ Some (waiting_at at.was)
      list_was = slice_get-map waiting_at old.shards.items place ∙ ap (λ (o : Option (ShardView (Carried J))). option_map waiting_at o) at.there

      below : place < length lists
      below = slice_get_within lists place (waiting_at at.was) list_was

      -- the actions that waited there come first, or those that wait there now
      was_first : Reordered part_message (waiting_in old) (waiting_at at.was ++ others place lists)
      was_first =
          subst (λ q. Reordered part_message (waiting_in old) (q ++ others place lists)) (get_or_from_slice_get lists place (waiting_at at.was) [] list_was)
          (reordered_now part_message lists place below)

      now_first : Reordered part_message (waiting_at at.now ++ others place lists) (waiting_in new)
      now_first =
          subst (λ (ls : List (List (Message J))). Reordered part_message (waiting_at at.now ++ others place lists) (flat_map (λ queue. queue) ls)) (sym lists_now)
          (reordered-sym part_message (flat_map (λ queue. queue) (slice_set lists place (waiting_at at.now))) (waiting_at at.now ++ others place lists) (reordered_own part_message lists place (waiting_at at.now) below))

      -- the same wait
      same_wait : at.now.parked ≡ at.was.parked → waiting_in new ≡ waiting_in old
      same_wait same =
          let now_is : waiting_at at.now ≡ waiting_at at.was = ap (map message_of) same in
          ap (flat_map (λ queue. queue)) (lists_now ∙ ap (slice_set lists place) now_is ∙ put_again lists place (waiting_at at.was) list_was)

      -- where the same wait, and the message in hand was worked on there
      at_once : (message : Message J) → at.now.parked ≡ at.was.parked
          → (h : IsSoundWith shared (part_message message) (seen old ms is)) → IsSoundMessage shared h.in_flight message
          → AreSlicesOf old.catalog (slices_in new) → Works shared message (joined_in old) items (joined old.catalog (slices_in new)) → AreClaimed old (waiting_in old ++ ms) message items
          → GoesOn shared (part_message message) (seen old ms is) (seen new ms is)
      at_once message same h fine are works claimed =
          subst (λ (q : List (Message J)). GoesOn shared (part_message message) (seen old ms is) (queued new (q ++ ms) (is ++ new.outbox))) (sym (same_wait same))
          (worked_on old new (waiting_in old ++ ms) message items h fine at.rest are works claimed)

    -- ---- an action asks

    -- it has run, or died
    ran_on : (old new : Parts J) (act : AnyAct J) (one : Ran J) (recorded : Carried J)
        → (h : IsSoundWith shared (part_message (Act act)) (seen old ms is)) → IsSoundMessage shared h.in_flight (Act act)
        → AtShard (home_of act.work) (put_for act.place (acted.Ran one recorded)) (λ was now. ActsAs (holder_of act) act.work (carried_by act) was (acted.Ran one recorded) now) old new
        → GoesOn shared (part_message (Act act)) (seen old ms is) (seen new ms is)
    ran_on old new act one recorded h fine at =
        let home = home_of act.work in
        let items = put_for act.place (acted.Ran one recorded) in
        let Of : ShardView (Carried J) → ShardView (Carried J) → Type 0 = λ was now. ActsAs (holder_of act) act.work (carried_by act) was (acted.Ran one recorded) now in
        let is_recorded = at.happened.0 in
        let of = at.happened.1 in
        let kept = at.happened.2 in
        let same = at.happened.3 in
        let both = keeps_on old new h.slices home items Of at at.was.slice.waiters [] (claims_of_ran one) (All-nil (IsClaimAt home)) (ran_at_home (holder_of act) at.was.slice at.now.slice act.work one of) kept in
        let asks : Parts J = record (seen old ms is) { inbox = (seen old ms is).inbox ++ Act act ∷ [] } in
        let asks_there : Contains asks.inbox (Act act) = Contains-append_right (seen old ms is).inbox (Act act ∷ []) (Act act) (contains_itself (Act act)) in
        let older = dies_of_older shared asks (pushes_sound shared (seen old ms is) (Act act) h fine) once act asks_there home at.was.slice.holdings (holds old new h.slices home items Of at) in
        let works = acts shared act one at.was.slice at.now.slice (joined_in old) (joined old.catalog (slices_in new)) (shares old new h.slices home items Of at ∙ h.shared_is) older of both.1 in
        let recorded_works : Works shared (Act act) (joined_in old) items (joined old.catalog (slices_in new)) =
        subst (λ (c : Carried J). Works shared (Act act) (joined_in old) (report_of act.place c one ∷ []) (joined old.catalog (slices_in new))) (sym is_recorded) works in
        let claimed : AreClaimed old (waiting_in old ++ ms) (Act act) items = λ opening history f.
        let P : ClaimView → Type 0 = IsClaimOf history in
        let carried = (part_message (Act act)).claims in
        let put = claims_of_ran one in
        let of_ran = ran_claimed shared asks (pushes_sound shared (seen old ms is) (Act act) h fine) once act asks_there opening history (pushes_fits opening history (seen old ms is) (Act act) f) at.was.slice at.now.slice one of in
        let all = All-append P (carried ++ put) [] (All-append P carried put (All-front P carried (flight (seen old ms is)).claims f.claimed) of_ran) (All-nil P) in
        subst (λ (c : Carried J). All P (parts part_item (report_of act.place c one ∷ [])).claims) (sym is_recorded) all in
        at_once old new home items Of at (Act act) same h fine both.0 recorded_works claimed

    -- it waits
    waits_on : (old new : Parts J) (act : AnyAct J)
        → (h : IsSoundWith shared (part_message (Act act)) (seen old ms is)) → IsSoundMessage shared h.in_flight (Act act)
        → AtShard (home_of act.work) [] (λ was now. ActsAs {J = J} (holder_of act) act.work (carried_by act) was acted.Waits now) old new
        → GoesOn shared (part_message (Act act)) (seen old ms is) (seen new ms is)
    waits_on old new act h fine at =
        let home = home_of act.work in
        let Of : ShardView (Carried J) → ShardView (Carried J) → Type 0 = λ was now. ActsAs {J = J} (holder_of act) act.work (carried_by act) was acted.Waits now in
        let message : Message J = Act act in
        let p : Parked (Carried J) = parked (holder_of act) act.work (carried_by act) in
        let now_is = at.happened.1 in
        let both = stays_on old new h.slices home [] Of at _ (ap (λ (s : ShardView (Carried J)). s.slice) now_is) in
        let own : waiting_at at.now ≡ waiting_at at.was ++ message ∷ [] = ap waiting_at now_is ∙ map-append message_of at.was.parked (p ∷ []) in
        let rest = others (home - 1) (map waiting_at old.shards.items) in
        let first = was_first old new home [] Of at in
        let last = now_first old new home [] Of at in
        let longer : Reordered part_message (message ∷ waiting_in old) (waiting_in new) =
        reordered-trans part_message (message ∷ waiting_in old) (message ∷ (waiting_at at.was ++ rest)) (waiting_in new)
        (reordered-cons part_message message (waiting_in old) (waiting_at at.was ++ rest) first)
        (reordered-trans part_message (message ∷ (waiting_at at.was ++ rest)) (waiting_at at.now ++ rest) (waiting_in new)
        (subst (λ q. Reordered part_message (message ∷ (waiting_at at.was ++ rest)) (q ++ rest)) (sym own)
        (reordered-behind part_message rest (message ∷ waiting_at at.was) (waiting_at at.was ++ message ∷ []) (reordered-swap part_message (message ∷ []) (waiting_at at.was))))
        last) in
        let before : Parts J = seen old ms is in
        let all : Reordered part_message (before.inbox ++ message ∷ []) (waiting_in new ++ ms) =
        reordered-trans part_message (before.inbox ++ message ∷ []) (message ∷ before.inbox) (waiting_in new ++ ms)
        (reordered-swap part_message before.inbox (message ∷ []))
        (reordered-behind part_message ms (message ∷ waiting_in old) (waiting_in new) longer) in
        let items = reordered-refl part_item before.outbox in
        let next : Parts J = queued old (waiting_in new ++ ms) (is ++ old.outbox) in
        let next_is : seen new ms is ≡ record next { shards = new.shards } =
        ap (λ (w : Parts J). queued w (waiting_in new ++ ms) (is ++ w.outbox)) at.rest
        ∙ (λ i. record next { shards = new.shards; outbox = ap (λ (o : List (Item J)). is ++ o) (append-nil old.outbox) i }) in
        record {
          sound = subst (λ w. IsSoundWith shared nothing w) (sym next_is)
              (shard_replaced shared next new.shards both.0 both.1
              (sound_in_order old (before.inbox ++ message ∷ []) (waiting_in new ++ ms) before.outbox before.outbox all items shared nothing (pushes_sound shared before message h fine)));
          fits = λ opening history f.
              subst (λ w. Fits opening history w) (sym next_is)
              (fits_shard_replaced shared next new.shards both.0 both.1 opening history
              (fits_in_order old (before.inbox ++ message ∷ []) (waiting_in new ++ ms) before.outbox before.outbox all items opening history (pushes_fits opening history before message f)));
        }

    pub asks_on : (old new : Parts J) (act : AnyAct J) (a : Acted J (Carried J))
        → (h : IsSoundWith shared (part_message (Act act)) (seen old ms is)) → IsSoundMessage shared h.in_flight (Act act)
        → AtShard (home_of act.work) (put_for act.place a) (λ was now. ActsAs (holder_of act) act.work (carried_by act) was a now) old new
        → GoesOn shared (part_message (Act act)) (seen old ms is) (seen new ms is)
    asks_on old new act (acted.Ran one recorded) h fine at = ran_on old new act one recorded h fine at
    asks_on old new act acted.Waits h fine at = waits_on old new act h fine at

    -- ---- claims are given back

    pub gives_on : (old new : Parts J) (message : Message J) (slot : ℕ) (claims : List ClaimView) → AreOfOneHome claims
        → ((was now : JoinedSlices) → SlicesKeep claims was [] now → Works shared message was (item.Ended slot ∷ []) now)
        → (h : IsSoundWith shared (part_message message) (seen old ms is)) → IsSoundMessage shared h.in_flight message
        → GivesBack slot claims old new → GoesOn shared (part_message message) (seen old ms is) (seen new ms is)
    gives_on old new message slot claims together works h fine at =
        let home = home_of_claims claims in
        let items : List (Item J) = item.Ended slot ∷ [] in
        let Of : ShardView (Carried J) → ShardView (Carried J) → Type 0 = λ was now. SliceKeeps claims was.slice [] now.slice × (now.parked ≡ was.parked) in
        let both = keeps_on old new h.slices home items Of at at.was.slice.waiters claims [] (at_home_of claims together) (All-nil (IsClaimAt home)) at.happened.0 in
        at_once old new home items Of at message at.happened.1 h fine both.0 (works (joined_in old) (joined old.catalog (slices_in new)) both.1) (λ opening history f. All-nil (IsClaimOf history))

    -- ---- a waiting action has its turn

    pub turn_on : (old new : Parts J) (home : ℕ) (turned : Turned J (Carried J)) → IsSoundWith shared nothing (seen old ms is) → TakesTurn home turned old new → GoesOn shared nothing (seen old ms is) (seen new ms is)
    turn_on old new home turned h at =
        let items : List (Item J) = report_of turned.by.place turned.carried turned.ran ∷ [] in
        let Of : ShardView (Carried J) → ShardView (Carried J) → Type 0 = λ was now. OneTurn was turned now in
        let one = at.happened in
        let p : Parked (Carried J) = parked turned.by one.work turned.carried in
        let message : Message J = message_of p in
        let there : slice_get (waiting_at at.was) one.index ≡ Some message =
        slice_get-map message_of at.was.parked one.index
        ∙ ap (λ (o : Option (Parked (Carried J))). option_map message_of o) (slice_get-get_or at.was.parked one.index p one.inside ∙ ap (λ (q : Parked (Carried J)). Some q) (one.there p)) in
        let left : remove (waiting_at at.was) one.index ≡ waiting_at at.now = sym (map_removed message_of at.was.parked one.index) ∙ ap (map message_of) (sym one.rest) in
        let rest = others (home - 1) (map waiting_at old.shards.items) in
        let taken : Reordered part_message (waiting_at at.was) (message ∷ waiting_at at.now) =
        subst (λ q. Reordered part_message (waiting_at at.was) (message ∷ q)) left (reordered-front part_message (waiting_at at.was) one.index message there) in
        let fewer : Reordered part_message (waiting_in old) (message ∷ waiting_in new) =
        reordered-trans part_message (waiting_in old) (waiting_at at.was ++ rest) (message ∷ waiting_in new) (was_first old new home items Of at)
        (reordered-trans part_message (waiting_at at.was ++ rest) (message ∷ (waiting_at at.now ++ rest)) (message ∷ waiting_in new)
        (reordered-behind part_message rest (waiting_at at.was) (message ∷ waiting_at at.now) taken)
        (reordered-cons part_message message (waiting_at at.now ++ rest) (waiting_in new) (now_first old new home items Of at))) in
        let all : Reordered part_message (waiting_in old ++ ms) (message ∷ (waiting_in new ++ ms)) = reordered-behind part_message ms (waiting_in old) (message ∷ waiting_in new) fewer in
        let same_items = reordered-refl part_item (is ++ old.outbox) in
        let first : Parts J = queued old (message ∷ (waiting_in new ++ ms)) (is ++ old.outbox) in
        let sound = sound_in_order old (waiting_in old ++ ms) (message ∷ (waiting_in new ++ ms)) (is ++ old.outbox) (is ++ old.outbox) all same_items shared nothing h in
        let hand = message_in_hand shared first message (waiting_in new ++ ms) refl sound in
        let at_home : All (IsClaimAt home) (claims_of_ran turned.ran) =
        subst (λ n. All (IsClaimAt n) (claims_of_ran turned.ran)) (one.here ∙ at.home_is)
        (ran_at_home turned.by (with_waiters at.now.slice.waiters at.was.slice) at.now.slice one.work turned.ran one.ran) in
        let both = keeps_on old new h.slices home items Of at at.now.slice.waiters [] (claims_of_ran turned.ran) (All-nil (IsClaimAt home)) at_home one.kept in
        let older = dies_of_older shared first sound once (act_of p) (contains_here message (waiting_in new ++ ms)) home at.was.slice.holdings (holds old new h.slices home items Of at) in
        let works = acts shared (act_of p) turned.ran (with_waiters at.now.slice.waiters at.was.slice) at.now.slice (joined_in old) (joined old.catalog (slices_in new))
        (shares old new h.slices home items Of at ∙ h.shared_is) older one.ran both.1 in
        let claimed : AreClaimed old (waiting_in new ++ ms) message items = λ opening history f.
        let P : ClaimView → Type 0 = IsClaimOf history in
        let carried = (part_message message).claims in
        let put = claims_of_ran turned.ran in
        let whole = subst (λ (q : InFlight). FitsPart opening history old.log (joined_in old) old.desk.admitted q) (sym (message_taken first message (waiting_in new ++ ms) refl)) f in
        let of_ran = ran_claimed shared first sound once (act_of p) (contains_here message (waiting_in new ++ ms)) opening history whole (with_waiters at.now.slice.waiters at.was.slice) at.now.slice turned.ran one.ran in
        All-append P (carried ++ put) [] (All-append P carried put (All-front P carried (flight (queued old (waiting_in new ++ ms) (is ++ old.outbox))).claims f.claimed) of_ran) (All-nil P) in
        let goes = worked_on old new (waiting_in new ++ ms) message items hand.0 hand.1 at.rest both.0 works claimed in
        record {
          sound = goes.sound;
          fits = λ opening history f.
              let g = fits_in_order old (waiting_in old ++ ms) (message ∷ (waiting_in new ++ ms)) (is ++ old.outbox) (is ++ old.outbox) all same_items opening history f in
              goes.fits opening history (subst (λ q. FitsPart opening history old.log (joined_in old) old.desk.admitted q) (message_taken first message (waiting_in new ++ ms) refl) g);
        }

    turns_on : (home : ℕ) (turned : List (Turned J (Carried J))) (old new : Parts J) → IsSoundWith shared nothing (seen old ms is) → TurnsFollow home turned old new → GoesOn shared nothing (seen old ms is) (seen new ms is)
    turns_on home [] old new h same =
        let slices : slices_in new ≡ slices_in old = ap (map slice_of) same.shards in
        let are : AreSlicesOf old.catalog (slices_in new) = subst (AreSlicesOf old.catalog) (sym slices) h.slices in
        let joined_is : joined old.catalog (slices_in new) ≡ joined_in old = ap (joined old.catalog) slices in
        let lists : waiting_in new ≡ waiting_in old = ap (λ (l : List (ShardView (Carried J))). flat_map (λ list. list) (map waiting_at l)) same.shards in
        let next : Parts J = record (seen old ms is) { shards = new.shards } in
        let next_is : seen new ms is ≡ next =
        ap (λ (w : Parts J). queued w (waiting_in new ++ ms) (is ++ w.outbox)) same.rest ∙ (λ i. record next { inbox = lists i ++ ms }) in
        record {
          sound = subst (λ w. IsSoundWith shared nothing w) (sym next_is) (shard_replaced shared (seen old ms is) new.shards are joined_is h);
          fits = λ opening history f. subst (λ w. Fits opening history w) (sym next_is) (fits_shard_replaced shared (seen old ms is) new.shards are joined_is opening history f);
        }
    turns_on home (one ∷ more) old new h follow =
        let mid = follow.0 in
        let first = turn_on old mid home one h follow.1.0 in
        then_goes_on shared nothing (seen old ms is) (seen mid ms is) (seen new ms is) first (turns_on home more mid new first.sound follow.1.1)

    -- ---- a message is worked on

    and_turns : (home : ℕ) (message : Message J) (old mid new : Parts J) → GoesOn shared (part_message message) (seen old ms is) (seen mid ms is) → AllTurns home mid new → GoesOn shared (part_message message) (seen old ms is) (seen new ms is)
    and_turns home message old mid new first turns =
        then_goes_on shared (part_message message) (seen old ms is) (seen mid ms is) (seen new ms is) first (turns_on home turns.turned mid new first.sound turns.follow)

    pub takes_on : (message : Message J) (old new : Parts J) → (h : IsSoundWith shared (part_message message) (seen old ms is)) → IsSoundMessage shared h.in_flight message
        → TakesMessage message old new → GoesOn shared (part_message message) (seen old ms is) (seen new ms is)
    takes_on (Start flow works) old new h fine takes =
        let items = acts_of flow works.items in
        let next : Parts J = record old { outbox = old.outbox ++ items } in
        let some : 1 ≤ length works.items = omega (arith, ap (λ (ws : List Work). length ws) fine.works_are, some_actions (h.in_flight flow.transaction.slot).progress) in
        subst (λ w. GoesOn shared (part_message (Start flow works)) (seen old ms is) (seen w ms is)) (sym takes)
        (worked_on old next (waiting_in old ++ ms) (Start flow works) items h fine refl h.slices (starts shared flow works (joined_in old) some)
        (λ opening history f.
        let held = all_claims flow.transaction.held in
        subst (λ (p : InFlight). All (IsClaimOf history) p.claims) (sym (part_acts flow works.items some)) (All-front (IsClaimOf history) held (flight (seen old ms is)).claims f.claimed)))
    takes_on (Act act) old new h fine takes =
        and_turns (home_of act.work) (Act act) old takes.0 new (asks_on old takes.0 act takes.1.0.0 h fine takes.1.0.1) takes.1.1
    takes_on (Settle slot claims) old new h fine takes =
        and_turns (home_of_claims claims) (Settle slot claims) old takes.0 new
        (gives_on old takes.0 (Settle slot claims) slot claims fine.0.1 (λ was now kept. settles shared slot claims was now kept) h fine takes.1.0) takes.1.1
    takes_on (Undo slot claims) old new h fine takes =
        and_turns (home_of_claims claims) (Undo slot claims) old takes.0 new
        (gives_on old takes.0 (Undo slot claims) slot claims fine.0.1 (λ was now kept. undoes shared slot claims was now kept) h fine takes.1.0) takes.1.1

  -- ---- all waiting actions have to wait

  -- one shard has become another, and the others stay
  abbrev ChangesOne : ℕ → Parts J → Parts J → Type 0
  ChangesOne place old new = (now : ShardView (Carried J)) × ((slice_get new.shards.items place ≡ Some now) × (new.shards.items ≡ slice_set old.shards.items place now))

  changes_at : (home : ℕ) (items : List (Item J)) (of : ShardView (Carried J) → ShardView (Carried J) → Type 0) (old new : Parts J) → AtShard home items of old new → ChangesOne (home - 1) old new
  changes_at home items of old new at =
      let place = home - 1 in
      let below = slice_get_within old.shards.items place at.was at.there in
      (at.now, (ap (λ (l : List (ShardView (Carried J))). slice_get l place) at.shards ∙ got_set old.shards.items place at.now below, at.shards))

  changes_then : (place : ℕ) (old mid new : Parts J) → ChangesOne place old mid → ChangesOne place mid new → ChangesOne place old new
  changes_then place old mid new a b =
      (b.0, (b.1.0, b.1.1 ∙ ap (λ (l : List (ShardView (Carried J))). slice_set l place b.0) a.1.1 ∙ set-set old.shards.items place a.0 b.0))

  turns_change : (home : ℕ) (turned : List (Turned J (Carried J))) (old mid new : Parts J) → ChangesOne (home - 1) old mid → TurnsFollow home turned mid new → ChangesOne (home - 1) old new
  turns_change home [] old mid new one same =
      (one.0, (ap (λ (l : List (ShardView (Carried J))). slice_get l (home - 1)) same.shards ∙ one.1.0, same.shards ∙ one.1.1))
  turns_change home (t ∷ more) old mid new one follow =
      let next = follow.0 in
      let here = changes_at home (report_of t.by.place t.carried t.ran ∷ []) (λ was now. OneTurn was t now) mid next follow.1.0 in
      turns_change home more old next new (changes_then (home - 1) old mid next one here) follow.1.1

  over_waits : (home : ℕ) (old mid new : Parts J) → ChangesOne (home - 1) old mid → AllTurns home mid new → All HaveToWait old.shards.items → All HaveToWait new.shards.items
  over_waits home old mid new one turns wait =
      let last = turns_change home turns.turned old mid new one turns.follow in
      subst (All HaveToWait) (sym last.1.1) (All-set HaveToWait old.shards.items (home - 1) last.0 (turns.over last.0 last.1.0) wait)

  pub takes_wait : (message : Message J) (old new : Parts J) → TakesMessage message old new → All HaveToWait old.shards.items → All HaveToWait new.shards.items
  takes_wait (Start flow works) old new takes wait = subst (λ (w : Parts J). All HaveToWait w.shards.items) (sym takes) wait
  takes_wait (Act act) old new takes wait =
      over_waits (home_of act.work) old takes.0 new (changes_at (home_of act.work) (put_for act.place takes.1.0.0) (λ was now. ActsAs (holder_of act) act.work (carried_by act) was takes.1.0.0 now) old takes.0 takes.1.0.1) takes.1.1 wait
  takes_wait (Settle slot claims) old new takes wait =
      over_waits (home_of_claims claims) old takes.0 new (changes_at (home_of_claims claims) (item.Ended slot ∷ []) (λ was now. SliceKeeps claims was.slice [] now.slice × (now.parked ≡ was.parked)) old takes.0 takes.1.0) takes.1.1 wait
  takes_wait (Undo slot claims) old new takes wait =
      over_waits (home_of_claims claims) old takes.0 new (changes_at (home_of_claims claims) (item.Ended slot ∷ []) (λ was now. SliceKeeps claims was.slice [] now.slice × (now.parked ≡ was.parked)) old takes.0 takes.1.0) takes.1.1 wait
