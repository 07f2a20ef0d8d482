-- What an event does to a world: what it keeps, and which history goes on.
use Rattle.std.proofs.Common.{◌≡◌, ℕ, ◌+◌, ◌<◌, Bool, true, false, List, [], ◌∷◌, ◌++◌, length, map, refl, sym, ◌∙◌, ap, subst, append_assoc, append-nil, arith}
use Rattle.std.specs.Prelude.{All, slice_set}
use Rattle.std.specs.List.{sum_by}
use Rattle.std.proofs.lemmas.List.Elements.{All-append, All-cons, All-nil}
use Rattle.std.proofs.lemmas.Grind.{flat_map-append}
use Rattle.std.proofs.lemmas.List.{map-append}
use Rattle.std.proofs.lemmas.List.Sums.{sum_by-cons}
use Rattle.partitions.specs.Parts.{SharedTables}
use Rattle.schema.specs.Database.{Database}
use Rattle.transactions.specs.Laws.{TransactionsClaimEachGroupOnce}
use Rattle.transactions.specs.Works.{home_of_claims}
use Rattle.transactions.proofs.ClaimHomes.{some_claims}
use Rattle.history.specs.declared.event.Event.{Event}
use Rattle.history.specs.declared.event.Event.TheVariants.{Take}
use Rattle.history.specs.declared.event.EventAnswer.{EventAnswer}
use Rattle.history.specs.declared.event.EventAnswer.TheVariants.{Took}
use Rattle.history.specs.History.{Step, step}
use Rattle.history.specs.Laws.{IsQuiet}
use Rattle.range_moves.specs.declared.placement.Found.{Found}
use Rattle.range_moves.specs.declared.placement.Found.TheVariants.{Here, Went, Unknown}
use Rattle.range_moves.specs.Placements.{PlacementsView, found_by, route_of}
use Rattle.range_moves.specs.Traffic.{Dispatch, MessageToSlice, IsLocatedWith, KnowsOf}
use Rattle.range_moves.proofs.Located as located
use Rattle.range_moves.proofs.Knowing.{routed_knows}
use Rattle.world.specs.declared.flight.Item.{Item}
use Rattle.world.specs.declared.flight.Item.TheVariants as item
use Rattle.world.specs.declared.flight.Envelope.{Envelope}
use Rattle.world.specs.declared.flight.Load.TheVariants.{Work}
use Rattle.world.specs.declared.flight.Message.{Message}
use Rattle.world.specs.declared.flight.Message.TheVariants as message
use Rattle.world.specs.declared.flight.Outgoing.{Outgoing}
use Rattle.world.specs.declared.flight.Outgoing.TheVariants as outgoing
use Rattle.world.specs.declared.world.Core.{Core}
use Rattle.world.specs.declared.world.Parts.{Parts}
use Rattle.world.specs.Events.{TakesMessage}
use Rattle.world.specs.Flights.{nothing, part_message}
use Rattle.world.specs.Happening.{FindsSlice, WorksIfHere, WorksOn, bringing, posting}
use Rattle.world.specs.Envelopes.{HasHome, HasHomeIn, IsOutgoing, arrived_of, going_in, going_of, goes, home_of_message, is_for_slice, items_in, envelope, envelopes_out, messages_in, outgoing_by, sent_in, sent_of}
use Rattle.world.specs.Parted.{joined_in}
use Rattle.world.specs.Queues.{all_of, queue_of}
use Rattle.world.specs.Sound.{ActiveTransactions, IsSoundItem, IsSoundMessage, IsSoundWith, flight}
use Rattle.world.specs.Shards.{HaveToWait, IsShardOf, waiting_in}
use Rattle.world.specs.Together.{IsSound, arrived_in, envelopes_of_all, together}
use Rattle.world.specs.Worlds.{Advances, Fits}
use Rattle.world.proofs.Fitting.{fits_quiet}
use Rattle.world.proofs.Passes.{Passes, passes-is, passes-trans, passes_on, passes_shuffled, passes_work}
use Rattle.world.proofs.Posting.{Keeps, holding, located_again, kept_sound, posts_keep, posts_pass, takes_envelope, takes_passes, there_in}
use Rattle.world.proofs.Puts.{GoesOn}
use Rattle.world.proofs.Reordered.{queued}
use Rattle.world.proofs.Shuffles.{Shuffle, same, swap}
use Rattle.world.proofs.Standing.{takes_inbox}
use Rattle.world.proofs.Taking.{message_in_hand, seen, takes_wait}

module _ {J : Type 0} where
  pub has_home : (shared : SharedTables) (u : ActiveTransactions) (m : Message J) → IsSoundMessage shared u m → HasHome m
  has_home shared u (message.Start flow works) h = tt
  has_home shared u (message.Act act) h = tt
  has_home shared u (message.Settle slot claims) h = some_claims claims h.0.1
  has_home shared u (message.Undo slot claims) h = some_claims claims h.0.1

  pub has_home_in : (shared : SharedTables) (u : ActiveTransactions) (w : Parts J) (i : Item J) → IsSoundItem shared u i → HasHomeIn i
  has_home_in shared u w (item.Push m) h = has_home shared u m h
  has_home_in shared u w (item.Report r) h = tt
  has_home_in shared u w (item.Ended slot) h = tt
  has_home_in shared u w (item.Commit commit) h = tt
  has_home_in shared u w (item.Reply recorded) h = tt

  -- ---- what an event keeps

  -- the world is sound, and a history that fitted goes on
  abbrev pub GoesOnWith : SharedTables → Core J → Event → EventAnswer → Core J → Type 0
  GoesOnWith shared old event answer new = IsSound shared new × Advances (together old) (step event answer ∷ []) (together new)

  -- an event that reports nothing of a transaction
  pub quietly : (shared : SharedTables) (old new : Core J) (event : Event) (answer : EventAnswer) → IsQuiet event answer → Keeps shared [] [] [] 0 new → GoesOn shared nothing (together old) (together new)
      → GoesOnWith shared old event answer new
  quietly shared old new event answer quiet keeps goes = (
    kept_sound shared new keeps,
    λ opening history f.
        let seen = together new in
        fits_quiet opening history seen.log (joined_in seen) seen.desk.admitted (flight seen) event answer quiet (goes.fits opening history f),
  )

  -- Nothing changes but where slices are, what is parked, and what is in hand.
  pub relocated : (shared : SharedTables) (w : Core J) (ms : List (Message J)) (is : List (Item J)) (ls : List (Envelope J)) (a : ℕ) → Keeps shared ms is ls a w
      → (placements : PlacementsView) (parked : List (Message J)) → placements.executors ≡ w.placements.executors → length placements.placements ≡ length w.placements.placements
      → (messages : List (Message J)) (items : List (Item J)) (envelopes : List (Envelope J)) (arrived : ℕ) → IsSoundWith shared nothing (holding messages items (record w { placements = placements; parked = parked }))
      → IsLocatedWith 0 placements (going_in (envelopes ++ envelopes_of_all w)) (sent_in (envelopes ++ envelopes_of_all w)) (arrived + arrived_in w) (map home_of_message parked)
      → Keeps shared messages items envelopes arrived (record w { placements = placements; parked = parked })
  relocated shared w ms is ls a k placements parked executors many messages items envelopes arrived sound kept = record {
    all = sound;
    shards = k.shards;
    wait = k.wait;
    warehouses = many ∙ k.warehouses;
    inboxes = k.inboxes ∙ sym executors;
    outboxes = k.outboxes ∙ sym executors;
    own = k.own;
    outgoing = subst (λ n. All (IsOutgoing n) (all_of w.outboxes)) (sym executors) k.outgoing;
    located = kept;
    no_inbox = k.no_inbox;
    no_outbox = k.no_outbox;
  }

  -- ---- items in outboxes

  pub outgoing_items : (h : PlacementsView) (items : List (Item J)) → items_in (map (outgoing_by h) items) ≡ items
  outgoing_items h [] = refl
  outgoing_items h (item.Push m ∷ items) = ap (λ (is : List (Item J)). item.Push m ∷ is) (outgoing_items h items)
  outgoing_items h (item.Report r ∷ items) = ap (λ (is : List (Item J)). item.Report r ∷ is) (outgoing_items h items)
  outgoing_items h (item.Ended slot ∷ items) = ap (λ (is : List (Item J)). item.Ended slot ∷ is) (outgoing_items h items)
  outgoing_items h (item.Commit commit ∷ items) = ap (λ (is : List (Item J)). item.Commit commit ∷ is) (outgoing_items h items)
  outgoing_items h (item.Reply recorded ∷ items) = ap (λ (is : List (Item J)). item.Reply recorded ∷ is) (outgoing_items h items)

  not_arrived : (h : PlacementsView) (i : Item J) → arrived_of (outgoing_by h i) ≡ 0
  not_arrived h (item.Push m) = refl
  not_arrived h (item.Report r) = refl
  not_arrived h (item.Ended slot) = refl
  not_arrived h (item.Commit commit) = refl
  not_arrived h (item.Reply recorded) = refl

  none_arrived : (h : PlacementsView) (items : List (Item J)) → sum_by arrived_of (map (outgoing_by h) items) ≡ 0
  none_arrived h [] = refl
  none_arrived h (i ∷ items) = omega (arith, sum_by-cons arrived_of (outgoing_by h i) (map (outgoing_by h) items), not_arrived h i, none_arrived h items)

  none_sent : (h : PlacementsView) (items : List (Item J)) → sent_in (envelopes_out (map (outgoing_by h) items)) ≡ []
  none_sent h [] = refl
  none_sent h (item.Push m ∷ items) = none_sent h items
  none_sent h (item.Report r ∷ items) = none_sent h items
  none_sent h (item.Ended slot ∷ items) = none_sent h items
  none_sent h (item.Commit commit ∷ items) = none_sent h items
  none_sent h (item.Reply recorded ∷ items) = none_sent h items

  -- a message that is routed by its warehouse goes to an executor that knows of the slice
  goes_knows : (h : PlacementsView) (m : Message J) → All (KnowsOf h) (goes (route_of h (home_of_message m)) m)
  goes_knows h (message.Start flow works) = All-nil (KnowsOf h)
  goes_knows h (message.Act act) = All-cons (KnowsOf h) _ [] (routed_knows h (home_of_message {J = J} (message.Act act))) (All-nil (KnowsOf h))
  goes_knows h (message.Settle slot claims) = All-cons (KnowsOf h) _ [] (routed_knows h (home_of_claims claims)) (All-nil (KnowsOf h))
  goes_knows h (message.Undo slot claims) = All-cons (KnowsOf h) _ [] (routed_knows h (home_of_claims claims)) (All-nil (KnowsOf h))

  all_know : (h : PlacementsView) (items : List (Item J)) → All (KnowsOf h) (going_in (envelopes_out (map (outgoing_by h) items)))
  all_know h [] = All-nil (KnowsOf h)
  all_know h (item.Push m ∷ items) =
      All-append (KnowsOf h) (goes (route_of h (home_of_message m)) m) (going_in (envelopes_out (map (outgoing_by h) items))) (goes_knows h m) (all_know h items)
  all_know h (item.Report r ∷ items) = all_know h items
  all_know h (item.Ended slot ∷ items) = all_know h items
  all_know h (item.Commit commit ∷ items) = all_know h items
  all_know h (item.Reply recorded ∷ items) = all_know h items

  all_outgoing : (h : PlacementsView) (items : List (Item J)) → ((w_id : ℕ) → route_of h w_id < h.executors) → All (IsOutgoing h.executors) (map (outgoing_by h) items)
  all_outgoing h [] below = All-nil (IsOutgoing h.executors)
  all_outgoing h (item.Push m ∷ items) below = All-cons (IsOutgoing h.executors) _ _ (below (home_of_message m)) (all_outgoing h items below)
  all_outgoing h (item.Report r ∷ items) below = All-cons (IsOutgoing h.executors) _ _ tt (all_outgoing h items below)
  all_outgoing h (item.Ended slot ∷ items) below = All-cons (IsOutgoing h.executors) _ _ tt (all_outgoing h items below)
  all_outgoing h (item.Commit commit ∷ items) below = All-cons (IsOutgoing h.executors) _ _ tt (all_outgoing h items below)
  all_outgoing h (item.Reply recorded ∷ items) below = All-cons (IsOutgoing h.executors) _ _ tt (all_outgoing h items below)

  -- ---- an event has brought the parts so far

  module _ (shared : SharedTables) (w : Core J) (executor : ℕ) (parts : Parts J) (there : executor < length w.outboxes) (below : (w_id : ℕ) → route_of w.placements w_id < w.placements.executors) where
    abbrev posts : List (Outgoing J)
    posts = map (outgoing_by w.placements) parts.outbox

    -- with what it has put in hand
    abbrev brought : Core J
    brought = record w { parts = record parts { outbox = [] } }

    -- it is put into the outbox: only its envelopes are added to what is on its way
    pub brings_keep : (ms : List (Message J)) (is : List (Item J)) (envelopes : List (Envelope J)) (arrived : ℕ) → Keeps shared ms is envelopes arrived w → IsSoundWith shared nothing (holding [] parts.outbox brought) → All (IsShardOf shared.scale.warehouses) parts.shards.items
        → All HaveToWait parts.shards.items → parts.inbox ≡ [] → IsLocatedWith 0 w.placements (going_in (envelopes_of_all w)) (sent_in (envelopes_of_all w)) (arrived_in w) (map home_of_message w.parked)
        → Keeps shared [] [] [] 0 (bringing executor parts w)
    brings_keep ms is envelopes arrived k sound shards wait no_inbox kept =
        let h = w.placements in
        let old = envelopes_of_all w in
        let more = envelopes_out posts in
        let going : going_in (more ++ old) ≡ going_in more ++ going_in old = flat_map-append (λ (l : Envelope J). going_of l.to l.load) more old in
        let sent : sent_in (more ++ old) ≡ sent_in old = flat_map-append (λ (l : Envelope J). sent_of l.to l.load) more old ∙ ap (λ (ds : List Dispatch). ds ++ sent_in old) (none_sent h parts.outbox) in
        let hand : Keeps shared [] parts.outbox more 0 brought = record {
          all = sound;
          shards = shards;
          wait = wait;
          warehouses = k.warehouses;
          inboxes = k.inboxes;
          outboxes = k.outboxes;
          own = k.own;
          outgoing = k.outgoing;
          located = subst (λ (gs : List MessageToSlice). IsLocatedWith 0 h gs (sent_in (more ++ old)) (0 + arrived_in w) (map home_of_message w.parked)) (sym going)
              (subst (λ (ds : List Dispatch). IsLocatedWith 0 h (going_in more ++ going_in old) ds (0 + arrived_in w) (map home_of_message w.parked)) (sym sent)
              (subst (λ n. IsLocatedWith 0 h (going_in more ++ going_in old) (sent_in old) n (map home_of_message w.parked)) (omega arith)
              (located.going_more 0 h (going_in old) (sent_in old) (arrived_in w) (map home_of_message w.parked) (going_in more) (all_know h parts.outbox) kept)));
          no_inbox = no_inbox;
          no_outbox = refl;
        } in
        let ready : Keeps shared [] (items_in posts) more (sum_by arrived_of posts) brought =
        subst (λ (is : List (Item J)). Keeps shared [] is more (sum_by arrived_of posts) brought) (sym (outgoing_items h parts.outbox))
        (subst (λ n. Keeps shared [] parts.outbox more n brought) (sym (none_arrived h parts.outbox)) hand) in
        posts_keep shared brought executor posts [] there ready (all_outgoing h parts.outbox below)

    pub brings_pass : Passes shared (holding [] parts.outbox brought) (together (bringing executor parts w))
    brings_pass =
        subst (λ (is : List (Item J)). Passes shared (holding [] is brought) (together (bringing executor parts w))) (outgoing_items w.placements parts.outbox)
        (posts_pass shared brought executor posts [] there)

  -- ---- a message is worked on

  -- none of its own is on its way any more
  one_less : (w : Core J) (executor : ℕ) (m : Message J) → IsLocatedWith 0 w.placements (going_in (envelope executor (Work m) ∷ envelopes_of_all w)) (sent_in (envelope executor (Work m) ∷ envelopes_of_all w)) (0 + arrived_in w) (map home_of_message w.parked)
      → IsLocatedWith 0 w.placements (going_in (envelopes_of_all w)) (sent_in (envelopes_of_all w)) (arrived_in w) (map home_of_message w.parked)
  one_less w executor m h = less m (subst (λ n. IsLocatedWith 0 w.placements (goes executor m ++ going_in (envelopes_of_all w)) (sent_in (envelopes_of_all w)) n (map home_of_message w.parked)) (omega arith) h)
    where
      less : (m : Message J) → IsLocatedWith 0 w.placements (goes executor m ++ going_in (envelopes_of_all w)) (sent_in (envelopes_of_all w)) (arrived_in w) (map home_of_message w.parked)
          → IsLocatedWith 0 w.placements (going_in (envelopes_of_all w)) (sent_in (envelopes_of_all w)) (arrived_in w) (map home_of_message w.parked)
      less (message.Start flow works) h = h
      less (message.Act act) h = located.going_less 0 w.placements (going_in (envelopes_of_all w)) (sent_in (envelopes_of_all w)) (arrived_in w) (map home_of_message w.parked) _ h
      less (message.Settle slot claims) h = located.going_less 0 w.placements (going_in (envelopes_of_all w)) (sent_in (envelopes_of_all w)) (arrived_in w) (map home_of_message w.parked) _ h
      less (message.Undo slot claims) h = located.going_less 0 w.placements (going_in (envelopes_of_all w)) (sent_in (envelopes_of_all w)) (arrived_in w) (map home_of_message w.parked) _ h

  module _ (shared : SharedTables) (w : Core J) (h : IsSound shared w) (executor : ℕ) (rest : List (Envelope J)) where
    abbrev left : Core J
    left = record w { inboxes = slice_set w.inboxes executor rest }

    -- the outbox of an executor that has an inbox
    both_there : executor < length w.inboxes → executor < length w.outboxes
    both_there there = omega (arith, there, h.inboxes, h.outboxes)

    module _ (m : Message J) (first : queue_of executor w.inboxes ≡ envelope executor (Work m) ∷ rest) where
      abbrev l : Envelope J
      l = envelope executor (Work m)

      hand : Keeps shared (m ∷ []) [] (l ∷ []) 0 left
      hand = takes_envelope shared w h executor l rest first

      there : executor < length w.outboxes
      there = both_there (there_in shared w h executor l rest first)

      in_hand : Passes shared (together w) (holding (m ∷ []) [] left)
      in_hand = takes_passes shared w h executor l rest first

      -- it is in hand, with all else as it was
      pub message_sound : IsSoundWith shared nothing (holding (m ∷ []) [] left)
      message_sound = (in_hand h.all).sound

      pub message_fits : (opening : Database) (history : List Step) → Fits opening history (together w) → Fits opening history (holding (m ∷ []) [] left)
      message_fits opening history f = (in_hand h.all).fits opening history f

      abbrev pub beside : List (Message J)
      beside = messages_in (all_of left.inboxes) ++ w.parked

      pub message_hand : (k : IsSoundWith shared (part_message m) (seen w.parts beside (together left).outbox)) × IsSoundMessage shared k.in_flight m
      message_hand =
          let items = (together left).outbox in
          let first : Parts J = queued w.parts (m ∷ (waiting_in w.parts ++ beside)) (items ++ w.parts.outbox) in
          let nothing_more : items ≡ items ++ w.parts.outbox = sym (append-nil items) ∙ ap (λ (is : List (Item J)). items ++ is) (sym h.no_outbox) in
          message_in_hand shared first m (waiting_in w.parts ++ beside) refl (subst (λ (is : List (Item J)). IsSoundWith shared nothing (queued w.parts (m ∷ (waiting_in w.parts ++ beside)) is)) nothing_more message_sound)

      -- it is worked on
      module _ (once : TransactionsClaimEachGroupOnce) (parts : Parts J) (said : TakesMessage m w.parts parts) where
        abbrev then_brought : Core J
        then_brought = record left { parts = record parts { outbox = [] } }

        abbrev behind : List (Message J)
        behind = messages_in (all_of left.inboxes) ++ w.parked

        abbrev items : List (Item J)
        items = (together left).outbox

        works_pass : Passes shared (together w) (holding [] parts.outbox then_brought)
        works_pass =
            let held : Parts J = queued w.parts (m ∷ (waiting_in w.parts ++ behind)) items in
            let more : Parts J = queued w.parts (m ∷ (waiting_in w.parts ++ behind)) (items ++ w.parts.outbox) in
            let nothing_more : items ≡ items ++ w.parts.outbox = sym (append-nil items) ∙ ap (λ (is : List (Item J)). items ++ is) (sym h.no_outbox) in
            let done : Parts J = seen parts behind items in
            let last : Parts J = holding [] parts.outbox then_brought in
            passes-trans shared (together w) held last in_hand
            (passes-trans shared held more last (passes-is shared held more (ap (λ (is : List (Item J)). queued w.parts (m ∷ (waiting_in w.parts ++ behind)) is) nothing_more))
            (passes-trans shared more done last (passes_work once shared m w.parts parts behind items said)
            (passes_shuffled shared parts (waiting_in parts ++ behind) (waiting_in parts ++ behind) (items ++ parts.outbox) (parts.outbox ++ items) (same (waiting_in parts ++ behind)) (swap items parts.outbox))))

        pub works_sound : IsSoundWith shared nothing (holding [] parts.outbox then_brought)
        works_sound = (works_pass h.all).sound

        works_on : ((w_id : ℕ) → route_of w.placements w_id < w.placements.executors) → (new : Core J) → new ≡ bringing executor parts left → All (IsShardOf shared.scale.warehouses) parts.shards.items → GoesOnWith shared w (Take executor) Took new
        works_on below new is shards =
            let next : Core J = bringing executor parts left in
            let keeps = brings_keep shared left executor parts there below (m ∷ []) [] (l ∷ []) 0 hand works_sound shards (takes_wait m w.parts parts said h.wait) (takes_inbox m w.parts parts said ∙ h.no_inbox) (one_less left executor m hand.located) in
            subst (λ (v : Core J). GoesOnWith shared w (Take executor) Took v) (sym is)
            (quietly shared w next (Take executor) Took tt keeps
            (passes-trans shared (together w) (holding [] parts.outbox then_brought) (together next) works_pass (brings_pass shared left executor parts there below) h.all))

      -- it is sent on
      goes_slice : (to : ℕ) → is_for_slice m ≡ true → goes to m ≡ record { to = to; w_id = home_of_message m } ∷ []
      goes_slice to is = by m is
        where
          by : (m : Message J) → is_for_slice m ≡ true → goes to m ≡ record { to = to; w_id = home_of_message m } ∷ []
          by (message.Start flow works) is = absurd (cc)
          by (message.Act act) is = refl
          by (message.Settle slot claims) is = refl
          by (message.Undo slot claims) is = refl

      -- what is known of it as a message for a slice
      located_slice : is_for_slice m ≡ true → IsLocatedWith 0 w.placements (record { to = executor; w_id = home_of_message m } ∷ going_in (envelopes_of_all left)) (sent_in (envelopes_of_all left)) (0 + arrived_in left) (map home_of_message w.parked)
      located_slice is =
          subst (λ (gs : List MessageToSlice). IsLocatedWith 0 w.placements (gs ++ going_in (envelopes_of_all left)) (sent_in (envelopes_of_all left)) (0 + arrived_in left) (map home_of_message w.parked)) (goes_slice executor is) hand.located

      pub sends_on : (to : ℕ) (new : Core J) → is_for_slice m ≡ true → found_by w.placements executor (home_of_message m) ≡ Went to → new ≡ posting executor (outgoing.Envelope (envelope to (Work m)) ∷ []) left
          → GoesOnWith shared w (Take executor) Took new
      sends_on to new slice found is =
          let p : Outgoing J = outgoing.Envelope (envelope to (Work m)) in
          let next : Core J = posting executor (p ∷ []) left in
          let inbox = (together left).inbox in
          let items = (together left).outbox in
          let forwards = located.forwarded 0 w.placements (going_in (envelopes_of_all left)) (sent_in (envelopes_of_all left)) (0 + arrived_in left) (map home_of_message w.parked) executor (home_of_message m) to found (located_slice slice) in
          let pushed : Passes shared (together w) (holding [] (item.Push m ∷ []) left) =
          passes-trans shared (together w) (holding (m ∷ []) [] left) (holding [] (item.Push m ∷ []) left) in_hand
          (passes-trans shared (holding (m ∷ []) [] left) (queued w.parts inbox (items ++ item.Push m ∷ [])) (holding [] (item.Push m ∷ []) left) (passes_on shared w.parts m inbox items)
          (passes_shuffled shared w.parts inbox inbox (items ++ item.Push m ∷ []) (item.Push m ∷ items) (same inbox) (swap items (item.Push m ∷ [])))) in
          let ready : Keeps shared [] (item.Push m ∷ []) (envelope to (Work m) ∷ []) 0 left =
          relocated shared left (m ∷ []) [] (l ∷ []) 0 hand w.placements w.parked refl refl [] (item.Push m ∷ []) (envelope to (Work m) ∷ []) 0 (pushed h.all).sound
          (subst (λ (gs : List MessageToSlice). IsLocatedWith 0 w.placements (gs ++ going_in (envelopes_of_all left)) (sent_in (envelopes_of_all left)) (0 + arrived_in left) (map home_of_message w.parked)) (sym (goes_slice to slice)) forwards.0) in
          let counted : Keeps shared [] (item.Push m ∷ []) (envelope to (Work m) ∷ []) (sum_by arrived_of (p ∷ [])) left =
          subst (λ n. Keeps shared [] (item.Push m ∷ []) (envelope to (Work m) ∷ []) n left) (omega (arith, sum_by-cons arrived_of p [])) ready in
          let keeps : Keeps shared [] [] [] 0 next = posts_keep shared left executor (p ∷ []) [] there counted (All-cons (IsOutgoing w.placements.executors) p [] forwards.1 (All-nil (IsOutgoing w.placements.executors))) in
          subst (λ (v : Core J). GoesOnWith shared w (Take executor) Took v) (sym is)
          (quietly shared w next (Take executor) Took tt keeps
          (passes-trans shared (together w) (holding [] (item.Push m ∷ []) left) (together next) pushed (posts_pass shared left executor (p ∷ []) [] there) h.all))

      -- it is parked
      parks : (new : Core J) → is_for_slice m ≡ true → found_by w.placements executor (home_of_message m) ≡ Unknown → new ≡ record left { parked = w.parked ++ m ∷ [] } → GoesOnWith shared w (Take executor) Took new
      parks new slice found is =
          let next : Core J = record left { parked = w.parked ++ m ∷ [] } in
          let waiting = waiting_in w.parts in
          let arrived = messages_in (all_of left.inboxes) in
          let items = (together left).outbox in
          let order : Shuffle (m ∷ (waiting ++ (arrived ++ w.parked))) (waiting ++ (arrived ++ (w.parked ++ m ∷ []))) =
          subst (λ (q : List (Message J)). Shuffle (m ∷ (waiting ++ (arrived ++ w.parked))) q)
          (append_assoc waiting (arrived ++ w.parked) (m ∷ []) ∙ ap (λ (q : List (Message J)). waiting ++ q) (append_assoc arrived w.parked (m ∷ [])))
          (swap (m ∷ []) (waiting ++ (arrived ++ w.parked))) in
          let passes : Passes shared (together w) (together next) =
          passes-trans shared (together w) (holding (m ∷ []) [] left) (together next) in_hand
          (passes_shuffled shared w.parts (m ∷ (waiting ++ (arrived ++ w.parked))) (waiting ++ (arrived ++ (w.parked ++ m ∷ []))) items items order (same items)) in
          let homes : List ℕ = map home_of_message w.parked in
          let parked = located.parked_more 0 w.placements (going_in (envelopes_of_all left)) (sent_in (envelopes_of_all left)) (0 + arrived_in left) homes executor (home_of_message m) found (located_slice slice) in
          let homes_are : homes ++ home_of_message m ∷ [] ≡ map home_of_message (w.parked ++ m ∷ []) = sym (map-append home_of_message w.parked (m ∷ [])) in
          let behind = located_again 0 w.placements (envelopes_of_all left) (envelopes_of_all left) (0 + arrived_in left) (0 + arrived_in left) (home_of_message m ∷ homes) (map home_of_message (w.parked ++ m ∷ []))
          (same (envelopes_of_all left)) refl (subst (λ (q : List ℕ). Shuffle (home_of_message m ∷ homes) q) homes_are (swap (home_of_message m ∷ []) homes)) parked in
          let keeps : Keeps shared [] [] [] 0 next = relocated shared left (m ∷ []) [] (l ∷ []) 0 hand w.placements (w.parked ++ m ∷ []) refl refl [] [] [] 0 (passes h.all).sound behind in
          subst (λ (v : Core J). GoesOnWith shared w (Take executor) Took v) (sym is) (quietly shared w next (Take executor) Took tt keeps (passes h.all))

      -- whatever it finds
      pub works_if_here : ((w_id : ℕ) → route_of w.placements w_id < w.placements.executors) → TransactionsClaimEachGroupOnce → (new : Core J) → WorksIfHere (is_for_slice m) executor m left new → All (IsShardOf shared.scale.warehouses) new.parts.shards.items → GoesOnWith shared w (Take executor) Took new
      works_if_here below once new said shards = by (is_for_slice m) refl said
        where
          on : WorksOn executor m left new → GoesOnWith shared w (Take executor) Took new
          on works = works_on once works.0 works.1.0 below new works.1.1 (subst (λ (v : Core J). All (IsShardOf shared.scale.warehouses) v.parts.shards.items) works.1.1 shards)

          finds : is_for_slice m ≡ true → (found : Found) → found_by w.placements executor (home_of_message m) ≡ found → FindsSlice found executor m left new → GoesOnWith shared w (Take executor) Took new
          finds slice Here is works = on works
          finds slice (Went to) is sent = sends_on to new slice is sent
          finds slice Unknown is parked = parks new slice is parked

          by : (slice : Bool) → is_for_slice m ≡ slice → WorksIfHere slice executor m left new → GoesOnWith shared w (Take executor) Took new
          by false is works = on works
          by true is found = finds is (found_by w.placements executor (home_of_message m)) refl found
