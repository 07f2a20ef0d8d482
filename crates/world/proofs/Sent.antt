-- What an envelope or an item that is sent does to a world, and what a submission does.
use Rattle.std.proofs.Common.{◌≡◌, ◌⊎◌, inl, inr, ℕ, ◌<◌, ◌≤◌, Bool, true, false, ◌&&◌, List, [], ◌∷◌, ◌++◌, length, map, Option, Some, None, refl, sym, ◌∙◌, ap, subst, append-nil, arith, nat_lt, ⊎_elim}
use Rattle.std.specs.Prelude.{All, Vec, slice_get, slice_set}
use Rattle.std.specs.List.{sum_by}
use Rattle.std.specs.declared.alloc.Global.{Global}
use Rattle.std.proofs.lemmas.List.{set-get_or}
use Rattle.std.proofs.lemmas.List.Elements.{All-cons, All-nil}
use Rattle.std.proofs.lemmas.List.Sums.{sum_by-cons}
use Rattle.partitions.specs.Parts.{SharedTables}
use Rattle.requests.specs.declared.refusal.Refusal.{Refusal}
use Rattle.requests.specs.declared.request.Request.{Request}
use Rattle.history.specs.declared.event.Event.TheVariants.{Submit, Send}
use Rattle.history.specs.declared.event.EventAnswer.{EventAnswer}
use Rattle.history.specs.declared.event.EventAnswer.TheVariants.{Full, Sent}
use Rattle.history.specs.History.{step}
use Rattle.range_moves.specs.Placements.{route_of}
use Rattle.range_moves.specs.Traffic.{IsLocatedWith}
use Rattle.transactions.specs.Shards.{ShardView}
use Rattle.world.specs.declared.desk.SessionDesk.{SessionDesk}
use Rattle.world.specs.declared.flight.Carried.{Carried}
use Rattle.world.specs.declared.flight.Item.{Item}
use Rattle.world.specs.declared.flight.Item.TheVariants as item
use Rattle.world.specs.declared.flight.Envelope.{Envelope}
use Rattle.world.specs.declared.flight.Load.{Load}
use Rattle.world.specs.declared.flight.Load.TheVariants.{Work, Move}
use Rattle.world.specs.declared.flight.Message.{Message}
use Rattle.world.specs.declared.flight.Message.TheVariants as message
use Rattle.world.specs.declared.flight.Outgoing.{Outgoing}
use Rattle.world.specs.declared.flight.Outgoing.TheVariants as outgoing
use Rattle.world.specs.declared.world.Core.{Core}
use Rattle.world.specs.declared.world.Parts.{Parts}
use Rattle.world.specs.Events.{SendsItem}
use Rattle.world.specs.Flights.{join, nothing, part_item}
use Rattle.world.specs.Happening.{Admits, Delivers, SubmitsAt, SubmitsInto, SubmitsUnless, beginning_at, bringing, can_admit, posting, refusal_at, submission}
use Rattle.world.specs.Envelopes.{IsNoPush, IsOutgoing, arrived_of, going_in, home_of_message, items_in, envelope, messages_in, messages_of, sent_in}
use Rattle.world.specs.Queues.{all_of, put_into, queue_of}
use Rattle.world.specs.Parted.{joined_in}
use Rattle.world.specs.Sound.{IsSoundItem, IsSoundWith, flight}
use Rattle.world.specs.Shards.{HaveToWait, IsShardOf, waiting_in}
use Rattle.world.specs.Together.{IsSound, arrived_in, envelopes_of_all, together}
use Rattle.world.specs.Worlds.{Fits, FitsPart}
use Rattle.world.proofs.Executing.{GoesOnWith, brings_keep, brings_pass, quietly}
use Rattle.world.proofs.Framed.{framed, sends_framed, submits_framed}
use Rattle.world.proofs.Moves.{sound_kept}
use Rattle.world.proofs.Owned.{sent_inbox}
use Rattle.world.proofs.Passes.{Passes, passes-is, passes-trans, passes_in, passes_shuffled}
use Rattle.world.proofs.Posting.{Keeps, delivers_keep, delivers_pass, holding, is_outgoing, kept_sound, left_out, posts_keep, posts_pass, sends_passes, takes_outgoing, there_out}
use Rattle.world.proofs.Puts.{fits_in_hand, item_in_hand}
use Rattle.world.proofs.Reordered.{queued}
use Rattle.world.proofs.Shuffles.{same, swap}
use Rattle.world.proofs.Standing.{sent_shards, submitted_shards}

first_of_both : (a b : Bool) → (a && b) ≡ true → a ≡ true
first_of_both true b is = refl
first_of_both false b is = is

module _ {J : Type 0} where
  -- ---- an envelope

  -- what is pushed of it comes in
  comes_in : (shared : SharedTables) (w : Core J) (l : Envelope J) → Passes shared (holding [] (map item.Push (messages_of l.load)) w) (holding (messages_of l.load) [] w)
  comes_in shared w l = by l.load
    where
      by : (load : Load J) → Passes shared (holding [] (map item.Push (messages_of load)) w) (holding (messages_of load) [] w)
      by (Move m) = λ sound. record { sound = sound; fits = λ opening history f. f }
      by (Work m) =
          let ms = (together w).inbox in
          let is = (together w).outbox in
          passes-trans shared (queued w.parts ms (item.Push m ∷ is)) (queued w.parts (ms ++ m ∷ []) is) (queued w.parts (m ∷ ms) is) (passes_in shared w.parts m ms is)
          (passes_shuffled shared w.parts (ms ++ m ∷ []) (m ∷ ms) is is (swap ms (m ∷ [])) (same is))

  pub sends_envelope : (shared : SharedTables) (w : Core J) (h : IsSound shared w) (executor : ℕ) (l : Envelope J) (rest : List (Outgoing J)) → queue_of executor w.outboxes ≡ outgoing.Envelope l ∷ rest → (room : Bool) (answer : EventAnswer) (new : Core J)
      → Delivers room executor l (record w { outboxes = slice_set w.outboxes executor rest }) answer new → GoesOnWith shared w (Send executor) answer new
  sends_envelope shared w h executor l rest first true answer new said =
      let p : Outgoing J = outgoing.Envelope l in
      let left = left_out shared w h executor p rest first in
      let hand = takes_outgoing shared w h executor p rest first in
      let below = is_outgoing shared w h executor p rest first in
      let there : l.to < length w.inboxes = omega (arith, below, h.inboxes) in
      let pushes = map item.Push (messages_of l.load) in
      let passes : Passes shared (together w) (holding (messages_of l.load) [] left) =
      passes-trans shared (together w) (holding [] pushes left) (holding (messages_of l.load) [] left) (sends_passes shared w h executor p rest first) (comes_in shared left l) in
      let ready : Keeps shared (messages_of l.load) [] (l ∷ []) 0 left = record {
        all = (passes h.all).sound;
        shards = hand.shards;
        wait = hand.wait;
        warehouses = hand.warehouses;
        inboxes = hand.inboxes;
        outboxes = hand.outboxes;
        own = hand.own;
        outgoing = hand.outgoing;
        located = hand.located;
        no_inbox = hand.no_inbox;
        no_outbox = hand.no_outbox;
      } in
      let next : Core J = record left { inboxes = put_into l.to (l ∷ []) w.inboxes } in
      let keeps = delivers_keep shared left l there ready in
      subst (λ (v : Core J). GoesOnWith shared w (Send executor) answer v) (sym said.1)
      (subst (λ a. GoesOnWith shared w (Send executor) a next) (sym said.0)
      (quietly shared w next (Send executor) Sent tt keeps (passes-trans shared (together w) (holding (messages_of l.load) [] left) (together next) passes (delivers_pass shared left l there) h.all)))
  sends_envelope shared w h executor l rest first false answer new said =
      let p : Outgoing J = outgoing.Envelope l in
      let left = left_out shared w h executor p rest first in
      let hand = takes_outgoing shared w h executor p rest first in
      let below = is_outgoing shared w h executor p rest first in
      let there = there_out shared w h executor p rest first in
      let there_left : executor < length left.outboxes = omega (arith, there, hand.outboxes, h.outboxes) in
      let pushes = map item.Push (messages_of l.load) in
      let items : items_in (p ∷ []) ≡ pushes = append-nil pushes in
      let counted : Keeps shared [] (items_in (p ∷ [])) (l ∷ []) (sum_by arrived_of (p ∷ [])) left =
      subst (λ (is : List (Item J)). Keeps shared [] is (l ∷ []) (sum_by arrived_of (p ∷ [])) left) (sym items)
      (subst (λ n. Keeps shared [] pushes (l ∷ []) n left) (omega (arith, sum_by-cons arrived_of p [])) hand) in
      let next : Core J = posting executor (p ∷ []) left in
      let keeps : Keeps shared [] [] [] 0 next = posts_keep shared left executor (p ∷ []) [] there_left counted (All-cons (IsOutgoing w.placements.executors) p [] below (All-nil (IsOutgoing w.placements.executors))) in
      let passes : Passes shared (together w) (holding [] (items_in (p ∷ [])) left) =
      subst (λ (is : List (Item J)). Passes shared (together w) (holding [] is left)) (sym items) (sends_passes shared w h executor p rest first) in
      subst (λ (v : Core J). GoesOnWith shared w (Send executor) answer v) (sym said.1)
      (subst (λ a. GoesOnWith shared w (Send executor) a next) (sym said.0)
      (quietly shared w next (Send executor) Full tt keeps (passes-trans shared (together w) (holding [] (items_in (p ∷ [])) left) (together next) passes (posts_pass shared left executor (p ∷ []) [] there_left) h.all)))

  -- ---- an item

  module _ (shared : SharedTables) (w : Core J) (h : IsSound shared w) (executor : ℕ) (i : Item J) (rest : List (Outgoing J)) (first : queue_of executor w.outboxes ≡ outgoing.Item i ∷ rest) where
    abbrev p : Outgoing J
    p = outgoing.Item i

    abbrev left : Core J
    left = record w { outboxes = slice_set w.outboxes executor rest }

    abbrev messages : List (Message J)
    messages = (together left).inbox

    abbrev items : List (Item J)
    items = (together left).outbox

    abbrev whole : Parts J
    whole = queued w.parts messages (i ∷ items)

    sound_item : IsSoundWith shared nothing whole
    sound_item = (sends_passes shared w h executor p rest first h.all).sound

    -- nothing is in hand before
    no_more : queued w.parts messages items ≡ framed messages items w.parts
    no_more = λ k. queued w.parts ((sym (append-nil messages) ∙ ap (λ (ms : List (Message J)). messages ++ ms) (sym h.no_inbox)) k) ((sym (append-nil items) ∙ ap (λ (is : List (Item J)). items ++ is) (sym h.no_outbox)) k)

    pub item_taken : (k : IsSoundWith shared (part_item i) (framed messages items w.parts)) × IsSoundItem shared k.in_flight i
    item_taken =
        subst (λ (v : Parts J). (k : IsSoundWith shared (part_item i) v) × IsSoundItem shared k.in_flight i) no_more (item_in_hand shared whole i items refl sound_item)

    no_push : IsNoPush i
    no_push = is_outgoing shared w h executor p rest first

    pub sends_item : (below : (w_id : ℕ) → route_of w.placements w_id < w.placements.executors) (parts : Parts J) (answer : EventAnswer) (new : Core J) → SendsItem w.log_limit i w.parts answer parts → new ≡ bringing executor parts left → GoesOnWith shared w (Send executor) answer new
    sends_item below parts answer new said is =
        let sends = sends_framed messages items w.log_limit shared w.parts parts i answer item_taken.0 item_taken.1 said in
        let hand = takes_outgoing shared w h executor p rest first in
        let same_shards = sent_shards w.log_limit i w.parts parts answer said in
        let none : parts.inbox ≡ [] = sent_inbox w.log_limit i w.parts parts answer no_push said ∙ h.no_inbox in
        let there = there_out shared w h executor p rest first in
        let there_left : executor < length left.outboxes = omega (arith, there, hand.outboxes, h.outboxes) in
        let brought : Core J = record left { parts = record parts { outbox = [] } } in
        let seen : Parts J = queued parts messages (items ++ parts.outbox) in
        let framed_is : framed messages items parts ≡ seen = ap (λ (ms : List (Message J)). queued parts (messages ++ ms) (items ++ parts.outbox)) none ∙ ap (λ (ms : List (Message J)). queued parts ms (items ++ parts.outbox)) (append-nil messages) in
        let waits : waiting_in w.parts ≡ waiting_in parts = ap (λ (s : Vec (ShardView (Carried J)) Global). waiting_in (record parts { shards = s })) (sym same_shards) in
        let last : Parts J = holding [] parts.outbox brought in
        let mid : Parts J = queued parts (waiting_in parts ++ (messages_in (all_of w.inboxes) ++ w.parked)) (items ++ parts.outbox) in
        let seen_is : seen ≡ mid = ap (λ (q : List (Message J)). queued parts (q ++ (messages_in (all_of w.inboxes) ++ w.parked)) (items ++ parts.outbox)) waits in
        let passes : Passes shared (framed messages items parts) last =
        passes-trans shared (framed messages items parts) mid last (passes-is shared (framed messages items parts) mid (framed_is ∙ seen_is))
        (passes_shuffled shared parts mid.inbox mid.inbox (items ++ parts.outbox) (parts.outbox ++ items) (same mid.inbox) (swap items parts.outbox)) in
        let next : Core J = bringing executor parts left in
        let end : Passes shared (framed messages items parts) (together next) = passes-trans shared (framed messages items parts) last (together next) passes (brings_pass shared left executor parts there_left below) in
        let kept : IsLocatedWith 0 w.placements (going_in (envelopes_of_all left)) (sent_in (envelopes_of_all left)) (arrived_in left) (map home_of_message w.parked) =
        subst (λ n. IsLocatedWith 0 w.placements (going_in (envelopes_of_all left)) (sent_in (envelopes_of_all left)) n (map home_of_message w.parked)) (omega arith) hand.located in
        let shards : All (IsShardOf shared.scale.warehouses) parts.shards.items = subst (λ (s : Vec (ShardView (Carried J)) Global). All (IsShardOf shared.scale.warehouses) s.items) (sym same_shards) h.shards in
        let wait : All HaveToWait parts.shards.items = subst (λ (s : Vec (ShardView (Carried J)) Global). All HaveToWait s.items) (sym same_shards) h.wait in
        let keeps = brings_keep shared left executor parts there_left below [] (i ∷ []) [] 0 hand (passes sends.sound).sound shards wait none kept in
        subst (λ (v : Core J). GoesOnWith shared w (Send executor) answer v) (sym is) (
          kept_sound shared next keeps,
          λ opening history f.
              (end sends.sound).fits opening (history ++ step (Send executor) answer ∷ [])
              (sends.fits opening history executor
              (subst (λ (v : Parts J). FitsPart opening history w.parts.log (joined_in w.parts) w.parts.desk.admitted (join (part_item i) (flight v))) no_more
              (fits_in_hand opening history whole i items refl ((sends_passes shared w h executor p rest first h.all).fits opening history f)))),
        )

  -- ---- a submission

  -- nothing is changed, or a transaction is admitted
  into_cases : (room can : Bool) (session number : ℕ) (asked : Request) (desk : SessionDesk J) (old new : Parts J) (answer : EventAnswer) → SubmitsInto can (submission room session number asked) desk old answer new → (new ≡ old) ⊎ ((can ≡ true) × Admits session number asked desk old new)
  into_cases room false session number asked desk old new answer said = inl said.1
  into_cases room true session number asked desk old new answer said = ⊎_elim (λ refused. inl refused.1) (λ admitted. inr (refl, admitted.1)) said

  unless_cases : (room : Bool) (why : Option Refusal) (session number : ℕ) (asked : Request) (desk : SessionDesk J) (old new : Parts J) (answer : EventAnswer) → SubmitsUnless why (submission room session number asked) desk old answer new
      → (new ≡ old) ⊎ ((can_admit room old ≡ true) × Admits session number asked desk old new)
  unless_cases room (Some why) session number asked desk old new answer said = inl said.1
  unless_cases room None session number asked desk old new answer said = into_cases room (can_admit room old) session number asked desk old new answer said

  pub submit_cases : (room : Bool) (found : Option (SessionDesk J)) (session number : ℕ) (asked : Request) (old new : Parts J) (answer : EventAnswer) → SubmitsAt (submission room session number asked) found old answer new
      → (new ≡ old) ⊎ ((can_admit room old ≡ true) × ((desk : SessionDesk J) × Admits session number asked desk old new))
  submit_cases room None session number asked old new answer said = inl said.1
  submit_cases room (Some desk) session number asked old new answer said =
      ⊎_elim (λ same. inl same) (λ admitted. inr (admitted.0, (desk, admitted.1))) (unless_cases room (refusal_at desk asked old) session number asked desk old new answer said)

  -- there was room then
  admitted_room : (room : Bool) (old : Parts J) → can_admit room old ≡ true → room ≡ true
  admitted_room room old can = first_of_both room (nat_lt old.desk.admitted 18446744073709551615) can

  -- at most one is put, and one only where there was room
  pub one_put : (room : Bool) (found : Option (SessionDesk J)) (session number : ℕ) (asked : Request) (old new : Parts J) (answer : EventAnswer) → SubmitsAt (submission room session number asked) found old answer new
      → old.inbox ≡ [] → (length new.inbox ≤ 1) × (1 ≤ length new.inbox → room ≡ true)
  one_put room found session number asked old new answer said none =
      ⊎_elim
      (λ same.
      let nothing_put : length new.inbox ≡ 0 = ap (λ (w : Parts J). length w.inbox) same ∙ ap (λ (ms : List (Message J)). length ms) none in
      (omega (arith, nothing_put), λ some. absurd (omega (arith, some, nothing_put))))
      (λ admitted.
      let one : length new.inbox ≡ 1 = ap (λ (ms : List (Message J)). length ms) (admitted.1.1.inbox ∙ ap (λ (ms : List (Message J)). ms ++ message.Start admitted.1.1.flow admitted.1.1.works ∷ []) none) in
      (omega (arith, one), λ some. admitted_room room old admitted.0))
      (submit_cases room found session number asked old new answer said)

  -- nothing is handed out
  pub none_begins : (w : Core J) (to : ℕ) → w.parts.inbox ≡ [] → beginning_at to w.parts w ≡ w
  none_begins w to none =
      let inboxes : put_into to (map (λ (m : Message J). envelope to (Work m)) w.parts.inbox) w.inboxes ≡ w.inboxes =
      ap (λ (ms : List (Message J)). slice_set w.inboxes to (queue_of to w.inboxes ++ map (λ (m : Message J). envelope to (Work m)) ms)) none
      ∙ ap (λ (q : List (Envelope J)). slice_set w.inboxes to q) (append-nil (queue_of to w.inboxes)) ∙ set-get_or w.inboxes to [] in
      λ k. record w { parts = record w.parts { inbox = sym none k }; inboxes = inboxes k }

  module _ (shared : SharedTables) (w : Core J) (h : IsSound shared w) (session number : ℕ) (asked : Request) (to : ℕ) (there : to < length w.inboxes) where
    abbrev messages' : List (Message J)
    messages' = (together w).inbox

    abbrev items' : List (Item J)
    items' = (together w).outbox

    nothing_more : together w ≡ framed messages' items' w.parts
    nothing_more = λ k. queued w.parts ((sym (append-nil messages') ∙ ap (λ (ms : List (Message J)). messages' ++ ms) (sym h.no_inbox)) k) ((sym (append-nil items') ∙ ap (λ (is : List (Item J)). items' ++ is) (sym h.no_outbox)) k)

    pub submits_at : (room : Bool) (answer : EventAnswer) (parts : Parts J) (new : Core J) → SubmitsAt (submission room session number asked) (slice_get w.parts.desk.sessions.items session) w.parts answer parts → new ≡ beginning_at to parts w
        → GoesOnWith shared w (Submit session number asked) answer new
    submits_at room answer parts new said is =
        let found = slice_get w.parts.desk.sessions.items session in
        let framed_sound : IsSoundWith shared nothing (framed messages' items' w.parts) = subst (λ (v : Parts J). IsSoundWith shared nothing v) nothing_more h.all in
        let both = submits_framed messages' items' room shared w.parts parts framed_sound session number asked answer found refl said in
        let same_shards = submitted_shards room found session number asked w.parts parts answer said in
        let next : Core J = beginning_at to parts w in
        let come = messages_in (all_of w.inboxes) in
        ⊎_elim
        (λ stays.
        let same_world : new ≡ w = is ∙ ap (λ (v : Parts J). beginning_at to v w) stays ∙ none_begins w to h.no_inbox in
        let again : framed messages' items' parts ≡ together w = ap (λ (v : Parts J). framed messages' items' v) stays ∙ sym nothing_more in
        subst (λ (v : Core J). GoesOnWith shared w (Submit session number asked) answer v) (sym same_world) (
          h,
          λ opening history f.
              subst (λ (v : Parts J). Fits opening (history ++ step (Submit session number asked) answer ∷ []) v) again
              (both.1 opening history (subst (λ (v : Parts J). Fits opening history v) nothing_more f)),
        ))
        (λ admitted.
        let a = admitted.1.1 in
        let m : Message J = message.Start a.flow a.works in
        let l : Envelope J = envelope to (Work m) in
        let inbox : parts.inbox ≡ m ∷ [] = a.inbox ∙ ap (λ (ms : List (Message J)). ms ++ m ∷ []) h.no_inbox in
        let outbox : parts.outbox ≡ [] = a.outbox ∙ h.no_outbox in
        let cleared : Parts J = record parts { inbox = [] } in
        let mid : Core J = record w { parts = cleared } in
        let next_is : next ≡ record mid { inboxes = put_into to (l ∷ []) w.inboxes } =
        ap (λ (ms : List (Message J)). record mid { inboxes = put_into to (map (λ (m : Message J). envelope to (Work m)) ms) w.inboxes }) inbox in
        let waits : waiting_in w.parts ≡ waiting_in parts = ap (λ (s : Vec (ShardView (Carried J)) Global). waiting_in (record parts { shards = s })) (sym same_shards) in
        let seen : Parts J = queued parts (m ∷ (waiting_in parts ++ (come ++ w.parked))) items' in
        let framed_is : framed messages' items' parts ≡ queued parts ((waiting_in parts ++ (come ++ w.parked)) ++ m ∷ []) items' =
        λ k. queued parts ((waits k ++ (come ++ w.parked)) ++ inbox k) ((ap (λ (is : List (Item J)). items' ++ is) outbox ∙ append-nil items') k) in
        let passes : Passes shared (framed messages' items' parts) (holding (m ∷ []) [] mid) =
        passes-trans shared (framed messages' items' parts) (queued parts ((waiting_in parts ++ (come ++ w.parked)) ++ m ∷ []) items') seen
        (passes-is shared (framed messages' items' parts) (queued parts ((waiting_in parts ++ (come ++ w.parked)) ++ m ∷ []) items') framed_is)
        (passes_shuffled shared parts ((waiting_in parts ++ (come ++ w.parked)) ++ m ∷ []) (m ∷ (waiting_in parts ++ (come ++ w.parked))) items' items' (swap (waiting_in parts ++ (come ++ w.parked)) (m ∷ [])) (same items')) in
        let kept = sound_kept shared w h in
        let ready : Keeps shared (m ∷ []) [] (l ∷ []) 0 mid = record {
          all = (passes both.0).sound;
          shards = subst (λ (s : Vec (ShardView (Carried J)) Global). All (IsShardOf shared.scale.warehouses) s.items) (sym same_shards) h.shards;
          wait = subst (λ (s : Vec (ShardView (Carried J)) Global). All HaveToWait s.items) (sym same_shards) h.wait;
          warehouses = h.warehouses;
          inboxes = h.inboxes;
          outboxes = h.outboxes;
          own = h.own;
          outgoing = h.outgoing;
          located = kept.located;
          no_inbox = refl;
          no_outbox = outbox;
        } in
        let last : Core J = record mid { inboxes = put_into to (l ∷ []) w.inboxes } in
        let keeps = delivers_keep shared mid l there ready in
        let end : Passes shared (framed messages' items' parts) (together last) = passes-trans shared (framed messages' items' parts) (holding (m ∷ []) [] mid) (together last) passes (delivers_pass shared mid l there) in
        subst (λ (v : Core J). GoesOnWith shared w (Submit session number asked) answer v) (sym (is ∙ next_is)) (
          kept_sound shared last keeps,
          λ opening history f.
              (end both.0).fits opening (history ++ step (Submit session number asked) answer ∷ [])
              (both.1 opening history (subst (λ (v : Parts J). Fits opening history v) nothing_more f)),
        ))
        (submit_cases room found session number asked w.parts parts answer said)
