-- Of which transactions actions die while a message is processed.
use Rattle.std.proofs.Common.{◌≡◌, ⊎_elim, slice_set, ℕ, ◌<◌, ◌≤◌, Bool, true, false, cond, List, [], ◌∷◌, ◌++◌, length, map, refl, sym, ap, subst, ◌∙◌, append-nil, append_assoc, arith}
use Rattle.std.specs.Prelude.{All, Contains}
use Rattle.std.specs.List.{filter}
use Rattle.std.proofs.lemmas.List.{append_cancel_left, length-set}
use Rattle.std.proofs.lemmas.List.Elements.{All-append, All-cons, All-contains, All-contains_itself, All-nil, All-weaker}
use Rattle.std.proofs.lemmas.List.Sorted.{Contains-permutation, IsPermutation-sym}
use Rattle.partitions.specs.Parts.{SharedTables}
use Rattle.schema.specs.Database.{Database}
use Rattle.requests.specs.declared.group.Group.{Group}
use Rattle.tickets.specs.Claims.{ClaimView}
use Rattle.history.specs.declared.event.Event.{Event}
use Rattle.history.specs.declared.event.Event.TheVariants.{Submit, Order, Take, Send}
use Rattle.history.specs.declared.event.EventAnswer.{EventAnswer}
use Rattle.history.specs.History.{Step}
use Rattle.local_locks.specs.Asking.{held_by}
use Rattle.local_locks.specs.LockTableView.{HeldClaim}
use Rattle.local_locks.proofs.Members.{contains_there}
use Rattle.slices.specs.SliceView.{AreAllHeld, IsClaimAt, JoinedSlices, SliceView, SlicesKeep, at_home, held_at, joined, with_waiters}
use Rattle.transactions.specs.declared.acting.Ran.{Ran}
use Rattle.transactions.specs.declared.acting.Ran.TheVariants as ran
use Rattle.transactions.specs.declared.shard.Acted.{Acted}
use Rattle.transactions.specs.declared.shard.Acted.TheVariants as acted
use Rattle.transactions.specs.declared.shard.Turned.{Turned}
use Rattle.transactions.specs.declared.work.Work.{Work}
use Rattle.transactions.specs.Acting.{IsRan, claims_of_ran}
use Rattle.transactions.specs.Laws.{TransactionsClaimEachGroupOnce}
use Rattle.transactions.specs.Shards.{ActsAs, OneTurn, ShardView}
use Rattle.transactions.specs.Works.{home_of, group_wants_of, home_of_claims}
use Rattle.wait_die.specs.declared.deciding.Holder.{Holder}
use Rattle.world.specs.declared.flight.Act.{Act as AnyAct}
use Rattle.world.specs.declared.flight.Carried.{Carried}
use Rattle.world.specs.declared.flight.Item.{Item}
use Rattle.world.specs.declared.flight.Item.TheVariants as item
use Rattle.world.specs.declared.flight.Message.{Message}
use Rattle.world.specs.declared.flight.Message.TheVariants.{Start, Act, Settle, Undo}
use Rattle.world.specs.declared.world.Core.{Core}
use Rattle.world.specs.declared.world.Parts.{Parts}
use Rattle.world.specs.Flights.{join, nothing, part_message}
use Rattle.world.specs.Parted.{joined_in}
use Rattle.world.specs.Sound.{IsSoundMessage, IsSoundWith, flight}
use Rattle.world.specs.Shards.{slices_in}
use Rattle.world.specs.Events.{AtShard, TakesMessage, TurnsFollow, carried_by, holder_of, put_for, report_of}
use Rattle.world.specs.Following.{acts_of}
use Rattle.world.specs.Together.{IsSound, together}
use Rattle.world.specs.Envelopes.{items_in, envelope, outgoing_by}
use Rattle.world.specs.Worlds.{DieOfOlder, Fits, HasNotDied, RecordsNoDeath, DiedOfOlder, RecordsWhom}
use Rattle.world.specs.Happening.{Happens, TakesFirst, WorksOn}
use Rattle.world.specs.Queues.{queue_of}
use Rattle.world.specs.declared.flight.Envelope.{Envelope}
use Rattle.world.specs.declared.flight.Outgoing.{Outgoing}
use Rattle.world.specs.declared.flight.Load.TheVariants as load
use Rattle.world.proofs.Alone.{pushes_record_none}
use Rattle.world.proofs.Puttings.{IsPush, PutsPushes, among_all, opens_put, pushes_all, put_stands}
use Rattle.world.proofs.Executing.{beside, message_hand, outgoing_items}
use Rattle.world.proofs.Posting.{is_own}
use Rattle.world.proofs.Shuffles.{has_queue}
use Rattle.transactions.proofs.OnGroups.{dies_on}
use Rattle.world.proofs.Older.{reports_of_older}
use Rattle.world.proofs.Parted.{ran_at_home}
use Rattle.world.proofs.ShardView.{holds, keeps_on}
use Rattle.world.proofs.Taking.{asks_on, gives_on, seen, turn_on}
use Rattle.world.proofs.Works.{settles, undoes}

-- what some claims hold, they hold with more
more_held : (w_id : ℕ) (more claims : List ClaimView) (x : HeldClaim) → Contains (held_at w_id claims) x → Contains (held_at w_id (more ++ claims)) x
more_held w_id [] claims x is = is
more_held w_id (c ∷ more) claims x is = either (at_home w_id c.group) (more_held w_id more claims x is)
  where
    rest : List ClaimView
    rest = filter (λ (claim : ClaimView). at_home w_id claim.group) (more ++ claims)

    either : (b : Bool) → Contains (map held_by rest) x → Contains (map held_by (cond b (c ∷ rest) rest)) x
    either true there = contains_there (held_by c) (map held_by rest) x there
    either false there = there

-- ---- a claim that is out

-- a holder of this age has a claim on the group
abbrev IsHeldBy : JoinedSlices → Group → ℕ → Type 0
IsHeldBy slices group holder = (w_id : ℕ) × ((x : HeldClaim) × (Contains (slices.holdings w_id) x × ((x.group ≡ group) × (x.by.age ≡ holder))))

-- no claim comes back
abbrev StaysHeld : JoinedSlices → JoinedSlices → Type 0
StaysHeld old new = (w_id : ℕ) (x : HeldClaim) → Contains (old.holdings w_id) x → Contains (new.holdings w_id) x

-- what is kept, with claims more
kept_stays : (old new : JoinedSlices) (more claims : List ClaimView) → SlicesKeep [] old more new → AreAllHeld old.holdings claims → StaysHeld old new
kept_stays old new more claims kept held w_id x is =
    Contains-permutation (held_at w_id (more ++ claims)) (new.holdings w_id) x (IsPermutation-sym (new.holdings w_id) (held_at w_id (more ++ claims)) (kept.holdings claims held w_id))
    (more_held w_id more claims x (Contains-permutation (old.holdings w_id) (held_at w_id claims) x (held w_id) is))

module _ {J : Type 0} where
  -- the action, if it has died, died of a holder of a claim on the group
  abbrev DiedOfHolder : JoinedSlices → Ran J → Type 0
  DiedOfHolder slices (ran.Done claims found) = Unit {0}
  DiedOfHolder slices (ran.Died group holder) = IsHeldBy slices group holder
  DiedOfHolder slices ran.NoMemory = Unit {0}

  -- the item, if it is the report of a death, names a holder of a claim on the group that it names
  abbrev RecordsOfHolder : JoinedSlices → Item J → Type 0
  RecordsOfHolder slices (item.Push m) = Unit {0}
  RecordsOfHolder slices (item.Report r) = DiedOfHolder slices r.ran
  RecordsOfHolder slices (item.Ended slot) = Unit {0}
  RecordsOfHolder slices (item.Commit commit) = Unit {0}
  RecordsOfHolder slices (item.Reply recorded) = Unit {0}

  died_then : (old new : JoinedSlices) → StaysHeld old new → (one : Ran J) → DiedOfHolder old one → DiedOfHolder new one
  died_then old new stays (ran.Done claims found) h = tt
  died_then old new stays (ran.Died group holder) h = (h.0, (h.1.0, (stays h.0 h.1.0 h.1.1.0, h.1.1.1)))
  died_then old new stays ran.NoMemory h = tt

  records_then : (old new : JoinedSlices) → StaysHeld old new → (i : Item J) → RecordsOfHolder old i → RecordsOfHolder new i
  records_then old new stays (item.Push m) h = tt
  records_then old new stays (item.Report r) h = died_then old new stays r.ran h
  records_then old new stays (item.Ended slot) h = tt
  records_then old new stays (item.Commit commit) h = tt
  records_then old new stays (item.Reply recorded) h = tt

  none_records : (slices : JoinedSlices) (i : Item J) → RecordsNoDeath i → RecordsOfHolder slices i
  none_records slices (item.Push m) h = tt
  none_records slices (item.Report r) h = by r.ran h
    where
      by : (one : Ran J) → HasNotDied one → DiedOfHolder slices one
      by (ran.Done claims found) h = tt
      by (ran.Died group holder) h = absurd h
      by ran.NoMemory h = tt
  none_records slices (item.Ended slot) h = tt
  none_records slices (item.Commit commit) h = tt
  none_records slices (item.Reply recorded) h = tt

  one_records : (slices : JoinedSlices) (i : Item J) → RecordsOfHolder slices i → All (RecordsOfHolder slices) (i ∷ [])
  one_records slices i h = All-cons (RecordsOfHolder slices) i [] h (All-nil (RecordsOfHolder slices))

  -- an action that died at a shard died of a holder of a claim there
  died_there : (by : Holder) (was now : SliceView) (work : Work) (one : Ran J) (slices : JoinedSlices) (home : ℕ) → slices.holdings home ≡ was.holdings → IsRan by was work one now → DiedOfHolder slices one
  died_there by was now work (ran.Done claims found) slices home is of = tt
  died_there by was now work (ran.Died group holder) slices home is of =
      let on = dies_on was.holdings by.age (group_wants_of work) group holder of.0 in
      (home, (on.holding, (subst (λ (hs : List HeldClaim). Contains hs on.holding) (sym is) on.held, (on.on, on.by))))
  died_there by was now work ran.NoMemory slices home is of = tt

  -- ---- a message is worked on

  -- these items are put, and report of which transactions actions died
  abbrev PutsRecording : Parts J → Parts J → Type 0
  PutsRecording old new = (put : List (Item J)) × ((new.outbox ≡ old.outbox ++ put) × All (RecordsOfHolder (joined_in new)) put)

  module _ (once : TransactionsClaimEachGroupOnce) (shared : SharedTables) (ms : List (Message J)) (is : List (Item J)) where
    -- the rows are those of the same items
    joined_now : (home : ℕ) (items : List (Item J)) (of : ShardView (Carried J) → ShardView (Carried J) → Type 0) (old new : Parts J) → AtShard home items of old new → joined old.catalog (slices_in new) ≡ joined_in new
    joined_now home items of old new at = ap (λ (w : Parts J). joined w.catalog (slices_in new)) (sym at.rest)

    -- the actions that have their turns report, and no claim comes back
    turns_record : (home : ℕ) (turned : List (Turned J (Carried J))) (old new : Parts J) → IsSoundWith shared nothing (seen old ms is) → TurnsFollow home turned old new
        → PutsRecording old new × StaysHeld (joined_in old) (joined_in new)
    turns_record home [] old new h same =
        let joined_is : joined_in old ≡ joined_in new = (λ i. joined old.catalog (map (λ (s : ShardView (Carried J)). s.slice) (sym same.shards i))) ∙ ap (λ (w : Parts J). joined w.catalog (slices_in new)) (sym same.rest) in (
          ([], (ap (λ (w : Parts J). w.outbox) same.rest ∙ sym (append-nil old.outbox), All-nil (RecordsOfHolder (joined_in new)))),
          λ w_id x held. subst (λ (j : JoinedSlices). Contains (j.holdings w_id) x) joined_is held,
        )
    turns_record home (one ∷ more) old new h follow =
        let mid = follow.0 in
        let at = follow.1.0 in
        let i : Item J = report_of one.by.place one.carried one.ran in
        let Of : ShardView (Carried J) → ShardView (Carried J) → Type 0 = λ was now. OneTurn was one now in
        let first = turn_on once shared ms is old mid home one h at in
        let rest = turns_record home more mid new first.sound follow.1.1 in
        let turn = at.happened in
        let at_home : All (IsClaimAt home) (claims_of_ran one.ran) =
        subst (λ n. All (IsClaimAt n) (claims_of_ran one.ran)) (turn.here ∙ at.home_is)
        (ran_at_home one.by (with_waiters at.now.slice.waiters at.was.slice) at.now.slice turn.work one.ran turn.ran) in
        let both = keeps_on old mid h.slices home (i ∷ []) Of at at.now.slice.waiters [] (claims_of_ran one.ran) (All-nil (IsClaimAt home)) at_home turn.kept in
        let stays_mid : StaysHeld (joined_in old) (joined_in mid) =
        subst (λ (j : JoinedSlices). StaysHeld (joined_in old) j) (joined_now home (i ∷ []) Of old mid at)
        (kept_stays (joined_in old) (joined old.catalog (slices_in mid)) (claims_of_ran one.ran) (flight (seen old ms is)).claims both.1 h.held) in
        let stays : StaysHeld (joined_in old) (joined_in new) = λ w_id x held. rest.1 w_id x (stays_mid w_id x held) in
        let died = died_there one.by (with_waiters at.now.slice.waiters at.was.slice) at.now.slice turn.work one.ran (joined_in old) home (holds old mid h.slices home (i ∷ []) Of at) turn.ran in
        let put = rest.0.0 in (
          (
            i ∷ put,
            (
              rest.0.1.0 ∙ ap (λ (w : Parts J). w.outbox ++ put) at.rest ∙ append_assoc old.outbox (i ∷ []) put,
              All-cons (RecordsOfHolder (joined_in new)) i put (died_then (joined_in old) (joined_in new) stays one.ran died) rest.0.1.1,
            ),
          ),
          stays,
        )

    -- and so with what was put before
    and_turns_record : (home : ℕ) (turned : List (Turned J (Carried J))) (old mid new : Parts J) → IsSoundWith shared nothing (seen mid ms is) → PutsRecording old mid → TurnsFollow home turned mid new → PutsRecording old new
    and_turns_record home turned old mid new h before follow =
        let rest = turns_record home turned mid new h follow in
        let put = before.0 in
        let more = rest.0.0 in (
          put ++ more,
          (
            rest.0.1.0 ∙ ap (λ (o : List (Item J)). o ++ more) before.1.0 ∙ append_assoc old.outbox put more,
            All-append (RecordsOfHolder (joined_in new)) put more (All-weaker (RecordsOfHolder (joined_in mid)) (RecordsOfHolder (joined_in new)) (records_then (joined_in mid) (joined_in new) rest.1) put before.1.1) rest.0.1.1,
          ),
        )

    asks_record : (old new : Parts J) (act : AnyAct J) (a : Acted J (Carried J)) → IsSoundWith shared (part_message (Act act)) (seen old ms is)
        → AtShard (home_of act.work) (put_for act.place a) (λ was now. ActsAs (holder_of act) act.work (carried_by act) was a now) old new → PutsRecording old new
    asks_record old new act (acted.Ran one recorded) h at =
        let home = home_of act.work in
        let items = put_for act.place (acted.Ran one recorded) in
        let Of : ShardView (Carried J) → ShardView (Carried J) → Type 0 = λ was now. ActsAs (holder_of act) act.work (carried_by act) was (acted.Ran one recorded) now in
        let of = at.happened.1 in
        let both = keeps_on old new h.slices home items Of at at.was.slice.waiters [] (claims_of_ran one) (All-nil (IsClaimAt home)) (ran_at_home (holder_of act) at.was.slice at.now.slice act.work one of) at.happened.2 in
        let stays : StaysHeld (joined_in old) (joined_in new) =
        subst (λ (j : JoinedSlices). StaysHeld (joined_in old) j) (joined_now home items Of old new at)
        (kept_stays (joined_in old) (joined old.catalog (slices_in new)) (claims_of_ran one) (join (part_message (Act act)) (flight (seen old ms is))).claims both.1 h.held) in
        let died = died_there (holder_of act) at.was.slice at.now.slice act.work one (joined_in old) home (holds old new h.slices home items Of at) of in
        (items, (ap (λ (w : Parts J). w.outbox) at.rest, one_records (joined_in new) (report_of act.place recorded one) (died_then (joined_in old) (joined_in new) stays one died)))
    asks_record old new act acted.Waits h at = ([], (ap (λ (w : Parts J). w.outbox) at.rest, All-nil (RecordsOfHolder (joined_in new))))

    takes_record : (message : Message J) (old new : Parts J) → (h : IsSoundWith shared (part_message message) (seen old ms is)) → IsSoundMessage shared h.in_flight message → TakesMessage message old new → PutsRecording old new
    takes_record (Start flow works) old new h fine takes = (
      acts_of flow works.items,
      (
        ap (λ (w : Parts J). w.outbox) takes,
        All-weaker RecordsNoDeath (RecordsOfHolder (joined_in new)) (none_records (joined_in new)) (acts_of flow works.items) (pushes_record_none _ _ _ _ works.items),
      ),
    )
    takes_record (Act act) old new h fine takes =
        let mid = takes.0 in
        let first = asks_on once shared ms is old mid act takes.1.0.0 h fine takes.1.0.1 in
        and_turns_record (home_of act.work) takes.1.1.turned old mid new first.sound (asks_record old mid act takes.1.0.0 h takes.1.0.1) takes.1.1.follow
    takes_record (Settle slot claims) old new h fine takes =
        let mid = takes.0 in
        let first = gives_on once shared ms is old mid (Settle slot claims) slot claims fine.0.1 (λ was now kept. settles shared slot claims was now kept) h fine takes.1.0 in
        and_turns_record (home_of_claims claims) takes.1.1.turned old mid new first.sound (item.Ended slot ∷ [], (ap (λ (w : Parts J). w.outbox) takes.1.0.rest, one_records (joined_in mid) (item.Ended slot) tt)) takes.1.1.follow
    takes_record (Undo slot claims) old new h fine takes =
        let mid = takes.0 in
        let first = gives_on once shared ms is old mid (Undo slot claims) slot claims fine.0.1 (λ was now kept. undoes shared slot claims was now kept) h fine takes.1.0 in
        and_turns_record (home_of_claims claims) takes.1.1.turned old mid new first.sound (item.Ended slot ∷ [], (ap (λ (w : Parts J). w.outbox) takes.1.0.rest, one_records (joined_in mid) (item.Ended slot) tt)) takes.1.1.follow

  -- ---- the event

  -- what is reported in a world that a history fits
  module _ (opening : Database) (history : List Step) (shared : SharedTables) (w : Parts J) (f : Fits opening history w) (h : IsSoundWith shared nothing w) where
    recorded_at : (i : Item J) → Contains w.outbox i → RecordsOfHolder (joined_in w) i → RecordsWhom history w h.in_flight i
    recorded_at (item.Push m) there of = tt
    recorded_at (item.Report r) there of = by r.ran refl of
      where
        by : (one : Ran J) → r.ran ≡ one → DiedOfHolder (joined_in w) one → DiedOfOlder history w h.in_flight r.slot one
        by (ran.Done claims found) is of = tt
        by (ran.Died group holder) is of = reports_of_older shared w h opening history f r there group holder is of.0 of.1.0 of.1.1.0 of.1.1.1.0 of.1.1.1.1
        by ran.NoMemory is of = tt
    recorded_at (item.Ended slot) there of = tt
    recorded_at (item.Commit commit) there of = tt
    recorded_at (item.Reply recorded) there of = tt

  pub die_of_older : TransactionsClaimEachGroupOnce → (shared : SharedTables) (event : Event) (old new : Core J) (answer : EventAnswer) → IsSound shared old → IsSound shared new → Happens event old answer new
      → (opening : Database) (history : List Step) → Fits opening history (together new) → DieOfOlder history event old new
  die_of_older once shared (Submit session number asked) old new answer h next said opening history f = tt
  die_of_older once shared (Order order) old new answer h next said opening history f = tt
  die_of_older once shared (Send executor) old new answer h next said opening history f = tt
  die_of_older once shared (Take executor) old new answer h next said opening history f = (
    subst (λ (s : SharedTables). IsSoundWith s nothing (together new)) (sym next.all.shared_is) next.all,
    λ sound posts put. by new.parts.catalog sound posts put (queue_of executor old.inboxes) refl said,
  )
    where
      outbox : List (Outgoing J)
      outbox = queue_of executor old.outboxes

      by : (known : SharedTables) (sound : IsSoundWith known nothing (together new)) (posts : List (Outgoing J)) → queue_of executor new.outboxes ≡ outbox ++ posts → (envelopes : List (Envelope J)) → queue_of executor old.inboxes ≡ envelopes
          → TakesFirst executor envelopes old answer new → All (RecordsWhom history (together new) sound.in_flight) (items_in posts)
      by known sound posts put [] is said =
          let stays : queue_of executor new.outboxes ≡ outbox = ap (λ (w : Core J). queue_of executor w.outboxes) said.1 in
          let none : posts ≡ [] = append_cancel_left outbox posts [] (sym put ∙ stays ∙ sym (append-nil outbox)) in
          subst (λ (l : List (Outgoing J)). All (RecordsWhom history (together new) sound.in_flight) (items_in l)) (sym none) (All-nil (RecordsWhom history (together new) sound.in_flight))
      by known sound posts put (l ∷ rest) is said = ⊎_elim works pushes (opens_put executor l.load left new from_there said.1)
        where
          left : Core J
          left = record old { inboxes = slice_set old.inboxes executor rest }

          Records : Item J → Type 0
          Records i = RecordsWhom history (together new) sound.in_flight i

          some : 1 ≤ length (queue_of executor old.inboxes)
          some = omega (arith, ap (λ (envelopes : List (Envelope J)). length envelopes) is)

          to_there : executor < length old.inboxes
          to_there = has_queue old.inboxes executor some

          from_there : executor < length old.outboxes
          from_there = omega (arith, to_there, h.inboxes, h.outboxes)

          own : l.to ≡ executor
          own = is_own shared old h executor l rest is

          pushes : PutsPushes executor left new → All Records (items_in posts)
          pushes p =
              let same : p.posts ≡ posts = sym (append_cancel_left outbox posts p.posts (sym put ∙ p.stands)) in
              pushes_all Records (λ m. tt) (items_in posts) (subst (λ (ps : List (Outgoing J)). All IsPush (items_in ps)) same p.pushes)

          works : (m : Message J) × ((l.load ≡ load.Work m) × WorksOn executor m left new) → All Records (items_in posts)
          works one =
              let m = one.0 in
              let first : queue_of executor old.inboxes ≡ envelope executor (load.Work m) ∷ rest = is ∙ (λ k. envelope (own k) (one.1.0 k) ∷ rest) in
              let parts = one.1.1.0 in
              let new_is = one.1.1.1.1 in
              let hand = message_hand shared old h executor rest m first in
              let puts = takes_record once shared (beside shared old h executor rest m first) (together left).outbox m old.parts parts hand.0 hand.1 one.1.1.1.0 in
              let outbox_is : parts.outbox ≡ puts.0 = puts.1.0 ∙ ap (λ (is : List (Item J)). is ++ puts.0) h.no_outbox in
              let brought = map (outgoing_by old.placements) parts.outbox in
              let stands : queue_of executor new.outboxes ≡ outbox ++ brought = ap (λ (w : Core J). queue_of executor w.outboxes) new_is ∙ put_stands executor brought (record left { parts = record parts { outbox = [] } }) from_there in
              let same : posts ≡ brought = append_cancel_left outbox posts brought (sym put ∙ stands) in
              let items : items_in posts ≡ puts.0 = ap (λ (ps : List (Outgoing J)). items_in ps) same ∙ outgoing_items old.placements parts.outbox ∙ outbox_is in
              let joined_is : joined_in parts ≡ joined_in (together new) = ap (λ (w : Core J). joined_in (together w)) (sym new_is) in
              let all : All (RecordsOfHolder (joined_in (together new))) (items_in posts) =
              subst (λ (l : List (Item J)). All (RecordsOfHolder (joined_in (together new))) l) (sym items) (subst (λ (j : JoinedSlices). All (RecordsOfHolder j) puts.0) joined_is puts.1.1) in
              let there_now : executor < length new.outboxes = omega (arith, from_there, ap (λ (w : Core J). length w.outboxes) new_is, length-set old.outboxes executor (outbox ++ brought)) in
              All-weaker (Contains (items_in posts)) Records
              (λ i there. recorded_at opening history known (together new) f sound i (among_all new executor outbox posts there_now put i there) (All-contains (RecordsOfHolder (joined_in (together new))) (items_in posts) i all there))
              (items_in posts) (All-contains_itself (items_in posts))
