-- Only what was asked is answered.
use Rattle.std.proofs.Common.{◌≡◌, inl, inr, ℕ, ◌≤◌, ◌-◌, zero, suc, Bool, true, false, List, [], ◌∷◌, ◌++◌, Option, Some, None, length, refl, sym, ap, subst, ◌∙◌, arith}
use Rattle.std.specs.Prelude.{Contains, Result, Ok, Err, slice_set}
use Rattle.std.specs.List.{slice_get}
use Rattle.std.proofs.lemmas.List.Elements.{All-contains, Contains-append_left, Contains-append_right, Contains-get_or}
use Rattle.partitions.specs.Parts.{SharedTables}
use Rattle.requests.specs.declared.refusal.Refusal.{Refusal}
use Rattle.requests.specs.declared.request.Request.{Request}
use Rattle.groups.specs.Footprint.{footprint, groups_of}
use Rattle.history.specs.declared.event.Event.{Event}
use Rattle.history.specs.declared.event.Event.TheVariants.{Submit, Order, Take, Send}
use Rattle.history.specs.declared.event.EventAnswer.{EventAnswer}
use Rattle.history.specs.declared.event.EventAnswer.TheVariants.{Answered}
use Rattle.history.specs.History.{UnansweredTransaction}
use Rattle.history.specs.Laws.{IsAnswerTo}
use Rattle.local_locks.proofs.Members.{contains_here, contains_joined}
use Rattle.world.specs.declared.desk.SessionDesk.{SessionDesk}
use Rattle.world.specs.declared.flight.Item.{Item}
use Rattle.world.specs.declared.flight.Item.TheVariants as item
use Rattle.world.specs.declared.world.Core.{Core}
use Rattle.world.specs.declared.world.Parts.{Parts}
use Rattle.world.specs.Flights.{parts, part_item, part_message, part_met, unanswered_reply}
use Rattle.world.specs.Sound.{AnswersOlder, ActiveTransactions, IsSoundItem, flight, reported_to_all}
use Rattle.world.specs.Events.{SendsItem, recorded_of}
use Rattle.world.specs.Together.{IsSound, together}
use Rattle.world.specs.Happening.{Delivers, Happens, Orders, SendsFirst, SendsOutgoing, SubmitsAt, SubmitsInto, SubmitsUnless, TakesFirst, answer_arrived, begins_at, can_admit, has_room, refusal_at, submission}
use Rattle.world.specs.Envelopes.{items_of}
use Rattle.world.specs.Queues.{all_of, queue_of}
use Rattle.range_moves.specs.declared.order.MoveOrder.{MoveOrder}
use Rattle.world.specs.declared.flight.Envelope.{Envelope}
use Rattle.world.specs.declared.flight.Outgoing.{Outgoing}
use Rattle.world.specs.declared.flight.Outgoing.TheVariants as outgoing
use Rattle.world.specs.Worlds.{AnswersWhoAsked, IsAnsweredSo}
use Rattle.world.proofs.Replying.{is_answer_to}
use Rattle.world.proofs.Shuffles.{has_queue}
use Rattle.world.proofs.Holders.{in_parts}

-- the transaction without an answer gets this answer, and a death is of an older one, on a group of its request
pub record IsRecordedSo (session number : ℕ) (recorded : Result ℕ Refusal) (u : UnansweredTransaction) : Type 0 where
  pub answered : IsAnsweredSo session number recorded u
  pub older : AnswersOlder (groups_of (footprint u.request)) u.age recorded

-- one of these is
abbrev pub IsOneRecordedSo : ℕ → ℕ → Result ℕ Refusal → List UnansweredTransaction → Type 0
IsOneRecordedSo session number recorded pending = (u : UnansweredTransaction) × (Contains pending u × IsRecordedSo session number recorded u)

-- it is answered so
abbrev IsAnswered : ℕ → ℕ → Result ℕ Refusal → EventAnswer → Type 0
IsAnswered session number recorded answer = answer ≡ Answered session number recorded

-- it is refused at once, by its own number
abbrev IsOwnRefusal : ℕ → ℕ → Result ℕ Refusal → ℕ → ℕ → Type 0
IsOwnRefusal session number recorded asking mine = (session ≡ asking) × ((number ≡ mine) × ((why : Refusal) × (recorded ≡ Err why)))

own_refusal : (session number : ℕ) (recorded : Result ℕ Refusal) (asking mine : ℕ) (why : Refusal) (answer : EventAnswer) → answer ≡ Answered asking mine (Err why) → IsAnswered session number recorded answer → IsOwnRefusal session number recorded asking mine
own_refusal session number recorded asking mine why answer said is =
    let session_is : session ≡ asking = cc in
    let number_is : number ≡ mine = cc in
    let recorded_is : recorded ≡ Err why = cc in
    (session_is, (number_is, (why, recorded_is)))

arrived_of : (session number : ℕ) (recorded : Result ℕ Refusal) (more : ℕ) → IsAnswered session number recorded (answer_arrived more) → ⊥
arrived_of session number recorded zero is = absurd (cc)
arrived_of session number recorded (suc more) is = absurd (cc)

module _ {J : Type 0} (session number : ℕ) (recorded : Result ℕ Refusal) where
  -- ---- a submission

  submitted_into : (room can : Bool) (asking mine : ℕ) (asked : Request) (desk : SessionDesk J) (old new : Parts J) (answer : EventAnswer) → SubmitsInto can (submission room asking mine asked) desk old answer new → IsAnswered session number recorded answer → IsOwnRefusal session number recorded asking mine
  submitted_into room false asking mine asked desk old new answer said is = let e = said.0 in absurd (cc)
  submitted_into room true asking mine asked desk old new answer (inl refused) is = own_refusal session number recorded asking mine _ answer refused.0 is
  submitted_into room true asking mine asked desk old new answer (inr admitted) is = let e = admitted.0 in absurd (cc)

  submitted_unless : (room : Bool) (why : Option Refusal) (asking mine : ℕ) (asked : Request) (desk : SessionDesk J) (old new : Parts J) (answer : EventAnswer)
      → SubmitsUnless why (submission room asking mine asked) desk old answer new → IsAnswered session number recorded answer → IsOwnRefusal session number recorded asking mine
  submitted_unless room (Some why) asking mine asked desk old new answer said is = own_refusal session number recorded asking mine why answer said.0 is
  submitted_unless room None asking mine asked desk old new answer said is = submitted_into room (can_admit room old) asking mine asked desk old new answer said is

  submitted_at : (room : Bool) (found : Option (SessionDesk J)) (asking mine : ℕ) (asked : Request) (old new : Parts J) (answer : EventAnswer) → SubmitsAt (submission room asking mine asked) found old answer new
      → IsAnswered session number recorded answer → IsOwnRefusal session number recorded asking mine
  submitted_at room None asking mine asked old new answer said is = let e = said.0 in absurd (cc)
  submitted_at room (Some desk) asking mine asked old new answer said is = submitted_unless room (refusal_at desk asked old) asking mine asked desk old new answer said is

  -- ---- an item

  sent_of : (log_limit : ℕ) (shared : SharedTables) (at : ActiveTransactions) (i : Item J) (old new : Parts J) (answer : EventAnswer) → IsSoundItem shared at i → SendsItem log_limit i old answer new → IsAnswered session number recorded answer → IsOneRecordedSo session number recorded (part_item i).pending
  sent_of log_limit shared at (item.Push m) old new answer fine said is = absurd said
  sent_of log_limit shared at (item.Report r) old new answer fine said is = let e = said.0 in absurd (cc)
  sent_of log_limit shared at (item.Ended slot) old new answer fine said is = let e = said.0 in absurd (cc)
  sent_of log_limit shared at (item.Commit commit) old new answer fine said is = absurd (committed said.logged.answer (sym said.answered ∙ is))
    where
      committed : (logged : Result ℕ Refusal) → IsAnswered session number recorded (recorded_of logged) → ⊥
      committed (Ok place) is = absurd (cc)
      committed (Err why) is = absurd (cc)
  sent_of log_limit shared at (item.Reply reply) old new answer fine said is =
      let e = said.0 in
      let session_is : reply.pass.session ≡ session = cc in
      let number_is : reply.number ≡ number = cc in
      let answer_is : reply.answer ≡ recorded = cc in
      let u = unanswered_reply reply in
      let own = is_answer_to reply.age reply.pass.session reply.pass.asks.number reply.pass.asks.request reply.answer in (
        u,
        (
          contains_here u [],
          record {
            answered = record { session_is = session_is; number_is = fine.1.0 ∙ number_is; answer_is = subst (λ (a : Result ℕ Refusal). IsAnswerTo u a) answer_is own };
            older = subst (λ (a : Result ℕ Refusal). AnswersOlder (groups_of (footprint reply.pass.asks.request)) reply.age a) answer_is fine.1.1;
          },
        ),
      )

  delivered_of : (room : Bool) (executor : ℕ) (l : Envelope J) (old new : Core J) (answer : EventAnswer) → Delivers room executor l old answer new → IsAnswered session number recorded answer → ⊥
  delivered_of true executor l old new answer said is = let e = said.0 in absurd (cc)
  delivered_of false executor l old new answer said is = let e = said.0 in absurd (cc)

  sent_outgoing : (shared : SharedTables) (w : Core J) (h : IsSound shared w) (executor : ℕ) (rest : List (Outgoing J)) (p : Outgoing J) → queue_of executor w.outboxes ≡ p ∷ rest → (left new : Core J) (answer : EventAnswer)
      → left.parts ≡ w.parts → SendsOutgoing executor p left answer new → IsAnswered session number recorded answer → IsOneRecordedSo session number recorded (flight (together w)).pending
  sent_outgoing shared w h executor rest (outgoing.Envelope l) first left new answer same said is = absurd (delivered_of (has_room l.to left) executor l left new answer said is)
  sent_outgoing shared w h executor rest outgoing.Arrived first left new answer same said is = absurd (arrived_of session number recorded (left.placements.awaited - 1) (sym said.0 ∙ is))
  sent_outgoing shared w h executor rest (outgoing.Item i) first left new answer same said is =
      let all = together w in
      let some : 1 ≤ length (queue_of executor w.outboxes) = omega (arith, ap (λ (posts : List (Outgoing J)). length posts) first) in
      let queue : Contains w.outboxes (queue_of executor w.outboxes) = Contains-get_or w.outboxes executor [] (has_queue w.outboxes executor some) in
      let own : Contains (queue_of executor w.outboxes) (outgoing.Item i) = subst (λ (q : List (Outgoing J)). Contains q (outgoing.Item i)) (sym first) (contains_here (outgoing.Item i) rest) in
      let stands : Contains (all_of w.outboxes) (outgoing.Item i) = contains_joined (λ q. q) w.outboxes (queue_of executor w.outboxes) (outgoing.Item i) queue own in
      let there : Contains all.outbox i = contains_joined items_of (all_of w.outboxes) (outgoing.Item i) i stands (contains_here i []) in
      let fine = All-contains (IsSoundItem shared h.all.in_flight) all.outbox i h.all.outbox there in
      let one = sent_of left.log_limit shared h.all.in_flight i left.parts said.0 answer fine said.1.0 is in
      let in_outbox = parts part_item all.outbox in
      let in_meeting = parts part_met (reported_to_all all.desk.active) in
      let whole = Contains-append_right (parts part_message all.inbox).pending (in_outbox.pending ++ in_meeting.pending) one.0
      (Contains-append_left in_outbox.pending in_meeting.pending one.0 (in_parts part_item all.outbox i one.0 there one.1.0)) in
      (one.0, (whole, one.1.1))

  pub sent_first : (shared : SharedTables) (w new : Core J) (h : IsSound shared w) (executor : ℕ) (answer : EventAnswer) (posts : List (Outgoing J)) → queue_of executor w.outboxes ≡ posts
      → SendsFirst executor posts w answer new → IsAnswered session number recorded answer → IsOneRecordedSo session number recorded (flight (together w)).pending
  sent_first shared w new h executor answer [] is_posts said is = let e = said.0 in absurd (cc)
  sent_first shared w new h executor answer (p ∷ rest) is_posts said is =
      sent_outgoing shared w h executor rest p is_posts (record w { outboxes = slice_set w.outboxes executor rest }) new answer refl said is

  -- ---- an envelope, and an order

  pub taken_first : (executor : ℕ) (envelopes : List (Envelope J)) (old new : Core J) (answer : EventAnswer) → TakesFirst executor envelopes old answer new → answer ≡ Answered session number recorded → ⊥
  taken_first executor [] old new answer said is = let e = said.0 in absurd (cc)
  taken_first executor (l ∷ rest) old new answer said is = let e = said.0 in absurd (cc)

  pub ordered_of : (order : MoveOrder) (old new : Core J) (answer : EventAnswer) → Orders order old answer new → answer ≡ Answered session number recorded → ⊥
  ordered_of order old new answer (inl said) is = let e = said.1.0 in absurd (cc)
  ordered_of order old new answer (inr said) is = let e = said.1.0 in absurd (cc)

module _ {J : Type 0} where
  -- whatever the event
  pub answers_who_asked : (shared : SharedTables) (event : Event) (old new : Core J) (answer : EventAnswer) → IsSound shared old → Happens event old answer new → AnswersWhoAsked event old answer
  answers_who_asked shared (Submit asking mine asked) old new answer h said = λ session number recorded is.
      submitted_at session number recorded (has_room (begins_at asked old) old) (slice_get old.parts.desk.sessions.items asking) asking mine asked old.parts said.0 answer said.1.0 is
  answers_who_asked shared (Order order) old new answer h said = λ session number recorded is. absurd (ordered_of session number recorded order old new answer said is)
  answers_who_asked shared (Take executor) old new answer h said = λ session number recorded is.
      absurd (taken_first session number recorded executor (queue_of executor old.inboxes) old new answer said is)
  answers_who_asked shared (Send executor) old new answer h said = λ session number recorded is.
      let one = sent_first session number recorded shared old new h executor answer (queue_of executor old.outboxes) refl said is in
      (one.0, (one.1.0, one.1.1.answered))
