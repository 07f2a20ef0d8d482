-- Which events are answered Nothing.
use Rattle.std.proofs.Common.{◌≡◌, ◌↔◌, inl, inr, ℕ, ◌-◌, zero, suc, Bool, true, false, List, [], ◌∷◌, Option, Some, None, refl, sym, ◌∙◌, subst, ⊎_elim}
use Rattle.std.specs.Prelude.{slice_set}
use Rattle.std.specs.List.{slice_get}
use Rattle.requests.specs.declared.request.Request.{Request}
use Rattle.requests.specs.declared.refusal.Refusal.{Refusal}
use Rattle.history.specs.declared.event.Event.{Event}
use Rattle.history.specs.declared.event.Event.TheVariants.{Submit, Order, Take, Send}
use Rattle.history.specs.declared.event.EventAnswer.{EventAnswer}
use Rattle.history.specs.declared.event.EventAnswer.TheVariants.{Nothing}
use Rattle.world.specs.declared.desk.SessionDesk.{SessionDesk}
use Rattle.world.specs.declared.flight.Envelope.{Envelope}
use Rattle.world.specs.declared.flight.Outgoing.{Outgoing}
use Rattle.world.specs.declared.flight.Outgoing.TheVariants as outgoing
use Rattle.world.specs.declared.world.Parts.{Parts}
use Rattle.world.specs.declared.world.Core.{Core}
use Rattle.world.specs.Happening.{CanOrder, CannotSubmit, Delivers, Happens, Orders, SendsFirst, SendsOutgoing, SubmitsAt, SubmitsInto, SubmitsUnless, TakesFirst, answer_arrived, begins_at, can_admit, has_room, refusal_at, submission}
use Rattle.world.specs.Queues.{queue_of}
use Rattle.range_moves.specs.declared.order.MoveOrder.{MoveOrder}
use Rattle.world.specs.Worlds.{CannotHappen}
use Rattle.world.proofs.Quiet.{sends_something}
use Rattle.world.proofs.Tokens.{IsFalse}

not_both : (b : Bool) → b ≡ true → b ≡ false → ⊥
not_both b is other = subst (λ c. IsFalse c) (sym other ∙ is) tt

arrived_something : (more : ℕ) → answer_arrived more ≡ Nothing → ⊥
arrived_something zero is = absurd (cc)
arrived_something (suc more) is = absurd (cc)

module _ {J : Type 0} where
  into_nothing : (room can : Bool) (session number : ℕ) (asked : Request) (desk : SessionDesk J) (old new : Parts J) (answer : EventAnswer) → SubmitsInto can (submission room session number asked) desk old answer new
      → (answer ≡ Nothing → can ≡ false) × (can ≡ false → answer ≡ Nothing)
  into_nothing room false session number asked desk old new answer said = (λ is. refl, λ is. said.0)
  into_nothing room true session number asked desk old new answer said = (
    λ is. absurd (⊎_elim (λ refused. let e = refused.0 in cc) (λ admitted. let e = admitted.0 in cc) said),
    λ is. absurd (not_both true refl is),
  )

  unless_nothing : (room : Bool) (why : Option Refusal) (session number : ℕ) (asked : Request) (desk : SessionDesk J) (old new : Parts J) (answer : EventAnswer) → SubmitsUnless why (submission room session number asked) desk old answer new
      → (answer ≡ Nothing → (why ≡ None) × (can_admit room old ≡ false)) × ((why ≡ None) × (can_admit room old ≡ false) → answer ≡ Nothing)
  unless_nothing room (Some why) session number asked desk old new answer said =
      (λ is. let e = said.0 in absurd (cc), λ h. let e = h.0 in absurd (cc))
  unless_nothing room None session number asked desk old new answer said =
      let can = into_nothing room (can_admit room old) session number asked desk old new answer said in
      (λ is. (refl, can.0 is), λ h. can.1 h.1)

  submit_nothing : (room : Bool) (found : Option (SessionDesk J)) (session number : ℕ) (asked : Request) (old new : Parts J) (answer : EventAnswer) → SubmitsAt (submission room session number asked) found old answer new
      → (answer ≡ Nothing) ↔ CannotSubmit room found asked old
  submit_nothing room None session number asked old new answer said = (λ is. tt, λ h. said.0)
  submit_nothing room (Some desk) session number asked old new answer said = unless_nothing room (refusal_at desk asked old) session number asked desk old new answer said

  take_nothing : (executor : ℕ) (envelopes : List (Envelope J)) (old new : Core J) (answer : EventAnswer) → TakesFirst executor envelopes old answer new → (answer ≡ Nothing) ↔ (envelopes ≡ [])
  take_nothing executor [] old new answer said = (λ is. refl, λ is. said.0)
  take_nothing executor (l ∷ rest) old new answer said = (λ is. let e = said.0 in absurd (cc), λ is. absurd (cc))

  delivers_something : (room : Bool) (executor : ℕ) (l : Envelope J) (old new : Core J) (answer : EventAnswer) → Delivers room executor l old answer new → answer ≡ Nothing → ⊥
  delivers_something true executor l old new answer said is = let e = said.0 in absurd (cc)
  delivers_something false executor l old new answer said is = let e = said.0 in absurd (cc)

  pub outgoing_something : (executor : ℕ) (p : Outgoing J) (old new : Core J) (answer : EventAnswer) → SendsOutgoing executor p old answer new → answer ≡ Nothing → ⊥
  outgoing_something executor (outgoing.Envelope l) old new answer said is = delivers_something (has_room l.to old) executor l old new answer said is
  outgoing_something executor (outgoing.Item i) old new answer said is = sends_something old.log_limit i _ said.0 answer said.1.0 is
  outgoing_something executor outgoing.Arrived old new answer said is = arrived_something (old.placements.awaited - 1) (sym said.0 ∙ is)

  send_nothing : (executor : ℕ) (posts : List (Outgoing J)) (old new : Core J) (answer : EventAnswer) → SendsFirst executor posts old answer new → (answer ≡ Nothing) ↔ (posts ≡ [])
  send_nothing executor [] old new answer said = (λ is. refl, λ is. said.0)
  send_nothing executor (p ∷ rest) old new answer said = (λ is. absurd (outgoing_something executor p (record old { outboxes = slice_set old.outboxes executor rest }) new answer said is), λ is. absurd (cc))

  order_nothing : (order : MoveOrder) (old new : Core J) (answer : EventAnswer) → Orders order old answer new → (answer ≡ Nothing) ↔ (¬ CanOrder order old)
  order_nothing order old new answer (inl said) = (λ is. let e = said.1.0 in absurd (cc), λ cannot. absurd (cannot said.0))
  order_nothing order old new answer (inr said) = (λ is. said.0, λ cannot. said.1.0)

  pub nothing_exactly : (event : Event) (old new : Core J) (answer : EventAnswer) → Happens event old answer new → (answer ≡ Nothing) ↔ CannotHappen event old
  nothing_exactly (Submit session number asked) old new answer said =
      submit_nothing (has_room (begins_at asked old) old) (slice_get old.parts.desk.sessions.items session) session number asked old.parts said.0 answer said.1.0
  nothing_exactly (Order order) old new answer said = order_nothing order old new answer said
  nothing_exactly (Take executor) old new answer said = take_nothing executor (queue_of executor old.inboxes) old new answer said
  nothing_exactly (Send executor) old new answer said = send_nothing executor (queue_of executor old.outboxes) old new answer said
