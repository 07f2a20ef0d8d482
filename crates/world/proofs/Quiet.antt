-- Where nothing is active nothing is in flight but answers, and where nothing can be taken or sent nothing is active.
use Rattle.std.proofs.Common.{◌≡◌, ℕ, suc, List, [], ◌∷◌, ◌++◌, Option, Some, None, refl, sym, ◌∙◌, ap, subst, arith}
use Rattle.std.specs.Prelude.{All, Result, Ok, Err}
use Rattle.std.specs.List.{sum_by}
use Rattle.std.proofs.lemmas.List.Elements.{All-head, All-tail}
use Rattle.std.proofs.lemmas.List.Sums.{sum_by-append}
use Rattle.partitions.specs.Parts.{SharedTables}
use Rattle.schema.specs.Database.{Database}
use Rattle.groups.specs.Content.{content}
use Rattle.tickets.specs.Claims.{ClaimView}
use Rattle.tickets.specs.Committed.{AreCommitted}
use Rattle.tickets.proofs.Committed as kept
use Rattle.groups.proofs.RowsInGroups.{contents_make_tables}
use Rattle.machine.proofs.RequestLaws.{tables_after-scale, tables_after-items}
use Rattle.commit_log.specs.Log.{requests_of}
use Rattle.history.specs.declared.event.EventAnswer.{EventAnswer}
use Rattle.history.specs.declared.event.EventAnswer.TheVariants.{Nothing}
use Rattle.history.specs.History.{Step}
use Rattle.rendezvous.specs.Awaited.{awaited_from}
use Rattle.slices.specs.SliceView.{all_standing, everywhere}
use Rattle.requests.specs.declared.refusal.Refusal.{Refusal}
use Rattle.world.specs.declared.desk.Active.{Active}
use Rattle.world.specs.declared.desk.Active.TheVariants as active
use Rattle.world.specs.declared.flight.Message.{Message}
use Rattle.world.specs.declared.flight.Item.{Item}
use Rattle.world.specs.declared.flight.Item.TheVariants as item
use Rattle.world.specs.declared.world.Parts.{Parts}
use Rattle.world.specs.Parted.{joined_in}
use Rattle.world.specs.Flights.{nothing, parts, part_message, part_item, part_met}
use Rattle.world.specs.declared.flight.Report.{Report}
use Rattle.world.specs.Slots.{count_active}
use Rattle.world.specs.Sound.{ActiveTransactions, ActiveTransaction, IsSoundWith, IsSoundActive, AreSoundActive, IsSoundItem, awaited, awaited_by_all, flight, reported_to_all}
use Rattle.world.specs.Events.{SendsItem, recorded_of}
use Rattle.world.specs.Worlds.{Fits, tables_now}
use Rattle.world.proofs.Balances.{in_inbox, in_outbox}
use Rattle.world.proofs.FreeSlots.{count-none, count-some}
use Rattle.world.proofs.Asking.{as_many_from, one_each, some_token, no_message}
use Rattle.world.proofs.Reported.{met_tokens}
use Rattle.world.proofs.Rooms.{as_many, so_many_end}

module _ {J : Type 0} where
  -- ---- while something is active, something is awaited

  none_active : (shared : SharedTables) (slot : ℕ) (u : ActiveTransaction) (a : Option (Active J)) → IsSoundActive shared slot u a → sum_by one_each (awaited slot a) ≡ 0 → a ≡ None
  none_active shared slot u None h none = refl
  none_active shared slot u (Some (active.Acting first slots)) h none = absurd (omega (arith, none, as_many slot (awaited_from first slots), as_many_from first slots, h.awaits))
  none_active shared slot u (Some active.Committing) h none = absurd (omega (arith, none))
  none_active shared slot u (Some (active.Ending left)) h none = absurd (omega (arith, none, so_many_end slot left, h.0))

  -- where nothing is awaited nothing is active
  all_idle : (shared : SharedTables) (at : ActiveTransactions) (slot : ℕ) (slots : List (Option (Active J))) → AreSoundActive shared at slot slots → sum_by one_each (awaited_by_all slot slots) ≡ 0 → count_active slots ≡ 0
  all_idle shared at slot [] h none = refl
  all_idle shared at slot (a ∷ slots) h none =
      let both = sum_by-append one_each (awaited slot a) (awaited_by_all (suc slot) slots) in
      let free : a ≡ None = none_active shared slot (at slot) a h.0 (omega (arith, none, both)) in
      let rest = all_idle shared at (suc slot) slots h.1 (omega (arith, none, both)) in
      subst (λ (o : Option (Active J)). count_active (o ∷ slots) ≡ 0) (sym free) (count-none slots ∙ rest)

  -- and where nothing is active nothing is awaited, and nothing has met
  pub idle_awaits : (slot : ℕ) (slots : List (Option (Active J))) → count_active slots ≡ 0 → awaited_by_all slot slots ≡ []
  idle_awaits slot [] idle = refl
  idle_awaits slot (None ∷ slots) idle = idle_awaits (suc slot) slots (sym (count-none slots) ∙ idle)
  idle_awaits slot (Some a ∷ slots) idle = absurd (omega (arith, idle, count-some a slots))

  pub idle_met : (slots : List (Option (Active J))) → count_active slots ≡ 0 → reported_to_all slots ≡ []
  idle_met [] idle = refl
  idle_met (None ∷ slots) idle = idle_met slots (sym (count-none slots) ∙ idle)
  idle_met (Some a ∷ slots) idle = absurd (omega (arith, idle, count-some a slots))

  -- ---- where nothing can be taken or sent

  pub quiet_rests : (shared : SharedTables) (w : Parts J) → IsSoundWith shared nothing w → w.inbox ≡ [] → w.outbox ≡ [] → (count_active w.desk.active ≡ 0) × ((flight w).claims ≡ [])
  quiet_rests shared w h inbox outbox =
      let met = reported_to_all w.desk.active in
      let tokens : (flight w).tokens ≡ [] =
      ap (λ (ms : List (Message J)). (parts part_message ms).tokens ++ ((parts part_item w.outbox).tokens ++ (parts part_met met).tokens)) inbox
      ∙ ap (λ (is : List (Item J)). (parts part_item is).tokens ++ (parts part_met met).tokens) outbox ∙ met_tokens met in
      let idle = all_idle shared h.in_flight 0 w.desk.active h.active (sym (h.balance.tokens one_each) ∙ ap (λ ts. sum_by one_each ts) tokens) in (
        idle,
        ap (λ (ms : List (Message J)). (parts part_message ms).claims ++ ((parts part_item w.outbox).claims ++ (parts part_met met).claims)) inbox
            ∙ ap (λ (is : List (Item J)). (parts part_item is).claims ++ (parts part_met met).claims) outbox
            ∙ ap (λ (rs : List (Report J)). (parts part_met rs).claims) (idle_met w.desk.active idle),
      )

  -- ---- where nothing is active

  no_claims : (shared : SharedTables) (at : ActiveTransactions) (items : List (Item J)) → All (IsSoundItem shared at) items
      → sum_by one_each (parts part_item items).tokens ≡ 0 → (parts part_item items).claims ≡ []
  no_claims shared at [] h none = refl
  no_claims shared at (item.Push message ∷ items) h none =
      absurd (omega (
        arith,
        none,
        some_token shared at message (All-head (IsSoundItem shared at) (item.Push message) items h),
        sum_by-append one_each (part_message message).tokens (parts part_item items).tokens,
      ))
  no_claims shared at (item.Report r ∷ items) h none =
      absurd (omega (arith, none, sum_by-append one_each (part_item (item.Report r)).tokens (parts part_item items).tokens))
  no_claims shared at (item.Ended slot ∷ items) h none =
      absurd (omega (arith, none, sum_by-append one_each (part_item {J = J} (item.Ended slot)).tokens (parts part_item items).tokens))
  no_claims shared at (item.Commit commit ∷ items) h none =
      absurd (omega (arith, none, sum_by-append one_each (part_item (item.Commit commit)).tokens (parts part_item items).tokens))
  no_claims shared at (item.Reply recorded ∷ items) h none =
      no_claims shared at items (All-tail (IsSoundItem shared at) (item.Reply recorded) items h) none

  idle_claims : (shared : SharedTables) (w : Parts J) → IsSoundWith shared nothing w → count_active w.desk.active ≡ 0 → (flight w).claims ≡ []
  idle_claims shared w h none =
      let met = reported_to_all w.desk.active in
      let zero_all = h.balance.tokens one_each ∙ ap (λ ts. sum_by one_each ts) (idle_awaits 0 w.desk.active none) in
      let front = sum_by-append one_each (in_inbox w).tokens ((in_outbox w).tokens ++ (parts part_met met).tokens) in
      let back = sum_by-append one_each (in_outbox w).tokens (parts part_met met).tokens in
      let inbox : w.inbox ≡ [] = no_message shared h.in_flight w.inbox h.inbox (omega (arith, zero_all, front, back)) in
      let outbox = no_claims shared h.in_flight w.outbox h.outbox (omega (arith, zero_all, front, back)) in
      ap (λ (ms : List (Message J)). (parts part_message ms).claims ++ ((parts part_item w.outbox).claims ++ (parts part_met met).claims)) inbox
      ∙ ap (λ (cs : List ClaimView). cs ++ (parts part_met met).claims) outbox
      ∙ ap (λ (rs : List (Report J)). (parts part_met rs).claims) (idle_met w.desk.active none)

  -- the rows are what the machine leaves
  pub idle_tables : (shared : SharedTables) (w : Parts J) → IsSoundWith shared nothing w → count_active w.desk.active ≡ 0 → (opening : Database) (history : List Step) → Fits opening history w
      → (joined_in w).tables ≡ tables_now opening w.log
  idle_tables shared w h none opening history f =
      let last = tables_now opening w.log in
      let committed = subst (λ cs. AreCommitted everywhere (content last) (all_standing (joined_in w)) cs) (idle_claims shared w h none) f.committed in
      let rest = (kept.rest_is_committed everywhere (content last) (all_standing (joined_in w))).1 committed in
      contents_make_tables (joined_in w).tables last (f.scale ∙ sym (tables_after-scale opening (requests_of w.log))) (f.items ∙ sym (tables_after-items opening (requests_of w.log)))
      (λ group. rest.rows group refl)

  -- ---- what is answered Nothing

  pub sends_something : (log_limit : ℕ) (i : Item J) (old new : Parts J) (answer : EventAnswer) → SendsItem log_limit i old answer new → answer ≡ Nothing → ⊥
  sends_something log_limit (item.Push message) old new answer said is = said
  sends_something log_limit (item.Report r) old new answer said is = let e = said.0 in absurd (cc)
  sends_something log_limit (item.Ended slot) old new answer said is = let e = said.0 in absurd (cc)
  sends_something log_limit (item.Commit commit) old new answer said is = recorded said.logged.answer (sym said.answered ∙ is)
    where
      recorded : (result : Result ℕ Refusal) → recorded_of result ≡ Nothing → ⊥
      recorded (Ok place) is = absurd (cc)
      recorded (Err why) is = absurd (cc)
  sends_something log_limit (item.Reply recorded) old new answer said is = let e = said.0 in absurd (cc)
