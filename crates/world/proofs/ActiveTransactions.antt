-- What is in flight stays sound where the transactions that it is of have come as far as they had.
use Rattle.std.proofs.Common.{◌≡◌, ℕ, ◌+◌, ◌≤◌, ◌==◌, List, [], ◌∷◌, length, sym, ap, subst, cond, arith}
use Rattle.std.specs.Prelude.{All}
use Rattle.std.specs.List.{sum_by}
use Rattle.std.proofs.lemmas.List.Elements.{All-nil, All-cons, All-head, All-tail}
use Rattle.std.proofs.lemmas.List.Sums.{sum_by-cons, sum_by-append}
use Rattle.partitions.specs.Parts.{SharedTables}
use Rattle.transactions.specs.declared.work.Work.{Work}
use Rattle.transactions.proofs.Reached.{some_actions}
use Rattle.transactions.specs.Acting.{AreSettledBy, AreUndoneBy}
use Rattle.world.specs.declared.flight.Message.{Message}
use Rattle.world.specs.declared.flight.Message.TheVariants.{Start, Act, Settle, Undo}
use Rattle.world.specs.declared.flight.Item.{Item}
use Rattle.world.specs.declared.flight.Item.TheVariants as item
use Rattle.world.specs.Flights.{Acting, Committing, Ending, acting_from, parts, part_message, part_item}
use Rattle.world.specs.Sound.{ActiveTransactions, ActiveTransaction, IsSoundMessage, IsSoundItem, IsSoundStart, IsSoundAct, IsSoundCommit, IsSoundReport}
use Rattle.world.proofs.Tokens.{is_itself, is_other}
use Rattle.world.proofs.OneSlot.{weigh_slots}

-- ---- one transaction goes on

-- the transaction in this slot has come so far, and all others as before
abbrev pub transaction_on : ActiveTransactions → ℕ → ActiveTransaction → ActiveTransactions
transaction_on at slot u m = cond (slot == m) u (at m)

pub transaction_here : (at : ActiveTransactions) (slot : ℕ) (u : ActiveTransaction) → transaction_on at slot u slot ≡ u
transaction_here at slot u = ap {B = ActiveTransaction} (λ b. cond b u (at slot)) (is_itself slot)

pub transaction_elsewhere : (at : ActiveTransactions) (slot : ℕ) (u : ActiveTransaction) (m : ℕ) → (m ≡ slot → ⊥) → at m ≡ transaction_on at slot u m
transaction_elsewhere at slot u m other = sym (ap {B = ActiveTransaction} (λ b. cond b u (at m)) (is_other slot m other))

-- ---- what is in flight

-- a phase that begins has an action, which weighs as its slot does
first_weighs : (g : ℕ → ℕ) (slot place : ℕ) (works : List Work) → 1 ≤ length works → g slot ≤ sum_by (weigh_slots g) (acting_from slot place works)
first_weighs g slot place [] some = absurd (omega (arith, some))
first_weighs g slot place (work ∷ works) some = omega (arith, sum_by-cons (weigh_slots g) (Acting slot place) (acting_from slot (place + 1) works))

module _ {J : Type 0} (shared : SharedTables) (g : ℕ → ℕ) (at bt : ActiveTransactions) (same : (m : ℕ) → g m ≡ 0 → at m ≡ bt m) where
  pub message_stays : (message : Message J) → sum_by (weigh_slots g) (part_message message).tokens ≡ 0 → IsSoundMessage shared at message → IsSoundMessage shared bt message
  message_stays (Start flow works) none h =
      let slot = flow.transaction.slot in
      let some : 1 ≤ length works.items = omega (arith, ap (λ (ws : List Work). length ws) h.works_are, some_actions (at slot).progress) in
      let weightless : g slot ≡ 0 = omega (arith, none, first_weighs g slot (length flow.transaction.held) works.items some) in
      subst (λ u. IsSoundStart shared u flow works.items) (same slot weightless) h
  message_stays (Act act) none h =
      let weightless : g act.slot ≡ 0 = omega (arith, none, sum_by-cons (weigh_slots g) (Acting act.slot act.place) []) in
      subst (λ u. IsSoundAct shared u act) (same act.slot weightless) h
  message_stays (Settle slot claims) none h =
      let weightless : g slot ≡ 0 = omega (arith, none, sum_by-cons (weigh_slots g) (Ending slot) []) in
      subst (λ (u : ActiveTransaction). AreSettledBy u.age claims) (same slot weightless) h
  message_stays (Undo slot claims) none h =
      let weightless : g slot ≡ 0 = omega (arith, none, sum_by-cons (weigh_slots g) (Ending slot) []) in
      subst (λ (u : ActiveTransaction). AreUndoneBy u.age claims) (same slot weightless) h

  pub messages_stay : (messages : List (Message J)) → sum_by (weigh_slots g) (parts part_message messages).tokens ≡ 0
      → All (IsSoundMessage shared at) messages → All (IsSoundMessage shared bt) messages
  messages_stay [] none h = All-nil (IsSoundMessage shared bt)
  messages_stay (message ∷ messages) none h =
      let both = sum_by-append (weigh_slots g) (part_message message).tokens (parts part_message messages).tokens in
      All-cons (IsSoundMessage shared bt) message messages
      (message_stays message (omega (arith, none, both)) (All-head (IsSoundMessage shared at) message messages h))
      (messages_stay messages (omega (arith, none, both)) (All-tail (IsSoundMessage shared at) message messages h))

  pub item_stays : (i : Item J) → sum_by (weigh_slots g) (part_item i).tokens ≡ 0 → IsSoundItem shared at i → IsSoundItem shared bt i
  item_stays (item.Push message) none h = message_stays message none h
  item_stays (item.Report r) none h =
      let weightless : g r.slot ≡ 0 = omega (arith, none, sum_by-cons (weigh_slots g) (Acting r.slot r.place) []) in
      subst (λ u. IsSoundReport shared u r) (same r.slot weightless) h
  item_stays (item.Ended slot) none h = tt
  item_stays (item.Commit commit) none h =
      let slot = commit.transaction.slot in
      let weightless : g slot ≡ 0 = omega (arith, none, sum_by-cons (weigh_slots g) (Committing slot) []) in
      subst (λ u. IsSoundCommit shared u commit) (same slot weightless) h
  item_stays (item.Reply recorded) none h = h

  pub items_stay : (items : List (Item J)) → sum_by (weigh_slots g) (parts part_item items).tokens ≡ 0
      → All (IsSoundItem shared at) items → All (IsSoundItem shared bt) items
  items_stay [] none h = All-nil (IsSoundItem shared bt)
  items_stay (i ∷ items) none h =
      let both = sum_by-append (weigh_slots g) (part_item i).tokens (parts part_item items).tokens in
      All-cons (IsSoundItem shared bt) i items
      (item_stays i (omega (arith, none, both)) (All-head (IsSoundItem shared at) i items h))
      (items_stay items (omega (arith, none, both)) (All-tail (IsSoundItem shared at) i items h))
