-- What follows when a phase has met, and when a transaction is over.
use Rattle.std.specs.Prelude.{ℕ, ◌+◌, Bool, true, false, zero, suc, List, [], ◌∷◌, ◌++◌, Option, Some, None, Result, Err, map, length, slice_set}
use Rattle.requests.specs.declared.reply.Reply.{Reply}
use Rattle.requests.specs.declared.refusal.Refusal.{Refusal}
use Rattle.tickets.specs.Claims.{ClaimView}
use Rattle.commit_log.specs.declared.entry.Entry.{Entry}
use Rattle.commit_log.specs.PassView.{PassView}
use Rattle.transactions.specs.declared.work.Work.{Work}
use Rattle.transactions.specs.declared.work.Found.{Found}
use Rattle.transactions.specs.declared.acting.Ran.{Ran}
use Rattle.transactions.specs.SortedOut as sorted
use Rattle.world.specs.declared.desk.Active.{Active}
use Rattle.world.specs.declared.desk.Active.TheVariants.{Acting, Committing, Ending}
use Rattle.world.specs.declared.flight.Transaction.{Transaction}
use Rattle.world.specs.declared.flight.Flow.{Flow}
use Rattle.world.specs.declared.flight.Message.TheVariants.{Act, Settle, Undo}
use Rattle.world.specs.declared.flight.Report.{Report}
use Rattle.world.specs.declared.flight.Commit.{Commit}
use Rattle.world.specs.declared.flight.Item.{Item}
use Rattle.world.specs.declared.flight.Item.TheVariants as item
use Rattle.world.specs.declared.sending.Release.{Release}
use Rattle.world.specs.declared.world.Parts.{Parts}

module _ {J : Type 0} where
  -- ---- the actions of a phase

  -- The actions from this place on. The first of them carries this.
  abbrev pub acts_from : ℕ → ℕ → ℕ → Option (Flow J) → List Work → List (Item J)
  acts_from place age slot carried [] = []
  acts_from place age slot carried (work ∷ works) =
      item.Push (Act (record { place = place; age = age; slot = slot; work = work; flow = carried })) ∷ acts_from (place + 1) age slot None works

  -- All actions of a phase. Places continue after those of the earlier phases; the first action carries the transaction.
  abbrev pub acts_of : Flow J → List Work → List (Item J)
  acts_of flow works = acts_from (length flow.transaction.held) flow.transaction.age flow.transaction.slot (Some flow) works

  -- These items are appended to the outbox.
  abbrev pub with_items : List (Item J) → Parts J → Parts J
  with_items items w = record w { outbox = w.outbox ++ items }

  -- ---- what they report

  -- The outcomes.
  abbrev pub rans_of : List (Report J) → List (Ran J)
  rans_of reports = map (λ r. r.ran) reports

  -- The claims of the actions that have done their work, by place, one list for each action.
  abbrev pub held_in : List (Report J) → List (List ClaimView)
  held_in reports = sorted.held_in (rans_of reports)

  -- What the actions found, by place.
  abbrev pub found_in : List (Report J) → List Found
  found_in reports = sorted.found_in (rans_of reports)

  -- Why the transaction is refused, if it is; `why` is the reason from before these reports.
  abbrev pub refusal_of : Option Refusal → List (Report J) → Option Refusal
  refusal_of why reports = sorted.refusal_of why (rans_of reports)

  -- A transaction is carried and satisfies this.
  abbrev pub IfCarried : Option (Flow J) → (Flow J → Type 0) → Type 0
  IfCarried None P = ⊥
  IfCarried (Some flow) P = P flow

  -- The first report carries a transaction that satisfies this.
  abbrev pub CarriesFirst : List (Report J) → (Flow J → Type 0) → Type 0
  CarriesFirst [] P = ⊥
  CarriesFirst (r ∷ reports) P = IfCarried r.flow P

  -- The transaction with these claims added.
  abbrev pub holding : Transaction J → List (List ClaimView) → Transaction J
  holding t more = record t { held = t.held ++ more }

  -- The transaction with these claims added, with its progress.
  abbrev pub holding_more : Flow J → List (List ClaimView) → Flow J
  holding_more flow more = record flow { transaction = holding flow.transaction more }

  -- ---- the active transactions

  -- The world with this state of the transaction in this slot. Nothing else changes.
  abbrev pub with_active : ℕ → Option (Active J) → Parts J → Parts J
  with_active slot active w = record w { desk = record w.desk { active = slice_set w.desk.active slot active } }

  -- These items are appended to the outbox, and the transaction in this slot has this state.
  abbrev pub putting : List (Item J) → ℕ → Option (Active J) → Parts J → Parts J
  putting items slot active w = record w { outbox = w.outbox ++ items; desk = record w.desk { active = slice_set w.desk.active slot active } }

  -- A phase is in flight.
  abbrev pub IsActing : Active J → Type 0
  IsActing (Acting first meeting) = Unit {0}
  IsActing Committing = ⊥
  IsActing (Ending left) = ⊥

  -- The state of a transaction while this many actions have yet to give their claims back. With none left it is not active.
  abbrev pub ending : ℕ → Option (Active J)
  ending zero = None
  ending (suc n) = Some (Ending (suc n))

  -- The transaction was carried out with this reply and is to be logged.
  abbrev pub committing : Transaction J → Reply → Parts J → Parts J
  committing t shown w = putting (item.Commit (record { transaction = t; reply = shown; completion = tt }) ∷ []) t.slot (Some Committing) w

  -- ---- a transaction that is over

  -- What a transaction that is over gives back: its pass, its answer, which is the place of its entry or why it was refused,
  -- and the claims of its actions.
  abbrev pub release : Transaction J → PassView → Result ℕ Refusal → List (List ClaimView) → Release J
  release t pass answer held = record { age = t.age; slot = t.slot; number = t.number; pass = pass; answer = answer; held = held; completion = tt }

  -- The same for a refused transaction.
  abbrev pub refused : Transaction J → Refusal → Release J
  refused t why = release t t.pass (Err why) t.held

  -- The message that settles these claims, or undoes what was done under them.
  abbrev pub push_of : Bool → ℕ → List ClaimView → Item J
  push_of true slot claims = item.Push (Settle slot claims)
  push_of false slot claims = item.Push (Undo slot claims)

  -- The answer to its session, as an item.
  abbrev pub reply_of : Release J → Item J
  reply_of r = item.Reply (record { age = r.age; number = r.number; pass = r.pass; answer = r.answer })

  -- The answer, and then a push for each action that holds claims, by place.
  abbrev pub items_released : Bool → Release J → List (Item J)
  items_released settle r = reply_of r ∷ map (push_of settle r.slot) r.held

  -- The items of a transaction that is over are put. The number of actions that have yet to end is the number that hold claims.
  abbrev pub releasing : Bool → Release J → Parts J → Parts J
  releasing settle r w = putting (items_released settle r) r.slot (ending (length r.held)) w

  -- The entry of a commit.
  abbrev pub entry_of : Commit J → Entry
  entry_of commit = record {
    session = commit.transaction.pass.session;
    number = commit.transaction.number;
    request = commit.transaction.request;
    reply = commit.reply;
  }
