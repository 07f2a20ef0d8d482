-- What one event may change: of queues, and of what an event works with.
use Rattle.std.proofs.Common.{◌≡◌, ◌≢◌, inl, inr, ℕ, ◌-◌, ◌<◌, ◌≤◌, Bool, true, false, cond, List, [], ◌∷◌, ◌++◌, length, Option, Some, None, refl, sym, ◌∙◌, ap, subst, ⊎_elim, append-nil, arith}
use Rattle.std.specs.Prelude.{slice_index_or, slice_set}
use Rattle.std.specs.List.{slice_get}
use Rattle.std.proofs.lemmas.List.{get_or-map, get_or-set_other, get_or-set_same, length-map, length-set}
use Rattle.std.proofs.lemmas.List.Elements.{filter-append}
use Rattle.std.proofs.lemmas.Map.Views.{exact_unsigned_eq}
use Rattle.std.proofs.lemmas.Option.{get_or_from_slice_get, slice_get_within}
use Rattle.partitions.specs.Parts.{IsPartAt}
use Rattle.requests.specs.declared.refusal.Refusal.{Refusal}
use Rattle.history.specs.declared.event.EventAnswer.{EventAnswer}
use Rattle.range_moves.proofs.Sendings.{is_other}
use Rattle.slices.specs.SliceView.{AreSlicesOf, SliceView, part_in}
use Rattle.transactions.specs.declared.progress.Gathered.{Gathered}
use Rattle.transactions.specs.declared.progress.Gathered.TheVariants.{Next, Finish}
use Rattle.transactions.specs.declared.shard.Turned.{Turned}
use Rattle.transactions.specs.Logged.{Logs, log_and_claims}
use Rattle.transactions.specs.Shards.{ShardView}
use Rattle.world.specs.declared.desk.Active.{Active}
use Rattle.world.specs.declared.flight.Carried.{Carried}
use Rattle.world.specs.declared.flight.Commit.{Commit}
use Rattle.world.specs.declared.flight.Flow.{Flow}
use Rattle.world.specs.declared.flight.Item.{Item}
use Rattle.world.specs.declared.flight.Item.TheVariants as item
use Rattle.world.specs.declared.flight.Message.{Message}
use Rattle.world.specs.declared.flight.Message.TheVariants.{Start, Act, Settle, Undo}
use Rattle.world.specs.declared.flight.Report.{Report}
use Rattle.world.specs.declared.flight.Transaction.{Transaction}
use Rattle.world.specs.declared.world.Parts.{Parts}
use Rattle.world.specs.Changes.{HasMore, HasTurned, MayLog, OthersStay}
use Rattle.world.specs.Events.{AllTurns, AtShard, Commits, MeetsAs, MeetsUnless, ReportsInto, SendsItem, TakesMessage, TurnsFollow, goes_on}
use Rattle.world.specs.Following.{entry_of, putting, refusal_of, with_active}
use Rattle.world.specs.Envelopes.{IsNoPush, home_of_message, is_at_home, parked_else, parked_for}
use Rattle.world.specs.Queues.{put_into, queue_of}
use Rattle.world.specs.Shards.{slice_of, slices_in}
use Rattle.world.proofs.Sessions.{get_other}
use Rattle.world.proofs.Sorting.{carried_both}

-- ---- queues

module _ {X : Type 0} (executor : ℕ) where
  pub all_stay : (queues : List (List X)) → OthersStay executor queues queues
  all_stay queues = record { many = refl; others = λ other is. refl }

  pub others_set : (queues : List (List X)) (queue : List X) → OthersStay executor queues (slice_set queues executor queue)
  others_set queues queue = record { many = length-set queues executor queue; others = λ other is. get_or-set_other queues executor other queue [] is }

  others_then : (old mid new : List (List X)) → OthersStay executor old mid → OthersStay executor mid new → OthersStay executor old new
  others_then old mid new first next = record { many = next.many ∙ first.many; others = λ other is. next.others other is ∙ first.others other is }

  pub none_more : (queues : List (List X)) → HasMore executor [] queues queues
  none_more queues = record { here = sym (append-nil (queue_of executor queues)); rest = all_stay queues }

  pub more_put : (queues : List (List X)) (more : List X) → executor < length queues → HasMore executor more queues (put_into executor more queues)
  more_put queues more there = record {
    here = get_or-set_same queues executor (queue_of executor queues ++ more) [] there;
    rest = others_set queues (queue_of executor queues ++ more);
  }

  module _ (queues : List (List X)) (x : X) (rest : List X) (first : queue_of executor queues ≡ x ∷ rest) (there : executor < length queues) where
    pub left_there : queue_of executor (slice_set queues executor rest) ≡ rest
    left_there = get_or-set_same queues executor rest [] there

    pub turned_none : HasTurned executor x [] queues (slice_set queues executor rest)
    turned_none = record { left = rest; was = first; now = left_there ∙ sym (append-nil rest); rest = others_set queues rest }

    pub turned_more : (more : List X) → HasTurned executor x more queues (put_into executor more (slice_set queues executor rest))
    turned_more more =
        let mid = slice_set queues executor rest in
        let put = more_put mid more (omega (arith, there, length-set queues executor rest)) in
        record {
          left = rest;
          was = first;
          now = put.here ∙ ap (λ (q : List X). q ++ more) left_there;
          rest = others_then queues mid (put_into executor more mid) (others_set queues rest) put.rest;
        }

module _ {J : Type 0} where
  -- ---- an item is sent

  -- nothing but the outbox and the desk changes; or the log too
  abbrev pub ChangesDesk : Parts J → Parts J → Type 0
  ChangesDesk old new = new ≡ record old { outbox = new.outbox; desk = new.desk }

  abbrev pub ChangesLog : Parts J → Parts J → Type 0
  ChangesLog old new = new ≡ record old { outbox = new.outbox; desk = new.desk; log = new.log }

  puts_desk : (put : List (Item J)) (slot : ℕ) (active : Option (Active J)) (old new : Parts J) → new ≡ putting put slot active old → ChangesDesk old new
  puts_desk put slot active old new said = subst (λ (w : Parts J). ChangesDesk old w) (sym said) refl

  goes_desk : (t : Transaction J) (g : Gathered) (old new : Parts J) → new ≡ goes_on t g old → ChangesDesk old new
  goes_desk t (Next progress) old new said = puts_desk _ _ _ old new said
  goes_desk t (Finish shown) old new said = puts_desk _ _ _ old new said

  unless_desk : (why : Option Refusal) (reports : List (Report J)) (flow : Flow J) (old new : Parts J) → MeetsUnless why reports flow old new → ChangesDesk old new
  unless_desk (Some why) reports flow old new said = puts_desk _ _ _ old new said
  unless_desk None reports flow old new said = ⊎_elim (λ no_memory. puts_desk _ _ _ old new no_memory) (λ gathered. goes_desk _ gathered.0 old new gathered.1.1) said

  meets_desk : (reports : List (Report J)) (old new : Parts J) → MeetsAs reports old new → ChangesDesk old new
  meets_desk reports old new said =
      let P : Flow J → Type 0 = λ flow. MeetsUnless (refusal_of None reports) reports flow old new in
      carried_both reports P P (ChangesDesk old new) (λ flow one same. unless_desk (refusal_of None reports) reports flow old new one) said said

  active_desk : (slot : ℕ) (active : Option (Active J)) (old new : Parts J) → new ≡ with_active slot active old → ChangesDesk old new
  active_desk slot active old new said = subst (λ (w : Parts J). ChangesDesk old w) (sym said) refl

  into_desk : (slot first : ℕ) (slots : List (Option (Report J))) (old new : Parts J) → ReportsInto slot first slots old new → ChangesDesk old new
  into_desk slot first slots old new (inl kept) = active_desk slot _ old new kept.1
  into_desk slot first slots old new (inr met) = meets_desk met.0 old new met.1.1

  -- what an item changes
  pub record ItemChanges (i : Item J) (old new : Parts J) : Type 0 where
    pub log : MayLog i old.log new.log
    pub rest : ChangesLog old new

  may_stay : (i : Item J) (old new : Parts J) → new.log ≡ old.log → MayLog i old.log new.log
  may_stay (item.Push m) old new same = same
  may_stay (item.Report r) old new same = same
  may_stay (item.Ended slot) old new same = same
  may_stay (item.Commit commit) old new same = inl same
  may_stay (item.Reply recorded) old new same = same

  desk_alone : (i : Item J) (old new : Parts J) → ChangesDesk old new → ItemChanges i old new
  desk_alone i old new said = record {
    log = may_stay i old new (ap (λ (w : Parts J). w.log) said);
    rest = λ k. record (said k) { log = new.log };
  }

  commits_log : (log_limit : ℕ) (commit : Commit J) (old new : Parts J) (answer : EventAnswer) → Commits log_limit commit old answer new → ItemChanges (item.Commit commit) old new
  commits_log log_limit commit old new answer said = record { log = by said.logs; rest = subst (λ (w : Parts J). ChangesLog old w) (sym said.over) refl }
    where
      by : Logs log_limit (entry_of commit) commit.transaction.pass (log_and_claims old.log commit.transaction.held) said.logged (log_and_claims said.log said.held) → MayLog (item.Commit commit) old.log new.log
      by (inl logs) = inr (ap (λ (w : Parts J). w.log) said.over ∙ logs.3)
      by (inr refused) = inl (ap (λ (w : Parts J). w.log) said.over ∙ refused.3)

  pub item_changes : (log_limit : ℕ) (i : Item J) (old new : Parts J) (answer : EventAnswer) → IsNoPush i → SendsItem log_limit i old answer new → ItemChanges i old new
  item_changes log_limit (item.Push m) old new answer no_push said = absurd no_push
  item_changes log_limit (item.Report r) old new answer no_push said = desk_alone (item.Report r) old new (into_desk r.slot said.1.0 _ old new said.1.1.1.1)
  item_changes log_limit (item.Ended slot) old new answer no_push said = desk_alone (item.Ended slot) old new (active_desk slot _ old new said.1.1.1)
  item_changes log_limit (item.Commit commit) old new answer no_push said = commits_log log_limit commit old new answer said
  item_changes log_limit (item.Reply recorded) old new answer no_push said =
      let same = said.1.1.1 in
      desk_alone (item.Reply recorded) old new
      (λ k. record { catalog = same.0 k; shards = same.1.0 k; inbox = same.1.1.0 k; outbox = new.outbox; desk = new.desk; log = same.1.1.1.1.0 k })

  -- ---- a message is worked on

  -- nothing but the shards and the outbox changes, and of the shards none but this warehouse's
  pub record AtOne (home : ℕ) (old new : Parts J) : Type 0 where
    pub others : (place : ℕ) → place ≢ home - 1 → slice_get new.shards.items place ≡ slice_get old.shards.items place
    pub many : length new.shards.items ≡ length old.shards.items
    pub rest : new ≡ record old { shards = new.shards; outbox = new.outbox }

  one_then : (home : ℕ) (old mid new : Parts J) → AtOne home old mid → AtOne home mid new → AtOne home old new
  one_then home old mid new first next = record {
    others = λ place is. next.others place is ∙ first.others place is;
    many = next.many ∙ first.many;
    rest = next.rest ∙ ap (λ (w : Parts J). record w { shards = new.shards; outbox = new.outbox }) first.rest;
  }

  at_shard : (home : ℕ) (items : List (Item J)) (of : ShardView (Carried J) → ShardView (Carried J) → Type 0) (old new : Parts J) → AtShard home items of old new → AtOne home old new
  at_shard home items of old new at = record {
    others = λ place is. ap (λ (ss : List (ShardView (Carried J))). slice_get ss place) at.shards ∙ get_other old.shards.items (home - 1) place at.now is;
    many = ap (λ (ss : List (ShardView (Carried J))). length ss) at.shards ∙ length-set old.shards.items (home - 1) at.now;
    rest = at.rest ∙ (λ k. record old { shards = new.shards; outbox = sym (ap (λ (w : Parts J). w.outbox) at.rest) k });
  }

  follow_one : (home : ℕ) (turned : List (Turned J (Carried J))) (old new : Parts J) → TurnsFollow home turned old new → AtOne home old new
  follow_one home [] old new same = record {
    others = λ place is. ap (λ (ss : List (ShardView (Carried J))). slice_get ss place) same.shards;
    many = ap (λ (ss : List (ShardView (Carried J))). length ss) same.shards;
    rest = same.rest ∙ (λ k. record old { shards = new.shards; outbox = sym (ap (λ (w : Parts J). w.outbox) same.rest) k });
  }
  follow_one home (one ∷ more) old new follow = one_then home old follow.0 new (at_shard home _ _ old follow.0 follow.1.0) (follow_one home more follow.0 new follow.1.1)

  then_turns : (home : ℕ) (items : List (Item J)) (of : ShardView (Carried J) → ShardView (Carried J) → Type 0) (old mid new : Parts J) → AtShard home items of old mid → AllTurns home mid new → AtOne home old new
  then_turns home items of old mid new at turns = one_then home old mid new (at_shard home items of old mid at) (follow_one home turns.turned mid new turns.follow)

  pub takes_one : (m : Message J) (old new : Parts J) → TakesMessage m old new → AtOne (home_of_message m) old new
  takes_one (Start flow works) old new said = record {
    others = λ place is. ap (λ (w : Parts J). slice_get w.shards.items place) said;
    many = ap (λ (w : Parts J). length w.shards.items) said;
    rest = subst (λ (w : Parts J). w ≡ record old { shards = w.shards; outbox = w.outbox }) (sym said) refl;
  }
  takes_one (Act act) old new said = then_turns _ _ _ old said.0 new said.1.0.1 said.1.1
  takes_one (Settle slot claims) old new said = then_turns _ _ _ old said.0 new said.1.0 said.1.1
  takes_one (Undo slot claims) old new said = then_turns _ _ _ old said.0 new said.1.0 said.1.1

  -- warehouses are counted from 1 on
  above : (home : ℕ) (items : List (Item J)) (of : ShardView (Carried J) → ShardView (Carried J) → Type 0) (old new : Parts J) → AreSlicesOf old.catalog (slices_in old) → AtShard home items of old new → 1 ≤ home
  above home items of old new are at =
      let within : home - 1 < length old.shards.items = slice_get_within old.shards.items (home - 1) at.was at.there in
      let inside : home - 1 < length (slices_in old) = omega (arith, within, length-map old.shards.items slice_of) in
      let same : slice_index_or (slices_in old) (home - 1) at.was.slice ≡ at.was.slice =
      get_or-map slice_of old.shards.items (home - 1) at.was at.was.slice within ∙ ap slice_of (get_or_from_slice_get old.shards.items (home - 1) at.was at.was at.there) in
      let part : IsPartAt old.catalog (home - 1) (part_in at.was.slice) = subst (λ (s : SliceView). IsPartAt old.catalog (home - 1) (part_in s)) same (are.each (home - 1) at.was.slice inside) in
      omega (arith, part.home, at.home_is)

  -- the shards of all other warehouses are as they were
  pub takes_others : (m : Message J) (old new : Parts J) → AreSlicesOf old.catalog (slices_in old) → TakesMessage m old new
      → (w_id : ℕ) → 1 ≤ w_id → w_id ≢ home_of_message m → slice_get new.shards.items (w_id - 1) ≡ slice_get old.shards.items (w_id - 1)
  takes_others (Start flow works) old new are said w_id one other = ap (λ (w : Parts J). slice_get w.shards.items (w_id - 1)) said
  takes_others (Act act) old new are said w_id one other =
      let some = above _ _ _ old said.0 are said.1.0.1 in
      (takes_one (Act act) old new said).others (w_id - 1) (λ same. other (omega (arith, same, one, some)))
  takes_others (Settle slot claims) old new are said w_id one other =
      let some = above _ _ _ old said.0 are said.1.0 in
      (takes_one (Settle slot claims) old new said).others (w_id - 1) (λ same. other (omega (arith, same, one, some)))
  takes_others (Undo slot claims) old new are said w_id one other =
      let some = above _ _ _ old said.0 are said.1.0 in
      (takes_one (Undo slot claims) old new said).others (w_id - 1) (λ same. other (omega (arith, same, one, some)))

  -- ---- what is parked

  -- one more, for another warehouse
  pub parked_more : (w_id : ℕ) (ms : List (Message J)) (m : Message J) → w_id ≢ home_of_message m → parked_for w_id (ms ++ m ∷ []) ≡ parked_for w_id ms
  parked_more w_id ms m other =
      filter-append (is_at_home w_id) ms (m ∷ [])
      ∙ ap (λ b. parked_for w_id ms ++ cond b (m ∷ []) []) (is_other (home_of_message m) w_id other)
      ∙ append-nil (parked_for w_id ms)

  -- those for another warehouse are gone
  pub parked_less : (w_id gone : ℕ) (ms : List (Message J)) → w_id ≢ gone → parked_for w_id (parked_else gone ms) ≡ parked_for w_id ms
  parked_less w_id gone [] other = refl
  parked_less w_id gone (m ∷ ms) other = by (is_at_home gone m) refl (parked_less w_id gone ms other)
    where
      by : (b : Bool) → is_at_home gone m ≡ b → parked_for w_id (parked_else gone ms) ≡ parked_for w_id ms
          → parked_for w_id (cond (cond b false true) (m ∷ parked_else gone ms) (parked_else gone ms)) ≡ parked_for w_id (m ∷ ms)
      by true is rest =
          let differs : w_id ≢ home_of_message m = λ same. other (same ∙ exact_unsigned_eq (home_of_message m) gone is) in
          rest ∙ sym (ap (λ b. cond b (m ∷ parked_for w_id ms) (parked_for w_id ms)) (is_other (home_of_message m) w_id differs))
      by false is rest = ap (λ (kept : List (Message J)). cond (is_at_home w_id m) (m ∷ kept) kept) rest
