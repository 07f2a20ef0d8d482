-- The results of the actions that ask and wait at a shard.
use Rattle.std.proofs.Common.{◌≡◌, ℕ, ◌<◌, ◌≤◌, ◌+◌, arith, List, ◌∷◌, length, Option, Some, None, refl, sym, ap, subst, ◌∙◌}
use Rattle.std.specs.Prelude.{All, IfNone, IfSome, slice_index_or}
use Rattle.std.specs.List.{remove}
use Rattle.std.proofs.lemmas.List.Elements.{All-push, All-tail, All-weaker}
use Rattle.std.proofs.lemmas.List.{length_push}
use Rattle.std.proofs.lemmas.List.Edits.{length-remove}
use Rattle.std.proofs.lemmas.List.Sorted.{All-permutation, IsPermutation-remove}
use Rattle.partitions.specs.Parts.{SharedTables, shared_of}
use Rattle.tickets.specs.Claims.{ClaimView}
use Rattle.wait_die.specs.declared.deciding.Holder.{Holder}
use Rattle.slices.specs.SliceView.{SliceKeeps, SliceView, with_waiters}
use Rattle.transactions.specs.declared.acting.Ran.{Ran}
use Rattle.transactions.specs.declared.acting.Ran.TheVariants as ran
use Rattle.transactions.specs.declared.shard.Acted.{Acted}
use Rattle.transactions.specs.declared.shard.Acted.TheVariants as acted
use Rattle.transactions.specs.declared.shard.Parked.{Parked}
use Rattle.transactions.specs.declared.shard.Turned.{Turned}
use Rattle.transactions.specs.declared.work.Found.{Found}
use Rattle.transactions.specs.declared.work.Work.{Work}
use Rattle.transactions.specs.Acting.{AreUndoneBy, IsAged, IsBy, IsDoneBy, IsRan, IsRanBy}
use Rattle.transactions.specs.Laws.{WorksAreDoneAtHome}
use Rattle.transactions.specs.Shards.{ActsAs, OneTurn, RunsAs, ShardView, parked}
use Rattle.transactions.specs.Works.{HasDone, group_wants_of}
use Rattle.executor.specs.declared.act.Carried.{Carried}
use Rattle.executor.specs.Carrying.{CarriesAct, CarriesReport, ActView, report_view}
use Rattle.executor.specs.ExecutorShards.{AreAtMost, CarriesCountedShard, CarriesWaiting, carried_by, report_by, report_turned}
use Rattle.transactions.proofs.OnGroups.{dies_on}

-- where the scale and the items stay, all that is shared stays
pub shared_kept : (before after : List ClaimView) (old new : SliceView) → SliceKeeps before old after new → shared_of new.tables ≡ shared_of old.tables
shared_kept before after old new keeps = λ i. record { scale = keeps.scale i; items = keeps.items i }

module _ (at_home : WorksAreDoneAtHome) (shared : SharedTables) where
  -- the work was done under claims of the action's transaction, all of which can be taken back
  done_by : (by : Holder) (age : ℕ) (old : SliceView) (work : Work) (claims : List ClaimView) (found : Found) → by.age ≡ age → shared_of old.tables ≡ shared
      → IsDoneBy by old.holdings (shared_of old.tables) work claims found → HasDone shared work found claims × AreUndoneBy age claims
  done_by by age old work claims found aged is done =
      let here = subst (λ (s : SharedTables). HasDone s work found claims) is done.done in
      (here, ((done.undone, (at_home shared work found claims here).1), All-weaker (IsBy by) (IsAged age) (λ claim own. ap (λ (h : Holder). h.age) own ∙ aged) claims done.own))

  module _ {J : Type 0} where
    -- ---- an action asks

    ran_by : (by : Holder) (age : ℕ) (work : Work) (old new : SliceView) (one : Ran J) → by.age ≡ age → shared_of old.tables ≡ shared → IsRan by old work one new → IsRanBy shared age work one
    ran_by by age work old new (ran.Done claims found) aged is done = done_by by age old work claims found aged is done
    ran_by by age work old new (ran.Died group holder) aged is dies = (dies_on old.holdings by.age (group_wants_of work) group holder dies.0).group_wanted
    ran_by by age work old new ran.NoMemory aged is none = tt

    -- an action that does not wait
    pub ran_at_once : (by : Holder) (work : Work) (old new : ShardView (Carried J)) (came : Option (Ran J)) → shared_of old.slice.tables ≡ shared → IfSome came (λ one. RunsAs by work old one new)
        → IfSome came (IsRanBy shared by.age work)
    ran_at_once by work old new None is runs = tt
    ran_at_once by work old new (Some one) is runs = ran_by by by.age work old.slice new.slice one refl is runs.0

    -- its report
    reports : (e : ActView) (recorded : Carried J) (old new : ShardView (Carried J)) (one : Ran J) → CarriesAct shared e → shared_of old.slice.tables ≡ shared
        → ActsAs e.by e.work (carried_by e) old (acted.Ran one recorded) new → CarriesReport shared (report_by e one)
    reports e recorded old new one h is acts = record {
      ran_is = (e.work, (h.work_is, ran_by e.by e.agreed_phase.age e.work old.slice new.slice one (ap (λ (b : Holder). b.age) h.by_is) is acts.1));
      flow_is = h.flow_is;
    }

    after_act : (e : ActView) (recorded : Carried J) (old new : ShardView (Carried J)) (one : Ran J) → CarriesCountedShard shared old → ActsAs e.by e.work (carried_by e) old (acted.Ran one recorded) new → CarriesCountedShard shared new
    after_act e recorded old new one h acts = record {
      shared_is = shared_kept _ _ old.slice new.slice acts.2 ∙ h.shared_is;
      waiting = subst (λ (ps : List (Parked (Carried J))). All (CarriesWaiting shared) ps) (sym acts.3) h.waiting;
    }

    -- it waits
    after_wait : (e : ActView) (old new : ShardView (Carried J)) → CarriesAct shared e → CarriesCountedShard shared old → ActsAs {J = J} e.by e.work (carried_by e) old acted.Waits new → CarriesCountedShard shared new
    after_wait e old new carries h acts =
        subst (λ (s : ShardView (Carried J)). CarriesCountedShard shared s) (sym acts.1) (record {
          shared_is = h.shared_is;
          waiting = All-push (CarriesWaiting shared) old.parked (parked e.by e.work (carried_by e)) h.waiting carries;
        })

    -- how many wait, whatever the result
    pub counted : (e : ActView) (recorded : Carried J) (old new : ShardView (Carried J)) (one : Ran J) (waiting : ℕ) → AreAtMost waiting old.parked
        → ActsAs e.by e.work (carried_by e) old (acted.Ran one recorded) new → AreAtMost waiting new.parked
    counted e recorded old new one waiting h acts = subst (λ (ps : List (Parked (Carried J))). AreAtMost waiting ps) (sym acts.3) h

    pub counted_more : (e : ActView) (old new : ShardView (Carried J)) (waiting more : ℕ) → AreAtMost waiting old.parked → (more < 18446744073709551615 → waiting + 1 ≤ more)
        → ActsAs {J = J} e.by e.work (carried_by e) old acted.Waits new → AreAtMost more new.parked
    counted_more e old new waiting more h by acts =
        subst (λ (s : ShardView (Carried J)). AreAtMost more s.parked) (sym acts.1)
        (λ least. omega (arith, by least, h (omega (arith, least, by least)), length_push old.parked (parked e.by e.work (carried_by e))))

    -- its report, by what it has again
    pub reports_recorded : (e : ActView) (recorded : Carried J) (old new : ShardView (Carried J)) (one : Ran J) → CarriesAct shared e → CarriesCountedShard shared old
        → ActsAs e.by e.work (carried_by e) old (acted.Ran one recorded) new → CarriesReport shared (report_view one recorded.place recorded.flow)
    reports_recorded e recorded old new one h counted_shard acts =
        subst (λ (k : Carried J). CarriesReport shared (report_view one k.place k.flow)) (sym acts.0) (reports e recorded old new one h counted_shard.shared_is acts)

    -- the shard, whatever the result
    pub after_acts : (e : ActView) (old new : ShardView (Carried J)) (came : Acted J (Carried J)) → CarriesAct shared e → CarriesCountedShard shared old → ActsAs e.by e.work (carried_by e) old came new → CarriesCountedShard shared new
    after_acts e old new (acted.Ran one recorded) carries h acts = after_act e recorded old new one h acts
    after_acts e old new acted.Waits carries h acts = after_wait e old new carries h acts

    -- ---- a turn

    -- an action that has waited
    waited : (old : ShardView (Carried J)) (index : ℕ) (p : Parked (Carried J)) → CarriesCountedShard shared old → index < length old.parked → ((d : Parked (Carried J)) → slice_index_or old.parked index d ≡ p) → CarriesWaiting shared p
    waited old index p h inside there = subst (CarriesWaiting shared) (there p) (h.waiting index p inside)

    -- the others go on waiting
    rest_waits : (old : ShardView (Carried J)) (index : ℕ) (p : Parked (Carried J)) → CarriesCountedShard shared old → index < length old.parked → ((d : Parked (Carried J)) → slice_index_or old.parked index d ≡ p)
        → All (CarriesWaiting shared) (remove old.parked index)
    rest_waits old index p h inside there =
        All-tail (CarriesWaiting shared) p (remove old.parked index)
        (All-permutation (CarriesWaiting shared) old.parked (p ∷ remove old.parked index) (IsPermutation-remove old.parked index p inside (sym (there p))) h.waiting)

    -- its report
    pub turn_reports : (old new : ShardView (Carried J)) (turned : Turned J (Carried J)) → CarriesCountedShard shared old → OneTurn old turned new → CarriesReport shared (report_turned turned)
    turn_reports old new turned h turn =
        let own = waited old turn.index (parked turned.by turn.work turned.carried) h turn.inside turn.there in
        record {
          ran_is = (
            turn.work,
            (
              own.work_is,
              ran_by turned.by turned.carried.place.agreed_phase.age turn.work (with_waiters new.slice.waiters old.slice) new.slice turned.ran (ap (λ (b : Holder). b.age) own.by_is) h.shared_is turn.ran,
            ),
          );
          flow_is = own.flow_is;
        }

    after_turn : (old new : ShardView (Carried J)) (turned : Turned J (Carried J)) → CarriesCountedShard shared old → OneTurn old turned new → CarriesCountedShard shared new
    after_turn old new turned h turn = record {
      shared_is = shared_kept _ _ _ new.slice turn.kept ∙ h.shared_is;
      waiting = subst (λ (ps : List (Parked (Carried J))). All (CarriesWaiting shared) ps) (sym turn.rest) (rest_waits old turn.index (parked turned.by turn.work turned.carried) h turn.inside turn.there);
    }

    pub counted_less : (old new : ShardView (Carried J)) (turned : Turned J (Carried J)) (waiting less : ℕ) → AreAtMost waiting old.parked
        → (less < 18446744073709551615 → (waiting < 18446744073709551615) × (waiting ≤ less + 1)) → OneTurn old turned new → AreAtMost less new.parked
    counted_less old new turned waiting less h by turn =
        subst (λ (ps : List (Parked (Carried J))). AreAtMost less ps) (sym turn.rest)
        (λ least. omega (arith, (by least).1, h (by least).0, length-remove old.parked turn.index turn.inside))

    -- or no action has a turn
    pub after_turns : (old new : ShardView (Carried J)) (turned : Option (Turned J (Carried J))) → CarriesCountedShard shared old → IfSome turned (λ t. OneTurn old t new) → IfNone turned (new ≡ old) → CarriesCountedShard shared new
    after_turns old new None h turn same = subst (λ (s : ShardView (Carried J)). CarriesCountedShard shared s) (sym same) h
    after_turns old new (Some turned) h turn same = after_turn old new turned h turn
