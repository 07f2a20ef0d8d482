-- A report comes to where its phase meets: it is kept, or all have reported, and what follows is done.
use Rattle.std.proofs.Common.{◌≡◌, ◌⊎◌, inl, inr, ℕ, ◌+◌, ◌<◌, ◌≤◌, false, zero, suc, List, [], ◌∷◌, ◌++◌, length, Option, Some, None, refl, sym, ◌∙◌, ap, subst, arith, append-nil, ⊎_elim}
use Rattle.std.specs.Prelude.{All, map, replicate, slice_set, IfSome}
use Rattle.std.specs.List.{slice_get, sum_by}
use Rattle.std.specs.List.Sorted.{IsPermutation}
use Rattle.std.proofs.lemmas.List.{length-append, length-replicate, length-set}
use Rattle.std.proofs.lemmas.List.FromFn.{length-range_with_len}
use Rattle.std.proofs.lemmas.List.Elements.{All-nil, All-cons, All-append}
use Rattle.std.proofs.lemmas.List.Sorted.{IsPermutation-refl, IsPermutation-sym, IsPermutation-map, sum_by-IsPermutation}
use Rattle.std.proofs.lemmas.List.Sums.{sum_by-cons}
use Rattle.partitions.specs.Parts.{SharedTables, shared_of}
use Rattle.schema.specs.Database.{Database}
use Rattle.requests.specs.Check.{IsAccepted}
use Rattle.requests.specs.declared.reply.Reply.{Reply}
use Rattle.requests.specs.declared.refusal.Refusal.{Refusal}
use Rattle.requests.specs.declared.refusal.Refusal.TheVariants as refusal
use Rattle.groups.specs.Footprint.{footprint, groups_of}
use Rattle.tickets.specs.Claims.{ClaimView, all_claims}
use Rattle.commit_log.specs.Claimed.{IsCarriedOut}
use Rattle.history.specs.History.{Step}
use Rattle.transactions.specs.Works.{HaveAllDone}
use Rattle.transactions.specs.Progresses.{Follows, FollowsFrom, IsReached, works_of}
use Rattle.transactions.specs.declared.laws.TheConstants.{MOST_ACTIONS}
use Rattle.transactions.specs.declared.progress.Gathered.{Gathered}
use Rattle.transactions.specs.declared.progress.Gathered.TheVariants.{Next, Finish}
use Rattle.transactions.specs.declared.work.Work.{Work}
use Rattle.transactions.specs.declared.progress.Progress.{Progress}
use Rattle.transactions.proofs.Reached.{can_all, accepted, few_actions, some_actions, within}
use Rattle.rendezvous.specs.Awaited.{awaited_from, reported}
use Rattle.rendezvous.proofs.Awaiting.{all_awaited, report_takes_one_number, none_awaited}
use Rattle.world.specs.declared.desk.Active.{Active}
use Rattle.world.specs.declared.desk.Active.TheVariants as active
use Rattle.world.specs.declared.flight.Transaction.{Transaction}
use Rattle.world.specs.declared.flight.Flow.{Flow}
use Rattle.world.specs.declared.flight.Report.{Report}
use Rattle.world.specs.declared.flight.Item.{Item}
use Rattle.world.specs.declared.flight.Item.TheVariants as item
use Rattle.world.specs.declared.world.Parts.{Parts}
use Rattle.world.specs.Parted.{joined_in}
use Rattle.slices.specs.SliceView.{AreAllHeld}
use Rattle.world.proofs.Balances.{held_same}
use Rattle.world.specs.Flights.{Acting, InFlight, part, join, parts, acting_from, part_met, part_report, part_transaction, unanswered_transaction}
use Rattle.world.specs.Following.{acts_of, committing, found_in, held_in, holding, refusal_of, refused, releasing, with_active, IfCarried, rans_of}
use Rattle.world.specs.Sound.{ActiveTransactions, NamesOlder, ActiveTransaction, IsSoundWith, IsSoundItem, IsSoundReport, IsSoundPhase, IsSoundFlow, IsSoundStart, IsSoundCommit, IsAskedBy, WeighAlike, flight}
use Rattle.world.specs.Events.{MeetsAs, MeetsUnless, ReportsInto, goes_on}
use Rattle.world.specs.Worlds.{FitsPart}
use Rattle.world.proofs.Joins.{IsSame, same-refl, same-trans, same-join, join-assoc}
use Rattle.world.proofs.Fitting.{fits_same}
use Rattle.world.proofs.Asking.{all_acting}
use Rattle.world.proofs.ActiveTransactions.{transaction_on, transaction_here}
use Rattle.world.proofs.OneSlot.{lots, flight_apart}
use Rattle.world.proofs.Puts.{AreServed, GoesOn, Rests, joins_on, puts_fits, puts_sound, rests_of, rests_with}
use Rattle.world.proofs.Releases.{releases_fits, releases_sound}
use Rattle.world.proofs.Reporting.{served_same}
use Rattle.transactions.proofs.OnGroups.{of_footprint}
use Rattle.transactions.specs.Acting.{AreUndoneBy}
use Rattle.transactions.proofs.SortedOut.{refused_by_all}
use Rattle.world.proofs.Reported.{HaveReported, all_done, all_fair, all_undo, few_hold, is_carried, met_one_more, met_tokens, parts_all, phase_reported, put_at, reported-map}
use Rattle.world.proofs.Works.{acts_fine, part_acts}

-- nothing has been reported of a phase that begins
none_reported : {R : Type 0} (n : ℕ) → reported {R = R} (replicate n None) ≡ []
none_reported zero = refl
none_reported (suc n) = none_reported n

no_report : {R : Type 0} (n place : ℕ) (r : R) → slice_get (replicate n None) place ≡ Some (Some r) → ⊥
no_report zero place r is = absurd (cc)
no_report (suc n) zero r is = absurd (cc)
no_report (suc n) (suc place) r is = no_report n place r is

module _ {J : Type 0} where
  -- ---- what is in hand, with all that has met

  -- all reports together, once the last one has come
  all_together : (w : Parts J) (first : ℕ) (slots : List (Option (Report J))) (k : ℕ) (r : Report J) (reports : List (Report J)) → slice_get w.desk.active r.slot ≡ Some (Some (active.Acting first slots))
      → slice_get slots k ≡ Some None → map Some reports ≡ slice_set slots k (Some r)
      → IsSame (join (part_report r) (flight w)) (join (part (parts part_met reports).claims (parts part_met reports).pending (Acting r.slot r.place ∷ [])) (lots r.slot w))
  all_together w first slots k r reports there waits all =
      let token = Acting r.slot r.place in
      let met = parts part_met (reported slots) in
      let now = parts part_met reports in
      let rest = lots r.slot w in
      let is : reports ≡ reported (slice_set slots k (Some r)) = sym (reported-map reports) ∙ ap (λ (l : List (Option (Report J))). reported l) all in
      let more : IsSame now (join (part_met r) met) = subst (λ rs. IsSame (parts part_met rs) (join (part_met r) met)) (sym is) (met_one_more slots k r waits) in
      let same : IsSame (join (part_report r) met) (part now.claims now.pending (token ∷ [])) = record {
        claims = IsPermutation-sym now.claims ((part_met r).claims ++ met.claims) more.claims;
        pending = IsPermutation-sym now.pending ((part_met r).pending ++ met.pending) more.pending;
        tokens = subst (λ ts. IsPermutation (token ∷ ts) (token ∷ [])) (sym (met_tokens (reported slots))) (IsPermutation-refl (token ∷ []));
      } in
      same-trans (join (part_report r) (flight w)) (join (join (part_report r) met) rest) (join (part now.claims now.pending (token ∷ [])) rest)
      (subst (λ q. IsSame (join (part_report r) (flight w)) q) (sym (join-assoc (part_report r) met rest))
      (same-join (part_report r) (part_report r) (flight w) (join met rest) (same-refl (part_report r)) (flight_apart w r.slot (Some (active.Acting first slots)) there)))
      (same-join (join (part_report r) met) (part now.claims now.pending (token ∷ [])) rest rest same (same-refl rest))

  -- the tokens of those that are awaited, before a report and after it
  awaited_less : (first k : ℕ) (slots : List (Option (Report J))) (r : Report J) → r.place ≡ first + k → slice_get slots k ≡ Some None
      → WeighAlike (Acting r.slot r.place ∷ map (Acting r.slot) (awaited_from first (slice_set slots k (Some r)))) (map (Acting r.slot) (awaited_from first slots))
  awaited_less first k slots r here waits weight =
      let rest = awaited_from first (slice_set slots k (Some r)) in
      let acting = Acting r.slot in
      let fewer : IsPermutation (awaited_from first slots) (r.place ∷ rest) =
      subst (λ (n : ℕ). IsPermutation (awaited_from first slots) (n ∷ rest)) (sym here) (report_takes_one_number first k slots r waits) in
      sum_by-IsPermutation weight (map acting (awaited_from first slots)) (map acting (r.place ∷ rest)) (IsPermutation-map acting (awaited_from first slots) (r.place ∷ rest) fewer)

  -- ---- a report is kept, since another is awaited

  module _ (shared : SharedTables) (w : Parts J) (r : Report J) (h : IsSoundWith shared (part_report r) w) (s : IsSoundReport shared (h.in_flight r.slot) r)
      (first k : ℕ) (here : r.place ≡ first + k) (slots : List (Option (Report J))) (is : slice_get w.desk.active r.slot ≡ Some (Some (active.Acting first slots)))
      (at : IsSoundPhase shared r.slot (h.in_flight r.slot) first slots) (waits : slice_get slots k ≡ Some None) where
    abbrev u : ActiveTransaction
    u = h.in_flight r.slot

    abbrev filled : List (Option (Report J))
    filled = slice_set slots k (Some r)

    -- the report stored at a place is sound
    still_sound : (number : ℕ) (q : Report J) → slice_get filled number ≡ Some (Some q) → (q.place ≡ first + number) × ((q.slot ≡ r.slot) × IsSoundReport shared u q)
    still_sound number q stands = by (put_at slots k number (Some r) (Some q) stands)
      where
        by : ((number ≡ k) × (Some r ≡ Some q)) ⊎ (slice_get slots number ≡ Some (Some q)) → (q.place ≡ first + number) × ((q.slot ≡ r.slot) × IsSoundReport shared u q)
        by (inl put) =
            let both = put.1 in
            let same : r ≡ q = cc in
            subst (λ (p : Report J). (p.place ≡ first + number) × ((p.slot ≡ r.slot) × IsSoundReport shared u p)) same (omega (arith, put.0, here), (refl, s))
        by (inr stood) = at.reports number q stood

    keeps : 1 ≤ length (awaited_from 0 filled) → GoesOn shared (part_report r) w (with_active r.slot (Some (active.Acting first filled)) w)
    keeps awaits =
        let more = met_one_more slots k r waits in
        let met = parts part_met (reported slots) in
        let now = parts part_met (reported filled) in
        joins_on shared (part_report r) w h r.slot (Some (active.Acting first slots)) (Some (active.Acting first filled)) is (active.Acting first slots, refl)
        (record {
          first_is = at.first_is;
          reached = at.reached;
          undo = at.undo;
          many = length-set slots k (Some r) ∙ at.many;
          reports = still_sound;
          awaits = awaits;
        })
        (λ weight.
        omega (
          arith,
          awaited_less first k slots r here waits weight,
          sum_by-cons weight (Acting r.slot r.place) (map (Acting r.slot) (awaited_from first filled)),
          sum_by-cons weight (Acting r.slot r.place) [],
        ))
        (IsPermutation-sym now.claims ((part_met r).claims ++ met.claims) more.claims)
        (IsPermutation-sym now.pending ((part_met r).pending ++ met.pending) more.pending)

    -- ---- all have reported

    module _ (reports : List (Report J)) (all : map Some reports ≡ filled) where
      have : HaveReported shared r.slot u 0 (works_of u.progress) reports
      have = phase_reported shared r.slot u first k slots r reports at s refl here all

      none_left : awaited_from first filled ≡ []
      none_left = ap (λ (l : List (Option (Report J))). awaited_from first l) (sym all) ∙ none_awaited first reports

      -- nothing else of the transaction is awaited
      rests_there : Rests shared h.in_flight r.slot w
      rests_there =
          rests_of shared (part_report r) w h r.slot (Some (active.Acting first slots)) is
          (λ weight.
          omega (
            arith,
            awaited_less first k slots r here waits weight,
            ap (λ (ns : List ℕ). sum_by weight (Acting r.slot r.place ∷ map (Acting r.slot) ns)) none_left,
          ))

      -- with the transaction that is carried
      module _ (flow : Flow J) (sound_flow : IsSoundFlow r.slot u flow)
          (together : parts part_met reports ≡ part (all_claims (flow.transaction.held ++ held_in reports)) (unanswered_transaction flow.transaction ∷ []) []) where
        abbrev t : Transaction J
        t = holding flow.transaction (held_in reports)

        abbrev hand : InFlight
        hand = part_transaction t (Acting r.slot r.place ∷ [])

        rests : Rests shared h.in_flight t.slot w
        rests = subst (λ n. Rests shared h.in_flight n w) (sym sound_flow.slot_is) rests_there

        -- it was active
        was : (x : Active J) × (slice_get w.desk.active t.slot ≡ Some (Some x))
        was = (active.Acting first slots, subst (λ n. slice_get w.desk.active n ≡ Some (Some (active.Acting first slots))) (sym sound_flow.slot_is) is)

        below : t.slot < length w.desk.active
        below = subst (λ n. t.slot < n) (sym rests.slots) rests.below

        in_hand : IsSame (join (part_report r) (flight w)) (join hand (lots t.slot w))
        in_hand =
            subst (λ n. IsSame (join (part_report r) (flight w)) (join hand (lots n w))) (sym sound_flow.slot_is)
            (subst (λ (q : InFlight). IsSame (join (part_report r) (flight w)) (join (part q.claims q.pending (Acting r.slot r.place ∷ [])) (lots r.slot w))) together (all_together w first slots k r reports is waits all))

        served : AreServed w.desk (unanswered_transaction t ∷ (lots t.slot w).pending)
        served = served_same w.desk (join (part_report r) (flight w)).pending (unanswered_transaction t ∷ (lots t.slot w).pending) in_hand.pending (record { alone = h.balance.alone; many = h.balance.many })

        -- the claims that are out are those of the transaction, and the others'
        held_out : AreAllHeld (joined_in w).holdings (all_claims t.held ++ (lots t.slot w).claims)
        held_out = held_same (joined_in w) (join (part_report r) (flight w)) (join hand (lots t.slot w)) in_hand h.held

        fits_in_hand : (opening : Database) (history : List Step) → FitsPart opening history w.log (joined_in w) w.desk.admitted (join (part_report r) (flight w))
            → FitsPart opening history w.log (joined_in w) w.desk.admitted (join hand (lots t.slot w))
        fits_in_hand opening history f = fits_same opening history w.log (joined_in w) w.desk.admitted (join (part_report r) (flight w)) (join hand (lots t.slot w)) in_hand f

        held_is : t.held ≡ u.held ++ held_in reports
        held_is = ap (λ (hs : List (List ClaimView)). hs ++ held_in reports) sound_flow.held

        undo : All (AreUndoneBy u.age) t.held
        undo = subst (λ hs. All (AreUndoneBy u.age) hs) (sym held_is) (All-append (AreUndoneBy u.age) u.held (held_in reports) at.undo (all_undo shared r.slot u 0 (works_of u.progress) reports have))

        undo_of : (slot : ℕ) → slot ≡ r.slot → All (AreUndoneBy (h.in_flight slot).age) t.held
        undo_of slot is = subst (λ n. All (AreUndoneBy (h.in_flight n).age) t.held) (sym is) undo

        few : length t.held ≤ MOST_ACTIONS
        few = omega (
          arith,
          ap (λ (hs : List (List ClaimView)). length hs) held_is,
          length-append u.held (held_in reports),
          few_hold shared r.slot u 0 (works_of u.progress) reports have,
          few_actions shared u.request u.progress u.held at.reached,
        )

        asked : IsAskedBy t
        asked = record { session = sound_flow.asked.session; slot = sound_flow.asked.slot; number = sound_flow.asked.number; request = sound_flow.asked.request }

        -- ---- it is refused

        pub refuses : (why : Refusal) → NamesOlder (groups_of (footprint u.request)) u.age why → GoesOn shared (part_report r) w (releasing false (refused t why) w)
        refuses why fair = record {
          sound = releases_sound shared h.in_flight w hand false (refused t why) rests was asked.session asked.number
              (subst (λ q. NamesOlder (groups_of (footprint q)) t.age why) (sym (asked.request ∙ sound_flow.request))
              (subst (λ n. NamesOlder (groups_of (footprint u.request)) n why) (sym sound_flow.age) fair)) (undo_of t.slot sound_flow.slot_is) few refl held_out refl served;
          fits = λ opening history f. releases_fits opening history w hand false (refused t why) below refl refl (fits_in_hand opening history f);
        }

        -- ---- it goes on

        commits : (shown : Reply) → ((opening : Database) → shared_of opening ≡ shared → IsCarriedOut opening u.request (all_claims t.held) shown) → GoesOn shared (part_report r) w (committing t shown w)
        commits shown carried =
            let one : Item J = item.Commit (record { transaction = t; reply = shown; completion = tt }) in
            let sound : IsSoundCommit shared u (record { transaction = t; reply = shown; completion = tt }) = record {
              asked = asked;
              accepted = subst (λ q. IsAccepted shared.scale q) (sym sound_flow.request) (accepted shared u.request u.progress u.held at.reached);
              carried_out = λ opening same. subst (λ q. IsCarriedOut opening q (all_claims t.held) shown) (sym sound_flow.request) (carried opening same);
              undo = undo;
              few = few;
            } in
            let sound_there : IsSoundCommit shared (h.in_flight t.slot) (record { transaction = t; reply = shown; completion = tt }) =
            subst (λ n. IsSoundCommit shared (h.in_flight n) (record { transaction = t; reply = shown; completion = tt })) (sym sound_flow.slot_is) sound in
            record {
              sound = puts_sound shared h.in_flight t.slot w hand (one ∷ []) (Some active.Committing) rests was refl
                  (All-cons (IsSoundItem shared h.in_flight) one [] sound_there (All-nil (IsSoundItem shared h.in_flight))) tt
                  (IsPermutation-refl (unanswered_transaction t ∷ [])) served
                  (subst (λ cs. IsPermutation (all_claims t.held) cs) (sym (append-nil (all_claims t.held))) (IsPermutation-refl (all_claims t.held))) held_out (λ weight. refl);
              fits = λ opening history f.
                  puts_fits opening history w hand (one ∷ []) t.slot (Some active.Committing) refl below
                  (subst (λ cs. IsPermutation (all_claims t.held) cs) (sym (append-nil (all_claims t.held))) (IsPermutation-refl (all_claims t.held)))
                  (IsPermutation-refl (unanswered_transaction t ∷ [])) (fits_in_hand opening history f);
            }

        next : (progress : Progress) → IsReached shared u.request progress t.held → GoesOn shared (part_report r) w (goes_on t (Next progress) w)
        next progress reached =
            let works = works_of progress in
            let flow_now : Flow J = record { transaction = t; progress = progress } in
            let v : ActiveTransaction = record { request = u.request; progress = progress; held = t.held; age = u.age } in
            let bt : ActiveTransactions = transaction_on h.in_flight t.slot v in
            let now : bt t.slot ≡ v = transaction_here h.in_flight t.slot v in
            let begun : Option (Active J) = Some (active.Acting (length t.held) (replicate (length works) None)) in
            let some : 1 ≤ length works = some_actions progress in
            let start : IsSoundStart shared v flow_now works = record {
              flow_is = record { asked = asked; slot_is = refl; request = sound_flow.request; held = refl; progress = refl; age = sound_flow.age };
              works_are = refl;
              can = can_all shared u.request progress t.held reached;
              few = omega (arith, few_actions shared u.request progress t.held reached);
            } in
            let acts = part_acts flow_now works some in
            let awaits : map (Acting t.slot) (awaited_from (length t.held) (replicate (length works) None)) ≡ acting_from t.slot (length t.held) works = all_acting (Report J) t.slot (length t.held) works in
            let phase : IsSoundPhase shared t.slot v (length t.held) (replicate (length works) None) = record {
              first_is = refl;
              reached = reached;
              undo = undo;
              many = length-replicate (length works) None;
              reports = λ place q stands. absurd (no_report (length works) place q stands);
              awaits = omega (arith, some, ap (λ (ns : List ℕ). length ns) (all_awaited (Report J) 0 (length works)), length-range_with_len 0 (length works));
            } in
            record {
              sound = puts_sound shared bt t.slot w hand (acts_of flow_now works) begun (rests_with shared h.in_flight t.slot w v (λ x there. ap (λ n. (h.in_flight n).age) (sym sound_flow.slot_is)) rests) was (none_reported (length works))
                  (acts_fine shared bt flow_now works (subst (λ x. IsSoundStart shared x flow_now works) (sym now) start))
                  (subst (λ x. IsSoundPhase {J = J} shared t.slot x (length t.held) (replicate (length works) None)) (sym now) phase)
                  (subst (λ (q : InFlight). IsPermutation (unanswered_transaction t ∷ []) q.pending) (sym acts) (IsPermutation-refl (unanswered_transaction t ∷ []))) served
                  (subst (λ (q : InFlight). IsPermutation (all_claims t.held) q.claims) (sym acts) (IsPermutation-refl (all_claims t.held))) held_out
                  (λ weight. ap (λ (q : InFlight). sum_by weight q.tokens) acts ∙ sym (ap (λ ts. sum_by weight ts) awaits));
              fits = λ opening history f.
                  puts_fits opening history w hand (acts_of flow_now works) t.slot begun (none_reported (length works)) below
                  (subst (λ (q : InFlight). IsPermutation (all_claims t.held) q.claims) (sym acts) (IsPermutation-refl (all_claims t.held)))
                  (subst (λ (q : InFlight). IsPermutation (unanswered_transaction t ∷ []) q.pending) (sym acts) (IsPermutation-refl (unanswered_transaction t ∷ [])))
                  (fits_in_hand opening history f);
            }

        follows : (g : Gathered) → refusal_of None reports ≡ None → FollowsFrom flow.progress (found_in reports) g → GoesOn shared (part_report r) w (goes_on t g w)
        follows g none leads = by g (subst (λ hs. Follows shared u.request hs g) (sym held_is) (leads shared u.request u.held (held_in reports) reached done))
          where
            reached : IsReached shared u.request flow.progress u.held
            reached = subst (λ p. IsReached shared u.request p u.held) (sym sound_flow.progress) at.reached

            done : HaveAllDone shared (works_of flow.progress) (found_in reports) (held_in reports)
            done = subst (λ p. HaveAllDone shared (works_of p) (found_in reports) (held_in reports)) (sym sound_flow.progress) (all_done shared r.slot u 0 (works_of u.progress) reports have none)

            by : (g : Gathered) → Follows shared u.request t.held g → GoesOn shared (part_report r) w (goes_on t g w)
            by (Next progress) is = next progress is
            by (Finish shown) is = commits shown is

        goes_by : {new next_w : Parts J} → new ≡ next_w → GoesOn shared (part_report r) w next_w → GoesOn shared (part_report r) w new
        goes_by is goes = subst (λ v. GoesOn shared (part_report r) w v) (sym is) goes

        pub meets_unless : (why : Option Refusal) (new : Parts J) → refusal_of None reports ≡ why → MeetsUnless why reports flow w new → GoesOn shared (part_report r) w new
        meets_unless (Some why) new refused_by_one said =
            let P : Refusal → Type 0 = NamesOlder (groups_of (footprint u.request)) u.age in
            let died = all_fair shared r.slot u (footprint u.request) 0 (works_of u.progress) reports have
            (λ group is. of_footprint shared u.request u.progress u.held at.reached group within is) in
            goes_by said (refuses why (subst (λ (o : Option Refusal). IfSome o P) refused_by_one (refused_by_all P tt None (rans_of reports) died tt)))
        meets_unless None new none said =
            ⊎_elim (λ no_memory. goes_by no_memory (refuses refusal.NoMemory tt)) (λ gathered. goes_by gathered.1.1 (follows gathered.0 none gathered.1.0)) said

    -- ---- what a report brings

    carried_met : (reports : List (Report J)) (new : Parts J) → map Some reports ≡ filled → HaveReported shared r.slot u 0 (works_of u.progress) reports
        → MeetsAs reports w new → GoesOn shared (part_report r) w new
    carried_met [] new all reported_all said = absurd said
    carried_met (q ∷ reports) new all reported_all said = by (works_of u.progress) reported_all
      where
        by : (works : List Work) → HaveReported shared r.slot u 0 works (q ∷ reports) → GoesOn shared (part_report r) w new
        by [] some = absurd some
        by (work ∷ works) some =
            let carried = is_carried shared r.slot u q.flow some.0.0 in
            let flow = carried.0 in
            let of_flow : MeetsUnless (refusal_of None (q ∷ reports)) (q ∷ reports) flow w new = subst (λ (o : Option (Flow J)). IfCarried o (λ f. MeetsUnless (refusal_of None (q ∷ reports)) (q ∷ reports) f w new)) carried.1.0 said in
            meets_unless (q ∷ reports) all flow carried.1.1 (parts_all shared r.slot u (work ∷ works) q reports flow some carried.1.0) (refusal_of None (q ∷ reports)) new refl of_flow

    pub reports_go_on : (new : Parts J) → ReportsInto r.slot first filled w new → GoesOn shared (part_report r) w new
    reports_go_on new said =
        ⊎_elim (λ kept. subst (λ v. GoesOn shared (part_report r) w v) (sym kept.1) (keeps kept.0))
        (λ met. carried_met met.0 new met.1.0 (phase_reported shared r.slot u first k slots r met.0 at s refl here met.1.0) met.1.1) said
