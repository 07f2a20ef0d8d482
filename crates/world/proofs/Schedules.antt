-- Schedules, one item more at a time.
use Rattle.std.proofs.Common.{◌≡◌, ⊎_elim, ℕ, ◌+◌, ◌<◌, ◌≤◌, zero, suc, List, [], ◌∷◌, ◌++◌, length, refl, sym, ap, subst, ◌∙◌, arith, append_assoc, append-nil, length-append, Result, Ok, Err, OnErr}
use Rattle.std.specs.Prelude.{Bool, true, false, replicate, slice_index_or, slice_set}
use Rattle.std.specs.List.{All, flat_map}
use Rattle.std.proofs.lemmas.Bool.{cases_lt}
use Rattle.std.proofs.lemmas.Grind.{flat_map-append}
use Rattle.std.proofs.lemmas.List.Elements.{All-append, All-cons, All-head, All-nil, All-tail}
use Rattle.std.proofs.lemmas.List.{length-replicate}
use Rattle.history.specs.declared.event.Event.{Event}
use Rattle.history.specs.declared.event.Event.TheVariants.{Submit, Order, Take, Send}
use Rattle.history.specs.declared.event.EventAnswer.{EventAnswer}
use Rattle.history.specs.declared.event.EventAnswer.TheVariants.{Accepted, Answered, Full, Logged, Moved, Nothing, Ordered, Sent, Took}
use Rattle.history.specs.declared.schedule.Scheduled.{Scheduled}
use Rattle.history.specs.declared.schedule.Scheduled.TheVariants as scheduled
use Rattle.history.specs.declared.schedule.Output.{Output}
use Rattle.history.specs.declared.schedule.Output.TheVariants as output
use Rattle.history.specs.History.{Step, step}
use Rattle.history.specs.Schedules.{Begins, EndAs, Follows, IsBusy, IsIdle, IsIdleTurn, IsRoundOf, Plays, Round, Turn, steps_from, steps_of_round, outputs_in_round, outputs_of_round, outputs_of_turn}
use Rattle.range_moves.specs.declared.placement.Found.{Found}
use Rattle.range_moves.specs.declared.placement.Found.TheVariants.{Here, Went, Unknown}
use Rattle.range_moves.specs.declared.order.Moving.TheVariants as moving
use Rattle.range_moves.specs.Placements.{found_by}
use Rattle.range_moves.specs.Orders.{size_of}
use Rattle.world.specs.declared.flight.Envelope.{Envelope}
use Rattle.world.specs.declared.flight.Load.{Load}
use Rattle.world.specs.declared.flight.Load.TheVariants.{Work, Move}
use Rattle.world.specs.declared.flight.Outgoing.{Outgoing}
use Rattle.world.specs.declared.flight.Outgoing.TheVariants as outgoing
use Rattle.partitions.specs.Parts.{SharedTables}
use Rattle.world.specs.declared.world.Core.{Core}
use Rattle.world.specs.Together.{IsSound}
use Rattle.world.specs.Envelopes.{home_of_message, is_for_slice}
use Rattle.world.specs.Queues.{all_of, queue_of}
use Rattle.world.specs.Worlds.{ComeAbout, IsAtRest}
use Rattle.world.specs.Happening.{Delivers, FindsSlice, Happens, Opens, SendsFirst, SendsOutgoing, TakesFirst, WorksIfHere, has_room}
use Rattle.world.proofs.Answered.{outgoing_something}
use Rattle.world.proofs.Moves.{begun_executors}
use Rattle.world.proofs.Runs.{comes_after}

-- ---- rounds

flat_map_one_more : {X Y : Type 0} (f : X → List Y) (xs : List X) (x : X) → flat_map f (xs ++ x ∷ []) ≡ flat_map f xs ++ f x
flat_map_one_more f xs x = flat_map-append f xs (x ∷ []) ∙ ap (λ l. flat_map f xs ++ l) (append-nil (f x))

-- the events of one turn more
steps_from-push : (executor : ℕ) (turns : List Turn) (t : Turn) → steps_from executor (turns ++ t ∷ []) ≡ steps_from executor turns ++ steps_from (executor + length turns) (t ∷ [])
steps_from-push executor [] t =
    let same : executor ≡ executor + 0 = omega arith in
    ap (λ n. steps_from n (t ∷ [])) same
steps_from-push executor (first ∷ turns) t =
    let same : (executor + 1) + length turns ≡ executor + suc (length turns) = omega arith in
    ap (λ (steps : List Step). step (Take executor) first.took ∷ step (Send executor) first.sent ∷ steps)
    (steps_from-push (executor + 1) turns t ∙ ap (λ n. steps_from (executor + 1) turns ++ steps_from n (t ∷ [])) same)

-- what is printed of one turn more
pub outputs_turned : (turns : List Turn) (t : Turn) (first before mid after : List Output) → before ≡ first ++ outputs_of_round turns
    → mid ≡ before ++ outputs_in_round t.took → after ≡ mid ++ outputs_in_round t.sent → after ≡ first ++ outputs_of_round (turns ++ t ∷ [])
outputs_turned turns t first before mid after so_far took sent =
    sent ∙ ap (λ (l : List Output). l ++ outputs_in_round t.sent) (took ∙ ap (λ (l : List Output). l ++ outputs_in_round t.took) so_far)
    ∙ append_assoc (first ++ outputs_of_round turns) (outputs_in_round t.took) (outputs_in_round t.sent)
    ∙ append_assoc first (outputs_of_round turns) (outputs_of_turn t) ∙ ap (λ (l : List Output). first ++ l) (sym (flat_map_one_more outputs_of_turn turns t))

-- what is printed of one round more
pub outputs_more : (rounds : List Round) (r : Round) (first before after : List Output) → before ≡ first ++ flat_map outputs_of_round rounds
    → after ≡ before ++ outputs_of_round r → after ≡ first ++ flat_map outputs_of_round (rounds ++ r ∷ [])
outputs_more rounds r first before after so_far more =
    more ∙ ap (λ (l : List Output). l ++ outputs_of_round r) so_far
    ∙ append_assoc first (flat_map outputs_of_round rounds) (outputs_of_round r) ∙ ap (λ (l : List Output). first ++ l) (sym (flat_map_one_more outputs_of_round rounds r))

-- what is printed where they end quiet
pub outputs_quiet : (rounds : List Round) (r : Round) (first before mid after : List Output) → before ≡ first ++ flat_map outputs_of_round rounds
    → mid ≡ before ++ outputs_of_round r → after ≡ mid ++ output.Quiet ∷ []
    → after ≡ first ++ (flat_map outputs_of_round (rounds ++ r ∷ []) ++ output.Quiet ∷ [])
outputs_quiet rounds r first before mid after so_far more quiet =
    quiet ∙ ap (λ (l : List Output). l ++ output.Quiet ∷ []) (outputs_more rounds r first before mid so_far more)
    ∙ append_assoc first (flat_map outputs_of_round (rounds ++ r ∷ [])) (output.Quiet ∷ [])

-- of an event one output is printed at most
pub few_outputs : (answer : EventAnswer) → length (outputs_in_round answer) ≤ 1
few_outputs Took = omega arith
few_outputs Sent = omega arith
few_outputs Full = omega arith
few_outputs Nothing = omega arith
few_outputs (Accepted age) = omega arith
few_outputs (Logged place) = omega arith
few_outputs (Answered session number recorded) = omega arith
few_outputs Ordered = omega arith
few_outputs Moved = omega arith

-- a turn more is idle where all turns before were, and it is
pub idle_more : (turns : List Turn) (t : Turn) → IsIdle turns → IsIdleTurn t → IsIdle (turns ++ t ∷ [])
idle_more turns t idle one = All-append IsIdleTurn turns (t ∷ []) idle (All-cons IsIdleTurn t [] one (All-nil IsIdleTurn))

pub idle_before : (turns : List Turn) (t : Turn) → IsIdle (turns ++ t ∷ []) → IsIdle turns × IsIdleTurn t
idle_before [] t idle = (All-nil IsIdleTurn, All-head IsIdleTurn t [] idle)
idle_before (first ∷ turns) t idle =
    let rest = idle_before turns t (All-tail IsIdleTurn first (turns ++ t ∷ []) idle) in
    (All-cons IsIdleTurn first turns (All-head IsIdleTurn first (turns ++ t ∷ []) idle) rest.0, rest.1)

module _ (executors : ℕ) where
  -- rounds of all executors in which something happened, and how many
  pub record AreRounds (rounds : List Round) (count : ℕ) : Type 0 where
    pub busy : All IsBusy rounds
    pub turns : All (IsRoundOf executors) rounds
    pub many : length rounds ≡ count

  pub round_more : (rounds : List Round) (count : ℕ) (r : Round) → AreRounds rounds count → IsRoundOf executors r → IsBusy r → AreRounds (rounds ++ r ∷ []) (count + 1)
  round_more rounds count r are of busy = record {
    busy = All-append IsBusy rounds (r ∷ []) are.busy (All-cons IsBusy r [] busy (All-nil IsBusy));
    turns = All-append (IsRoundOf executors) rounds (r ∷ []) are.turns (All-cons (IsRoundOf executors) r [] of (All-nil (IsRoundOf executors)));
    many = omega (arith, length-append rounds (r ∷ []), are.many);
  }

  -- they end quiet with one in which nothing could happen
  pub end_quiet : (rounds : List Round) (count : ℕ) (last : Round) → AreRounds rounds count → IsRoundOf executors last → count < 100000 → IsIdle last
      → All (IsRoundOf executors) (rounds ++ last ∷ []) × EndAs (rounds ++ last ∷ []) output.Quiet
  end_quiet rounds count last are of few idle = (
    All-append (IsRoundOf executors) rounds (last ∷ []) are.turns (All-cons (IsRoundOf executors) last [] of (All-nil (IsRoundOf executors))),
    (rounds, (last, (refl, (are.busy, (idle, omega (arith, length-append rounds (last ∷ []), are.many, few)))))),
  )

module _ (executors : ℕ) where
  -- ---- schedules

  -- one schedule, and then another
  plays_on : (schedule after : List Scheduled) (added more : List Output) (steps later : List Step) → Plays executors schedule added steps → Plays executors after more later
      → Plays executors (schedule ++ after) (added ++ more) (steps ++ later)
  plays_on [] after added more steps later played next =
      subst (λ (l : List Output). Plays executors after (l ++ more) (steps ++ later)) (sym played.0)
      (subst (λ (l : List Step). Plays executors after more (l ++ later)) (sym played.1) next)
  plays_on (first ∷ schedule) after added more steps later played next =
      let recorded_first = played.0 in
      let recorded_rest = played.1.0 in
      let begun = played.1.1.0 in
      let rest = played.1.1.1.0 in
      let facts = played.1.1.1.1 in (
        recorded_first,
        (
          recorded_rest ++ more,
          (
            begun,
            (
              rest ++ later,
              (
                ap (λ (l : List Output). l ++ more) facts.0 ∙ append_assoc recorded_first recorded_rest more,
                (
                  ap (λ (l : List Step). l ++ later) facts.1.0 ∙ append_assoc begun rest later,
                  (facts.1.1.0, plays_on schedule after recorded_rest more rest later facts.1.1.1 next),
                ),
              ),
            ),
          ),
        ),
      )

  -- one item
  plays_one : (item : Scheduled) (added : List Output) (steps : List Step) → Follows executors item added steps → Plays executors (item ∷ []) added steps
  plays_one item added steps follows = (added, ([], (steps, ([], (sym (append-nil added), (sym (append-nil steps), (follows, (refl, refl))))))))

  -- one item more
  pub plays_more : (schedule : List Scheduled) (item : Scheduled) (added more : List Output) (steps later : List Step) → Plays executors schedule added steps → Follows executors item more later
      → Plays executors (schedule ++ item ∷ []) (added ++ more) (steps ++ later)
  plays_more schedule item added more steps later played follows =
      plays_on schedule (item ∷ []) added more steps later played (plays_one item more later follows)

  -- ---- beginnings

  -- a round in which nothing happens
  abbrev still : Round
  still = replicate executors (record { took = Nothing; sent = Nothing })

  idle_still : (n : ℕ) → IsIdle (replicate n (record { took = Nothing; sent = Nothing }))
  idle_still zero = All-nil IsIdleTurn
  idle_still (suc n) = All-cons IsIdleTurn (record { took = Nothing; sent = Nothing }) (replicate n (record { took = Nothing; sent = Nothing })) (refl, refl) (idle_still n)

  -- rounds in which something happened, and one in which nothing does
  ends_still : (rounds : List Round) (count : ℕ) → AreRounds executors rounds count → count < 100000
      → Follows executors scheduled.Rounds (flat_map outputs_of_round (rounds ++ still ∷ []) ++ output.Quiet ∷ []) (flat_map steps_of_round (rounds ++ still ∷ []))
  ends_still rounds count are few =
      (rounds ++ still ∷ [], (output.Quiet, (refl, (refl, end_quiet executors rounds count still are (length-replicate executors _) few (idle_still executors)))))

  -- an item at which nothing happens
  idle_item : (item : Scheduled) → (added : List Output) × ((steps : List Step) × Follows executors item added steps)
  idle_item (scheduled.Event event) = (output.Event Nothing ∷ [], (step event Nothing ∷ [], (Nothing, (refl, refl))))
  idle_item scheduled.Rounds = (
    flat_map outputs_of_round (still ∷ []) ++ output.Quiet ∷ [],
    (flat_map steps_of_round (still ∷ []), ends_still [] 0 (record { busy = All-nil IsBusy; turns = All-nil (IsRoundOf executors); many = refl }) (omega arith)),
  )

  -- a play in which nothing happens
  idle_play : (schedule : List Scheduled) → (added : List Output) × ((steps : List Step) × Plays executors schedule added steps)
  idle_play [] = ([], ([], (refl, refl)))
  idle_play (item ∷ schedule) =
      let first = idle_item item in
      let rest = idle_play schedule in
      (first.0 ++ rest.0, (first.1.0 ++ rest.1.0, (first.0, (rest.0, (first.1.0, (rest.1.0, (refl, (refl, (first.1.1, rest.1.1)))))))))

  -- no event
  pub begins_none : (schedule : List Scheduled) → Begins executors schedule []
  begins_none schedule = let play = idle_play schedule in (play.1.0, (play.0, play.1.1))

  -- all events of an item
  pub begins_all : (item : Scheduled) (added : List Output) (steps : List Step) → Follows executors item added steps → Begins executors (item ∷ []) steps
  begins_all item added steps follows =
      ([], (added, subst (λ (l : List Step). Plays executors (item ∷ []) added l) (sym (append-nil steps)) (plays_one item added steps follows)))

  -- rounds in which something happened
  pub begins_rounds : (rounds : List Round) (count : ℕ) → AreRounds executors rounds count → count ≤ 100000 → Begins executors (scheduled.Rounds ∷ []) (flat_map steps_of_round rounds)
  begins_rounds rounds count are most = ⊎_elim go_on stop (cases_lt count 100000)
    where
      go_on : count < 100000 → Begins executors (scheduled.Rounds ∷ []) (flat_map steps_of_round rounds)
      go_on few =
          let all = rounds ++ still ∷ [] in
          let added = flat_map outputs_of_round all ++ output.Quiet ∷ [] in (
            steps_of_round still,
            (
              added,
              subst (λ (l : List Step). Plays executors (scheduled.Rounds ∷ []) added l) (flat_map_one_more steps_of_round rounds still)
                  (plays_one scheduled.Rounds added (flat_map steps_of_round all) (ends_still rounds count are few)),
            ),
          )

      stop : 100000 ≤ count → Begins executors (scheduled.Rounds ∷ []) (flat_map steps_of_round rounds)
      stop reached =
          begins_all scheduled.Rounds (flat_map outputs_of_round rounds ++ output.Limit ∷ []) (flat_map steps_of_round rounds)
          (rounds, (output.Limit, (refl, (refl, (are.turns, (are.busy, omega (arith, are.many, most, reached)))))))

  -- all events of some items, and a beginning of the next
  pub begins_after : (schedule : List Scheduled) (item : Scheduled) (after : List Scheduled) (added : List Output) (steps some : List Step) → Plays executors schedule added steps
      → Begins executors (item ∷ []) some → Begins executors ((schedule ++ item ∷ []) ++ after) (steps ++ some)
  begins_after schedule item after added steps some played begins =
      let later = begins.0 in
      let more = begins.1.0 in
      let rest = idle_play after in
      let so_far = plays_on schedule (item ∷ []) added more steps (some ++ later) played begins.1.1 in
      let all = plays_on (schedule ++ item ∷ []) after (added ++ more) rest.0 (steps ++ (some ++ later)) rest.1.0 so_far rest.1.1 in
      let same : (steps ++ (some ++ later)) ++ rest.1.0 ≡ (steps ++ some) ++ (later ++ rest.1.0) =
      ap (λ (l : List Step). l ++ rest.1.0) (sym (append_assoc steps some later)) ∙ append_assoc (steps ++ some) later rest.1.0 in
      (later ++ rest.1.0, ((added ++ more) ++ rest.0, subst (λ (l : List Step). Plays executors ((schedule ++ item ∷ []) ++ after) ((added ++ more) ++ rest.0) l) same all))

-- ---- worlds

-- where each queue has nothing, all together have nothing
pub all_empty : {X : Type 0} (queues : List (List X)) → ((place : ℕ) → place < length queues → slice_index_or queues place [] ≡ []) → all_of queues ≡ []
all_empty {X = X} [] each = refl
all_empty {X = X} (queue ∷ queues) each =
    ap (λ (q : List X). q ++ all_of queues) (each 0 (omega arith)) ∙ all_empty queues (λ place below. each (suc place) (omega (arith, below)))

module _ {J : Type 0} where
  -- after some turns a turn more
  pub turn_comes : (turns : List Turn) (count : ℕ) (t : Turn) (first old mid new : Core J) → length turns ≡ count → ComeAbout (steps_of_round turns) first old
      → ComeAbout (step (Take count) t.took ∷ []) old mid → ComeAbout (step (Send count) t.sent ∷ []) mid new
      → ComeAbout (steps_of_round (turns ++ t ∷ [])) first new
  turn_comes turns count t first old mid new many before takes sends =
      let both : ComeAbout (steps_from count (t ∷ [])) old new = comes_after (step (Take count) t.took ∷ []) (step (Send count) t.sent ∷ []) old mid new takes sends in
      let number : 0 + length turns ≡ count = omega (arith, many) in
      let same : steps_of_round (turns ++ t ∷ []) ≡ steps_of_round turns ++ steps_from count (t ∷ []) =
      steps_from-push 0 turns t ∙ ap (λ n. steps_of_round turns ++ steps_from n (t ∷ [])) number in
      subst (λ (steps : List Step). ComeAbout steps first new) (sym same)
      (comes_after (steps_of_round turns) (steps_from count (t ∷ [])) first old new before both)

  -- after some rounds a round more
  pub round_comes : (rounds : List Round) (r : Round) (first old new : Core J) → ComeAbout (flat_map steps_of_round rounds) first old
      → ComeAbout (steps_of_round r) old new
      → ComeAbout (flat_map steps_of_round (rounds ++ r ∷ [])) first new
  round_comes rounds r first old new before more =
      subst (λ (steps : List Step). ComeAbout steps first new) (sym (flat_map_one_more steps_of_round rounds r))
      (comes_after (flat_map steps_of_round rounds) (steps_of_round r) first old new before more)

  -- an event that is answered Nothing changes nothing
  untaken : (executor : ℕ) (envelopes : List (Envelope J)) (old new : Core J) (answer : EventAnswer) → answer ≡ Nothing → TakesFirst executor envelopes old answer new → (envelopes ≡ []) × (new ≡ old)
  untaken executor [] old new answer is said = (refl, said.1)
  untaken executor (l ∷ rest) old new answer is said = let e = said.0 in absurd (cc)

  unsent : (executor : ℕ) (posts : List (Outgoing J)) (old new : Core J) (answer : EventAnswer) → answer ≡ Nothing → SendsFirst executor posts old answer new → (posts ≡ []) × (new ≡ old)
  unsent executor [] old new answer is said = (refl, said.1)
  unsent executor (p ∷ rest) old new answer is said = absurd (outgoing_something executor p (record old { outboxes = slice_set old.outboxes executor rest }) new answer said is)

  -- after a turn in which nothing could happen the executor has nothing, and all is as it was
  pub turn_rests : (executor : ℕ) (t : Turn) (old mid new : Core J) → IsIdleTurn t → Happens (Take executor) old t.took mid → Happens (Send executor) mid t.sent new
      → (new ≡ old) × ((slice_index_or old.inboxes executor [] ≡ []) × (slice_index_or old.outboxes executor [] ≡ []))
  turn_rests executor t old mid new idle takes sends =
      let taken = untaken executor (slice_index_or old.inboxes executor []) old mid t.took idle.0 takes in
      let sent = unsent executor (slice_index_or mid.outboxes executor []) mid new t.sent idle.1 sends in
      (sent.1 ∙ taken.1, (taken.0, ap (λ (w : Core J). slice_index_or w.outboxes executor []) (sym taken.1) ∙ sent.0))

  -- while nothing could happen all is as it was, and the executors so far have nothing
  pub record RestSoFar (executors : ℕ) (old new : Core J) : Type 0 where
    pub same : new ≡ old
    pub inboxes : (place : ℕ) → place < executors → slice_index_or old.inboxes place [] ≡ []
    pub outboxes : (place : ℕ) → place < executors → slice_index_or old.outboxes place [] ≡ []

  pub rest_more : (executor : ℕ) (t : Turn) (first old mid new : Core J) → RestSoFar executor first old → IsIdleTurn t → Happens (Take executor) old t.took mid → Happens (Send executor) mid t.sent new
      → RestSoFar (executor + 1) first new
  rest_more executor t first old mid new so_far idle takes sends =
      let turn = turn_rests executor t old mid new idle takes sends in
      let inbox : slice_index_or first.inboxes executor [] ≡ [] = ap (λ (w : Core J). slice_index_or w.inboxes executor []) (sym so_far.same) ∙ turn.1.0 in
      let outbox : slice_index_or first.outboxes executor [] ≡ [] = ap (λ (w : Core J). slice_index_or w.outboxes executor []) (sym so_far.same) ∙ turn.1.1 in
      record {
        same = turn.0 ∙ so_far.same;
        inboxes = λ place below. more place executor (slice_index_or first.inboxes) below so_far.inboxes inbox;
        outboxes = λ place below. more place executor (slice_index_or first.outboxes) below so_far.outboxes outbox;
      }
    where
      more : {X : Type 0} (place last : ℕ) (at : ℕ → List X → List X) → place < last + 1 → ((k : ℕ) → k < last → at k [] ≡ []) → at last [] ≡ [] → at place [] ≡ []
      more place last at below before here =
          ⊎_elim (λ less. before place less)
          (λ reached. let same : place ≡ last = omega (arith, below, reached) in subst (λ n. at n [] ≡ []) (sym same) here)
          (cases_lt place last)

  -- after a round in which nothing could happen, nothing can be taken or sent
  pub round_rests : (shared : SharedTables) (executors : ℕ) (old new : Core J) → IsSound shared old → executors ≡ old.placements.executors → RestSoFar executors old new → IsAtRest new
  round_rests shared executors old new h many rest =
      subst IsAtRest (sym rest.same) (
        all_empty old.inboxes (λ place below. rest.inboxes place (omega (arith, below, many, h.inboxes))),
        all_empty old.outboxes (λ place below. rest.outboxes place (omega (arith, below, many, h.outboxes))),
      )

  -- what no event changes: the number of executors, and the limit of the log
  abbrev fixed : Core J → ℕ × ℕ
  fixed w = (w.placements.executors, w.log_limit)

  opens_stay : (executor : ℕ) (load : Load J) (old new : Core J) → Opens executor load old new → fixed new ≡ fixed old
  opens_stay executor (Move (moving.Order order)) old new said =
      ap fixed said ∙ ap (λ n. (n, old.log_limit)) (begun_executors (size_of order) order.lo order.to old.placements)
  opens_stay executor (Move (moving.Fetch w_id to)) old new said = ap fixed said
  opens_stay executor (Move (moving.Parcel w_id)) old new said = ap fixed said
  opens_stay executor (Work m) old new said = by (is_for_slice m) said
    where
      finds : (found : Found) → FindsSlice found executor m old new → fixed new ≡ fixed old
      finds Here works = ap fixed works.1.1
      finds (Went to) is = ap fixed is
      finds Unknown is = ap fixed is

      by : (slice : Bool) → WorksIfHere slice executor m old new → fixed new ≡ fixed old
      by false works = ap fixed works.1.1
      by true found = finds (found_by old.placements executor (home_of_message m)) found

  sends_stay : (executor : ℕ) (p : Outgoing J) (old new : Core J) (answer : EventAnswer) → SendsOutgoing executor p old answer new → fixed new ≡ fixed old
  sends_stay executor (outgoing.Envelope l) old new answer said = delivered (has_room l.to old) said
    where
      delivered : (room : Bool) → Delivers room executor l old answer new → fixed new ≡ fixed old
      delivered true said = ap fixed said.1
      delivered false said = ap fixed said.1
  sends_stay executor (outgoing.Item i) old new answer said = ap fixed said.1.1
  sends_stay executor outgoing.Arrived old new answer said = ap fixed said.1

  both_stay : (event : Event) (old new : Core J) (answer : EventAnswer) → Happens event old answer new → fixed new ≡ fixed old
  both_stay (Submit session number asked) old new answer said = ap fixed said.1.1
  both_stay (Order order) old new answer said = ⊎_elim (λ can. ap fixed can.1.1) (λ stays. ap fixed stays.1.1) said
  both_stay (Take executor) old new answer said = took (queue_of executor old.inboxes) said
    where
      took : (envelopes : List (Envelope J)) → TakesFirst executor envelopes old answer new → fixed new ≡ fixed old
      took [] said = ap fixed said.1
      took (l ∷ rest) said = opens_stay executor l.load (record old { inboxes = slice_set old.inboxes executor rest }) new said.1
  both_stay (Send executor) old new answer said = sent (queue_of executor old.outboxes) said
    where
      sent : (posts : List (Outgoing J)) → SendsFirst executor posts old answer new → fixed new ≡ fixed old
      sent [] said = ap fixed said.1
      sent (p ∷ rest) said = sends_stay executor p (record old { outboxes = slice_set old.outboxes executor rest }) new answer said

  -- there are as many executors as before
  pub executors_stay : (event : Event) (old new : Core J) (answer : EventAnswer) → Happens event old answer new → new.placements.executors ≡ old.placements.executors
  executors_stay event old new answer said = ap (λ (p : ℕ × ℕ). p.0) (both_stay event old new answer said)

  -- and the log may have as many entries
  pub log_limit_stays : (event : Event) (old new : Core J) (answer : EventAnswer) → Happens event old answer new → new.log_limit ≡ old.log_limit
  log_limit_stays event old new answer said = ap (λ (p : ℕ × ℕ). p.1) (both_stay event old new answer said)

-- whatever came of it
pub on_err : {X E P : Type 0} (r : Result X E) → P → OnErr r P
on_err (Ok x) p = tt
on_err (Err e) p = p
