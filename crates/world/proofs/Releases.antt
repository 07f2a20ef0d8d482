-- A transaction is over, and what its actions hold is given back.
use Rattle.std.proofs.Common.{◌≡◌, ℕ, ◌<◌, ◌≤◌, zero, suc, Bool, true, false, List, [], ◌∷◌, ◌++◌, length, refl, sym, ◌∙◌, ap, subst, arith}
use Rattle.std.specs.Prelude.{All, Some, map, replicate}
use Rattle.std.specs.List.{slice_get, sum_by}
use Rattle.std.specs.List.Sorted.{IsPermutation}
use Rattle.std.proofs.lemmas.List.Elements.{All-cons, All-nil, All-head, All-tail}
use Rattle.std.proofs.lemmas.List.Sorted.{IsPermutation-refl}
use Rattle.rows.specs.declared.limits.TheConstants.{SESSIONS}
use Rattle.partitions.specs.Parts.{SharedTables}
use Rattle.schema.specs.Database.{Database}
use Rattle.groups.specs.Footprint.{footprint, groups_of}
use Rattle.tickets.specs.Claims.{ClaimView, all_claims}
use Rattle.history.specs.History.{Step, UnansweredTransaction}
use Rattle.slices.specs.SliceView.{AreAllHeld}
use Rattle.transactions.specs.declared.laws.TheConstants.{MOST_ACTIONS}
use Rattle.transactions.specs.Acting.{AreGivenBy}
use Rattle.world.specs.declared.desk.Active.{Active}
use Rattle.world.specs.declared.sending.Release.{Release}
use Rattle.world.specs.declared.world.Parts.{Parts}
use Rattle.world.specs.Parted.{joined_in}
use Rattle.world.specs.Flights.{Ending, InFlight, nothing, join, parts, part_item, part_held, place_answered}
use Rattle.world.specs.Sound.{ActiveTransactions, ActiveTransaction, IsSoundWith, IsSoundItem, IsSoundActive, AnswersOlder, awaited, reported_to}
use Rattle.world.specs.Following.{ending, items_released, push_of, releasing}
use Rattle.world.specs.Worlds.{FitsPart, Fits}
use Rattle.world.proofs.OneSlot.{lots}
use Rattle.world.proofs.Puts.{puts_fits, puts_sound, AreServed, Rests}

-- ---- what several actions hold

held_claims : (slot : ℕ) (all : List (List ClaimView)) → (parts (part_held slot) all).claims ≡ all_claims all
held_claims slot [] = refl
held_claims slot (claims ∷ all) = ap (λ cs. claims ++ cs) (held_claims slot all)

held_pending : (slot : ℕ) (all : List (List ClaimView)) → (parts (part_held slot) all).pending ≡ []
held_pending slot [] = refl
held_pending slot (claims ∷ all) = held_pending slot all

held_tokens : (slot : ℕ) (all : List (List ClaimView)) → (parts (part_held slot) all).tokens ≡ replicate (length all) (Ending slot)
held_tokens slot [] = refl
held_tokens slot (claims ∷ all) = ap (λ ts. Ending slot ∷ ts) (held_tokens slot all)

module _ (J : Type 0) where
  -- ---- while so many actions have yet to give their claims back

  pub ending_awaits : (slot left : ℕ) → awaited {J = J} slot (ending left) ≡ replicate left (Ending slot)
  ending_awaits slot zero = refl
  ending_awaits slot (suc n) = refl

  pub nothing_met : (left : ℕ) → reported_to {J = J} (ending left) ≡ []
  nothing_met zero = refl
  nothing_met (suc n) = refl

  pub ending_sound : (shared : SharedTables) (slot : ℕ) (u : ActiveTransaction) (left : ℕ) → left ≤ MOST_ACTIONS → IsSoundActive {J = J} shared slot u (ending left)
  ending_sound shared slot u zero few = tt
  ending_sound shared slot u (suc n) few = (omega arith, few)

  -- ---- the pushes

  push_part : (settle : Bool) (slot : ℕ) (claims : List ClaimView) → part_item {J = J} (push_of settle slot claims) ≡ part_held slot claims
  push_part true slot claims = refl
  push_part false slot claims = refl

  pushes_part : (settle : Bool) (slot : ℕ) (all : List (List ClaimView)) → parts (part_item {J = J}) (map (push_of settle slot) all) ≡ parts (part_held slot) all
  pushes_part settle slot [] = refl
  pushes_part settle slot (claims ∷ all) = λ i. join (push_part settle slot claims i) (pushes_part settle slot all i)

  push_sound : (shared : SharedTables) (at : ActiveTransactions) (settle : Bool) (slot : ℕ) (claims : List ClaimView) → AreGivenBy settle (at slot).age claims → IsSoundItem {J = J} shared at (push_of settle slot claims)
  push_sound shared at true slot claims h = h
  push_sound shared at false slot claims h = h

  pushes_sound : (shared : SharedTables) (at : ActiveTransactions) (settle : Bool) (slot : ℕ) (all : List (List ClaimView)) → All (AreGivenBy settle (at slot).age) all
      → All (IsSoundItem {J = J} shared at) (map (push_of settle slot) all)
  pushes_sound shared at settle slot [] h = All-nil (IsSoundItem shared at)
  pushes_sound shared at settle slot (claims ∷ all) h =
      All-cons (IsSoundItem shared at) (push_of settle slot claims) (map (push_of settle slot) all)
      (push_sound shared at settle slot claims (All-head (AreGivenBy settle (at slot).age) claims all h))
      (pushes_sound shared at settle slot all (All-tail (AreGivenBy settle (at slot).age) claims all h))

module _ {J : Type 0} where
  abbrev pub unanswered_release : Release J → UnansweredTransaction
  unanswered_release r = record {
    age = r.age;
    session = r.pass.session;
    number = r.pass.asks.number;
    request = r.pass.asks.request;
    entry = place_answered r.answer;
  }

  -- ---- all items

  pub released_claims : (settle : Bool) (r : Release J) → (parts part_item (items_released settle r)).claims ≡ all_claims r.held
  released_claims settle r = ap (λ (q : InFlight). q.claims) (pushes_part J settle r.slot r.held) ∙ held_claims r.slot r.held

  pub released_pending : (settle : Bool) (r : Release J) → (parts part_item (items_released settle r)).pending ≡ unanswered_release r ∷ []
  released_pending settle r = ap (λ us. unanswered_release r ∷ us) (ap (λ (q : InFlight). q.pending) (pushes_part J settle r.slot r.held) ∙ held_pending r.slot r.held)

  -- the tokens of what is pushed are what is awaited then
  released_tokens : (settle : Bool) (r : Release J) → (parts part_item (items_released settle r)).tokens ≡ awaited {J = J} r.slot (ending (length r.held))
  released_tokens settle r = ap (λ (q : InFlight). q.tokens) (pushes_part J settle r.slot r.held) ∙ held_tokens r.slot r.held ∙ sym (ending_awaits J r.slot (length r.held))

  -- ---- the release

  pub releases_fits : (opening : Database) (history : List Step) (w : Parts J) (hand : InFlight) (settle : Bool) (r : Release J) → r.slot < length w.desk.active
      → hand.claims ≡ all_claims r.held → hand.pending ≡ unanswered_release r ∷ []
      → FitsPart opening history w.log (joined_in w) w.desk.admitted (join hand (lots r.slot w)) → Fits opening history (releasing settle r w)
  releases_fits opening history w hand settle r below claims pending f =
      puts_fits opening history w hand (items_released settle r) r.slot (ending (length r.held)) (nothing_met J (length r.held)) below
      (subst (λ cs. IsPermutation hand.claims cs) (claims ∙ sym (released_claims settle r)) (IsPermutation-refl hand.claims))
      (subst (λ us. IsPermutation hand.pending us) (pending ∙ sym (released_pending settle r)) (IsPermutation-refl hand.pending))
      f

  pub releases_sound : (shared : SharedTables) (at : ActiveTransactions) (w : Parts J) (hand : InFlight) (settle : Bool) (r : Release J) → Rests shared at r.slot w → (x : Active J) × (slice_get w.desk.active r.slot ≡ Some (Some x))
      → r.pass.session < SESSIONS → r.pass.asks.number ≡ r.number → AnswersOlder (groups_of (footprint r.pass.asks.request)) r.age r.answer
      → All (AreGivenBy settle (at r.slot).age) r.held → length r.held ≤ MOST_ACTIONS
      → hand.claims ≡ all_claims r.held → AreAllHeld (joined_in w).holdings (hand.claims ++ (lots r.slot w).claims)
      → hand.pending ≡ unanswered_release r ∷ [] → AreServed w.desk (hand.pending ++ (lots r.slot w).pending)
      → IsSoundWith shared nothing (releasing settle r w)
  releases_sound shared at w hand settle r rests was session number older given few claims held pending served =
      let items = items_released settle r in
      puts_sound shared at r.slot w hand items (ending (length r.held)) rests was (nothing_met J (length r.held))
      (All-cons (IsSoundItem shared at) _ (map (push_of settle r.slot) r.held) (session, (number, older)) (pushes_sound J shared at settle r.slot r.held given))
      (ending_sound J shared r.slot (at r.slot) (length r.held) few)
      (subst (λ us. IsPermutation hand.pending us) (pending ∙ sym (released_pending settle r)) (IsPermutation-refl hand.pending))
      served
      (subst (λ cs. IsPermutation hand.claims cs) (claims ∙ sym (released_claims settle r)) (IsPermutation-refl hand.claims))
      held
      (λ weight. ap (λ ts. sum_by weight ts) (released_tokens settle r))
