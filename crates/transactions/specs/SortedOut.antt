-- The results of a phase's actions: their claims, what they found, and why the transaction is refused, if it is.
use Rattle.std.specs.Prelude.{◌≡◌, ◌≤◌, ℕ, List, [], ◌∷◌, ◌++◌, Option, Some, None, vec_capacity}
use Rattle.requests.specs.declared.group.Group.{Group}
use Rattle.requests.specs.declared.refusal.Refusal.{Refusal}
use Rattle.requests.specs.declared.refusal.Refusal.TheVariants as refusal
use Rattle.tickets.specs.Claims.{ClaimView}
use Rattle.transactions.specs.declared.work.Found.{Found}
use Rattle.transactions.specs.declared.sorting.Sorted.{Sorted}
use Rattle.transactions.specs.declared.acting.Ran.{Ran}
use Rattle.transactions.specs.declared.acting.Ran.TheVariants.{Done, Died, NoMemory}

-- the first death; a death comes before NoMemory
abbrev pub earlier_death : Refusal → Group → ℕ → Refusal
earlier_death (refusal.Died first older) group holder = refusal.Died first older
earlier_death _ group holder = refusal.Died group holder

module _ {J : Type 0} where
  -- the claims of an action that has done its work
  abbrev pub held_by : Ran J → List (List ClaimView)
  held_by (Done claims found) = claims ∷ []
  held_by (Died group holder) = []
  held_by NoMemory = []

  -- what it found
  abbrev pub found_by : Ran J → List Found
  found_by (Done claims found) = found ∷ []
  found_by (Died group holder) = []
  found_by NoMemory = []

  -- the claims of each action that has done its work, by place
  abbrev pub held_in : List (Ran J) → List (List ClaimView)
  held_in [] = []
  held_in (ran ∷ rans) = held_by ran ++ held_in rans

  -- what these actions found, by place
  abbrev pub found_in : List (Ran J) → List Found
  found_in [] = []
  found_in (ran ∷ rans) = found_by ran ++ found_in rans

  -- why a transaction that is refused already is refused after one more action
  abbrev pub refused_still : Refusal → Ran J → Refusal
  refused_still why (Done claims found) = why
  refused_still why (Died group holder) = earlier_death why group holder
  refused_still why NoMemory = why

  -- why the transaction is refused, if it is, after one more action
  abbrev pub refused_by : Option Refusal → Ran J → Option Refusal
  refused_by (Some why) ran = Some (refused_still why ran)
  refused_by None (Done claims found) = None
  refused_by None (Died group holder) = Some (refusal.Died group holder)
  refused_by None NoMemory = Some refusal.NoMemory

  -- and after all of these, by place
  abbrev pub refusal_of : Option Refusal → List (Ran J) → Option Refusal
  refusal_of why [] = why
  refusal_of why (ran ∷ rans) = refusal_of (refused_by why ran) rans

-- The transaction is refused; or nothing is found yet, and there is room for what this many actions find.
abbrev pub IsReadyFor : ℕ → Sorted → Type 0
IsReadyFor count sorted = sorted.refusal ≡ None → (sorted.found.items ≡ []) × (count ≤ vec_capacity sorted.found)

-- why it is refused in the end: for the reason so far, or else with NoMemory if an allocation fails for the next step
abbrev pub IsRefusedFor : Option Refusal → Refusal → Type 0
IsRefusedFor (Some first) why = why ≡ first
IsRefusedFor None why = why ≡ refusal.NoMemory
