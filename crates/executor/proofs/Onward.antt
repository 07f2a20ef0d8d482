-- What follows when a phase has met.
use Rattle.std.proofs.Common.{◌≡◌, ◌≤◌, ◌⊎◌, inl, inr, ◌+◌, List, ◌++◌, length, Option, Some, None, refl, sym, ap, ◌∙◌, subst, arith}
use Rattle.std.specs.Prelude.{All, IfSome}
use Rattle.std.proofs.lemmas.List.Elements.{All-append}
use Rattle.partitions.specs.Parts.{SharedTables, shared_of}
use Rattle.schema.specs.Database.{Database}
use Rattle.requests.specs.declared.request.Request.{Request}
use Rattle.requests.specs.declared.reply.Reply.{Reply}
use Rattle.requests.specs.declared.refusal.Refusal.{Refusal}
use Rattle.requests.specs.declared.refusal.Refusal.TheVariants as refusal
use Rattle.tickets.specs.Claims.{ClaimView, all_claims}
use Rattle.commit_log.specs.Claimed.{IsCarriedOut}
use Rattle.transactions.specs.declared.laws.TheConstants.{MOST_ACTIONS}
use Rattle.transactions.specs.declared.acting.Ran.{Ran}
use Rattle.transactions.specs.declared.work.Found.{Found}
use Rattle.transactions.specs.declared.progress.Progress.{Progress}
use Rattle.transactions.specs.declared.progress.Gathered.TheVariants.{Next, Finish}
use Rattle.transactions.specs.Progresses.{FollowsFrom, HasFound, IsReached, works_of}
use Rattle.executor.specs.declared.following.Following.{Following}
use Rattle.executor.specs.declared.following.Following.TheVariants.{Over}
use Rattle.executor.specs.AgreedPhases.{PhaseOwnerView, OwnsPhaseOf}
use Rattle.executor.specs.Flows.{CarriesFlow, FlowView}
use Rattle.transactions.specs.Acting.{AreUndoneBy}
use Rattle.executor.specs.Phases.{AreAllRans, MetView}
use Rattle.transactions.specs.SortedOut.{found_in, held_in, refusal_of}
use Rattle.transactions.proofs.SortedOut.{memory_last, none_before}
use Rattle.executor.specs.Released.{refused}
use Rattle.executor.specs.Followed.{Follows, FollowsUnless, HasMetUnder, transaction_of, under_claims}
use Rattle.executor.proofs.SortedOut.{all_done, all_undone, as_many}

-- ---- what was found is gathered

module _ (opening : Database) (request : Request) (progress : Progress) (held : List (List ClaimView)) (found : List Found) (met : HasMetUnder (shared_of opening) request progress held found) where
  pub has_found : HasFound progress found
  has_found = (shared_of opening, met.own, met.done)

  -- the facts that the next phase needs
  pub next_reached : (next : Progress) → FollowsFrom progress found (Next next) → IsReached (shared_of opening) request next held
  next_reached next follows = subst (λ h. IsReached (shared_of opening) request next h) (sym met.held_is) (follows (shared_of opening) request met.earlier met.own met.reached met.done)

  -- or it was carried out
  pub finished : (shown : Reply) → FollowsFrom progress found (Finish shown) → IsCarriedOut opening request (all_claims held) shown
  finished shown follows = subst (λ h. IsCarriedOut opening request (all_claims h) shown) (sym met.held_is) (follows (shared_of opening) request met.earlier met.own met.reached met.done opening refl)

-- ---- all have reported

module _ {J : Type 0} where
  module _ (shared : SharedTables) (j : FlowView) (rans : List (Ran J)) (carries : CarriesFlow shared j) (are : AreAllRans shared j.age (works_of j.progress) rans) where
    -- what they hold can be taken back
    pub undone_then : All (AreUndoneBy j.age) (j.held ++ held_in rans)
    undone_then = All-append (AreUndoneBy j.age) j.held (held_in rans) carries.undone (all_undone shared j.age (works_of j.progress) rans are)

    -- where none died or found no memory, they have met
    pub met_under : refusal_of None rans ≡ None → HasMetUnder shared j.request j.progress (j.held ++ held_in rans) (found_in rans)
    met_under none = record { earlier = j.held; own = held_in rans; held_is = refl; reached = carries.reached; done = all_done shared j.age (works_of j.progress) rans are none }

    -- and there is room for what they hold
    pub room_then : length j.held + length (works_of j.progress) ≤ MOST_ACTIONS → length j.held + length rans ≤ MOST_ACTIONS
    room_then few = omega (arith, few, as_many shared j.age (works_of j.progress) rans are)

  -- ---- what follows

  module _ (m : MetView J) (phase_owner : PhaseOwnerView) (whole : OwnsPhaseOf m.flow.slot phase_owner) where
    abbrev held_then : List (List ClaimView)
    held_then = m.flow.held ++ held_in m.rans

    abbrev recorded : Option Refusal → List Found → Following J → Type 0
    recorded refused found after = FollowsUnless refused phase_owner (under_claims held_then m.flow) found after

    -- it is refused for the first death, or else with NoMemory
    follows_refused : (start : Option Refusal) (why : Refusal) → IfSome start (λ w. w ≡ refusal.NoMemory) → refusal_of start m.rans ≡ Some why
        → Follows m (Over (refused phase_owner (transaction_of m.flow) held_then why))
    follows_refused None why begun is = (phase_owner, (whole, subst (λ (o : Option Refusal). recorded o (found_in m.rans) (Over (refused phase_owner (transaction_of m.flow) held_then why))) (sym is) refl))
    follows_refused (Some w) why begun is = by (memory_last m.rans)
      where
        recorded_so : refusal_of (Some refusal.NoMemory) m.rans ≡ Some why
        recorded_so = ap (λ (r : Refusal). refusal_of (Some r) m.rans) (sym begun) ∙ is

        by : ((refusal_of None m.rans ≡ None) × (refusal_of (Some refusal.NoMemory) m.rans ≡ Some refusal.NoMemory)) ⊎ (refusal_of (Some refusal.NoMemory) m.rans ≡ refusal_of None m.rans)
            → Follows m (Over (refused phase_owner (transaction_of m.flow) held_then why))
        by (inl none) =
            let memory = none.1 in
            let is_recorded = recorded_so in
            let same : why ≡ refusal.NoMemory = cc in (
              phase_owner,
              (
                whole,
                subst (λ (o : Option Refusal). recorded o (found_in m.rans) (Over (refused phase_owner (transaction_of m.flow) held_then why))) (sym none.0)
                    (ap (λ (r : Refusal). refused phase_owner (transaction_of m.flow) held_then r) same),
              ),
            )
        by (inr alike) = (phase_owner, (whole, subst (λ (o : Option Refusal). recorded o (found_in m.rans) (Over (refused phase_owner (transaction_of m.flow) held_then why))) (sym (sym alike ∙ recorded_so)) refl))

    -- so it goes on, or is refused, by what was sorted out
    pub follows : (start sorted : Option Refusal) (found : List Found) (after : Following J) → IfSome start (λ w. w ≡ refusal.NoMemory) → refusal_of start m.rans ≡ sorted
        → (sorted ≡ None → found ≡ found_in m.rans) → recorded sorted found after → Follows m after
    follows start None found after begun is same goes = (
      phase_owner,
      (
        whole,
        subst (λ (o : Option Refusal). recorded o (found_in m.rans) after) (sym (none_before start m.rans is))
            (subst (λ (f : List Found). recorded None f after) (same refl) goes),
      ),
    )
    follows start (Some why) found after begun is same goes = subst (λ (one : Following J). Follows m one) (sym goes) (follows_refused start why begun is)
