-- A transaction is appended to the log.
use Rattle.std.specs.Prelude.{◌≡◌, ◌⊎◌, ◌<◌, ◌≤◌, ◌↔◌, ℕ, false, List, [], ◌∷◌, ◌++◌, All, length, map, Ok, Err}
use Rattle.schema.specs.Database.{Database}
use Rattle.requests.specs.declared.request.Request.{Request}
use Rattle.requests.specs.declared.reply.Reply.{Reply}
use Rattle.requests.specs.declared.refusal.Refusal.{Refusal}
use Rattle.requests.specs.Check.{IsAccepted}
use Rattle.tickets.specs.Claims.{ClaimView, all_claims}
use Rattle.commit_log.specs.declared.entry.Entry.{Entry}
use Rattle.commit_log.specs.declared.log_book.AppendFault.{AppendFault}
use Rattle.commit_log.specs.declared.log_book.AppendFault.TheVariants as fault
use Rattle.commit_log.specs.Claimed.{IsCarriedOut, claims_logged}
use Rattle.commit_log.specs.Items.{entry_of, item}
use Rattle.commit_log.specs.PassView.{PassView, after_item, after_refusal}
use Rattle.executor.specs.AgreedPhases.{PhaseOwnerView, OwnsPhaseOf}
use Rattle.executor.specs.Flows.{IsAskedBy}
use Rattle.transactions.specs.Acting.{AreUndoneBy}
use Rattle.transactions.specs.Logged.{is_settled, why_refused}
use Rattle.executor.specs.Transactions.{TransactionView}
use Rattle.executor.specs.Answers.{ReleaseView, release_view, returns_view, answer_view}

-- a transaction that was carried out: its phase owner, its age, its slot, the number of its request, the request,
-- the session's pass, the claims of its actions, by place, and the reply
pub record CommitView : Type 0 where
  pub phase_owner : PhaseOwnerView
  pub age : ℕ
  pub slot : ℕ
  pub number : ℕ
  pub request : Request
  pub pass : PassView
  pub held : List (List ClaimView)
  pub shown : Reply

abbrev pub commit_view : PhaseOwnerView → TransactionView → List (List ClaimView) → Reply → CommitView
commit_view phase_owner t held shown =
    record { phase_owner = phase_owner; age = t.age; slot = t.slot; number = t.number; request = t.request; pass = t.pass; held = held; shown = shown }

-- Its session has asked it with this pass; the check accepts the request; the request was carried out under these claims with
-- this reply; all that was done under them can be undone; and its phase owner is that of its slot.
pub record CarriesCommit (opening : Database) (c : CommitView) : Type 0 where
  pub asked : IsAskedBy c.number c.request c.pass
  pub accepted : IsAccepted opening.scale c.request
  pub carried_out : IsCarriedOut opening c.request (all_claims c.held) c.shown
  pub undone : All (AreUndoneBy c.age) c.held
  pub whole : OwnsPhaseOf c.slot c.phase_owner

-- its entry
abbrev pub entry_committed : CommitView → Entry
entry_committed c = entry_of c.pass.session c.number c.request c.shown

-- It is logged at this place: the answer is the place, and its claims go back as the log leaves them.
abbrev pub logging : CommitView → ℕ → ReleaseView
logging c place =
    release_view (answer_view c.age c.number (after_item c.pass (item place c.number c.request c.shown)) (Ok place))
    (returns_view c.slot (is_settled c.shown) (map (claims_logged c.shown) c.held)) c.phase_owner

-- it is refused: the answer is the reason, with this pass, and what its actions did is undone
abbrev pub refusing : CommitView → PassView → Refusal → ReleaseView
refusing c pass why = release_view (answer_view c.age c.number pass (Err why)) (returns_view c.slot false c.held) c.phase_owner

-- The log has one entry more, at its end; or it refused the entry and is unchanged. It refuses an entry with LogFull exactly if
-- it has the most entries that it may have.
abbrev pub Commits : ℕ → CommitView → List Entry → ReleaseView → List Entry → Type 0
Commits most c old release new =
    ((length old < most) × ((release ≡ logging c (length old)) × (new ≡ old ++ entry_committed c ∷ [])))
    ⊎ ((why : AppendFault) × (((why ≡ fault.LogFull) ↔ (most ≤ length old))
    × ((release ≡ refusing c (after_refusal why (length old) c.pass) (why_refused why)) × (new ≡ old))))
