-- A transaction is appended to the log, or refused by it.
use Rattle.std.specs.Prelude.{◌≡◌, ◌⊎◌, ◌<◌, ◌≤◌, ◌↔◌, ℕ, Bool, true, false, List, [], ◌∷◌, ◌++◌, length, map, Ok, Err}
use Rattle.requests.specs.declared.reply.Reply.{Reply}
use Rattle.requests.specs.declared.reply.Reply.TheVariants.{Done, RolledBack}
use Rattle.requests.specs.declared.refusal.Refusal.{Refusal}
use Rattle.requests.specs.declared.refusal.Refusal.TheVariants as refusal
use Rattle.tickets.specs.Claims.{ClaimView}
use Rattle.commit_log.specs.declared.entry.Entry.{Entry}
use Rattle.commit_log.specs.declared.log_book.AppendFault.{AppendFault}
use Rattle.commit_log.specs.declared.log_book.AppendFault.TheVariants as fault
use Rattle.commit_log.specs.Claimed.{claims_logged}
use Rattle.commit_log.specs.Items.{item}
use Rattle.commit_log.specs.PassView.{PassView, after_item, after_refusal}
use Rattle.transactions.specs.declared.logging.Logged.{Logged}

-- the claims are settled unless the reply is a rollback
abbrev pub is_settled : Reply → Bool
is_settled (Done shown) = true
is_settled (RolledBack fault) = false

-- the refusal for a fault of the log
abbrev pub why_refused : AppendFault → Refusal
why_refused fault.NoMemory = refusal.NoMemory
why_refused fault.LogFull = refusal.LogFull

-- the entries of a log, and the claims of each action of a transaction that is to be logged
pub record LogAndClaims : Type 0 where
  pub log : List Entry
  pub held : List (List ClaimView)

abbrev pub log_and_claims : List Entry → List (List ClaimView) → LogAndClaims
log_and_claims log held = record { log = log; held = held }

module _ {J : Type 0} where
  -- the entry is at this place, and the session's pass records it
  abbrev pub logged_at : ℕ → Entry → PassView → Logged J
  logged_at place entry pass =
      record { answer = Ok place; pass = after_item pass (item place entry.number entry.request entry.reply); is_settled = is_settled entry.reply }

  -- a log of this many entries refused it for this reason
  abbrev pub refused_for : AppendFault → ℕ → PassView → Logged J
  refused_for why entries pass = record { answer = Err (why_refused why); pass = after_refusal why entries pass; is_settled = false }

  -- The log has one entry more, at its end, behind all that the session has seen, and the claims are as the log leaves them; or
  -- it refused the entry, and log and claims are unchanged. It refuses an entry with LogFull exactly if it has the most entries
  -- that it may have.
  abbrev pub Logs : ℕ → Entry → PassView → LogAndClaims → Logged J → LogAndClaims → Type 0
  Logs most entry pass old logged new =
      ((length old.log < most) × (pass.seen ≤ length old.log) × (logged ≡ logged_at (length old.log) entry pass)
      × (new.log ≡ old.log ++ entry ∷ []) × (new.held ≡ map (claims_logged entry.reply) old.held))
      ⊎ ((why : AppendFault) × ((why ≡ fault.LogFull) ↔ (most ≤ length old.log)) × (logged ≡ refused_for why (length old.log) pass)
      × (new.log ≡ old.log) × (new.held ≡ old.held))
