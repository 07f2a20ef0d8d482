-- The claims of a transaction that is logged.
use Rattle.std.proofs.Common.{ℕ, inl, inr, List, [], ◌∷◌, map, sym, ap, subst}
use Rattle.std.specs.Prelude.{All}
use Rattle.std.proofs.lemmas.List.Elements.{All-cons, All-head, All-nil, All-tail}
use Rattle.requests.specs.declared.reply.Reply.{Reply}
use Rattle.requests.specs.declared.reply.Reply.TheVariants as reply
use Rattle.groups.specs.Groups.{warehouse_of}
use Rattle.tickets.specs.Claims.{ClaimView, committed_by, settled}
use Rattle.tickets.specs.Committed.{all_settled}
use Rattle.commit_log.specs.declared.entry.Entry.{Entry}
use Rattle.commit_log.specs.Claimed.{claims_logged}
use Rattle.commit_log.specs.PassView.{PassView}
use Rattle.slices.specs.SliceView.{AreOfOneHome, IsClaimAt}
use Rattle.transactions.specs.declared.logging.Logged.{Logged}
use Rattle.transactions.specs.Acting.{AreGivenBy, AreUndoneBy, CanBeSettled, IsAged}
use Rattle.transactions.specs.Logged.{LogAndClaims, Logs, is_settled}

-- what a claim left is committed once it is settled
settled_given : (c : ClaimView) → CanBeSettled (settled c)
settled_given c exclusive = ap (λ m. committed_by m c.left c.recorded) exclusive

all_settled_given : (cs : List ClaimView) → All CanBeSettled (all_settled cs)
all_settled_given [] = All-nil CanBeSettled
all_settled_given (c ∷ cs) = All-cons CanBeSettled (settled c) (all_settled cs) (settled_given c) (all_settled_given cs)

-- they are still on groups of one warehouse
all_settled_at : (home : ℕ) (cs : List ClaimView) → All (IsClaimAt home) cs → All (IsClaimAt home) (all_settled cs)
all_settled_at home [] h = All-nil (IsClaimAt home)
all_settled_at home (c ∷ cs) h =
    All-cons (IsClaimAt home) (settled c) (all_settled cs) (All-head (IsClaimAt home) c cs h) (all_settled_at home cs (All-tail (IsClaimAt home) c cs h))

all_settled_together : (cs : List ClaimView) → AreOfOneHome cs → AreOfOneHome (all_settled cs)
all_settled_together [] h = h
all_settled_together (c ∷ cs) h = all_settled_at (warehouse_of c.group) (c ∷ cs) h

-- and of the same transaction
all_settled_aged : (age : ℕ) (cs : List ClaimView) → All (IsAged age) cs → All (IsAged age) (all_settled cs)
all_settled_aged age [] h = All-nil (IsAged age)
all_settled_aged age (c ∷ cs) h =
    All-cons (IsAged age) (settled c) (all_settled cs) (All-head (IsAged age) c cs h) (all_settled_aged age cs (All-tail (IsAged age) c cs h))

-- the claims of one action, as they go back
pub logged_given : (shown : Reply) (age : ℕ) (cs : List ClaimView) → AreUndoneBy age cs → AreGivenBy (is_settled shown) age (claims_logged shown cs)
logged_given (reply.Done shown) age cs h = ((all_settled_given cs, all_settled_together cs h.0.1), all_settled_aged age cs h.1)
logged_given (reply.RolledBack fault) age cs h = h

-- and those of all
pub all_logged_given : (shown : Reply) (age : ℕ) (held : List (List ClaimView)) → All (AreUndoneBy age) held → All (AreGivenBy (is_settled shown) age) (map (claims_logged shown) held)
all_logged_given shown age [] h = All-nil (AreGivenBy (is_settled shown) age)
all_logged_given shown age (cs ∷ held) h =
    All-cons (AreGivenBy (is_settled shown) age) (claims_logged shown cs) (map (claims_logged shown) held)
    (logged_given shown age cs (All-head (AreUndoneBy age) cs held h)) (all_logged_given shown age held (All-tail (AreUndoneBy age) cs held h))

module _ {J : Type 0} where
  -- so they are, whatever came of it at the log
  pub given_back : (age most : ℕ) (entry : Entry) (pass : PassView) (old new : LogAndClaims) (logged : Logged J)
      → Logs most entry pass old logged new → All (AreUndoneBy age) old.held → All (AreGivenBy logged.is_settled age) new.held
  given_back age most entry pass old new logged (inl logs) undone =
      subst (λ (l : Logged J). All (AreGivenBy l.is_settled age) new.held) (sym logs.2)
      (subst (λ (hs : List (List ClaimView)). All (AreGivenBy (is_settled entry.reply) age) hs) (sym logs.4) (all_logged_given entry.reply age old.held undone))
  given_back age most entry pass old new logged (inr refused) undone =
      subst (λ (l : Logged J). All (AreGivenBy l.is_settled age) new.held) (sym refused.2)
      (subst (λ (hs : List (List ClaimView)). All (AreUndoneBy age) hs) (sym refused.4) undone)
