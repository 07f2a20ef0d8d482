-- What the admission of a request does.
use Rattle.std.proofs.Common.{◌≡◌, ◌+◌, ℕ, List, [], ◌∷◌, ◌++◌, get_or, length, replicate, refl, sym, ap, ◌∙◌, subst, Some, None}
use Rattle.std.specs.Prelude.{true, Option, IfSome, Vec, is_some, slice_get, slice_set}
use Rattle.std.specs.declared.alloc.Global.{Global}
use Rattle.std.proofs.lemmas.Option.{get_or_from_slice_get}
use Rattle.partitions.specs.Parts.{SharedTables}
use Rattle.commit_log.specs.Asks.{asking}
use Rattle.commit_log.specs.PassView.{PassView, SessionSeatView, session_seat_view, with_asks}
use Rattle.requests.specs.declared.request.Request.{Request}
use Rattle.requests.specs.Check.{IsAccepted}
use Rattle.transactions.specs.declared.work.Work.{Work}
use Rattle.transactions.specs.Progresses.{IsReached, works_of}
use Rattle.world.specs.declared.desk.Active.TheVariants.{Acting}
use Rattle.world.specs.declared.desk.SessionDesk.{SessionDesk}
use Rattle.world.specs.declared.flight.Message.TheVariants.{Start}
use Rattle.world.specs.declared.flight.Report.{Report}
use Rattle.world.specs.declared.flight.Flow.{Flow}
use Rattle.world.specs.declared.world.Parts.{Parts}
use Rattle.world.specs.Sound.{IsPassOf, IsSessionOf}
use Rattle.world.specs.Happening.{Admits, CanAsk}

-- a pass at the desk is of the session whose seat is there
own_pass : (pass : Option PassView) (number session : ℕ) → session ≡ number → IsPassOf number pass → IfSome pass (λ p. p.session ≡ session)
own_pass None number session is own = tt
own_pass (Some pass) number session is own = own ∙ sym is

-- the session's pass goes with its request
asked_with : (old : Option PassView) (recorded : PassView → PassView) (pass : PassView) → is_some old ≡ true → IfSome old (λ was. pass ≡ recorded was)
    → (was : PassView) × ((old ≡ Some was) × (pass ≡ recorded was))
asked_with None recorded pass there is = absurd (cc)
asked_with (Some was) recorded pass there is = (was, (refl, is))

module _ {J : Type 0} where
  -- the desk that is read at a place where there is one
  pub desk_read : (desks : List (SessionDesk J)) (place : ℕ) (read : SessionDesk J) → CanAsk (slice_get desks place) → read ≡ get_or desks place read
      → (slice_get desks place ≡ Some read) × (is_some read.pass ≡ true)
  desk_read desks place read can is =
      elim (slice_get desks place) as (λ (at : Option (SessionDesk J)). slice_get desks place ≡ at → CanAsk at → (at ≡ Some read) × (is_some read.pass ≡ true)) [
        | None ↦ λ there no. absurd no
        | Some desk ↦ λ there here.
            let same : desk ≡ read = sym (get_or_from_slice_get desks place desk read there) ∙ sym is in
            (ap (λ (d : SessionDesk J). Some d) same, subst (λ (d : SessionDesk J). is_some d.pass ≡ true) same here)
      ] refl can

  -- so it is of the desk that is read
  pub pass_read : (desks : List (SessionDesk J)) (place : ℕ) (read : SessionDesk J)
      → ((number : ℕ) (desk : SessionDesk J) → slice_get desks number ≡ Some desk → IsSessionOf number desk)
      → slice_get desks place ≡ Some read → IfSome read.pass (λ p. p.session ≡ read.seat.session)
  pass_read desks place read sessions there =
      let known = sessions place read there in
      own_pass read.pass place read.seat.session known.0 known.1

  -- what is left of the desk of a session that asked
  left_at : (desk : SessionDesk J) (session : ℕ) (pass : PassView) → desk.seat ≡ session_seat_view session pass.asks → desk.pass ≡ None
      → desk ≡ record { seat = session_seat_view session pass.asks; pass = None }
  left_at desk session pass seat away =
      let seated : SessionSeatView → SessionDesk J = λ s. record { seat = s; pass = desk.pass } in
      let with_pass : Option PassView → SessionDesk J = λ p. record { seat = session_seat_view session pass.asks; pass = p } in
      ap seated seat ∙ ap with_pass away

  -- what is true of a world to which a request was admitted
  pub admits : (session number : ℕ) (asked : Request) (desk left : SessionDesk J) (old new : Parts J) (flow : Flow J) (works : Vec Work Global) (meeting : List (Option (Report J)))
      → is_some desk.pass ≡ true
      → flow.transaction.age ≡ old.desk.admitted → flow.transaction.number ≡ number → flow.transaction.request ≡ asked → flow.transaction.held ≡ []
      → slice_get old.desk.active flow.transaction.slot ≡ Some None
      → ((shared : SharedTables) → IsAccepted shared.scale asked → IsReached shared asked flow.progress [])
      → IfSome desk.pass (λ was. flow.transaction.pass ≡ with_asks was (asking number asked was.seen was.mine))
      → works.items ≡ works_of flow.progress → meeting ≡ replicate (length works.items) None
      → left.seat ≡ session_seat_view desk.seat.session flow.transaction.pass.asks → left.pass ≡ None
      → new.catalog ≡ old.catalog → new.shards ≡ old.shards → new.inbox ≡ old.inbox ++ Start flow works ∷ []
      → new.outbox ≡ old.outbox → new.log ≡ old.log → new.desk.admitted ≡ old.desk.admitted + 1
      → new.desk.active ≡ slice_set old.desk.active flow.transaction.slot (Some (Acting 0 meeting)) → new.desk.sessions.items ≡ slice_set old.desk.sessions.items session left
      → Admits session number asked desk old new
  admits session number asked desk left old new flow works meeting there age same request held free begins recorded works_are first seat away catalog shards inbox outbox log admitted active sessions =
      let with_pass = asked_with desk.pass (λ was. with_asks was (asking number asked was.seen was.mine)) flow.transaction.pass there recorded in
      record {
        flow = flow;
        works = works;
        pass = with_pass.0;
        age = age;
        number_is = same;
        request = request;
        held = held;
        free = free;
        begins = begins;
        here = with_pass.1.0;
        pass_is = with_pass.1.1;
        works_are = works_are;
        catalog = catalog;
        shards = shards;
        inbox = inbox;
        outbox = outbox;
        log = log;
        admitted = admitted;
        active = active ∙ ap (λ (slots : List (Option (Report J))). slice_set old.desk.active flow.transaction.slot (Some (Acting 0 slots))) first;
        sessions = sessions ∙ ap (slice_set old.desk.sessions.items session) (left_at left desk.seat.session flow.transaction.pass seat away);
      }
