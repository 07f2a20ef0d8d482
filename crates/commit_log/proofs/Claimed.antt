-- A transaction that was carried out under claims leaves a log kept.
use Rattle.std.proofs.Common.{◌≡◌, ℕ, List, [], ◌∷◌, ◌++◌, map, refl, sym, ap, subst, ◌∙◌}
use Rattle.std.specs.List.{All}
use Rattle.std.proofs.lemmas.List.Elements.{All-push, All-weaker}
use Rattle.schema.specs.Database.{Database}
use Rattle.requests.specs.declared.group.Group.{Group}
use Rattle.requests.specs.declared.reply.Fault.{Fault}
use Rattle.requests.specs.declared.reply.Reply.{Reply}
use Rattle.requests.specs.declared.reply.Reply.TheVariants.{Done, RolledBack}
use Rattle.requests.specs.Check.{IsAccepted}
use Rattle.groups.specs.Content.{Content, content}
use Rattle.machine.specs.Machine.{transaction, replies, tables_after}
use Rattle.machine.proofs.RequestLaws.{tables_after-scale, tables_after-items}
use Rattle.tickets.specs.Claims.{ClaimView}
use Rattle.tickets.specs.LogSeats.{CommittedGroup, SeatsRecord, IsRecordedIn}
use Rattle.tickets.proofs.Settling.{recorded_records, settled_record}
use Rattle.commit_log.specs.declared.entry.Entry.{Entry}
use Rattle.commit_log.specs.Log.{requests_of}
use Rattle.commit_log.specs.Items.{entry_of}
use Rattle.commit_log.specs.Claimed.{contents_logged, claims_logged, seats_logged, IsCarriedOut, IsKept}
use Rattle.commit_log.proofs.Legal.{replies-append, tables_after-append, map_push}

-- the seats record what is committed then
seats_record : (reply : Reply) (tables : Group → Content) (claims : List ClaimView) (seats : List CommittedGroup) → SeatsRecord tables seats → SeatsRecord (contents_logged reply tables claims) (seats_logged reply claims seats)
seats_record (Done shown) tables claims seats records = settled_record tables seats claims records
seats_record (RolledBack fault) tables claims seats records = records

pub kept_after : (opening : Database) (entries : List Entry) (seats : List CommittedGroup) (claims : List ClaimView) (entry : Entry)
    → IsKept opening entries seats → All (IsRecordedIn seats) claims → IsAccepted opening.scale entry.request → IsCarriedOut opening entry.request claims entry.reply
    → IsKept opening (entries ++ entry ∷ []) (seats_logged entry.reply claims seats)
kept_after opening entries seats claims entry h recorded accepted carried_out =
    let asked = map_push (λ (e : Entry). e.request) entries entry in
    let last = tables_after opening (requests_of entries) in
    let next_is : tables_after opening (requests_of (entries ++ entry ∷ [])) ≡ (transaction last entry.request).tables =
    ap (tables_after opening) asked ∙ tables_after-append opening (requests_of entries) entry.request in
    let said = carried_out last (tables_after-scale opening (requests_of entries)) (tables_after-items opening (requests_of entries)) (recorded_records (content last) seats claims h.committed recorded) in
    let now = seats_logged entry.reply claims seats in
    record {
      accepted = All-push (λ (e : Entry). IsAccepted opening.scale e.request) entries entry h.accepted accepted;
      replied =
          map_push (λ (e : Entry). e.reply) entries entry
          ∙ ap (λ l. l ++ entry.reply ∷ []) h.replied
          ∙ ap (λ (r : Reply). replies opening (requests_of entries) ++ r ∷ []) (sym said.0)
          ∙ sym (replies-append opening (requests_of entries) entry.request)
          ∙ ap (replies opening) (sym asked);
      committed = subst (λ (t : Database). SeatsRecord (content t) now) (sym next_is)
          (All-weaker (λ (seat : CommittedGroup). contents_logged entry.reply (content last) claims seat.group ≡ seat.content) (λ (seat : CommittedGroup). content (transaction last entry.request).tables seat.group ≡ seat.content)
          (λ seat records. said.1 seat.group ∙ records) now (seats_record entry.reply (content last) claims seats h.committed));
    }

-- the same, where the entry was logged with the pass's session
pub kept_logged : (opening : Database) (before now after : List Entry) (seats new_seats : List CommittedGroup) (claims : List ClaimView) (entry : Entry) (session : ℕ)
    → IsKept opening before seats → All (IsRecordedIn seats) claims → IsAccepted opening.scale entry.request → IsCarriedOut opening entry.request claims entry.reply
    → now ≡ before → session ≡ entry.session → after ≡ now ++ entry_of session entry.number entry.request entry.reply ∷ []
    → new_seats ≡ seats_logged entry.reply claims seats
    → IsKept opening after new_seats
kept_logged opening before now after seats new_seats claims entry session h recorded accepted carried_out same_entries same_session after_is seats_are =
    let entries_are : after ≡ before ++ entry ∷ [] =
    after_is ∙ ap (λ (l : List Entry). l ++ entry_of session entry.number entry.request entry.reply ∷ []) same_entries
    ∙ ap (λ (s : ℕ). before ++ entry_of s entry.number entry.request entry.reply ∷ []) same_session in
    subst (λ (l : List Entry). IsKept opening l new_seats) (sym entries_are)
    (subst (IsKept opening (before ++ entry ∷ [])) (sym seats_are) (kept_after opening before seats claims entry h recorded accepted carried_out))

-- the claims of a transaction that was rolled back are as they were
pub all_stay : (fault : Fault) (held : List (List ClaimView)) → map (claims_logged (RolledBack fault)) held ≡ held
all_stay fault [] = refl
all_stay fault (claims ∷ held) = ap (λ rest. claims ∷ rest) (all_stay fault held)
