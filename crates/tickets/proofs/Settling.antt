-- The log's seats and claims are gone through one after another.
use Rattle.std.proofs.Common.{◌≡◌, ℕ, ◌+◌, ◌-◌, ◌<◌, ◌≤◌, List, [], ◌∷◌, ◌++◌, length, get_or, set, map, take, drop, refl, sym, ap, ◌∙◌, subst, append_assoc, arith}
use Rattle.std.proofs.lemmas.List.{append-nil, get_or-append_right, get_or-drop, get_or_default, length-map, length-take-le, take_more}
use Rattle.std.proofs.lemmas.List.Edits.{map_over_more}
use Rattle.std.proofs.lemmas.List.Elements.{All-nil, All-head, All-tail, All-append, All-contains, All-map}
use Rattle.std.proofs.lemmas.Simd.{map-map}
use Rattle.std.specs.List.{HoldsAt, All}
use Rattle.requests.specs.declared.group.Group.{Group}
use Rattle.groups.specs.Content.{Content}
use Rattle.tickets.specs.Claims.{ClaimView, settled, all_claims}
use Rattle.tickets.specs.Committed.{content_after, contents_after, after_claims, all_settled, Records}
use Rattle.tickets.specs.LogSeats.{CommittedGroup, committed, with_content, after_one, after_all, IsRecordedIn, SeatsRecord}

-- a claim that was looked at is recorded in the seats
pub recorded_at : (seats now : List CommittedGroup) (claims looked : List ClaimView) (k : ℕ) (x : ClaimView) → now ≡ seats → looked ≡ claims → k < length claims → IsRecordedIn now (get_or looked k x) → HoldsAt (IsRecordedIn seats) claims k
recorded_at seats now claims looked k x same_seats same_claims here recorded = λ d.
    subst (λ s. IsRecordedIn s (get_or claims k d)) same_seats
    (subst (IsRecordedIn now) (ap (λ cs. get_or cs k x) same_claims ∙ get_or_default claims k x d here) recorded)

-- the next of these is as it was before the loop, which made f of each of the others so far
at_turn : {X : Type 0} (f : X → X) (xs now : List X) (k : ℕ) (d : X) → k ≤ length xs → now ≡ map f (take k xs) ++ drop k xs → get_or now k d ≡ get_or xs k d
at_turn f xs now k d small is =
    let long : length (map f (take k xs)) ≡ k = length-map (take k xs) f ∙ length-take-le k xs small in
    let at : k + (k - k) ≡ k = omega arith in
    ap (λ l. get_or l k d) is ∙ get_or-append_right (map f (take k xs)) (drop k xs) k k d long (omega arith) ∙ get_or-drop k xs (k - k) d ∙ ap (λ n. get_or xs n d) at

contents_after-append : (group : Group) (content : Content) (claims more : List ClaimView) → contents_after group content (claims ++ more) ≡ contents_after group (contents_after group content claims) more
contents_after-append group content [] more = refl
contents_after-append group content (c ∷ cs) more = contents_after-append group (content_after group content c) cs more

seats_more : (seats : List CommittedGroup) (claims more : List ClaimView) → map (after_all more) (map (after_all claims) seats) ≡ map (after_all (claims ++ more)) seats
seats_more seats claims more =
    map-map (after_all more) (after_all claims) seats
    ∙ (λ i. map (λ (seat : CommittedGroup). with_content seat (sym (contents_after-append seat.group seat.content claims more) i)) seats)

pub no_claims : (seats : List CommittedGroup) → seats ≡ map (after_all []) seats
no_claims [] = refl
no_claims (seat ∷ seats) = ap (λ rest. seat ∷ rest) (no_claims seats)

-- one claim more is settled
pub settle_turn : (seats now new : List CommittedGroup) (claims before : List ClaimView) (claim after : ClaimView) (k : ℕ) → k < length claims → now ≡ map (after_all (take k claims)) seats → before ≡ map settled (take k claims) ++ drop k claims → claim ≡ get_or before k claim
    → new ≡ map (after_one claim) now → after ≡ settled claim
    → (new ≡ map (after_all (take (k + 1) claims)) seats) × (set before k after ≡ map settled (take (k + 1) claims) ++ drop (k + 1) claims)
settle_turn seats now new claims before claim after k here are_now are_before at are_new is_after =
    let found : claim ≡ get_or claims k claim = at ∙ at_turn settled claims before k claim (omega arith) are_before in (
      are_new ∙ ap (map (after_one claim)) are_now ∙ seats_more seats (take k claims) (claim ∷ [])
          ∙ ap (λ cs. map (after_all cs) seats) (ap (λ c. take k claims ++ c ∷ []) found ∙ sym (take_more claims k claim here)),
      ap (set before k) is_after ∙ map_over_more settled claims before k claim here are_before at,
    )

-- ---- the claims of several actions

-- the claims of an action that were looked at are recorded in the seats
pub action_recorded : (seats now : List CommittedGroup) (held looked : List (List ClaimView)) (k : ℕ) (x : List ClaimView) → now ≡ seats → looked ≡ held → k < length held → All (IsRecordedIn now) (get_or looked k x) → HoldsAt (All (IsRecordedIn seats)) held k
action_recorded seats now held looked k x same_seats same_held here recorded = λ d.
    subst (λ s. All (IsRecordedIn s) (get_or held k d)) same_seats
    (subst (All (IsRecordedIn now)) (ap (λ cs. get_or cs k x) same_held ∙ get_or_default held k x d here) recorded)

-- what holds of each action's claims, holds of all
pub all_recorded : (P : ClaimView → Type 0) (held : List (List ClaimView)) → All (All P) held → All P (all_claims held)
all_recorded P [] each = All-nil P
all_recorded P (claims ∷ held) each = All-append P claims (all_claims held) (All-head (All P) claims held each) (all_recorded P held (All-tail (All P) claims held each))

all_claims-append : (held : List (List ClaimView)) (claims : List ClaimView) → all_claims (held ++ claims ∷ []) ≡ all_claims held ++ claims
all_claims-append [] claims = append-nil claims
all_claims-append (own ∷ held) claims = ap (λ rest. own ++ rest) (all_claims-append held claims) ∙ sym (append_assoc own (all_claims held) claims)

-- the claims of one action more are settled
pub settle_action_turn : (seats now new : List CommittedGroup) (held before : List (List ClaimView)) (claims after : List ClaimView) (k : ℕ) → k < length held → now ≡ map (after_all (all_claims (take k held))) seats → before ≡ map all_settled (take k held) ++ drop k held → claims ≡ get_or before k claims
    → new ≡ map (after_all claims) now → after ≡ all_settled claims
    → (new ≡ map (after_all (all_claims (take (k + 1) held))) seats) × (set before k after ≡ map all_settled (take (k + 1) held) ++ drop (k + 1) held)
settle_action_turn seats now new held before claims after k here are_now are_before at are_new are_after =
    let found : claims ≡ get_or held k claims = at ∙ at_turn all_settled held before k claims (omega arith) are_before in
    let more : all_claims (take k held) ++ claims ≡ all_claims (take (k + 1) held) =
    sym (all_claims-append (take k held) claims) ∙ ap all_claims (ap (λ cs. take k held ++ cs ∷ []) found ∙ sym (take_more held k claims here)) in (
      are_new ∙ ap (map (after_all claims)) are_now ∙ seats_more seats (all_claims (take k held)) claims ∙ ap (λ cs. map (after_all cs) seats) more,
      ap (set before k) are_after ∙ map_over_more all_settled held before k claims here are_before at,
    )

-- ---- what the seats record

-- claims that are recorded in the seats record the tables' contents, if the seats do
pub recorded_records : (tables : Group → Content) (seats : List CommittedGroup) (claims : List ClaimView) → SeatsRecord tables seats → All (IsRecordedIn seats) claims → Records tables claims
recorded_records tables seats claims records recorded = λ k d in'.
    All-contains (λ (seat : CommittedGroup). tables seat.group ≡ seat.content) seats (committed (get_or claims k d).group (get_or claims k d).recorded) records (recorded k d in')

-- after claims are settled, the seats record the next tables
pub settled_record : (tables : Group → Content) (seats : List CommittedGroup) (claims : List ClaimView) → SeatsRecord tables seats → SeatsRecord (after_claims tables claims) (map (after_all claims) seats)
settled_record tables seats claims records =
    All-map (λ (seat : CommittedGroup). after_claims tables claims seat.group ≡ seat.content) (after_all claims) seats
    (λ k d in'. ap (λ content. contents_after (get_or seats k d).group content claims) (records k d in'))
