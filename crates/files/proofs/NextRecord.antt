-- The next record of a text is found.
use Rattle.std.specs.Prelude.{if◌then◌else◌}
use Rattle.std.proofs.Common.{◌≡◌, inl, ◌≤◌, ◌<◌, ◌+◌, ℕ, List, [], ◌∷◌, ◌++◌, take, drop, length, Bool, true, false, Option, Some, None, refl, sym, ap, subst, ◌∙◌, arith, append-nil, length-append, length-drop}
use Rattle.std.proofs.lemmas.List.{take-append-drop, drop_all}
use Rattle.std.specs.Io.KnownBytes.{IsAtEnd, Keeps, prepend_known}
use Rattle.csv.specs.Machine.{ends_at_end, field_after, fields_after, is_end, next_record, step}
use Rattle.csv.specs.Reading.{ReadsNext, default_config}
use Rattle.csv.specs.declared.parser.Action.{Action}
use Rattle.csv.specs.declared.parser.Action.TheVariants as act
use Rattle.csv.specs.declared.parser.State.{State}
use Rattle.csv.specs.declared.parser.State.TheVariants as st
use Rattle.csv.proofs.ReadFacts.{Tracks, tracks-fed, tracks-fed-end, tracks-last, tracks-none, tracks-start}
use Rattle.files.specs.declared.span.Span.{Span}
use Rattle.files.specs.Line.{IsOpen, IsWhole, is_in_record}
use Rattle.files.specs.Place.{FindsLonger, NextIsTooLong}
use Rattle.files.specs.Unquoted.{FieldsInTurn, machine_state}
use Rattle.files.specs.declared.unquoted.State.{State as OwnState}
use Rattle.files.specs.declared.unquoted.State.TheVariants as own
use Rattle.files.specs.Span.{parts, record_size}
use Rattle.files.proofs.Unquoting.{ended_parts, size_of_more, stepped_in}

-- a text that is kept reads as before
pub reads_kept : (s s2 : State) (before mid now : Option (List ℕ)) (found : Bool) (fields : List (List ℕ)) → Keeps before mid
    → ReadsNext default_config s mid now found fields s2 → ReadsNext default_config s before now found fields s2
reads_kept s s2 None mid now found fields keeps reads = tt
reads_kept s s2 (Some xs) None now found fields keeps reads = absurd keeps
reads_kept s s2 (Some xs) (Some ys) now found fields keeps reads = subst (λ t. ReadsNext default_config s (Some t) now found fields s2) keeps reads

-- a text that is kept, or that continues in the same way, has the same next record
pub too_long_kept : (before mid now : Option (List ℕ)) → Keeps before mid → Tracks default_config st.StartRecord mid st.StartRecord [] [] now
    → NextIsTooLong now → NextIsTooLong before
too_long_kept None mid now keeps tracks long = tt
too_long_kept (Some xs) None now keeps tracks long = absurd keeps
too_long_kept (Some xs) (Some ys) None keeps tracks long = absurd tracks
too_long_kept (Some xs) (Some ys) (Some zs) keeps tracks long = subst (λ t. NextIsTooLong (Some t)) keeps (rw tracks long)

-- the bytes in memory are where a record's reading begins
starts : (hand : List ℕ) (known : Option (List ℕ)) (x rest : List ℕ) → hand ≡ x ++ rest
    → Tracks default_config st.StartRecord (prepend_known hand known) st.StartRecord [] [] (prepend_known (x ++ rest) known)
starts hand known x rest e = subst (λ h. Tracks default_config st.StartRecord (prepend_known hand known) st.StartRecord [] [] (prepend_known h known)) e (tracks-start default_config st.StartRecord (prepend_known hand known))

-- a whole record was cut
pub reads_whole : (hand : List ℕ) (known : Option (List ℕ)) (spans : List Span) (count : ℕ) (w : IsWhole hand spans count)
    → ReadsNext default_config st.StartRecord (prepend_known hand known) (prepend_known (drop count hand) known) true (parts hand spans) w.after
reads_whole hand known spans count w =
    tracks-fed-end default_config st.StartRecord st.StartRecord w.after [] (parts hand spans) [] [] (take count hand) (drop count hand) (prepend_known hand known) known
    (starts hand known (take count hand) (drop count hand) (sym (take-append-drop count hand))) w.fed

-- a line without an end was cut
open_tracks : (hand : List ℕ) (known : Option (List ℕ)) (spans : List Span) (from : ℕ) (o : IsOpen hand spans from)
    → Tracks default_config st.StartRecord (prepend_known hand known) o.after (parts hand spans) (drop from hand) (prepend_known [] known)
open_tracks hand known spans from o =
    tracks-fed default_config st.StartRecord st.StartRecord o.after [] (parts hand spans) [] (drop from hand) hand [] (prepend_known hand known) known
    (starts hand known hand [] (sym (append-nil hand))) o.fed

ends : (s : State) → is_in_record s ≡ true → ends_at_end s ≡ true
ends st.StartRecord h = cc h
ends st.StartField h = refl
ends st.InField h = refl
ends st.InQuoted h = refl
ends st.AfterQuote h = refl
ends st.InEscape h = refl
ends st.InComment h = refl
ends st.AfterCr h = cc h

pub reads_last : (hand : List ℕ) (known : Option (List ℕ)) (spans : List Span) (from : ℕ) → IsOpen hand spans from → IsAtEnd known
    → ReadsNext default_config st.StartRecord (prepend_known hand known) (prepend_known (drop (length hand) hand) known) true
    (parts hand (spans ++ (record { from = from; to = length hand } ∷ []))) st.StartRecord
reads_last hand known spans from o at_end =
    let none : drop (length hand) hand ≡ [] = drop_all (length hand) hand (omega arith) in
    rw (none, ended_parts hand from spans) (tracks-last default_config st.StartRecord o.after (parts hand spans) (drop from hand) (prepend_known hand known) known
    (ends o.after o.in_record) at_end (open_tracks hand known spans from o))

pub last_size : (hand : List ℕ) (spans : List Span) (from : ℕ) → IsOpen hand spans from → record_size (parts hand (spans ++ (record { from = from; to = length hand } ∷ []))) ≡ length hand + 1
last_size hand spans from o =
    let size = o.size in
    let within = o.within in
    let long = length-drop from hand in
    ap record_size (ended_parts hand from spans) ∙ size_of_more (parts hand spans) (drop from hand) ∙ omega (arith, size, long)

longer_step : (size : ℕ) (s2 : State) (a : Action) (fields : List (List ℕ)) (field : List ℕ) (byte : ℕ) (text : List ℕ) → (is_end a ≡ false → is_in_record s2 ≡ true)
    → size ≤ record_size fields + length field
    → ((f : List (List ℕ)) (p : List ℕ) → is_in_record s2 ≡ true → size ≤ record_size f + length p → FindsLonger size (next_record default_config s2 f p text))
    → FindsLonger size (if is_end a then Some (fields_after a fields field, s2, text) else next_record default_config s2 (fields_after a fields field) (field_after a byte field) text)
longer_step size s2 act.Skip fields field byte text goes low more = more fields field (goes refl) low
longer_step size s2 act.Copy fields field byte text goes low more =
    let long = length-append field (byte ∷ []) in more fields (field ++ (byte ∷ [])) (goes refl) (omega (arith, long))
longer_step size s2 act.EndField fields field byte text goes low more =
    let bigger = size_of_more fields field in more (fields ++ (field ∷ [])) [] (goes refl) (omega (arith, bigger))
longer_step size s2 act.EndRecord fields field byte text goes low more = let bigger = size_of_more fields field in omega (arith, bigger)

-- a record that was begun is found, and has more bytes than it has so far, by the end of a field
finds_longer : (size : ℕ) (s : State) (fields : List (List ℕ)) (field text : List ℕ) → is_in_record s ≡ true → size ≤ record_size fields + length field
    → FindsLonger size (next_record default_config s fields field text)
unfolding next_record
finds_longer size s fields field [] in_record low = rw (ends s in_record) (let more = size_of_more fields field in omega (arith, more))
finds_longer size s fields field (byte ∷ text) in_record low =
    longer_step size (step default_config s byte).0 (step default_config s byte).1 fields field byte text (stepped_in s byte (inl in_record)) low
    (λ f p still long. finds_longer size (step default_config s byte).0 f p text still long)

pub tracks_too_long : (s : State) (before now : Option (List ℕ)) (fields : List (List ℕ)) (field : List ℕ) → Tracks default_config st.StartRecord before s fields field now
    → is_in_record s ≡ true → 65536 ≤ record_size fields + length field → NextIsTooLong before
tracks_too_long s None now fields field tracks in_record long = tt
tracks_too_long s (Some xs) None fields field tracks in_record long = absurd tracks
tracks_too_long s (Some xs) (Some ys) fields field tracks in_record long = rw tracks (finds_longer 65536 s fields field ys in_record long)

pub open_too_long : (hand : List ℕ) (known : Option (List ℕ)) (spans : List Span) (from : ℕ) → IsOpen hand spans from → length hand ≡ 65536 → NextIsTooLong (prepend_known hand known)
open_too_long hand known spans from o full =
    let size = o.size in
    let within = o.within in
    let long = length-drop from hand in
    tracks_too_long o.after (prepend_known hand known) (prepend_known [] known) (parts hand spans) (drop from hand) (open_tracks hand known spans from o) o.in_record (omega (arith, size, long))

none_ends : (s : OwnState) → is_in_record (machine_state s) ≡ false → ends_at_end (machine_state s) ≡ false
none_ends own.StartRecord h = refl
none_ends own.AfterReturn h = refl
none_ends own.StartField h = cc h
none_ends own.InField h = cc h
none_ends own.InQuoted h = cc h
none_ends own.AfterQuote h = cc h

-- the text has ended before a record
pub reads_none : (s : OwnState) (before known : Option (List ℕ)) (fields shown : List (List ℕ)) (field : List ℕ) → is_in_record (machine_state s) ≡ false → IsAtEnd known
    → Tracks default_config st.StartRecord before (machine_state s) fields field (prepend_known [] known) → ReadsNext default_config st.StartRecord before (prepend_known [] known) false shown st.StartRecord
reads_none s before known fields shown field none at_end tracks =
    tracks-none default_config st.StartRecord (machine_state s) st.StartRecord fields shown field before known (none_ends s none) at_end tracks

-- the text has ended in a record
pub reads_ended : (s : State) (before known : Option (List ℕ)) (bytes : List ℕ) (from : ℕ) (spans : List Span) → is_in_record s ≡ true → IsAtEnd known
    → Tracks default_config st.StartRecord before s (parts bytes spans) (drop from bytes) (prepend_known [] known)
    → ReadsNext default_config st.StartRecord before (prepend_known [] known) true (parts bytes (spans ++ (record { from = from; to = length bytes } ∷ []))) st.StartRecord
reads_ended s before known bytes from spans some at_end tracks =
    rw (ended_parts bytes from spans) (tracks-last default_config st.StartRecord s (parts bytes spans) (drop from bytes) before known (ends s some) at_end tracks)

-- a record that is taken byte by byte has too many of them
pub in_turn_too_long : (s : State) (before now : Option (List ℕ)) (bytes : List ℕ) (from : ℕ) (spans : List Span) → FieldsInTurn s bytes from spans → 65536 ≤ length bytes + length spans
    → Tracks default_config st.StartRecord before s (parts bytes spans) (drop from bytes) now → NextIsTooLong before
in_turn_too_long s before now bytes from spans h long tracks =
    let size = h.size in
    let begun = h.begun in
    let rest = length-drop from bytes in
    tracks_too_long s before now (parts bytes spans) (drop from bytes) tracks (h.in_record (omega arith)) (omega (arith, size, rest))

-- memory that is not full has room
pub not_full : (full : Bool) (size : ℕ) → full ≡ false → (size ≡ 65536 → full ≡ true) → size ≤ 65536 → size < 65536
not_full full size has_room known most = grind (arith, known)
