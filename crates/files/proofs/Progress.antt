-- How a reader proceeds through its text.
use Rattle.std.proofs.Common.{◌≡◌, ℕ, Bool, true, false, List, [], ◌∷◌, ◌++◌, drop, Option, Some, None, refl, sym, subst, ◌∙◌}
use Rattle.std.specs.Io.KnownBytes.{Keeps, prepend_known}
use Rattle.csv.specs.Machine.{Read, next_record}
use Rattle.csv.specs.Reading.{AreRecords, NextIs, Reached, ReadsNext, default_config, strip_bom}
use Rattle.csv.specs.declared.parser.State.{State}
use Rattle.csv.specs.declared.parser.State.TheVariants as state
use Rattle.files.specs.declared.records.Records.{Records}
use Rattle.files.specs.Line.{IsBetween}
use Rattle.files.specs.Place.{IsCsv, FindsLonger, FirstIsTooLong, HasRead, HasReadOn, HasLeft, HasLeftAfter, IsKept, IsNext, NextIsTooLong, record_fields, text_left}
use Rattle.files.specs.Source.{at_hand, is_begun, unread}
use Rattle.files.specs.Span.{parts}
use Rattle.files.specs.declared.span.Span.{Span}
use Rattle.csv.proofs.ReadFacts.{reads-false}
use Rattle.files.proofs.NextRecord.{reads_kept}

-- a record without quotation marks is in flight
pub next_plain : {R : Type 0} (remaining : R → Option (List ℕ)) (before : Option (List ℕ)) (r : Records R) (after : State) (hand rest : List ℕ) (spans : List Span)
    → is_begun r.source ≡ true → r.is_quoted ≡ false → at_hand r.source ≡ hand → drop r.taken hand ≡ rest → r.spans.items ≡ spans → IsBetween after
    → ReadsNext default_config state.StartRecord before (prepend_known rest (remaining r.source.reader)) true (parts hand spans) after → IsKept (parts hand spans)
    → IsNext remaining before true r
next_plain remaining before r after hand rest spans begun plain is_hand is_rest are_spans between reads kept = record {
  after = after;
  is_between = between;
  reads = rw (begun, plain, is_hand, is_rest, are_spans) reads;
  is_kept = λ _. rw (plain, is_hand, are_spans) kept;
}

-- a record with quotation marks is in flight
pub next_quoted : {R : Type 0} (remaining : R → Option (List ℕ)) (before : Option (List ℕ)) (r : Records R) (after : State) (bytes : List ℕ) (spans : List Span)
    → is_begun r.source ≡ true → r.is_quoted ≡ true → r.taken ≡ 0 → r.unquoted.bytes.items ≡ bytes → r.spans.items ≡ spans → IsBetween after
    → ReadsNext default_config state.StartRecord before (prepend_known (at_hand r.source) (remaining r.source.reader)) true (parts bytes spans) after → IsKept (parts bytes spans)
    → IsNext remaining before true r
next_quoted remaining before r after bytes spans begun quoted none are_bytes are_spans between reads kept = record {
  after = after;
  is_between = between;
  reads = rw (begun, quoted, none, are_bytes, are_spans) reads;
  is_kept = λ _. rw (quoted, are_bytes, are_spans) kept;
}

no_fields : (before now : Option (List ℕ)) (fields shown : List (List ℕ)) → ReadsNext default_config state.StartRecord before now false fields state.StartRecord
    → ReadsNext default_config state.StartRecord before now false shown state.StartRecord
no_fields before now fields shown reads = reads-false default_config state.StartRecord before now fields shown state.StartRecord state.StartRecord reads

-- there is no record any more
pub next_none : {R : Type 0} (remaining : R → Option (List ℕ)) (before : Option (List ℕ)) (r : Records R) (fields : List (List ℕ))
    → is_begun r.source ≡ true → r.taken ≡ 0 → at_hand r.source ≡ []
    → ReadsNext default_config state.StartRecord before (prepend_known [] (remaining r.source.reader)) false fields state.StartRecord → IsNext remaining before false r
next_none remaining before r fields begun none empty reads = record {
  after = state.StartRecord;
  is_between = λ text. refl;
  reads = no_fields before _ fields _ (rw (begun, none, empty) reads);
  is_kept = λ some. cc some;
}

-- what is read of a text is also read of one that is kept, or that continues in the same way
pub next_kept : {R : Type 0} (remaining : R → Option (List ℕ)) (before mid : Option (List ℕ)) (found : Bool) (r : Records R) → Keeps before mid
    → IsNext remaining mid found r → IsNext remaining before found r
next_kept remaining before mid found r keeps next = record {
  after = next.after;
  is_between = next.is_between;
  reads = reads_kept state.StartRecord next.after before mid (text_left remaining r) found (record_fields r) keeps next.reads;
  is_kept = next.is_kept;
}

-- a text whose record was left is unread
pub left_is_unread : {R : Type 0} (remaining : R → Option (List ℕ)) (r : Records R) → r.taken ≡ 0 → text_left remaining r ≡ unread remaining r.source
left_is_unread remaining r none = rw none refl

reached_more : (s s1 s2 : State) (xs ys zs : List ℕ) (rows : List (List (List ℕ))) (fields : List (List ℕ)) → Reached default_config s xs rows s1 ys
    → next_record default_config s1 [] [] ys ≡ Some (fields, s2, zs) → Reached default_config s xs (rows ++ (fields ∷ [])) s2 zs
unfolding Reached
reached_more s s1 s2 xs ys zs [] fields reached next =
    let same : next_record default_config s [] [] xs ≡ next_record default_config s1 [] [] ys = λ i. next_record default_config (reached.0 i) [] [] (reached.1 i) in
    ((fields, s2, zs), same ∙ next, refl, (refl, refl))
reached_more s s1 s2 xs ys zs (row ∷ rows) fields reached next =
    (reached.0, reached.1, reached.2, reached_more reached.0.1 s1 s2 reached.0.2 ys zs rows fields reached.3 next)

-- what a read gives, where there is a record
given : (read : Option Read) (fields : List (List ℕ)) (s : State) (ys : List ℕ) → NextIs read true fields s ys → read ≡ Some (fields, s, ys)
given None fields s ys h = cc h
given (Some p) fields s ys h = sym (λ i. Some (h.1 i, h.2 i, h.3 i))

not_given : (read : Option Read) (fields : List (List ℕ)) (s : State) (ys : List ℕ) → NextIs read false fields s ys → read ≡ None
not_given None fields s ys h = refl
not_given (Some p) fields s ys h = cc h.0

goes_on : (text left : List ℕ) (rows : List (List (List ℕ))) (found : Bool) (now : Option (List ℕ)) (fields : List (List ℕ)) (s after : State)
    → IsBetween s → Reached default_config state.StartRecord (strip_bom text) rows s left → ReadsNext default_config state.StartRecord (Some left) now found fields after
    → (found ≡ true → (ys : List ℕ) × (now ≡ Some ys) × Reached default_config state.StartRecord (strip_bom text) (rows ++ (fields ∷ [])) after ys)
    × (found ≡ false → IsCsv text rows)
goes_on text left rows found None fields s after between reached reads = absurd reads
goes_on text left rows true (Some ys) fields s after between reached reads =
    (λ e. (ys, refl, reached_more state.StartRecord s after (strip_bom text) left ys rows fields reached (between left ∙ given _ fields after ys reads)), λ e. cc e)
goes_on text left rows false (Some ys) fields s after between reached reads =
    (λ e. cc e, λ e. (s, left, reached, between left ∙ not_given _ fields after ys reads))

-- one more record was read, or there was none
pub read_on : {R : Type 0} (remaining : R → Option (List ℕ)) (text : List ℕ) (rows : List (List (List ℕ))) (found : Bool) (old new : Records R)
    → IsNext remaining (text_left remaining old) found new → HasRead remaining text rows old → HasReadOn remaining text rows found new
read_on remaining text rows true old new next h =
    let on = goes_on text h.left rows true (text_left remaining new) (record_fields new) h.after next.after h.is_between h.reached (rw h.source at next.reads) in
    let more = on.0 refl in
    record { left = more.0; source = more.1; after = next.after; is_between = next.is_between; reached = more.2 }
read_on remaining text rows false old new next h =
    let on = goes_on text h.left rows false (text_left remaining new) (record_fields new) h.after next.after h.is_between h.reached (rw h.source at next.reads) in
    on.1 refl

-- the records from a state between records are those from the start
from_between : (s : State) (ys : List ℕ) (rows : List (List (List ℕ))) → IsBetween s → AreRecords default_config s ys rows → AreRecords default_config state.StartRecord ys rows
unfolding Reached
from_between s ys [] between are =
    let same : next_record default_config s [] [] ys ≡ next_record default_config are.0 [] [] are.1 = λ i. next_record default_config (are.2.0 i) [] [] (are.2.1 i) in
    (state.StartRecord, ys, (refl, refl), sym (between ys) ∙ same ∙ are.3)
from_between s ys (row ∷ rows) between are =
    (are.0, are.1, (are.2.0, sym (between ys) ∙ are.2.1, are.2.2, are.2.3), are.3)

-- what a read shows of the records that were left
abbrev NextLeft : List (List (List ℕ)) → Bool → List (List ℕ) → Option (List ℕ) → Type 0
NextLeft [] found fields known = found ≡ false
NextLeft (row ∷ rows) found fields known = (found ≡ true) × (fields ≡ row) × ((left : List ℕ) × (known ≡ Some left) × AreRecords default_config state.StartRecord left rows)

next_left : (after : State) (xs : List ℕ) (rows : List (List (List ℕ))) (found : Bool) (fields : List (List ℕ)) (known : Option (List ℕ)) → IsBetween after
    → ReadsNext default_config state.StartRecord (Some xs) known found fields after → AreRecords default_config state.StartRecord xs rows → NextLeft rows found fields known
unfolding Reached
next_left after xs rows found fields None between h a = absurd h
next_left after xs [] found fields (Some ys) between h a =
    let same : next_record default_config state.StartRecord [] [] xs ≡ next_record default_config a.0 [] [] a.1 = λ i. next_record default_config (a.2.0 i) [] [] (a.2.1 i) in
    subst (λ o. NextIs o found fields after ys) (same ∙ a.3) h
next_left after xs (row ∷ rows) found fields (Some ys) between h a =
    let next = a.2 in
    let read = subst (λ o. NextIs o found fields after ys) next.1 h in
    let reached : Reached default_config after ys rows a.0 a.1 =
    subst (λ t. Reached default_config t ys rows a.0 a.1) (sym read.2) (subst (λ zs. Reached default_config next.0.1 zs rows a.0 a.1) (sym read.3) next.3) in
    (read.0, read.1 ∙ sym next.2, (ys, refl, from_between after ys rows between (a.0, a.1, reached, a.3)))

-- the first of the records that were left is read
pub left_after : {R : Type 0} (remaining : R → Option (List ℕ)) (rows : List (List (List ℕ))) (found : Bool) (old new : Records R)
    → IsNext remaining (text_left remaining old) found new → HasLeft remaining rows old → HasLeftAfter remaining rows found new
left_after {R} remaining rows found old new next h =
    by rows (next_left next.after h.left rows found (record_fields new) (text_left remaining new) next.is_between (rw h.source at next.reads) h.are_left)
  where
    by : (rows : List (List (List ℕ))) → NextLeft rows found (record_fields new) (text_left remaining new) → HasLeftAfter remaining rows found new
    by [] n = n
    by (row ∷ rows) n = (n.0, n.1, record { left = n.2.0; source = n.2.1; are_left = n.2.2 })

first_too_long : (xs : List ℕ) (rows : List (List (List ℕ))) → FindsLonger 65536 (next_record default_config state.StartRecord [] [] xs) → AreRecords default_config state.StartRecord xs rows → FirstIsTooLong rows
unfolding Reached
first_too_long xs [] long a =
    let same : next_record default_config state.StartRecord [] [] xs ≡ next_record default_config a.0 [] [] a.1 = λ i. next_record default_config (a.2.0 i) [] [] (a.2.1 i) in
    subst (FindsLonger 65536) (same ∙ a.3) long
first_too_long xs (row ∷ rows) long a =
    let next = a.2 in
    let found = subst (FindsLonger 65536) next.1 long in
    rw next.2 found

-- the next record is the first of those that are left
pub first_left_too_long : {R : Type 0} (remaining : R → Option (List ℕ)) (rows : List (List (List ℕ))) (old : Records R)
    → NextIsTooLong (text_left remaining old) → HasLeft remaining rows old → FirstIsTooLong rows
first_left_too_long remaining rows old long h = first_too_long h.left rows (rw h.source at long) h.are_left

-- where none is found, none was left
pub none_was_left : {R : Type 0} (remaining : R → Option (List ℕ)) (rows : List (List (List ℕ))) (found : Bool) (old new : Records R) → found ≡ false
    → IsNext remaining (text_left remaining old) found new → HasLeft remaining rows old → rows ≡ []
none_was_left remaining [] found old new none next h = refl
none_was_left remaining (row ∷ rows) found old new none next h = let some = (left_after remaining (row ∷ rows) found old new next h).0 in absurd cc

-- where one is found, one was left
pub one_was_left : {R : Type 0} (remaining : R → Option (List ℕ)) (found : Bool) (old new : Records R) → found ≡ true
    → IsNext remaining (text_left remaining old) found new → HasLeft remaining [] old → ⊥
one_was_left remaining found old new some next h = let none = left_after remaining [] found old new next h in cc
