-- A line is cut byte by byte.
use Rattle.std.proofs.Common.{◌≡◌, ◌≢◌, ◌≤◌, ◌<◌, ◌+◌, ◌-◌, ◌==◌, ◌⊎◌, inl, inr, length-drop, take_all, ℕ, zero, suc, List, [], ◌∷◌, ◌++◌, take, drop, length, get_or, true, false, cond, refl, ap, ◌∙◌, arith}
use Rattle.std.proofs.lemmas.List.{take_more, drop-append-le, drop_all, length-take-le, map-append}
use Rattle.std.proofs.lemmas.List.Sums.{sum_by-append}
use Rattle.std.proofs.lemmas.Bool.Decides.{nat_tests}
use Rattle.csv.specs.Machine.{Feeds, step, next_record}
use Rattle.csv.specs.Reading.{default_config}
use Rattle.csv.specs.declared.parser.State.{State}
use Rattle.csv.specs.declared.parser.State.TheVariants as st
use Rattle.csv.specs.declared.parser.Action.TheVariants as act
use Rattle.csv.proofs.ReadFacts.{feeds-push}
use Rattle.files.specs.declared.span.Span.{Span}
use Rattle.files.specs.Span.{part, parts, record_size}
use Rattle.files.specs.declared.line.Mark.TheVariants as mark
use Rattle.files.specs.Marks.{ArePlain, IsNextMark}
use Rattle.files.specs.Line.{BeginsRecord, IsMark, IsBetween, IsOpen, IsWhole, is_in_record}

-- the state of a line at an index, if its field begins at the other index
pub line_state : ℕ → ℕ → State
line_state from zero = st.StartRecord
line_state from (suc to) = cond (from == suc to) st.StartField st.InField

-- a byte that is neither a comma nor a line's end nor a quotation mark joins the field
plain_step : (from to byte : ℕ) → byte ≢ 44 → byte ≢ 34 → byte ≢ 10 → byte ≢ 13 → step default_config (line_state from to) byte ≡ (st.InField, act.Copy)
unfolding line_state
plain_step from zero byte comma quote feed return = grind (arith, nat_tests)
plain_step from (suc to) byte comma quote feed return =
    elim (from == suc to) as (λ b. step default_config (cond b st.StartField st.InField) byte ≡ (st.InField, act.Copy)) [ true ↦ grind (arith, nat_tests) | false ↦ grind (arith, nat_tests) ]

comma_step : (from to : ℕ) → step default_config (line_state from to) 44 ≡ (st.StartField, act.EndField)
unfolding line_state
comma_step from zero = refl
comma_step from (suc to) = elim (from == suc to) as (λ b. step default_config (cond b st.StartField st.InField) 44 ≡ (st.StartField, act.EndField)) [ true ↦ refl | false ↦ refl ]

feed_step : (from to : ℕ) → 0 < to → step default_config (line_state from to) 10 ≡ (st.StartRecord, act.EndRecord)
unfolding line_state
feed_step from zero some = absurd (omega arith)
feed_step from (suc to) some = elim (from == suc to) as (λ b. step default_config (cond b st.StartField st.InField) 10 ≡ (st.StartRecord, act.EndRecord)) [ true ↦ refl | false ↦ refl ]

return_step : (from to : ℕ) → 0 < to → step default_config (line_state from to) 13 ≡ (st.AfterCr, act.EndRecord)
unfolding line_state
return_step from zero some = absurd (omega arith)
return_step from (suc to) some = elim (from == suc to) as (λ b. step default_config (cond b st.StartField st.InField) 13 ≡ (st.AfterCr, act.EndRecord)) [ true ↦ refl | false ↦ refl ]

-- after a carriage return a record begins as at the start of a text
pub after_return : IsBetween st.AfterCr
unfolding next_record
after_return [] = refl
after_return (byte ∷ text) = elim (byte == 10) as (λ b. byte == 10 ≡ b → next_record default_config st.AfterCr [] [] (byte ∷ text) ≡ next_record default_config st.StartRecord [] [] (byte ∷ text)) [ true ↦ λ e. let same : byte ≡ 10 = grind (arith, nat_tests) in rw same refl | false ↦ λ e. rw e refl ] refl

-- the bytes before a place were cut, and the field in flight begins there
pub record IsCutSoFar (bytes : List ℕ) (spans : List Span) (from to : ℕ) : Type 0 where
  pub ordered : from ≤ to
  pub fed : Feeds default_config st.StartRecord [] [] (take to bytes) (line_state from to) (parts bytes spans) (drop from (take to bytes)) false
  pub size : record_size (parts bytes spans) ≡ from

in_field_next : (from to : ℕ) → from ≤ to → line_state from (to + 1) ≡ st.InField
unfolding line_state
in_field_next from to ordered =
    let next : to + 1 ≡ suc to = omega arith in
    let other : (from == suc to) ≡ false = grind (arith, nat_tests) in
    rw (next, other) refl

start_field_next : (to : ℕ) → line_state (to + 1) (to + 1) ≡ st.StartField
unfolding line_state
start_field_next to =
    let next : to + 1 ≡ suc to = omega arith in
    let same : (suc to == suc to) ≡ true = grind (arith, nat_tests) in
    rw (next, same) refl

-- the field in flight, with one more byte
field_next : (bytes : List ℕ) (from to : ℕ) → from ≤ to → to < length bytes → drop from (take (to + 1) bytes) ≡ drop from (take to bytes) ++ (get_or bytes to 0 ∷ [])
field_next bytes from to ordered inside =
    let held : length (take to bytes) ≡ to = length-take-le to bytes (omega arith) in
    ap (drop from) (take_more bytes to 0 inside) ∙ drop-append-le from (take to bytes) (get_or bytes to 0 ∷ []) (omega arith)

parts_more : (bytes : List ℕ) (spans : List Span) (span : Span) → parts bytes (spans ++ (span ∷ [])) ≡ parts bytes spans ++ (part bytes span ∷ [])
parts_more bytes spans span = map-append (part bytes) spans (span ∷ [])

size_more : (fields : List (List ℕ)) (field : List ℕ) → record_size (fields ++ (field ∷ [])) ≡ record_size fields + (length field + 1)
size_more fields field = sum_by-append (λ f. length f + 1) fields (field ∷ []) ∙ ap (λ n. record_size fields + n) (omega arith)

length_field : (bytes : List ℕ) (from to : ℕ) → to ≤ length bytes → length (drop from (take to bytes)) ≡ to - from
length_field bytes from to within =
    let held : length (take to bytes) ≡ to = length-take-le to bytes within in
    length-drop from (take to bytes) ∙ ap (λ n. n - from) held

pub so_far_start : (bytes : List ℕ) (spans : List Span) → spans ≡ [] → IsCutSoFar bytes spans 0 0
unfolding Feeds line_state
so_far_start bytes spans none = rw none (record { ordered = omega arith; fed = (refl, refl, refl, refl); size = refl })

so_far_plain : (bytes : List ℕ) (spans : List Span) (from to : ℕ) → IsCutSoFar bytes spans from to → to < length bytes
    → step default_config (line_state from to) (get_or bytes to 0) ≡ (st.InField, act.Copy) → IsCutSoFar bytes spans from (to + 1)
so_far_plain bytes spans from to h inside stepped =
    let fed = rw stepped at (feeds-push default_config st.StartRecord (line_state from to) [] (parts bytes spans) [] (drop from (take to bytes)) (take to bytes) (get_or bytes to 0) h.fed) in
    record {
      ordered = let low = h.ordered in omega arith;
      fed = rw (in_field_next from to h.ordered, field_next bytes from to h.ordered inside, take_more bytes to 0 inside) fed;
      size = h.size;
    }

-- bytes above a comma join the field
so_far_run : (bytes : List ℕ) (spans : List Span) (from at n to : ℕ) → at + n ≡ to → to ≤ length bytes → ((k : ℕ) → at ≤ k → k < to → 44 < get_or bytes k 0)
    → IsCutSoFar bytes spans from at → IsCutSoFar bytes spans from to
so_far_run bytes spans from at zero to e inside plain h =
    let same : at ≡ to = omega arith in
    rw same at h
so_far_run bytes spans from at (suc n) to e inside plain h =
    let last : at + n + 1 ≡ to = omega arith in
    let above = plain (at + n) (omega arith) (omega arith) in
    let before = so_far_run bytes spans from at n (at + n) refl (omega arith) (λ k low high. plain k low (omega arith)) h in
    rw last at (so_far_plain bytes spans from (at + n) before (omega arith)
    (plain_step from (at + n) (get_or bytes (at + n) 0) (λ e. absurd (omega arith)) (λ e. absurd (omega arith)) (λ e. absurd (omega arith)) (λ e. absurd (omega arith))))

-- where no byte is a mark nothing ends
pub so_far_plain_run : (bytes : List ℕ) (spans : List Span) (from at to : ℕ) → IsCutSoFar bytes spans from at → at ≤ to → to ≤ length bytes → ArePlain bytes at to → IsCutSoFar bytes spans from to
so_far_plain_run bytes spans from at to h ordered within plain = so_far_run bytes spans from at (to - at) to (omega arith) within plain h

-- up to the next mark nothing ends
pub so_far_mark : (bytes : List ℕ) (spans : List Span) (from at to : ℕ) → IsCutSoFar bytes spans from at → IsNextMark bytes at to → IsCutSoFar bytes spans from to
so_far_mark bytes spans from at to h next =
    let inside = next.inside in
    so_far_plain_run bytes spans from at to h next.low (omega arith) next.plain

pub so_far_comma : (bytes : List ℕ) (spans : List Span) (from to : ℕ) → IsCutSoFar bytes spans from to → to < length bytes
    → get_or bytes to 0 ≡ 44 → IsCutSoFar bytes (spans ++ (record { from = from; to = to } ∷ [])) (to + 1) (to + 1)
so_far_comma bytes spans from to h inside comma =
    let low = h.ordered in
    let size = h.size in
    let span : Span = record { from = from; to = to } in
    let stepped : step default_config (line_state from to) (get_or bytes to 0) ≡ (st.StartField, act.EndField) = rw comma (comma_step from to) in
    let fed = rw stepped at (feeds-push default_config st.StartRecord (line_state from to) [] (parts bytes spans) [] (drop from (take to bytes)) (take to bytes) (get_or bytes to 0) h.fed) in
    let none : drop (to + 1) (take (to + 1) bytes) ≡ [] = drop_all (to + 1) (take (to + 1) bytes) (let held = length-take-le (to + 1) bytes (omega arith) in omega (arith, held)) in
    let long = length_field bytes from to (omega arith) in
    record {
      ordered = omega arith;
      fed = rw (start_field_next to, none, parts_more bytes spans span, take_more bytes to 0 inside) fed;
      size = ap record_size (parts_more bytes spans span) ∙ size_more (parts bytes spans) (part bytes span) ∙ omega (arith, size, long);
    }

whole : (bytes : List ℕ) (spans : List Span) (from to : ℕ) (after : State) → IsBetween after → IsCutSoFar bytes spans from to → to < length bytes
    → step default_config (line_state from to) (get_or bytes to 0) ≡ (after, act.EndRecord) → IsWhole bytes (spans ++ (record { from = from; to = to } ∷ [])) (to + 1)
whole bytes spans from to after between h inside stepped =
    let low = h.ordered in
    let size = h.size in
    let span : Span = record { from = from; to = to } in
    let fed = rw stepped at (feeds-push default_config st.StartRecord (line_state from to) [] (parts bytes spans) [] (drop from (take to bytes)) (take to bytes) (get_or bytes to 0) h.fed) in
    let long = length_field bytes from to (omega arith) in
    record {
      after = after;
      is_between = between;
      within = omega arith;
      fed = rw (parts_more bytes spans span, take_more bytes to 0 inside) fed;
      size = ap record_size (parts_more bytes spans span) ∙ size_more (parts bytes spans) (part bytes span) ∙ omega (arith, size, long);
    }

-- the first byte is not a line end
not_first : (bytes : List ℕ) (to : ℕ) → BeginsRecord bytes → (get_or bytes to 0 ≡ 10) ⊎ (get_or bytes to 0 ≡ 13) → 0 < to
not_first [] to h ends = absurd h
not_first (byte ∷ bytes) zero h (inl feed) = absurd (h.0 feed)
not_first (byte ∷ bytes) zero h (inr return) = absurd (h.1 return)
not_first (byte ∷ bytes) (suc to) h ends = omega arith

pub so_far_ends : (bytes : List ℕ) (spans : List Span) (from to : ℕ) → BeginsRecord bytes → IsCutSoFar bytes spans from to → to < length bytes
    → (get_or bytes to 0 ≡ 10) ⊎ (get_or bytes to 0 ≡ 13) → IsWhole bytes (spans ++ (record { from = from; to = to } ∷ [])) (to + 1)
so_far_ends bytes spans from to begins h inside (inl feed) =
    whole bytes spans from to st.StartRecord (λ text. refl) h inside (rw feed (feed_step from to (not_first bytes to begins (inl feed))))
so_far_ends bytes spans from to begins h inside (inr return) =
    whole bytes spans from to st.AfterCr after_return h inside (rw return (return_step from to (not_first bytes to begins (inr return))))

open_state : (from to : ℕ) → 0 < to → is_in_record (line_state from to) ≡ true
unfolding line_state
open_state from zero some = absurd (omega arith)
open_state from (suc to) some = elim (from == suc to) as (λ b. is_in_record (cond b st.StartField st.InField) ≡ true) [ true ↦ refl | false ↦ refl ]

some_bytes : (bytes : List ℕ) → BeginsRecord bytes → 0 < length bytes
some_bytes [] h = absurd h
some_bytes (byte ∷ bytes) h = omega arith

pub so_far_open : (bytes : List ℕ) (spans : List Span) (from to : ℕ) → BeginsRecord bytes → IsCutSoFar bytes spans from to → to ≡ length bytes → IsOpen bytes spans from
so_far_open bytes spans from to begins h all =
    let low = h.ordered in
    let some = some_bytes bytes begins in
    let whole : take to bytes ≡ bytes = take_all to bytes (omega arith) in
    record {
      after = line_state from to;
      in_record = open_state from to (omega arith);
      within = omega arith;
      fed = rw whole at h.fed;
      size = h.size;
    }

-- a byte that is only one of its field's
pub so_far_byte : (bytes : List ℕ) (spans : List Span) (from to : ℕ) → IsCutSoFar bytes spans from to → to < length bytes
    → IsMark (get_or bytes to 0) mark.Plain → IsCutSoFar bytes spans from (to + 1)
so_far_byte bytes spans from to h inside plain = so_far_plain bytes spans from to h inside (plain_step from to (get_or bytes to 0) plain.0 plain.1 plain.2 plain.3)
