-- A record with quotation marks is taken byte by byte.
use Rattle.std.proofs.Common.{◌≡◌, ◌≢◌, ◌≤◌, ◌+◌, ◌⊎◌, inl, inr, ℕ, List, [], ◌∷◌, ◌++◌, drop, length, Bool, true, false, refl, ap, ◌∙◌, arith, take_all, length-drop, length-append}
use Rattle.std.proofs.lemmas.List.{drop-append-le, take-append-le, drop_all, map-append}
use Rattle.std.proofs.lemmas.List.Sums.{sum_by-append}
use Rattle.std.proofs.lemmas.Bool.Decides.{nat_tests}
use Rattle.std.specs.List.{AllByRecursion}
use Rattle.csv.specs.Machine.{Feeds, field_after, fields_after, is_end, step}
use Rattle.csv.specs.Reading.{default_config}
use Rattle.csv.specs.declared.parser.Action.{Action}
use Rattle.csv.specs.declared.parser.Action.TheVariants as act
use Rattle.csv.specs.declared.parser.State.{State}
use Rattle.csv.specs.declared.parser.State.TheVariants as st
use Rattle.csv.proofs.ReadFacts.{feeds-push}
use Rattle.files.specs.declared.span.Span.{Span}
use Rattle.files.specs.Line.{IsBetween, is_in_record}
use Rattle.files.proofs.Lines.{after_return}
use Rattle.files.specs.Span.{part, parts, record_size}
use Rattle.files.specs.Unquoted.{FieldsInTurn}

-- one byte is fed to the machine
pub feeds_one : (s s2 : State) (a : Action) (fields : List (List ℕ)) (field : List ℕ) (byte : ℕ) → (s2, a) ≡ step default_config s byte
    → Feeds default_config s fields field (byte ∷ []) s2 (fields_after a fields field) (field_after a byte field) (is_end a)
unfolding Feeds
feeds_one s s2 a fields field byte stepped =
    let first : s2 ≡ (step default_config s byte).0 = ap (λ (q : State × Action). q.0) stepped in
    let second : a ≡ (step default_config s byte).1 = ap (λ (q : State × Action). q.1) stepped in
    rw (first, second) (feeds-push default_config s s fields fields field field [] byte (refl, refl, refl, refl))

pub stepped_in : (s : State) (byte : ℕ) → (is_in_record s ≡ true) ⊎ ((step default_config s byte).1 ≢ act.Skip) → is_end (step default_config s byte).1 ≡ false
    → is_in_record (step default_config s byte).0 ≡ true
stepped_in st.StartRecord byte (inl never) goes = cc never
stepped_in st.StartRecord byte (inr acts) goes = grind (arith, nat_tests, acts)
stepped_in st.StartField byte h goes = grind (arith, nat_tests)
stepped_in st.InField byte h goes = grind (arith, nat_tests)
stepped_in st.InQuoted byte h goes = grind (arith, nat_tests)
stepped_in st.AfterQuote byte h goes = grind (arith, nat_tests)
stepped_in st.InEscape byte h goes = refl
stepped_in st.InComment byte (inl never) goes = cc never
stepped_in st.InComment byte (inr acts) goes = absurd (acts (grind (arith, nat_tests)))
stepped_in st.AfterCr byte (inl never) goes = cc never
stepped_in st.AfterCr byte (inr acts) goes = grind (arith, nat_tests, acts)

-- a record that has begun continues or ends
pub still_in_record : (s s2 : State) (a : Action) (byte : ℕ) → (s2, a) ≡ step default_config s byte → (is_in_record s ≡ true) ⊎ (a ≢ act.Skip) → is_end a ≡ false → is_in_record s2 ≡ true
still_in_record s s2 a byte stepped h goes =
    let first : s2 ≡ (step default_config s byte).0 = ap (λ (q : State × Action). q.0) stepped in
    let second : a ≡ (step default_config s byte).1 = ap (λ (q : State × Action). q.1) stepped in
    rw first (stepped_in s byte (rw second at h) (rw second at goes))

-- the field that ended where the bytes ended
part_to_end : (bytes : List ℕ) (from : ℕ) → part bytes (record { from = from; to = length bytes }) ≡ drop from bytes
part_to_end bytes from = ap (drop from) (take_all (length bytes) bytes (omega arith))

-- fields stay as they are while bytes come
parts_stay : (bytes more : List ℕ) (spans : List Span) → AllByRecursion (λ span. span.to ≤ length bytes) spans → parts (bytes ++ more) spans ≡ parts bytes spans
parts_stay bytes more [] h = refl
parts_stay bytes more (span ∷ spans) h =
    let one : part (bytes ++ more) span ≡ part bytes span = ap (drop span.from) (take-append-le span.to bytes more h.0) in
    rw (one, parts_stay bytes more spans h.1) refl

still_ended : (m n : ℕ) (spans : List Span) → m ≤ n → AllByRecursion (λ span. span.to ≤ m) spans → AllByRecursion (λ span. span.to ≤ n) spans
still_ended m n [] le h = tt
still_ended m n (span ∷ spans) le h = (let first = h.0 in omega arith, still_ended m n spans le h.1)

one_more_ended : (n : ℕ) (spans : List Span) (span : Span) → span.to ≤ n → AllByRecursion (λ s. s.to ≤ n) spans → AllByRecursion (λ s. s.to ≤ n) (spans ++ (span ∷ []))
one_more_ended n [] span le h = (le, tt)
one_more_ended n (first ∷ spans) span le h = (h.0, one_more_ended n spans span le h.1)

pub size_of_more : (fields : List (List ℕ)) (field : List ℕ) → record_size (fields ++ (field ∷ [])) ≡ record_size fields + (length field + 1)
size_of_more fields field = sum_by-append (λ f. length f + 1) fields (field ∷ []) ∙ ap (λ n. record_size fields + n) (omega arith)

pub fed_skip : (s s2 : State) (bytes : List ℕ) (from byte : ℕ) (spans : List Span) → (s2, act.Skip) ≡ step default_config s byte → FieldsInTurn s bytes from spans
    → FieldsInTurn s2 bytes from spans × Feeds default_config s (parts bytes spans) (drop from bytes) (byte ∷ []) s2 (parts bytes spans) (drop from bytes) false
fed_skip s s2 bytes from byte spans stepped h = (
  record { ended = h.ended; begun = h.begun; size = h.size; in_record = λ some. still_in_record s s2 act.Skip byte stepped (inl (h.in_record some)) refl },
  feeds_one s s2 act.Skip (parts bytes spans) (drop from bytes) byte stepped,
)

pub fed_copy : (s s2 : State) (bytes : List ℕ) (from byte : ℕ) (spans : List Span) → (s2, act.Copy) ≡ step default_config s byte → FieldsInTurn s bytes from spans
    → FieldsInTurn s2 (bytes ++ (byte ∷ [])) from spans
    × Feeds default_config s (parts bytes spans) (drop from bytes) (byte ∷ []) s2 (parts (bytes ++ (byte ∷ [])) spans) (drop from (bytes ++ (byte ∷ []))) false
fed_copy s s2 bytes from byte spans stepped h =
    let begun = h.begun in
    let long = length-append bytes (byte ∷ []) in
    let same = parts_stay bytes (byte ∷ []) spans h.ended in (
      record {
        ended = still_ended (length bytes) _ spans (omega (arith, long)) h.ended;
        begun = omega (arith, long);
        size = ap record_size same ∙ h.size;
        in_record = λ some. still_in_record s s2 act.Copy byte stepped (inr (λ e. cc e)) refl;
      },
      rw (same, drop-append-le from bytes (byte ∷ []) begun) (feeds_one s s2 act.Copy (parts bytes spans) (drop from bytes) byte stepped),
    )

pub ended_parts : (bytes : List ℕ) (from : ℕ) (spans : List Span) → parts bytes (spans ++ (record { from = from; to = length bytes } ∷ [])) ≡ parts bytes spans ++ (drop from bytes ∷ [])
ended_parts bytes from spans =
    let span : Span = record { from = from; to = length bytes } in
    map-append (part bytes) spans (span ∷ []) ∙ ap (λ f. parts bytes spans ++ (f ∷ [])) (part_to_end bytes from)

pub ended_size : (s : State) (bytes : List ℕ) (from : ℕ) (spans : List Span) → FieldsInTurn s bytes from spans
    → record_size (parts bytes (spans ++ (record { from = from; to = length bytes } ∷ []))) ≡ length bytes + (length spans + 1)
ended_size s bytes from spans h =
    let begun = h.begun in
    let size = h.size in
    let long = length-drop from bytes in
    ap record_size (ended_parts bytes from spans) ∙ size_of_more (parts bytes spans) (drop from bytes) ∙ omega (arith, size, long)

pub fed_end : (s s2 : State) (bytes : List ℕ) (from byte : ℕ) (spans : List Span) → (s2, act.EndField) ≡ step default_config s byte → FieldsInTurn s bytes from spans
    → let more = spans ++ (record { from = from; to = length bytes } ∷ []) in
    FieldsInTurn s2 bytes (length bytes) more
    × Feeds default_config s (parts bytes spans) (drop from bytes) (byte ∷ []) s2 (parts bytes more) (drop (length bytes) bytes) false
fed_end s s2 bytes from byte spans stepped h =
    let span : Span = record { from = from; to = length bytes } in
    let long = length-append spans (span ∷ []) in
    let size = ended_size s bytes from spans h in (
      record {
        ended = one_more_ended (length bytes) spans span (omega arith) h.ended;
        begun = omega arith;
        size = omega (arith, size, long);
        in_record = λ some. still_in_record s s2 act.EndField byte stepped (inr (λ e. cc e)) refl;
      },
      rw (ended_parts bytes from spans, drop_all (length bytes) bytes (omega arith)) (feeds_one s s2 act.EndField (parts bytes spans) (drop from bytes) byte stepped),
    )

pub fed_record : (s s2 : State) (bytes : List ℕ) (from byte : ℕ) (spans : List Span) → (s2, act.EndRecord) ≡ step default_config s byte → FieldsInTurn s bytes from spans
    → let more = spans ++ (record { from = from; to = length bytes } ∷ []) in
    Feeds default_config s (parts bytes spans) (drop from bytes) (byte ∷ []) s2 (parts bytes more) (drop (length bytes) bytes) true
fed_record s s2 bytes from byte spans stepped h =
    rw (ended_parts bytes from spans, drop_all (length bytes) bytes (omega arith)) (feeds_one s s2 act.EndRecord (parts bytes spans) (drop from bytes) byte stepped)

-- whether a record begins in a state as at the start of a text
abbrev is_between : State → Bool
is_between st.StartRecord = true
is_between st.AfterCr = true
is_between st.StartField = false
is_between st.InField = false
is_between st.InQuoted = false
is_between st.AfterQuote = false
is_between st.InEscape = false
is_between st.InComment = false

between : (s : State) → is_between s ≡ true → IsBetween s
between st.StartRecord h = λ text. refl
between st.AfterCr h = after_return
between st.StartField h = cc h
between st.InField h = cc h
between st.InQuoted h = cc h
between st.AfterQuote h = cc h
between st.InEscape h = cc h
between st.InComment h = cc h

ends_between : (s : State) (byte : ℕ) → is_end (step default_config s byte).1 ≡ true → is_between (step default_config s byte).0 ≡ true
ends_between st.StartRecord byte h = grind (arith, nat_tests)
ends_between st.StartField byte h = grind (arith, nat_tests)
ends_between st.InField byte h = grind (arith, nat_tests)
ends_between st.InQuoted byte h = grind (arith, nat_tests)
ends_between st.AfterQuote byte h = grind (arith, nat_tests)
ends_between st.InEscape byte h = grind (arith, nat_tests)
ends_between st.InComment byte h = grind (arith, nat_tests)
ends_between st.AfterCr byte h = grind (arith, nat_tests)

-- after the end of a record the next one begins as at the start of a text
pub between_records : (s s2 : State) (byte : ℕ) → (s2, act.EndRecord) ≡ step default_config s byte → IsBetween s2
between_records s s2 byte stepped =
    let first : s2 ≡ (step default_config s byte).0 = ap (λ (q : State × Action). q.0) stepped in
    let second : act.EndRecord ≡ (step default_config s byte).1 = ap (λ (q : State × Action). q.1) stepped in
    between s2 (rw first (ends_between s byte (rw (← second) refl)))

-- a record that was not too long before its last field ended is kept
pub size_kept : (full : Bool) (bytes spans size : ℕ) → size ≡ bytes + (spans + 1) → full ≡ false → (65536 ≤ bytes + spans → full ≡ true) → size ≤ 65536
size_kept full bytes spans size is_size not_full known = grind (arith, known)
