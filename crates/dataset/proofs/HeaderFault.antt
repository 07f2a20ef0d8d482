-- The fault of a header.
use Rattle.std.proofs.Common.{◌≡◌, ◌≢◌, ◌≤◌, ◌==◌, ◌+◌, ◌⊎◌, inl, inr, ℕ, List, [], ◌∷◌, ◌++◌, length, not, get_or, Bool, true, false, nat_lt, Option, Some, None, Result, IsUtf8, codes, refl, sym, ap, subst, ◌∙◌, arith}
use Rattle.std.specs.Prelude.{◌&&◌, IfSome, IsSome, if◌then◌else◌, unwrap_or}
use Rattle.std.specs.Fmt.{decimal}
use Rattle.std.proofs.Common.{lit<}
use Rattle.std.proofs.lemmas.Fmt.{decimal_digit}
use Rattle.std.specs.Option.{ok_or}
use Rattle.std.specs.Str.{bytes_eq}
use Rattle.std.specs.Str.Parse.{digits_value}
use Rattle.std.proofs.lemmas.Bool.{and_right}
use Rattle.std.proofs.lemmas.Bool.Decides.{nat_tests}
use Rattle.std.proofs.lemmas.Fmt.{decimal_is_IsNumeral}
use Rattle.std.proofs.lemmas.List.{length-append}
use Rattle.std.specs.Cmp.Lexicographic.{pointwise, bytes_decides}
use Rattle.schema.specs.declared.scale.Scale.{Scale}
use Rattle.files.specs.declared.fault.FaultKind.{FaultKind}
use Rattle.files.specs.declared.fault.FaultKind.TheVariants as fault
use Rattle.files.specs.declared.fault.FileFault.{FileFault}
use Rattle.files.specs.declared.fault.FileError.{FileError}
use Rattle.files.specs.declared.fault.FileError.TheVariants.{NoMemory, Failed, File}
use Rattle.files.specs.declared.fields.Fields.{Fields}
use Rattle.files.specs.FieldRead.{FieldsView, fields_view, field_read, next_read}
use Rattle.files.specs.KindsRead.{word_read}
use Rattle.files.specs.Place.{FirstIsTooLong, file_fault}
use Rattle.files.specs.Span.{record_size}
use Rattle.files.specs.Taken.{fault_of, fields_left}
use Rattle.rows.proofs.Ascii.{utf8_words}
use Rattle.std.specs.Prelude.{MatchOption}
use Rattle.dataset.specs.declared.loader.Loader.{Loader}
use Rattle.dataset.specs.Loading.{HasLoaded}
use Rattle.dataset.specs.Columns.{sizes}
use Rattle.files.specs.Columns.{at_end, columns_fault, take_columns}
use Rattle.dataset.specs.declared.format.Format.{Format}
use Rattle.dataset.specs.declared.format.Format.TheVariants.{One, Two}
use Rattle.dataset.specs.Formats.{format_number, most_warehouses}
use Rattle.dataset.specs.FirstFault.{HasNoTables, Reports, first_fault, format_of, header_columns, header_fault, header_first, header_format, header_sizes, numbers_fault, rows_fault, reported_header}
use Rattle.files.specs.FirstFault.{behind_end, fault_at, fault_or}
use Rattle.dataset.specs.Records.{AreSpelt, AreRecordsOfEither, IsHeader, header_fields, scale_fields}
use Rattle.dataset.specs.TakenAs.{IsScaleAs, ReportsEnd}
use Rattle.files.specs.FirstFault.{ReportsFault}
use Rattle.files.proofs.KindsRead.{word_is}
use Rattle.files.proofs.Unlike.{other}
use Rattle.dataset.proofs.LetterFault.{some_word}
use Rattle.files.proofs.RecordsLeft.{not_advanced}

pub no_header : (fields : List (List ℕ)) → header_format fields ≡ None → reported_header fields ≡ Some fault.NoHeader
no_header fields e = ap (λ (f : Option Format). numbers_fault f fields) e

pub not_five : (fields : List (List ℕ)) → length fields ≢ 5 → header_format fields ≡ None
not_five fields apart = let no : (length fields == 5) ≡ false = grind (arith, nat_tests, apart) in rw no refl

-- words that do not differ
pub no_difference : (word other : List ℕ) (differs : Bool) → differs ≡ not (pointwise ◌==◌ word other) → word ≡ other → differs ≡ true → ⊥
no_difference word other differs is same h =
    let alike : pointwise ◌==◌ word other ≡ true = (bytes_decides word other).1 same in
    let no : true ≡ false = sym h ∙ is ∙ ap not alike in
    cc

-- the first word is another one
not_word : (left : List (List ℕ)) (known : Option FaultKind) (other_word word : List ℕ) (after : FieldsView) → ◌≡◌ {A = List ℕ × FieldsView} (word, after) (next_read word_read [] left known)
    → length left ≢ 0 → IsUtf8 other_word → (word ≡ other_word → ⊥) → bytes_eq (get_or left 0 []) other_word ≡ false
not_word [] known other_word word after read some utf8 apart = absurd (some refl)
not_word (field ∷ rest) known other_word word after read some utf8 apart = other field other_word (λ e.
    let is = rw (word_is field (subst IsUtf8 (sym e) utf8)) at read in
    apart (ap (λ (p : List ℕ × FieldsView). p.0) is ∙ e))

pub other_name : (left : List (List ℕ)) (known : Option FaultKind) (word : List ℕ) (after : FieldsView) → length left ≡ 5
    → ◌≡◌ {A = List ℕ × FieldsView} (word, after) (next_read word_read [] left known) → (word ≡ codes "TPCC" → ⊥) → header_format left ≡ None
other_name left known word after five read apart =
    let no = not_word left known (codes "TPCC") word after read (omega arith) (utf8_words (codes "TPCC") refl) apart in
    rw (no, and_right (length left == 5) false refl) refl

-- a condition between a format and itself
same_either : (b : Bool) (f : Option Format) → (if b then f else f) ≡ f
same_either true f = refl
same_either false f = refl

pub other_format : (left mid : List (List ℕ)) (known : Option FaultKind) (name word : List ℕ) (after : FieldsView) → length left ≡ 5 → left ≡ name ∷ mid
    → ◌≡◌ {A = List ℕ × FieldsView} (word, after) (next_read word_read [] mid known) → (word ≡ codes "1" → ⊥) → (word ≡ codes "2" → ⊥) → header_format left ≡ None
other_format left mid known name word after five is read not_one not_two =
    let some : length mid ≢ 0 = λ none. let all = ap length is in omega (arith, all, five, none) in
    let one = ap (λ l. bytes_eq (get_or l 1 []) (codes "1")) is ∙ not_word mid known (codes "1") word after read some (utf8_words (codes "1") refl) not_one in
    let two = ap (λ l. bytes_eq (get_or l 1 []) (codes "2")) is ∙ not_word mid known (codes "2") word after read some (utf8_words (codes "2") refl) not_two in
    let no : format_of (get_or left 1 []) ≡ None = rw (one, two) refl in
    ap (λ (f : Option Format). if length left == 5 && bytes_eq (get_or left 0 []) (codes "TPCC") then f else None) no ∙ same_either (length left == 5 && bytes_eq (get_or left 0 []) (codes "TPCC")) None

-- the number of the format as a word
abbrev pub format_word : Format → List ℕ
format_word One = codes "1"
format_word Two = codes "2"

pub number_word : (format : Format) → decimal (format_number format) ≡ format_word format
number_word One = decimal_digit 1 (lit< tt)
number_word Two = decimal_digit 2 (lit< tt)

pub some_format : (format : Format) → length (format_word format) ≡ 1
some_format One = refl
some_format Two = refl

format_is : (format : Format) (numbers : List (List ℕ)) → length numbers ≡ 3 → header_format (codes "TPCC" ∷ format_word format ∷ numbers) ≡ Some format
format_is One numbers three = let long : (length (codes "TPCC" ∷ codes "1" ∷ numbers) == 5) ≡ true = grind (arith, nat_tests, three) in rw long refl
format_is Two numbers three = let long : (length (codes "TPCC" ∷ codes "2" ∷ numbers) == 5) ≡ true = grind (arith, nat_tests, three) in rw long refl

pub word_of_format : (format : Format) (word : List ℕ) → format_of word ≡ Some format → word ≡ format_word format
word_of_format format word e = by (bytes_eq word (codes "1")) refl
  where
    two : bytes_eq word (codes "1") ≡ false → (b : Bool) → bytes_eq word (codes "2") ≡ b → word ≡ format_word format
    two other_than true equal =
        let read : format_of word ≡ Some Two = rw (other_than, equal) refl in
        let is : Some Two ≡ Some format = sym read ∙ e in
        let same : Two ≡ format = ap (λ (f : Option Format). unwrap_or f One) is in
        (bytes_decides word (codes "2")).0 equal ∙ ap format_word same
    two other_than false neither =
        let read : format_of word ≡ None = rw (other_than, neither) refl in
        let clash : None ≡ Some format = sym read ∙ e in
        absurd cc

    by : (b : Bool) → bytes_eq word (codes "1") ≡ b → word ≡ format_word format
    by true equal =
        let read : format_of word ≡ Some One = rw equal refl in
        let is : Some One ≡ Some format = sym read ∙ e in
        let same : One ≡ format = ap (λ (f : Option Format). unwrap_or f One) is in
        (bytes_decides word (codes "1")).0 equal ∙ ap format_word same
    by false other_than = two other_than (bytes_eq word (codes "2")) refl

no_format : (word : List ℕ) → format_of word ≡ None → (word ≡ codes "1" → ⊥) × (word ≡ codes "2" → ⊥)
no_format word e = (
  λ is. let clash : Some One ≡ None = sym (ap format_of is) ∙ e in cc,
  λ is. let clash : Some Two ≡ None = sym (ap format_of is) ∙ e in cc,
)

pub unknown_format : (left mid : List (List ℕ)) (known : Option FaultKind) (name word : List ℕ) (after : FieldsView) → length left ≡ 5 → left ≡ name ∷ mid
    → ◌≡◌ {A = List ℕ × FieldsView} (word, after) (next_read word_read [] mid known) → format_of word ≡ None → header_format left ≡ None
unknown_format left mid known name word after five is read none =
    let no = no_format word none in
    other_format left mid known name word after five is read no.0 no.1

-- the name and the number of the format were taken
pub record IsBegun (format : Format) (old next : Fields) : Type 0 where
  pub are : fields_left old ≡ codes "TPCC" ∷ format_word format ∷ fields_left next
  pub fault : fault_of next ≡ fault_of old
  pub reported : reported_header (fields_left old) ≡ columns_fault (header_columns format) (fields_left next)

pub header_begun : (format : Format) (old mid next : Fields) (name version : List ℕ) → length (fields_left old) ≡ 5
    → name ≡ codes "TPCC" → ◌≡◌ {A = List ℕ × FieldsView} (name, fields_view mid) (field_read word_read [] (fields_view old))
    → version ≡ format_word format → ◌≡◌ {A = List ℕ × FieldsView} (version, fields_view next) (field_read word_read [] (fields_view mid)) → IsBegun format old next
header_begun format old mid next name version five is_name read_name is_version read_version =
    let one = some_word (codes "TPCC") 3 name (fields_left old) (fault_of old) (fields_view mid) refl is_name read_name in
    let two = some_word (format_word format) 0 version (fields_left mid) (fault_of mid) (fields_view next) (some_format format) is_version read_version in
    let all : fields_left old ≡ codes "TPCC" ∷ format_word format ∷ fields_left next = one.left ∙ ap (λ l. codes "TPCC" ∷ l) two.left in
    let three : length (fields_left next) ≡ 3 = let e = ap length all in omega (arith, e, five) in
    record {
      are = all;
      fault = two.fault ∙ one.fault;
      reported = ap reported_header all ∙ ap (λ (f : Option Format). numbers_fault f (codes "TPCC" ∷ format_word format ∷ fields_left next)) (format_is format (fields_left next) three);
    }

-- the header whose numbers were read
pub is_header : (format : Format) (scale : Scale) (old next : Fields) → IsBegun format old next → scale.warehouses ≤ most_warehouses format → AreSpelt (scale_fields scale) (fields_left next)
    → IsHeader format scale (fields_left old)
is_header format scale old next begun within spelt = record {
  within = within;
  is_spelt = subst (AreSpelt (header_fields format scale)) (sym begun.are) (refl, (sym (number_word format), spelt));
}

-- the three numbers, taken
pub numbers_taken : (format : Format) (old last : Fields) (end : Option FaultKind) → fault_of old ≡ None → fields_view last ≡ take_columns (header_columns format) (fields_view old)
    → end ≡ at_end (fields_left last) (fault_of last) → columns_fault (header_columns format) (fields_left old) ≡ end
numbers_taken format old last end none took ended =
    let start : fields_view old ≡ record { left = fields_left old; fault = None } = ap (λ (f : Option FaultKind). record { left = fields_left old; fault = f }) none in
    sym (ended ∙ ap (λ (t : FieldsView). at_end t.left t.fault) (took ∙ ap (take_columns (header_columns format)) start))

pub scale_made : (format : Format) (result : Result Scale FaultKind) (made : Option Scale) (kind : FaultKind) (fields : List (List ℕ)) → result ≡ ok_or made kind → IsSome made
    → columns_fault (header_columns format) fields ≡ None → IfSome made (λ scale. (scale.warehouses ≤ most_warehouses format) × AreSpelt (scale_fields scale) fields) → IsScaleAs format result fields
scale_made format result (Some scale) kind fields is some none made = subst (λ r. IsScaleAs format r fields) (sym is) (none, made.0, made.1)
scale_made format result None kind fields is some none made = let clash : true ≡ false = sym some in absurd cc

-- the format and the sizes that a header spells
pub format_spelt : (format : Format) (scale : Scale) (fields : List (List ℕ)) → AreSpelt (header_fields format scale) fields → header_format fields ≡ Some format
format_spelt format scale (name ∷ version ∷ w ∷ i ∷ c ∷ []) spelt =
    (λ j. header_format (spelt.0 j ∷ (spelt.1.0 ∙ number_word format) j ∷ w ∷ i ∷ c ∷ [])) ∙ format_is format (w ∷ i ∷ c ∷ []) refl
format_spelt format scale [] spelt = absurd spelt
format_spelt format scale (a ∷ []) spelt = absurd spelt.1
format_spelt format scale (a ∷ b ∷ []) spelt = absurd spelt.1.1
format_spelt format scale (a ∷ b ∷ c ∷ []) spelt = absurd spelt.1.1.1
format_spelt format scale (a ∷ b ∷ c ∷ d ∷ []) spelt = absurd spelt.1.1.1.1
format_spelt format scale (a ∷ b ∷ c ∷ d ∷ e ∷ f ∷ rest) spelt = absurd spelt.1.1.1.1.1

pub sizes_spelt : (format : Format) (scale : Scale) (fields : List (List ℕ)) → AreSpelt (header_fields format scale) fields → sizes format scale ≡ header_sizes fields
sizes_spelt format scale (name ∷ version ∷ w ∷ i ∷ c ∷ []) spelt =
    let limits = scale.limits in
    let most_w = limits.most_warehouses in
    let most_i = limits.most_items in
    let most_c = limits.most_customers in
    let ef : unwrap_or (header_format (name ∷ version ∷ w ∷ i ∷ c ∷ [])) One ≡ format = ap (λ (f : Option Format). unwrap_or f One) (format_spelt format scale (name ∷ version ∷ w ∷ i ∷ c ∷ []) spelt) in
    let ew : digits_value 10 w ≡ scale.warehouses = ap (digits_value 10) spelt.1.1.0 ∙ (decimal_is_IsNumeral scale.warehouses (omega (arith, most_w))).1 in
    let ei : digits_value 10 i ≡ scale.items = ap (digits_value 10) spelt.1.1.1.0 ∙ (decimal_is_IsNumeral scale.items (omega (arith, most_i))).1 in
    let ec : digits_value 10 c ≡ scale.customers = ap (digits_value 10) spelt.1.1.1.1.0 ∙ (decimal_is_IsNumeral scale.customers (omega (arith, most_c))).1 in
    λ j. record { format = sym ef j; warehouses = sym ew j; items = sym ei j; customers = sym ec j }
sizes_spelt format scale [] spelt = absurd spelt
sizes_spelt format scale (a ∷ []) spelt = absurd spelt.1
sizes_spelt format scale (a ∷ b ∷ []) spelt = absurd spelt.1.1
sizes_spelt format scale (a ∷ b ∷ c ∷ []) spelt = absurd spelt.1.1.1
sizes_spelt format scale (a ∷ b ∷ c ∷ d ∷ []) spelt = absurd spelt.1.1.1.1
sizes_spelt format scale (a ∷ b ∷ c ∷ d ∷ e ∷ f ∷ rest) spelt = absurd spelt.1.1.1.1.1

-- ---- the first record

short_header : (fields : List (List ℕ)) → record_size fields ≤ 65536 → header_fault fields ≡ reported_header fields
short_header fields short = let no : nat_lt 65536 (record_size fields) ≡ false = grind (arith, nat_tests) in rw no refl

pub header_passes : (format : Format) (scale : Scale) (header : List (List ℕ)) (more : List (List (List ℕ))) → record_size header ≤ 65536 → reported_header header ≡ None → AreSpelt (header_fields format scale) header
    → first_fault (header ∷ more) ≡ rows_fault (sizes format scale) (header ∷ []) more
unfolding first_fault
header_passes format scale header more short none spelt =
    let pass : first_fault (header ∷ more) ≡ rows_fault (header_sizes header) (header ∷ []) more = rw (short_header header short ∙ none) refl in
    pass ∙ ap (λ s. rows_fault s (header ∷ []) more) (sym (sizes_spelt format scale header spelt))

pub header_fails : (kind : FaultKind) (header : List (List ℕ)) (more : List (List (List ℕ))) → record_size header ≤ 65536 → reported_header header ≡ Some kind → header_first (header ∷ more) ≡ Some (fault_at kind 1)
header_fails kind header more short reported = rw (short_header header short ∙ reported) refl

long_header : (rows : List (List (List ℕ))) → FirstIsTooLong rows → header_first rows ≡ Some (fault_at fault.WrongShape 1)
long_header [] long = absurd long
long_header (header ∷ more) long = let yes : nat_lt 65536 (record_size header) ≡ true = grind (arith, nat_tests) in rw yes refl

pub header_unread : (error : FileError) (number : ℕ) (rows : List (List (List ℕ))) → number ≡ 1 → (error ≡ NoMemory) ⊎ (error ≡ Failed number) ⊎ (error ≡ file_fault fault.WrongShape number)
    → (error ≡ file_fault fault.WrongShape number → FirstIsTooLong rows) → ReportsFault error (header_first rows)
header_unread error number rows one faults long =
    not_advanced error number (header_first rows) faults (λ e. long_header rows (long e) ∙ ap (λ n. Some (fault_at fault.WrongShape n)) (sym one))

pub header_error : (error : FileError) (kind : FaultKind) (number : ℕ) (first : Option FileFault) → error ≡ file_fault kind number → number ≡ 1 → first ≡ Some (fault_at kind 1) → ReportsFault error first
header_error error kind number first is one found = subst (λ e. ReportsFault e first) (sym is) (found ∙ ap (λ n. Some (fault_at kind n)) (sym one))

-- a fault of the header is the first one of the text
pub first_of_header : (error : FileError) (rows : List (List (List ℕ))) → ReportsFault error (header_first rows) → ReportsFault error (first_fault rows)
unfolding first_fault
first_of_header NoMemory rows reports = tt
first_of_header (Failed number) rows reports = tt
first_of_header (File f) [] reports = reports
first_of_header (File f) (header ∷ rows) reports = by (header_fault header) refl
  where
    by : (kind : Option FaultKind) → header_fault header ≡ kind → fault_or (header_fault header) 1 (rows_fault (header_sizes header) (header ∷ []) rows) ≡ Some f
    by None none = let clash : None ≡ Some f = sym (ap (λ k. fault_or k 1 None) none) ∙ reports in cc
    by (Some kind) some = ap (λ k. fault_or k 1 (rows_fault (header_sizes header) (header ∷ []) rows)) some ∙ sym (ap (λ k. fault_or k 1 None) some) ∙ reports

-- ---- behind the end record

pub more_found : (error : FileError) (l : Loader) (more : List (List (List ℕ))) (number next : ℕ) → next ≡ number + 1
    → (error ≡ NoMemory) ⊎ (error ≡ Failed next) ⊎ (error ≡ file_fault fault.AfterEnd next) → (error ≡ file_fault fault.AfterEnd next → more ≡ [] → ⊥) → ReportsEnd error l more number
more_found error l more number next is (inl e) some = subst (λ x. ReportsEnd x l more number) (sym e) tt
more_found error l more number next is (inr (inl e)) some = subst (λ x. ReportsEnd x l more number) (sym e) tt
more_found error l [] number next is (inr (inr e)) some = absurd (some e refl)
more_found error l (row ∷ rows) number next is (inr (inr e)) some = subst (λ x. ReportsEnd x l (row ∷ rows) number) (sym e) (inl (ap (λ n. Some (fault_at fault.AfterEnd n)) (sym is)))

-- ---- in all

-- the first fault is reported
pub reports_first : (error : FileError) (rows : List (List (List ℕ))) (first : Option FileFault) → first_fault rows ≡ first → ReportsFault error first → Reports rows error
reports_first NoMemory rows first is reports = tt
reports_first (Failed number) rows first is reports = tt
reports_first (File f) rows first is e = subst (λ o. MatchOption o ((f ≡ fault_at fault.ScaleBroken (length rows)) × HasNoTables rows) (λ x. f ≡ x)) (sym (is ∙ e)) refl

pub reports_end : (error : FileError) (l : Loader) (rows before more : List (List (List ℕ))) (end : List (List ℕ)) (number : ℕ) → HasLoaded l before → rows ≡ before ++ (end ∷ more) → number ≡ length before + 1
    → first_fault rows ≡ behind_end number more → ReportsEnd error l more number → Reports rows error
reports_end NoMemory l rows before more end number loaded are counted is reports = tt
reports_end (Failed at) l rows before more end number loaded are counted is reports = tt
reports_end (File f) l rows before more end number loaded are counted is (inl e) = reports_first (File f) rows (behind_end number more) is e
reports_end (File f) l rows before more end number loaded are counted is (inr h) =
    let read : rows ≡ before ++ (end ∷ []) = are ∙ ap (λ m. before ++ (end ∷ m)) h.0 in
    let all : number ≡ length rows = let long = ap length read in let parts = length-append before (end ∷ []) in omega (arith, long, parts, counted) in
    subst (λ o. MatchOption o ((f ≡ fault_at fault.ScaleBroken (length rows)) × HasNoTables rows) (λ x. f ≡ x)) (sym (is ∙ ap (behind_end number) h.0))
    (h.1 ∙ ap (λ n. fault_at fault.ScaleBroken n) all, λ t within range records. h.2 t before end within range loaded (subst (AreRecordsOfEither t) read records))
