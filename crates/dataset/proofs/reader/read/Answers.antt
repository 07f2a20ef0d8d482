use Rattle.std.proofs.Common.{◌≡◌, ◌+◌, ◌-◌, ◌<◌, ◌^◌, ℕ, List, [], ◌∷◌, length, Some, None, refl, sym, ap, ◌∙◌, arith}
use Rattle.std.proofs.lemmas.List.{length-append}
use Rattle.std.proofs.lemmas.Result.{IfErr-weaker, IfOk-weaker, MatchResult-from_both, err_from_is_err_and}
use Rattle.files.specs.FirstFault.{behind_end}
use Rattle.files.specs.Place.{IsCsv, record_number}
use Rattle.dataset.specs.Columns.{sizes}
use Rattle.dataset.specs.FirstFault.{Reports, first_fault, rows_fault}
use Rattle.dataset.proofs.Faultless.{error_reported, no_fault_reported, of_either}
use Rattle.dataset.proofs.HeaderFault.{first_of_header, reports_end, reports_first}
use Rattle.dataset.proofs.reader.read.Goals as goal

pub returns-clause-tables : goal.returns-clause-tables
returns-clause-tables g c =
    IfOk-weaker c.finish.result _ _ (λ tables gives text known.
    let header = c.in_ok-header.ensures.read text (c.new-records.ensures.none_read text known) in
    let has = gives text (c.in_ok-read_rows.ensures.read text (header.0 ∷ []) header.2 (c.new-loader.ensures.loads header.0 header.1)) in
    (has.0, has.1, of_either c.read_rows.new.loader.format tables has.0 has.2)) c.finish.ensures.tables

pub returns-in_err-header-clause-first : goal.returns-in_err-header-clause-first
returns-in_err-header-clause-first g c =
    let p = err_from_is_err_and c.from_residual.result c.from_residual.ensures.1 in
    rw (p.1, p.2) (λ text rows known csv few.
    reports_first _ rows (first_fault rows) refl (first_of_header _ rows (c.in_err-header.ensures.first rows c.new-records.ensures.number (c.new-records.ensures.all_left text rows known csv))))

pub returns-in_err-read_rows-clause-first : goal.returns-in_err-read_rows-clause-first
returns-in_err-read_rows-clause-first g c =
    let p = err_from_is_err_and c.from_residual-in_err-read_rows.result c.from_residual-in_err-read_rows.ensures.1 in
    rw (p.1, p.2) (λ text rows known csv few.
    let b = c.in_ok-header.ensures.first rows c.new-records.ensures.number (c.new-records.ensures.all_left text rows known csv) in
    let fewer : length rows ≡ length b.more + 1 = let e = ap length b.are in omega (arith, e) in
    let fault = c.in_err-read_rows.ensures.first (b.fields ∷ []) b.more (omega (arith, fewer, few)) (c.new-loader.ensures.loads b.fields b.is_header) b.number b.left in
    reports_first _ rows (rows_fault (sizes c.new-loader.result.format c.new-loader.result.scale) (b.fields ∷ []) b.more) (b.fault ∙ (λ i. rows_fault (sizes (sym c.new-loader.ensures.format i) (sym c.new-loader.ensures.scale i)) (b.fields ∷ []) b.more)) fault)

pub returns-clause-first : goal.returns-clause-first
returns-clause-first g c = λ text rows known csv few.
    let b = c.in_ok-header.ensures.first rows c.new-records.ensures.number (c.new-records.ensures.all_left text rows known csv) in
    let fewer : length rows ≡ length b.more + 1 = let e = ap length b.are in omega (arith, e) in
    let end = c.in_ok-read_rows.ensures.first (b.fields ∷ []) b.more (omega (arith, fewer, few)) (c.new-loader.ensures.loads b.fields b.is_header) b.number b.left in
    let number = record_number c.read_rows.new.records in
    let fault : first_fault rows ≡ behind_end number end.more = b.fault ∙ (λ i. rows_fault (sizes (sym c.new-loader.ensures.format i) (sym c.new-loader.ensures.scale i)) (b.fields ∷ []) b.more) ∙ end.fault in
    let are = b.are ∙ end.are in
    let small : number < 2 ^ 64 - 1 = let long = ap length are in let parts = length-append end.before (end.end ∷ end.more) in let n = end.number in omega (arith, long, parts, n, few) in
    MatchResult-from_both c.finish.result _ _
    (IfOk-weaker c.finish.result _ _ (λ tables none. fault ∙ ap (behind_end number) (none end.more end.left)) c.finish.ensures.none_left)
    (IfErr-weaker c.finish.result _ _ (λ error reported.
    reports_end error c.read_rows.new.loader rows end.before end.more end.end number end.loaded are end.number fault (reported end.more end.left small)) c.finish.ensures.first)

-- by what is reported of every text, there is a fault only if no tables have the records
pub returns-in_err-header-clause-fault : goal.returns-in_err-header-clause-fault
returns-in_err-header-clause-fault g c =
    let p = err_from_is_err_and c.from_residual.result c.from_residual.ensures.1 in
    rw (p.1, p.2) (λ fault text rows known csv few.
    no_fault_reported _ rows few (reports_first _ rows (first_fault rows) refl (first_of_header _ rows (c.in_err-header.ensures.first rows c.new-records.ensures.number (c.new-records.ensures.all_left text rows known csv)))) fault)

pub returns-in_err-read_rows-clause-fault : goal.returns-in_err-read_rows-clause-fault
returns-in_err-read_rows-clause-fault g c =
    let p = err_from_is_err_and c.from_residual-in_err-read_rows.result c.from_residual-in_err-read_rows.ensures.1 in
    rw (p.1, p.2) (λ fault text rows known csv few.
    no_fault_reported _ rows few ((rw (p.1, p.2) at (returns-in_err-read_rows-clause-first g c)) text rows known csv few) fault)

pub returns-clause-fault : goal.returns-clause-fault
returns-clause-fault g c =
    IfErr-weaker c.finish.result _ _ (λ error reported fault text rows known csv few. no_fault_reported error rows few (reported (text, rows) (known, csv, few)) fault)
    (error_reported c.finish.result (λ (p : List ℕ × List (List (List ℕ))) tables. first_fault p.1 ≡ None) (λ (p : List ℕ × List (List (List ℕ))) error. Reports p.1 error)
    (λ (p : List ℕ × List (List (List ℕ))). (g.R.Input.remaining c.args.source ≡ Some p.0) × IsCsv p.0 p.1 × (length p.1 < 2 ^ 64 - 1)) (λ p h. returns-clause-first g c p.0 p.1 h.0 h.1 h.2))
