use Rattle.std.proofs.Common.{◌∷◌, sym}
use Rattle.std.proofs.lemmas.Result.{IfErr-weaker, MatchResult-weaker, err_from_is_err_and}
use Rattle.files.specs.FirstFault.{ReportsFault}
use Rattle.files.specs.Place.{HasLeft}
use Rattle.dataset.specs.FirstFault.{header_first}
use Rattle.dataset.proofs.Faultless.{no_header_fault}
use Rattle.dataset.proofs.HeaderFault.{first_of_header}
use Rattle.dataset.proofs.reader.read_scale.Goals as goal

pub returns-clause-scale : goal.returns-clause-scale
returns-clause-scale g c = λ text known.
    let header = c.in_ok-header.ensures.read text (c.new-records.ensures.none_read text known) in
    (c.in_ok-header.header.format, header.0, header.1, (header.2.after, header.2.left, header.2.reached))

pub returns-in_err-header-clause-fault : goal.returns-in_err-header-clause-fault
returns-in_err-header-clause-fault g c =
    let p = err_from_is_err_and c.from_residual.result c.from_residual.ensures.1 in
    rw (p.1, p.2) (λ fault text known format s header rows is_header csv.
    no_header_fault _ format s header rows is_header fault (c.in_err-header.ensures.first (header ∷ rows) c.new-records.ensures.number (c.new-records.ensures.all_left text (header ∷ rows) known csv)))

pub returns-in_err-header-clause-first : goal.returns-in_err-header-clause-first
returns-in_err-header-clause-first g c =
    let p = err_from_is_err_and c.from_residual.result c.from_residual.ensures.1 in
    rw (p.1, p.2) (λ text rows known csv.
    first_of_header _ rows (c.in_err-header.ensures.first rows c.new-records.ensures.number (c.new-records.ensures.all_left text rows known csv)))
