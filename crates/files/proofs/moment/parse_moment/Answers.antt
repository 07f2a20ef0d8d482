use Rattle.std.proofs.Common.{ap, ◌∙◌}
use Rattle.files.specs.KindsRead.{moment_read}
use Rattle.files.proofs.KindsRead.{moment_complete}
use Rattle.files.proofs.MomentSound.{if_moment}
use Rattle.files.proofs.moment.parse_moment.Goals as goal

pub returns-clause-spelt : goal.returns-clause-spelt
returns-clause-spelt c = if_moment c.args.field.now c.read_moment.result (c.read_moment.ensures.exact ∙ ap moment_read c.as_bytes.ensures.value)

pub returns-clause-reads : goal.returns-clause-reads
returns-clause-reads c = λ moment seconds spelt high. c.read_moment.ensures.exact ∙ ap moment_read c.as_bytes.ensures.value ∙ moment_complete c.args.field.now seconds (moment, spelt) high
