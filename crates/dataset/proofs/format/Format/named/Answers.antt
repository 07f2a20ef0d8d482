use Rattle.std.proofs.Common.{ap, codes, refl, sym}
use Rattle.files.proofs.Unlike.{other}
use Rattle.dataset.specs.FirstFault.{format_of}
use Rattle.dataset.proofs.format.Format.named.Goals as goal

pub returns-in-text : goal.returns-in-text
returns-in-text c = sym (ap format_of c.in-text.is)

pub returns-in-text-2 : goal.returns-in-text-2
returns-in-text-2 c = sym (ap format_of c.in-text-2.is)

pub returns-in_default : goal.returns-in_default
returns-in_default c = rw (other c.args.number.now (codes "1") c.in_default.not-text, other c.args.number.now (codes "2") c.in_default.not-text-2) refl
