use Rattle.rows.proofs.Ascii.{utf8_words}
use Rattle.rows.proofs.text.ascii.Goals as goal

pub from_utf8_unchecked-requires : goal.from_utf8_unchecked-requires
from_utf8_unchecked-requires c = utf8_words c.args.bytes.now c.requires
