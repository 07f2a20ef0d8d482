-- So many parts were read.
use Rattle.std.proofs.Common.{length}
use Rattle.command_line.proofs.MixTexts.{Reads}
use Rattle.command_line.proofs.settings.mix.parsed.Given as goal

abbrev pub invariant-loop-word : goal.invariant-loop-word
invariant-loop-word l = Reads l.words l.counts (length l.yielded)
