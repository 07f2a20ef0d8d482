-- The exit statuses of the program, and the status after each mistake in its words.
use Rattle.std.specs.Prelude.{ℕ}
use Rattle.clap.specs.Words.{kind_of}
use Rattle.clap.specs.declared.error.ErrorKind.{ErrorKind}
use Rattle.clap.specs.declared.error.ErrorKind.TheVariants.{OutOfMemory}
use Rattle.command_line.specs.declared.usage.UsageFault.{UsageFault}
use Rattle.command_line.specs.declared.usage.UsageFault.TheVariants as usage
use Rattle.command_line.specs.declared.status.Status.{Status}
use Rattle.command_line.specs.declared.status.Status.TheVariants as status

-- the exit status of each end
abbrev pub exit_status : Status → ℕ
exit_status status.Success = 0
exit_status status.Failed = 1
exit_status status.Usage = 2
exit_status status.NotConsistent = 3
exit_status status.NoMemory = 4

-- the status after an error of clap: the words are not understood, or out of memory
abbrev pub status_of_words : ErrorKind → Status
status_of_words OutOfMemory = status.NoMemory
status_of_words _ = status.Usage

-- the status after each mistake in the words
abbrev pub status_of_usage : UsageFault → Status
status_of_usage (usage.Words error) = status_of_words (kind_of error)
status_of_usage (usage.NotText place shown) = status.Usage
status_of_usage usage.LongNotText = status.Usage
status_of_usage usage.NoCommand = status.Usage
status_of_usage usage.ScriptCount = status.Usage
status_of_usage usage.SameOutput = status.Usage
status_of_usage usage.FileCount = status.Usage
status_of_usage usage.SameFile = status.Usage
status_of_usage usage.Mix = status.Usage
status_of_usage usage.Remote = status.Usage
status_of_usage (usage.Number option low high) = status.Usage
status_of_usage usage.Moment = status.Usage
