-- The result of replaying a log.
use Rattle.std.specs.Prelude.{◌≡◌, ℕ, ◌<◌, List, take, length, Some, Ok}
use Rattle.std.specs.List.{slice_get}
use Rattle.schema.specs.Database.{Database}
use Rattle.requests.specs.Check.{check_of}
use Rattle.machine.specs.Machine.{transaction, tables_after}
use Rattle.commit_log.specs.declared.entry.Entry.{Entry}
use Rattle.commit_log.specs.declared.verdict.Replay.{Replay}
use Rattle.commit_log.specs.declared.verdict.Replay.TheVariants.{Equal, Differs}
use Rattle.commit_log.specs.Log.{requests_of}

-- the check accepts the entry's request, and from these tables the machine gives the entry's reply
abbrev pub IsReplied : Database → Entry → Type 0
IsReplied t entry = (check_of t.scale entry.request ≡ Ok tt) × ((transaction t entry.request).reply ≡ entry.reply)

-- the tables before the entry at this place, after the machine has carried out the requests before it
abbrev pub tables_before : Database → List Entry → ℕ → Database
tables_before opening entries place = tables_after opening (requests_of (take place entries))

-- the entry at this place repeats: its check accepts it, and the machine gives its reply
abbrev pub Stands : Database → List Entry → ℕ → Type 0
Stands opening entries place = (entry : Entry) × ((slice_get entries place ≡ Some entry) × IsReplied (tables_before opening entries place) entry)

-- Equal if every entry repeats, with the machine's last tables; else the first place whose entry doesn't.
abbrev pub IsReplayOf : Database → List Entry → Replay → Type 0
IsReplayOf opening entries (Equal last) =
    ((place : ℕ) → place < length entries → Stands opening entries place) × (last ≡ tables_after opening (requests_of entries))
IsReplayOf opening entries (Differs place) =
    (place < length entries) × (((before : ℕ) → before < place → Stands opening entries before) × (Stands opening entries place → ⊥))
