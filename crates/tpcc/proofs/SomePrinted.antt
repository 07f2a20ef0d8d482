-- What was printed where printing may have failed.
use Rattle.std.proofs.Common.{ℕ, List, [], Option, Result, Ok, Err, OnOk, OnErr}
use Rattle.files.specs.Sending.{BeginsToWrite, Writes}
use Rattle.files.specs.Written.{csv_text}
use Rattle.files.proofs.Sent.{sends_all}

-- all records or some of them, where all are some
pub all_or_some : {T E : Type 0} (printed : Result T E) (before after : Option (List ℕ)) (All Some : List (List (List ℕ)) → Type 0) → ((rows : List (List (List ℕ))) → All rows → Some rows)
    → OnOk printed (Writes before after All) → OnErr printed (BeginsToWrite before after Some) → BeginsToWrite before after Some
all_or_some (Ok done) before after All Some are all some = (all.0, are all.0 all.1, ([], sends_all before after (csv_text all.0) all.2))
all_or_some (Err fault) before after All Some are all some = some
