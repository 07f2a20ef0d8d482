-- The view that contracts have of a log's book.
use Rattle.std.specs.Prelude.{ℕ, List}
use Rattle.commit_log.specs.declared.entry.Entry.{Entry}

-- the entries, in log order, and the number of further entries for which memory is reserved
pub record LogBookView : Type 0 where
  pub entries : List Entry
  pub spare : ℕ

-- a book of these entries, with memory for `spare` more
abbrev pub log_book_view : List Entry → ℕ → LogBookView
log_book_view entries spare = record { entries = entries; spare = spare }
