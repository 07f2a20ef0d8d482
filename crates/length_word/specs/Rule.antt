-- The rule of a length's table, over the views of all places, and what its steps do to a view.
use Rattle.std.specs.Prelude.{◌≡◌, ℕ, ◌+◌, ◌<◌, ◌≤◌, true, false, length, slice_index}
use mathlib.Core.Option.{some}
use lib.ListN.{get_elem?}
use Rattle.atomic_table.specs.Table.{State, Me}
use Rattle.length_word.specs.declared.rule.View.{View}

-- the view of the log's own place, at this length
abbrev pub log_view : ℕ → View
log_view entries = record { is_log = true; reached = entries; noted = 0 }

-- the view of a mark that records this number of entries
abbrev pub mark_view : ℕ → View
mark_view entries = record { is_log = false; reached = entries; noted = 0 }

-- the view after w was taken in: the number of w is noted
abbrev pub noting : View → View → View
noting v w = record { is_log = v.is_log; reached = v.reached; noted = w.reached }

-- the view's numbers are at most the length, `word`; if it is the view of the log's own place, it is at the place `log` and records the length
pub record IsWithin (log word place : ℕ) (v : View) : Type 0 where
  pub log_knows : v.is_log ≡ true → (place ≡ log) × (v.reached ≡ word)
  pub reached : v.reached ≤ word
  pub noted : v.noted ≤ word

-- At most one place is the log's own. It records the length, which is in the word. No place records or has noted
-- more.
pub record AreWithin (s : State (Unit {0}) View) : Type 0 where
  pub some_word : 0 < length s.words
  pub log : ℕ
  pub each : (place : ℕ) (v : View) → get_elem? s.views place ≡ some v → IsWithin log (slice_index s.words 0) place v

-- the log's own place noted at most what it records, and what it records is unchanged
abbrev pub IsCompared : Me (Unit {0}) View → Me (Unit {0}) View → Type 0
IsCompared before after = (after ≡ (log_view before.0.reached, before.1)) × (before.0.noted ≤ before.0.reached)

-- the log's own place records one entry more
abbrev pub IsGrown : Me (Unit {0}) View → Me (Unit {0}) View → Type 0
IsGrown before after = after ≡ (log_view (before.0.reached + 1), before.1)
