-- The text of a picture.
use Rattle.std.specs.Prelude.{◌≡◌, ℕ, ◌+◌, true, false, List, [], ◌∷◌, ◌++◌, length, Option, Some}
use Rattle.commit_log.specs.declared.entry.Entry.{Entry}
use Rattle.history.specs.declared.schedule.Output.{Output}
use Rattle.history.specs.declared.schedule.Scheduled.{Scheduled}
use Rattle.picture.specs.declared.row.Row.{Row}
use Rattle.picture.specs.declared.asides.Aside.{Aside}
use Rattle.picture.specs.Lanes.{width, height, rows_end, sessions_from}
use Rattle.picture.specs.Rows.{rows_of}
use Rattle.picture.specs.Sheet.{sheet_text, ground_text, legend_text}
use Rattle.picture.specs.Asides.{aside_text}
use Rattle.picture.specs.Marks.{mark_text, all_marks}

-- The texts of these, one after the other.
unfoldable pub texts : {T : Type 0} → (T → List ℕ) → List T → List ℕ
texts text [] = []
texts text (one ∷ others) = text one ++ texts text others

-- If it is known how each of the signs is displayed, `Is` holds of their texts, one after the other.
abbrev pub OfTexts : {D : Type 0} → (D → Option (List ℕ)) → List D → (List ℕ → Type 0) → Type 0
OfTexts {D} output signs Is =
    (text : D → List ℕ) → ((sign : D) → output sign ≡ Some (text sign)) → Is (texts text signs)

-- The picture of these rows, with the lanes of these sessions and of this many executors: the sheet, the asides, exactly the
-- marks of each row in turn, and the legend.
abbrev pub picture_text : List ℕ → ℕ → List Row → List Aside → List ℕ
picture_text sessions executors rows asides =
    let across = width (length sessions) executors in
    let down = height (length rows) in
    let bottom = rows_end (length rows) in
    sheet_text across down ++ (ground_text false 0 across down ++ (ground_text true 74 across bottom
    ++ (texts aside_text asides ++ (texts mark_text (all_marks sessions executors 0 rows) ++ legend_text (bottom + 24)))))

-- The picture of a schedule that so many executors have played with these outputs and this log.
abbrev pub drawing_text : ℕ → List Scheduled → List Output → List Entry → List Aside → List ℕ
drawing_text executors schedule outputs log asides =
    picture_text (sessions_from [] schedule) executors (rows_of log 1 schedule outputs) asides
