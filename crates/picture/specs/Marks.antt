-- The output, as marks.
use Rattle.std.specs.Prelude.{ℕ, ◌+◌, List, [], ◌∷◌, ◌++◌, length, codes}
use Rattle.std.specs.Fmt.{decimal}
use Rattle.picture.specs.declared.marks.Style.{Style}
use Rattle.picture.specs.declared.marks.Style.TheVariants as style
use Rattle.picture.specs.declared.marks.Mark.{Mark}
use Rattle.picture.specs.declared.marks.Mark.TheVariants.{Words, Spot, Square, Across}
use Rattle.picture.specs.declared.phrase.Phrase.TheVariants as phrase
use Rattle.picture.specs.declared.row.Deed.{Deed}
use Rattle.picture.specs.declared.row.Deed.TheVariants.{Submit, Order, Take, Send}
use Rattle.picture.specs.declared.row.RowAnswer.{RowAnswer}
use Rattle.picture.specs.declared.row.RowAnswer.TheVariants.{Accepted, Ordered, Logged, Done, Refused, Nothing}
use Rattle.picture.specs.declared.row.Row.{Row}
use Rattle.picture.specs.declared.row.Row.TheVariants.{Event, Rounds, InRounds}
use Rattle.picture.specs.Lanes.{outside_x, session_x, takes_x, sends_x, log_left, log_x, log_right, reported_x, row_top, row_middle, row_words, row_bottom}
use Rattle.picture.specs.Phrases.{phrase_text}

-- ---- the marks of a row

-- A submission has a spot on its session's line, whose style shows whether it is admitted.
abbrev pub submission : ℕ → ℕ → RowAnswer → Mark
submission x at (Accepted age) = Spot style.Take x at
submission x at (Refused session number refusal) = Spot style.Refused x at
submission x at reported = Spot style.Nothing x at

-- An order has a spot left of all lanes, full if the move is outstanding from then on.
abbrev pub ordering : ℕ → RowAnswer → Mark
ordering at Ordered = Spot style.Take outside_x at
ordering at reported = Spot style.Nothing outside_x at

-- A Take or a Send has a spot on its executor's line.
abbrev pub step_spot : Style → ℕ → ℕ → RowAnswer → Mark
step_spot s x at Nothing = Spot style.Nothing x at
step_spot s x at reported = Spot s x at

-- A place in the log is in a green square on the log's line.
abbrev pub logged : ℕ → ℕ → ℕ → ℕ → List Mark
logged sessions executors at place =
    Square style.Done (log_left sessions executors) (log_right sessions executors) at
    ∷ Words style.Middle (log_x sessions executors) at (phrase.Place place) ∷ []

-- What is logged or answered has a sign on the line of the log or of the session.
abbrev pub reported_signs : List ℕ → ℕ → ℕ → RowAnswer → List Mark
reported_signs sessions executors at (Logged place) = logged (length sessions) executors at place
reported_signs sessions executors at (Done session number place rolled_back) = Spot style.Done (session_x sessions session) at ∷ []
reported_signs sessions executors at (Refused session number refusal) = Spot style.Refused (session_x sessions session) at ∷ []
reported_signs sessions executors at reported = []

-- The arrow to it, from the line of what was sent.
abbrev pub reported_arrow : List ℕ → ℕ → ℕ → ℕ → RowAnswer → List Mark
reported_arrow sessions executors from at (Logged place) = Across style.Done from (log_left (length sessions) executors) at ∷ []
reported_arrow sessions executors from at (Done session number place rolled_back) = Across style.Done from (session_x sessions session) at ∷ []
reported_arrow sessions executors from at (Refused session number refusal) = Across style.Refused from (session_x sessions session) at ∷ []
reported_arrow sessions executors from at reported = []

-- The signs of an event: a spot, and what it logs or answers.
abbrev pub event_signs : List ℕ → ℕ → ℕ → Deed → RowAnswer → List Mark
event_signs sessions executors at (Submit session number kind) reported = submission (session_x sessions session) at reported ∷ []
event_signs sessions executors at (Order order) reported = ordering at reported ∷ []
event_signs sessions executors at (Take executor) reported = step_spot style.Take (takes_x (length sessions) executor) at reported ∷ []
event_signs sessions executors at (Send executor) reported =
    reported_arrow sessions executors (sends_x (length sessions) executor) at reported
    ++ (reported_signs sessions executors at reported ++ step_spot style.Send (sends_x (length sessions) executor) at reported ∷ [])

-- The text of the output.
abbrev pub reported_words : List ℕ → ℕ → ℕ → RowAnswer → Mark
reported_words sessions executors at reported = Words style.Plain (reported_x (length sessions) executors) at (phrase.RowAnswer reported)

-- The marks of the row at this index: its number, what was scheduled, and its output, in words and in signs.
abbrev pub row_marks : List ℕ → ℕ → ℕ → Row → List Mark
row_marks sessions executors at (Event number deed reported) =
    Words style.Number 40 at (phrase.Number number) ∷ Words style.Plain 52 at (phrase.Deed deed) ∷ reported_words sessions executors at reported
    ∷ event_signs sessions executors at deed reported
row_marks sessions executors at (Rounds number) =
    Words style.Number 40 at (phrase.Number number) ∷ Words style.Plain 52 at phrase.Rounds
    ∷ Words style.Dim (reported_x (length sessions) executors) at phrase.NotShown ∷ []
row_marks sessions executors at (InRounds reported) = reported_words sessions executors at reported ∷ reported_signs sessions executors at reported

-- The marks of rows, the first of which is at this index.
abbrev pub all_marks : List ℕ → ℕ → ℕ → List Row → List Mark
all_marks sessions executors at [] = []
all_marks sessions executors at (row ∷ rows) = row_marks sessions executors at row ++ all_marks sessions executors (at + 1) rows

-- ---- their text

-- The name of a class of the style.
abbrev pub style_text : Style → List ℕ
style_text style.Number = codes "number"
style_text style.Plain = codes "plain"
style_text style.Dim = codes "dim"
style_text style.Middle = codes "middle"
style_text style.Take = codes "take"
style_text style.Send = codes "send"
style_text style.Nothing = codes "nothing"
style_text style.Done = codes "done"
style_text style.Refused = codes "refused"

-- The line of SVG of a mark.
abbrev pub mark_text : Mark → List ℕ
mark_text (Words s x at p) =
    codes "<text class=\"" ++ (style_text s ++ (codes "\" x=\"" ++ (decimal x ++ (codes "\" y=\"" ++ (decimal (row_words at)
    ++ (codes "\">" ++ (phrase_text p ++ codes "</text>\n")))))))
mark_text (Spot s x at) =
    codes "<circle class=\"" ++ (style_text s ++ (codes "\" cx=\"" ++ (decimal x ++ (codes "\" cy=\"" ++ (decimal (row_middle at) ++ codes "\" r=\"5\"/>\n")))))
mark_text (Square s left right at) =
    codes "<path class=\"" ++ (style_text s ++ (codes "\" d=\"M" ++ (decimal left ++ (codes " " ++ (decimal (row_top at) ++ (codes "H" ++ (decimal right
    ++ (codes "V" ++ (decimal (row_bottom at) ++ (codes "H" ++ (decimal left ++ codes "z\"/>\n")))))))))))
mark_text (Across s from to at) =
    codes "<path class=\"" ++ (style_text s ++ (codes " across\" d=\"M" ++ (decimal from ++ (codes " " ++ (decimal (row_middle at) ++ (codes "H" ++ (decimal to ++ codes "\"/>\n")))))))
