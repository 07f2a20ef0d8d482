-- Drawing a picture, part by part.
use Rattle.std.proofs.Common.{◌≡◌, ℕ, ◌+◌, true, false, List, [], ◌++◌, Option, Result, OnErr, length, subst}
use Rattle.std.specs.Io.KnownBytes.{Appends}
use Rattle.std.proofs.KnownBytes.{Appends-trans}
use Rattle.files.specs.Sending.{Begins}
use Rattle.files.proofs.Sent.{begins_after, begins_more, begins_none, on_any_err}
use Rattle.picture.specs.declared.row.Row.{Row}
use Rattle.picture.specs.declared.asides.Aside.{Aside}
use Rattle.picture.specs.declared.marks.Mark.{Mark}
use Rattle.picture.specs.Lanes.{width, height, rows_end}
use Rattle.picture.specs.Sheet.{sheet_text, ground_text, legend_text}
use Rattle.picture.specs.Asides.{aside_text}
use Rattle.picture.specs.Marks.{mark_text, all_marks}
use Rattle.picture.specs.Drawing.{texts, picture_text}

-- five parts and the legend, one after another
pub six-appended : (s0 s1 s2 s3 s4 s5 s6 : Option (List ℕ)) (a b c d e f : List ℕ)
    → Appends s0 s1 a → Appends s1 s2 b → Appends s2 s3 c → Appends s3 s4 d → Appends s4 s5 e → Appends s5 s6 f
    → Appends s0 s6 (a ++ (b ++ (c ++ (d ++ (e ++ f)))))
six-appended s0 s1 s2 s3 s4 s5 s6 a b c d e f ha hb hc hd he hf =
    Appends-trans s0 s1 s6 a (b ++ (c ++ (d ++ (e ++ f)))) ha
    (Appends-trans s1 s2 s6 b (c ++ (d ++ (e ++ f))) hb
    (Appends-trans s2 s3 s6 c (d ++ (e ++ f)) hc
    (Appends-trans s3 s4 s6 d (e ++ f) hd (Appends-trans s4 s5 s6 e f he hf))))

-- one of several parts fails, and more would have followed
pub second-begun : (s0 s1 s2 : Option (List ℕ)) (a b rest : List ℕ)
    → Appends s0 s1 a → Begins s1 s2 b → Begins s0 s2 (a ++ (b ++ rest))
second-begun s0 s1 s2 a b rest ha hb = begins_after s0 s1 s2 a (b ++ rest) ha (begins_more s1 s2 b rest hb)

pub third-begun : (s0 s1 s2 s3 : Option (List ℕ)) (a b c rest : List ℕ)
    → Appends s0 s1 a → Appends s1 s2 b → Begins s2 s3 c → Begins s0 s3 (a ++ (b ++ (c ++ rest)))
third-begun s0 s1 s2 s3 a b c rest ha hb hc =
    begins_after s0 s1 s3 a (b ++ (c ++ rest)) ha (second-begun s1 s2 s3 b c rest hb hc)

pub fourth-begun : (s0 s1 s2 s3 s4 : Option (List ℕ)) (a b c d rest : List ℕ)
    → Appends s0 s1 a → Appends s1 s2 b → Appends s2 s3 c → Begins s3 s4 d → Begins s0 s4 (a ++ (b ++ (c ++ (d ++ rest))))
fourth-begun s0 s1 s2 s3 s4 a b c d rest ha hb hc hd =
    begins_after s0 s1 s4 a (b ++ (c ++ (d ++ rest))) ha (third-begun s1 s2 s3 s4 b c d rest hb hc hd)

pub fifth-begun : (s0 s1 s2 s3 s4 s5 : Option (List ℕ)) (a b c d e rest : List ℕ)
    → Appends s0 s1 a → Appends s1 s2 b → Appends s2 s3 c → Appends s3 s4 d → Begins s4 s5 e
    → Begins s0 s5 (a ++ (b ++ (c ++ (d ++ (e ++ rest)))))
fifth-begun s0 s1 s2 s3 s4 s5 a b c d e rest ha hb hc hd he =
    begins_after s0 s1 s5 a (b ++ (c ++ (d ++ (e ++ rest)))) ha (fourth-begun s1 s2 s3 s4 s5 b c d e rest hb hc hd he)

-- the last one fails
pub sixth-begun : (s0 s1 s2 s3 s4 s5 s6 : Option (List ℕ)) (a b c d e f : List ℕ)
    → Appends s0 s1 a → Appends s1 s2 b → Appends s2 s3 c → Appends s3 s4 d → Appends s4 s5 e → Begins s5 s6 f
    → Begins s0 s6 (a ++ (b ++ (c ++ (d ++ (e ++ f)))))
sixth-begun s0 s1 s2 s3 s4 s5 s6 a b c d e f ha hb hc hd he hf =
    begins_after s0 s1 s6 a (b ++ (c ++ (d ++ (e ++ f)))) ha
    (begins_after s1 s2 s6 b (c ++ (d ++ (e ++ f))) hb
    (begins_after s2 s3 s6 c (d ++ (e ++ f)) hc
    (begins_after s3 s4 s6 d (e ++ f) hd (begins_after s4 s5 s6 e f he hf))))

-- the picture as drawn, with its measures and marks
abbrev pub drawn_text : List Aside → ℕ → ℕ → ℕ → List Mark → List ℕ
drawn_text asides across down bottom marks =
    sheet_text across down ++ (ground_text false 0 across down ++ (ground_text true 74 across bottom
    ++ (texts aside_text asides ++ (texts mark_text marks ++ legend_text (bottom + 24)))))

-- what holds of the picture as drawn holds of the picture
pub picture-drawn : (Said : List ℕ → Type 0) (sessions : List ℕ) (executors : ℕ) (rows : List Row) (asides : List Aside) (across down bottom : ℕ) (marks : List Mark)
    → across ≡ width (length sessions) executors → down ≡ height (length rows) → bottom ≡ rows_end (length rows) → marks ≡ all_marks sessions executors 0 rows
    → Said (drawn_text asides across down bottom marks) → Said (picture_text sessions executors rows asides)
picture-drawn Said sessions executors rows asides across down bottom marks is_across is_down is_bottom are_marks all =
    let X : ℕ → Type 0 = λ x. Said (drawn_text asides x down bottom marks) in
    let Y : ℕ → Type 0 = λ y. Said (drawn_text asides (width (length sessions) executors) y bottom marks) in
    let Z : ℕ → Type 0 = λ z. Said (drawn_text asides (width (length sessions) executors) (height (length rows)) z marks) in
    let M : List Mark → Type 0 = λ m. Said (drawn_text asides (width (length sessions) executors) (height (length rows)) (rows_end (length rows)) m) in
    subst M are_marks (subst Z is_bottom (subst Y is_down (subst X is_across all)))

-- if it fails after a beginning of it was drawn
pub begun-drawn : {T E : Type 0} (r : Result T E) (old new : Option (List ℕ)) (sessions : List ℕ) (executors : ℕ) (rows : List Row) (asides : List Aside) (across down bottom : ℕ) (marks : List Mark)
    → across ≡ width (length sessions) executors → down ≡ height (length rows) → bottom ≡ rows_end (length rows) → marks ≡ all_marks sessions executors 0 rows
    → Begins old new (drawn_text asides across down bottom marks)
    → OnErr r ((asides : List Aside) × Begins old new (picture_text sessions executors rows asides))
begun-drawn r old new sessions executors rows asides across down bottom marks is_across is_down is_bottom are_marks begun =
    let drawn : (asides : List Aside) × Begins old new (picture_text sessions executors rows asides) =
    (asides, picture-drawn (Begins old new) sessions executors rows asides across down bottom marks is_across is_down is_bottom are_marks begun) in
    on_any_err r drawn

-- if it fails before
pub nothing-drawn : {T E : Type 0} (r : Result T E) (sink : Option (List ℕ)) (sessions : List ℕ) (executors : ℕ) (rows : List Row)
    → OnErr r ((asides : List Aside) × Begins sink sink (picture_text sessions executors rows asides))
nothing-drawn r sink sessions executors rows =
    let nothing : (asides : List Aside) × Begins sink sink (picture_text sessions executors rows asides) = ([], begins_none sink (picture_text sessions executors rows [])) in
    on_any_err r nothing
