-- The beginning and the end of a picture.
use Rattle.std.specs.Prelude.{ℕ, Bool, if◌then◌else◌, List, ◌++◌, codes}
use Rattle.std.specs.Fmt.{decimal}
use Rattle.picture.specs.declared.sheet.TheConstants.{OPENING, STYLE, LEGEND}

-- The sheet with its style.
abbrev pub sheet_text : ℕ → ℕ → List ℕ
sheet_text width height =
    OPENING.now ++ (decimal width ++ (codes "\" height=\"" ++ (decimal height ++ (codes "\" viewBox=\"0 0 "
    ++ (decimal width ++ (codes " " ++ (decimal height ++ (codes "\">\n" ++ STYLE.now))))))))

-- A background of this width, plain or with stripes, from top to bottom.
abbrev pub ground_text : Bool → ℕ → ℕ → ℕ → List ℕ
ground_text striped top width bottom =
    codes "<path class=\"" ++ ((if striped then codes "stripes" else codes "paper") ++ (codes "\" d=\"M0 " ++ (decimal top ++ (codes "H" ++ (decimal width
    ++ (codes "V" ++ (decimal bottom ++ codes "H0z\"/>\n")))))))

-- The legend.
abbrev pub legend_text : ℕ → List ℕ
legend_text top = codes "<g transform=\"translate(0 " ++ (decimal top ++ (codes ")\">\n" ++ (LEGEND.now ++ codes "</g>\n</svg>\n")))
