-- The text of the asides.
use Rattle.std.specs.Prelude.{ℕ, ◌+◌, ◌*◌, Bool, if◌then◌else◌, List, ◌++◌, codes}
use Rattle.std.specs.Fmt.{decimal}
use Rattle.picture.specs.declared.asides.TheConstants.{DOWN}
use Rattle.picture.specs.declared.asides.Aside.{Aside}
use Rattle.picture.specs.declared.asides.Aside.TheVariants.{Head, Lane, Named, Hop, Bend, Claim, Groups}
use Rattle.picture.specs.Lanes.{row_top, row_middle, row_bottom}
use Rattle.picture.specs.Phrases.{phrase_text}

-- The distance to a row further down by one and this many more.
abbrev pub further : ℕ → ℕ
further more = 20 * (more + 1)

-- The class of an arrow: of an item in an outbox, or of a message.
abbrev pub hop_class : Bool → List ℕ
hop_class sent = if sent then codes "item" else codes "message"

-- The line of SVG of an aside.
abbrev pub aside_text : Aside → List ℕ
aside_text (Head x y phrase) =
    codes "<text class=\"head\" x=\"" ++ (decimal x ++ (codes "\" y=\"" ++ (decimal y ++ (codes "\">" ++ (phrase_text phrase ++ codes "</text>\n")))))
aside_text (Lane sends x rows) =
    codes "<path class=\"" ++ ((if sends then codes "sends" else codes "lane") ++ (codes "\" d=\"M" ++ (decimal x ++ (codes " 70V" ++ (decimal (74 + 20 * rows) ++ codes "\"/>\n")))))
aside_text (Named x at phrase) =
    codes "<text class=\"dim\" x=\"" ++ (decimal x ++ (codes "\" y=\"" ++ (decimal (row_middle at + 4) ++ (codes "\">" ++ (phrase_text phrase ++ codes "</text>\n")))))
aside_text (Hop sent from_x to_x from more) =
    codes "<path class=\"" ++ (hop_class sent ++ (codes "\" d=\"M" ++ (decimal from_x ++ (codes " " ++ (decimal (row_middle from) ++ (codes "L" ++ (decimal to_x
    ++ (codes " " ++ (decimal (row_middle from + further more) ++ codes "\"/>\n")))))))))
aside_text (Bend x side from more) =
    let y = decimal (row_middle from) in
    let to = decimal (row_middle from + further more) in
    codes "<path class=\"item\" d=\"M" ++ (decimal x ++ (codes " " ++ (y ++ (codes "C" ++ (decimal side ++ (codes " " ++ (y ++ (codes " " ++ (decimal side
    ++ (codes " " ++ (to ++ (codes " " ++ (decimal x ++ (codes " " ++ (to ++ codes "\"/>\n")))))))))))))))
aside_text (Claim shared left right from more) =
    codes "<path class=\"" ++ ((if shared then codes "shared" else codes "claim") ++ (codes "\" d=\"M" ++ (decimal left ++ (codes " " ++ (decimal (row_top from)
    ++ (codes "H" ++ (decimal right ++ (codes "V" ++ (decimal (row_bottom from + further more) ++ (codes "H" ++ (decimal left ++ codes "z\"/>\n")))))))))))
aside_text (Groups x at groups) =
    DOWN.now ++ (decimal x ++ (codes " " ++ (decimal (row_top at + 3) ++ (codes ") rotate(90)\">" ++ (phrase_text groups ++ codes "</text>\n")))))
