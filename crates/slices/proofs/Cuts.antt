-- Slices that are cut one after another.
use Rattle.std.proofs.Common.{◌≡◌, ◌+◌, ◌<◌, List, [], ◌∷◌, ◌++◌, length, get_or, map, sym, ap, ◌∙◌, arith, append_assoc, length-append}
use Rattle.std.specs.Prelude.{reverse}
use Rattle.std.proofs.Math.Seq.{get_or-append_seam}
use Rattle.std.proofs.lemmas.List.{map-append, reverse-append}
use Rattle.schema.specs.Database.{Database}
use Rattle.partitions.specs.Parts.{Part, part_of, parts_of}
use Rattle.partitions.proofs.PartLaws.{length-parts_of, part_at}
use Rattle.slices.specs.SliceView.{SliceView, at_rest, part_in}
use Rattle.slices.proofs.Joined.{parts_at_rest}

-- ---- the last part first

-- the parts that are left, and the slices of those that were the last, make the slices of all
abbrev pub AreCutSoFar : Database → List Part → List SliceView → Type 0
AreCutSoFar t parts slices = map at_rest parts ++ reverse slices ≡ map at_rest (parts_of t)

-- the next part is that of the last warehouse that is left
pub next_part : (t : Database) (parts rest : List Part) (p : Part) (slices : List SliceView) → AreCutSoFar t parts slices → parts ≡ rest ++ p ∷ [] → p ≡ part_of t (length rest + 1)
next_part t parts rest p slices so_far next =
    let more : List Part = map part_in (reverse slices) in
    let all : rest ++ (p ∷ more) ≡ parts_of t =
    sym (append_assoc rest (p ∷ []) more) ∙ sym (ap (λ ps. ps ++ more) (parts_at_rest parts ∙ next))
    ∙ sym (map-append part_in (map at_rest parts) (reverse slices)) ∙ ap (map part_in) so_far ∙ parts_at_rest (parts_of t) in
    let long : length rest + length (p ∷ more) ≡ t.scale.warehouses = sym (length-append rest (p ∷ more)) ∙ ap length all ∙ length-parts_of t in
    let below : length rest < t.scale.warehouses = omega (arith, long) in
    sym (get_or-append_seam rest p more p) ∙ ap (λ ps. get_or ps (length rest) p) all ∙ part_at t (length rest) (length rest + 1) p below (omega arith)

-- a slice of that part is one more
pub one_slice_more : (t : Database) (parts rest : List Part) (p : Part) (slices later : List SliceView) (slice : SliceView) → AreCutSoFar t parts slices → parts ≡ rest ++ p ∷ [] → slice ≡ at_rest p
    → later ≡ slices ++ slice ∷ [] → AreCutSoFar t rest later
one_slice_more t parts rest p slices later slice so_far next is longer =
    ap (λ l. map at_rest rest ++ reverse l) (longer ∙ ap (λ s. slices ++ s ∷ []) is)
    ∙ ap (λ l. map at_rest rest ++ l) (reverse-append slices (at_rest p ∷ []))
    ∙ sym (append_assoc (map at_rest rest) (at_rest p ∷ []) (reverse slices))
    ∙ sym (ap (λ l. l ++ reverse slices) (ap (map at_rest) next ∙ map-append at_rest rest (p ∷ [])))
    ∙ so_far
