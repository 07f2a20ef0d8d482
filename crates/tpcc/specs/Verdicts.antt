-- The verdicts on the twelve conditions.
use Rattle.std.specs.Prelude.{ℕ, ◌+◌, ◌==◌, Bool, true, false, ◌&&◌, not, if◌then◌else◌, List, [], ◌∷◌, ◌++◌, codes}
use Rattle.std.specs.Fmt.{decimal}
use Rattle.tpcc.specs.declared.verdicts.Found.{Found}
use Rattle.tpcc.specs.declared.verdicts.Found.TheVariants.{Met, Broken, Skipped}
use Rattle.tpcc.specs.declared.verdicts.Verdict.{Verdict}

-- the verdict on the condition of this number, which holds or not; condition 11 is checked on fresh datasets only
abbrev pub found_of : Bool → ℕ → Bool → Found
found_of fresh condition holds = if (condition == 11) && not fresh then Skipped else (if holds then Met else Broken)

-- the verdicts on the conditions from this number on
abbrev pub verdicts_of : Bool → ℕ → List Bool → List Verdict
verdicts_of fresh condition [] = []
verdicts_of fresh condition (holds ∷ others) = record { condition = condition; found = found_of fresh condition holds } ∷ verdicts_of fresh (condition + 1) others

-- the word of a verdict
abbrev pub found_word : Found → List ℕ
found_word Met = codes "ok"
found_word Broken = codes "broken"
found_word Skipped = codes "skipped"

-- the line of a verdict: the condition's number and the word
abbrev pub verdict_text : Verdict → List ℕ
verdict_text verdict = decimal verdict.condition ++ (codes " " ++ found_word verdict.found)

-- whether the verdict is that the condition is broken
abbrev pub is_broken : Found → Bool
is_broken Met = false
is_broken Broken = true
is_broken Skipped = false
