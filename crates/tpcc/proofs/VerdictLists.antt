-- The verdicts on conditions, by induction on the conditions.
use Rattle.std.proofs.Common.{◌≡◌, ℕ, suc, ◌+◌, ◌<◌, ◌≤◌, Bool, List, [], ◌∷◌, ◌++◌, length, take, get_or, ap, ◌∙◌, arith}
use Rattle.std.proofs.lemmas.List.{take_more, length-take-le}
use Rattle.tpcc.specs.declared.verdicts.Verdict.{Verdict}
use Rattle.tpcc.specs.Verdicts.{found_of, verdicts_of}

-- the verdict on a condition
abbrev pub verdict_of : Bool → ℕ → Bool → Verdict
verdict_of fresh condition holds = record { condition = condition; found = found_of fresh condition holds }

verdicts-push : (fresh : Bool) (n : ℕ) (answers : List Bool) (holds : Bool)
    → verdicts_of fresh n (answers ++ holds ∷ []) ≡ verdicts_of fresh n answers ++ verdict_of fresh (n + length answers) holds ∷ []
verdicts-push fresh n [] holds = ap (λ m. verdict_of fresh m holds ∷ []) (let e : n ≡ n + 0 = omega arith in e)
verdicts-push fresh n (first ∷ answers) holds =
    ap (λ l. verdict_of fresh n first ∷ l) (verdicts-push fresh (n + 1) answers holds
    ∙ ap (λ m. verdicts_of fresh (n + 1) answers ++ verdict_of fresh m holds ∷ []) (let e : n + 1 + length answers ≡ n + suc (length answers) = omega arith in e))

pub verdicts-more : (fresh : Bool) (answers : List Bool) (i : ℕ) (d : Bool) → i < length answers
    → verdicts_of fresh 1 (take (i + 1) answers) ≡ verdicts_of fresh 1 (take i answers) ++ verdict_of fresh (i + 1) (get_or answers i d) ∷ []
verdicts-more fresh answers i d h =
    let up_to : i ≤ length answers = omega arith in
    let at : 1 + length (take i answers) ≡ i + 1 = omega (arith, length-take-le i answers up_to) in
    ap (verdicts_of fresh 1) (take_more answers i d h)
    ∙ verdicts-push fresh 1 (take i answers) (get_or answers i d)
    ∙ ap (λ m. verdicts_of fresh 1 (take i answers) ++ verdict_of fresh m (get_or answers i d) ∷ []) at
