use Rattle.std.proofs.Common.{◌≡◌, ℕ, ◌/◌, ◌%◌, ◌≤◌, List, [], ◌++◌, length, take, ap, ◌∙◌, append_assoc, arith, length-append}
use Rattle.std.proofs.lemmas.List.{take_all}
use Rattle.rows.specs.LastName.{syllable_of}
use Rattle.rows.proofs.Fitting.{cut_more}
use Rattle.rows.proofs.names.last_name.Goals as goal

-- three syllables fit
three_fit : (x y z : List ℕ) → length x ≤ 5 → length y ≤ 5 → length z ≤ 5 → take 16 (x ++ y ++ z) ≡ x ++ (y ++ z)
three_fit x y z a b c =
    take_all 16 (x ++ y ++ z) (omega (arith, length-append (x ++ y) z, length-append x y)) ∙ append_assoc x y z

pub returns : goal.returns
returns c =
    let x = c.syllable.result.now in
    let y = c.syllable-2.result.now in
    let z = c.syllable-3.result.now in
    let none : List ℕ = [] in
    let s0 : c.new-name.result ≡ take 16 none = c.new-name.ensures in
    let s1 = cut_more 16 c.new-name.result c.push_fitting.new.self none x s0 c.push_fitting.ensures in
    let s2 = cut_more 16 c.push_fitting.new.self c.push_fitting-2.new.self x y s1 c.push_fitting-2.ensures in
    let s3 = cut_more 16 c.push_fitting-2.new.self c.push_fitting-3.new.self (x ++ y) z s2 c.push_fitting-3.ensures in
    let n = c.args.number in
    s3 ∙ three_fit x y z c.syllable.ensures.short c.syllable-2.ensures.short c.syllable-3.ensures.short
    ∙ ap (λ l. l ++ (y ++ z)) c.syllable.ensures.value
    ∙ ap (λ l. syllable_of (n / 100) ++ (l ++ z)) c.syllable-2.ensures.value
    ∙ ap (λ l. syllable_of (n / 100) ++ (syllable_of (n / 10 % 10) ++ l)) c.syllable-3.ensures.value
