use Rattle.std.proofs.Common.{ℕ, List, Option, Bor, refl, sym, subst}
use Rattle.std.specs.Prelude.{option_copied}
use Rattle.command_line.specs.Mistakes.{IsMixFault, IsMixWord}
use Rattle.command_line.proofs.settings.mix.mix.Goals as goal

pub returns-in-Some-parsed-clause-fits : goal.returns-in-Some-parsed-clause-fits
returns-in-Some-parsed-clause-fits c =
    let Fits : Option (Bor (List ℕ)) → Type 0 = λ words. IsMixWord (option_copied words) in
    subst Fits (sym c.in-Some.is) (c.in-Some-parsed.mix, c.in-Some-parsed.ensures.value)

pub returns-in-None-parsed-clause-mistake : goal.returns-in-None-parsed-clause-mistake
returns-in-None-parsed-clause-mistake c =
    let Fails : Option (Bor (List ℕ)) → Type 0 = λ words. IsMixFault (option_copied words) in
    (refl, subst Fails (sym c.in-Some.is) (c.parsed.ensures.none c.in-None-parsed.is))
