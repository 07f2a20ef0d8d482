use Rattle.std.proofs.Common.{◌≡◌, codes, inr, rules}
use Rattle.std.specs.Prelude.{IfErr}
use Rattle.std.proofs.lemmas.Result.{IfErr-weaker}
use Rattle.clap.specs.Words.{found_of}
use Rattle.command_line.specs.Mistakes.{IsScriptFault}
use Rattle.command_line.proofs.AskedWords.{of_script}
use Rattle.command_line.proofs.settings.settings_of.Goals as goal

pub returns-in_err-read-in-script-clause-mistake : goal.returns-in_err-read-in-script-clause-mistake
returns-in_err-read-in-script-clause-mistake c =
    let found = found_of c.args.found.now in
    let is : c.args.name.now ≡ codes "script" = search rules in
    let mistake : IfErr c.from_residual-in_err-read-in-script.result (IsScriptFault found) = search rules in
    IfErr-weaker c.from_residual-in_err-read-in-script.result _ _ (λ fault h. inr (of_script c.args.name.now found fault is h)) mistake
