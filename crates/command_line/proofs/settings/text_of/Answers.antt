use Rattle.std.proofs.Common.{ℕ, List, map, Ok, Err, refl, sym, subst, string_bytes}
use Rattle.clap.specs.Words.{HasKind, fault_of}
use Rattle.clap.specs.declared.error.ErrorKind.TheVariants.{DisplayHelp}
use Rattle.command_line.specs.declared.usage.UsageFault.{UsageFault}
use Rattle.command_line.specs.Asked.{IsTextFault}
use Rattle.command_line.specs.CommandLine.{program}
use Rattle.command_line.proofs.ParsedWords.{among, fails_by}
use Rattle.command_line.proofs.settings.text_of.Goals as goal

pub returns-in-Ok-clause-mistake : goal.returns-in-Ok-clause-mistake
returns-in-Ok-clause-mistake c =
    let words : List (List ℕ) = map string_bytes c.args.words.now in
    (refl, fails_by c.in_ok-program.field-0 words (Ok c.in-Ok.field-0) c.in_ok-program.ensures c.in-Ok.ensures.kinds)

pub returns-in-DisplayHelp-clause-text : goal.returns-in-DisplayHelp-clause-text
returns-in-DisplayHelp-clause-text c =
    let words : List (List ℕ) = map string_bytes c.args.words.now in
    let has : HasKind (fault_of program words) c.in-Err.error = fails_by c.in_ok-program.field-0 words (Err c.in-Err.error) c.in_ok-program.ensures c.in-Err.ensures.kinds in
    among (fault_of program words) c.in-Err.error DisplayHelp has (sym c.in-DisplayHelp.ensures) (λ e. cc)

pub returns : goal.returns
returns c =
    let words : List (List ℕ) = map string_bytes c.args.words.now in
    let has : HasKind (fault_of program words) c.in-Err.error = fails_by c.in_ok-program.field-0 words (Err c.in-Err.error) c.in_ok-program.ensures c.in-Err.ensures.kinds in
    let Fails : UsageFault → Type 0 = λ f. IsTextFault words f in
    record { text = tt; mistake = subst Fails (sym c.from.ensures) has }
