use Rattle.std.proofs.Common.{◌≡◌, ℕ, List, [], map, Ok, Err, Some, None, inl, inr, refl, string_bytes}
use Rattle.std.proofs.lemmas.Result.{IfErr-weaker, IfOk-weaker}
use Rattle.clap.specs.Words.{HasKind, fault_of, found_of, rows_of, subcommand_of, subcommand_rows_of}
use Rattle.clap.specs.declared.error.ErrorKind.TheVariants.{DisplayVersion}
use Rattle.command_line.specs.declared.usage.UsageFault.TheVariants.{NoCommand}
use Rattle.command_line.specs.CommandLine.{program}
use Rattle.command_line.proofs.AskedWords.{means, mistakes, named, no_memory, of_command, reported, version}
use Rattle.command_line.proofs.ParsedWords.{among, entered, fails_by, names, no_rows}
use Rattle.command_line.proofs.settings.read_words.Goals as goal

pub returns-in-Err-clause-asked : goal.returns-in-Err-clause-asked
returns-in-Err-clause-asked c =
    let words : List (List ℕ) = map string_bytes c.args.words.now in
    let has : HasKind (fault_of program words) c.in-Err.error = fails_by c.in_ok-program.field-0 words (Err c.in-Err.error) c.in_ok-program.ensures c.in-Err.ensures.kinds in
    IfOk-weaker c.text_or_fault.result _ _ (λ settings h. means words settings c.in_default.ensures (version words settings h.0 (among (fault_of program words) c.in-Err.error DisplayVersion has h.1 (λ e. cc))))
    c.text_or_fault.ensures.text

pub returns-in-Err-clause-mistake : goal.returns-in-Err-clause-mistake
returns-in-Err-clause-mistake c =
    let words : List (List ℕ) = map string_bytes c.args.words.now in
    let has : HasKind (fault_of program words) c.in-Err.error = fails_by c.in_ok-program.field-0 words (Err c.in-Err.error) c.in_ok-program.ensures c.in-Err.ensures.kinds in
    IfErr-weaker c.text_or_fault.result _ _ (λ fault h. mistakes words fault c.in_default.ensures (reported words c.in-Err.error fault has h)) c.text_or_fault.ensures.mistake

pub returns-in-Some-subcommand-clause-asked : goal.returns-in-Some-subcommand-clause-asked
returns-in-Some-subcommand-clause-asked c =
    let words : List (List ℕ) = map string_bytes c.args.words.now in
    let m = c.in-Ok.matches in
    let name = c.in-Some-subcommand.name.now in
    let found = found_of c.in-Some-subcommand.found.now in
    let well : fault_of program words ≡ [] = fails_by c.in_ok-program.field-0 words (Ok m) c.in_ok-program.ensures c.in-Ok.ensures.kinds in
    let met : subcommand_rows_of m ≡ Some (name, rows_of found) = entered m name (rows_of found) c.in-Some-subcommand.ensures.name c.in-Some-subcommand.ensures.rows in
    let is : subcommand_of program words ≡ Some (name, rows_of found) = names c.in_ok-program.field-0 words m (Some (name, rows_of found)) c.in_ok-program.ensures c.in-Ok.ensures.matches met in
    IfOk-weaker c.settings_of.result _ _ (λ settings h. means words settings c.in_default.ensures (named words settings (well, (name, found, is, h)))) c.settings_of.ensures.asked

pub returns-in-Some-subcommand-clause-mistake : goal.returns-in-Some-subcommand-clause-mistake
returns-in-Some-subcommand-clause-mistake c =
    let words : List (List ℕ) = map string_bytes c.args.words.now in
    let m = c.in-Ok.matches in
    let name = c.in-Some-subcommand.name.now in
    let found = found_of c.in-Some-subcommand.found.now in
    let well : fault_of program words ≡ [] = fails_by c.in_ok-program.field-0 words (Ok m) c.in_ok-program.ensures c.in-Ok.ensures.kinds in
    let met : subcommand_rows_of m ≡ Some (name, rows_of found) = entered m name (rows_of found) c.in-Some-subcommand.ensures.name c.in-Some-subcommand.ensures.rows in
    let is : subcommand_of program words ≡ Some (name, rows_of found) = names c.in_ok-program.field-0 words m (Some (name, rows_of found)) c.in_ok-program.ensures c.in-Ok.ensures.matches met in
    IfErr-weaker c.settings_of.result _ _ (λ fault h. mistakes words fault c.in_default.ensures (elim h [
      | inl none ↦ no_memory words fault none
      | inr one ↦ of_command words fault (well, (name, found, is, one))
    ])) c.settings_of.ensures.mistake

pub returns-clause-mistake : goal.returns-clause-mistake
returns-clause-mistake c =
    let words : List (List ℕ) = map string_bytes c.args.words.now in
    let m = c.in-Ok.matches in
    let well : fault_of program words ≡ [] = fails_by c.in_ok-program.field-0 words (Ok m) c.in_ok-program.ensures c.in-Ok.ensures.kinds in
    let met : subcommand_rows_of m ≡ None = no_rows (subcommand_rows_of m) _ c.in-None.ensures.rows in
    let is : subcommand_of program words ≡ None = names c.in_ok-program.field-0 words m None c.in_ok-program.ensures c.in-Ok.ensures.matches met in
    mistakes words NoCommand c.in_default.ensures (inr (refl, well, is))
