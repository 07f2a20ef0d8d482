use Rattle.std.proofs.Common.{◌≡◌, ℕ, List, Bor, codes, map, inr, subst, rules}
use Rattle.std.proofs.lemmas.Result.{IfErr-weaker}
use Rattle.clap.specs.Words.{found_of}
use Rattle.command_line.specs.Mistakes.{AreFiles}
use Rattle.command_line.specs.Words.{all_words}
use Rattle.command_line.proofs.settings.script.read.Goals as goal

pub returns-clause-mistake : goal.returns-clause-mistake
returns-clause-mistake c =
    let found = found_of c.args.matches.now in
    let are : map (λ (file : Bor (List ℕ)). file.now) c.unwrap_or-files.result.now ≡ all_words found (codes "FILE") = search rules in
    let files : AreFiles (all_words found (codes "FILE")) = subst AreFiles are c.in_ok-check_files.ensures.fit in
    IfErr-weaker c.with_files.result _ _ (λ fault h. inr (files, inr h)) c.with_files.ensures.mistake
