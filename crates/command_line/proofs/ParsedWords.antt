-- What clap makes of words, of the command line that is built.
use Rattle.std.proofs.Common.{◌≡◌, ℕ, List, Option, None, Some, true, inl, inr, refl, sym, ap, subst, ◌∙◌}
use Rattle.std.specs.Prelude.{Result, Box, option_map}
use Rattle.std.specs.Box.{box_value}
use Rattle.clap.specs.Words.{App, FailsBy, HasKind, HasMatchesOf, IsAmong, Row, app_of, fault_of, found_of, is_simple, is_simple_and_free, kind_of, rows_of, subcommand_name_of, subcommand_of, subcommand_rows, subcommand_rows_of}
use Rattle.clap.specs.declared.error.Error.{Error}
use Rattle.clap.specs.declared.error.ErrorKind.{ErrorKind}
use Rattle.clap.specs.declared.error.ErrorKind.TheVariants.{OutOfMemory}
use Rattle.clap.specs.declared.builder.command.Command.{Command}
use Rattle.clap.specs.declared.parser.matches.ArgMatches.{ArgMatches}
use Rattle.clap.specs.declared.parser.matches.ArgMatches.TheViews.{out-ArgMatches, out-SubCommand}
use Rattle.clap.specs.declared.parser.matches.SubCommand.{SubCommand}
use Rattle.clap.proofs.OnLiterals.{clap_on_literals}
use Rattle.command_line.specs.CommandLine.{IsCommand, program}

-- the command line is one for which clap specifies exactly what it returns for any words
program_is_simple : is_simple program ≡ true
unfolding program clap_on_literals
program_is_simple = refl

program_is_free : is_simple_and_free program ≡ true
unfolding program clap_on_literals
program_is_free = refl

-- why a parse fails
pub fails_by : (c : Command) (words : List (List ℕ)) (result : Result ArgMatches Error) → IsCommand program c
    → (is_simple_and_free (app_of c) ≡ true → FailsBy (fault_of (app_of c) words) result) → FailsBy (fault_of program words) result
fails_by c words result is kinds =
    let Fails : App → Type 0 = λ a. FailsBy (fault_of a words) result in
    subst Fails is.app (kinds (ap is_simple_and_free is.app ∙ program_is_free))

-- a kind that is not out of memory is among those that are reported
pub among : (kinds : List ErrorKind) (e : Error) (kind : ErrorKind) → HasKind kinds e → kind_of e ≡ kind → (kind ≡ OutOfMemory → ⊥) → IsAmong kind kinds
among kinds e kind has is other =
    elim has [
      | inl none ↦ absurd (other (sym is ∙ none))
      | inr some ↦ let Among : ErrorKind → Type 0 = λ k. IsAmong k kinds in subst Among is some
    ]

-- no subcommand was met
pub no_rows : {X Y : Type 0} (o : Option X) (f : X → Y) → None ≡ option_map f o → o ≡ None
no_rows None f e = refl
no_rows (Some x) f e = absurd cc

-- the subcommand that was met, by its name and its rows
pub entered : (m : ArgMatches) (name : List ℕ) (rows : List Row) → Some name ≡ subcommand_name_of m → Some rows ≡ option_map (λ p. p.1) (subcommand_rows_of m)
    → subcommand_rows_of m ≡ Some (name, rows)
entered m name rows named found = go (out-ArgMatches m).subcommand named found
  where
    go : {Z : Type 0} (o : Option (Box SubCommand Z)) → Some name ≡ option_map (λ b. (out-SubCommand (box_value b)).name.now) o
        → Some rows ≡ option_map (λ p. p.1) (subcommand_rows o) → subcommand_rows o ≡ Some (name, rows)
    go None named found = absurd cc
    go (Some b) named found =
        let one : name ≡ (out-SubCommand (box_value b)).name.now = cc in
        let two : rows ≡ rows_of (found_of (out-SubCommand (box_value b)).matches) = cc in
        λ i. Some (sym one i, sym two i)

-- so it is of the words
pub names : (c : Command) (words : List (List ℕ)) (m : ArgMatches) (met : Option (List ℕ × List Row)) → IsCommand program c → HasMatchesOf (app_of c) words m
    → subcommand_rows_of m ≡ met → subcommand_of program words ≡ met
names c words m met is has same =
    let Has : App → Type 0 = λ a. HasMatchesOf a words m in
    sym (subst Has is.app has program_is_simple).1 ∙ same
