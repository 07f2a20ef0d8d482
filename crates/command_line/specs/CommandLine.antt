-- The command line: its commands, and the arguments and options of each, in terms of clap.
use Rattle.std.specs.Prelude.{◌≡◌, ℕ, List, [], ◌∷◌, Some, true, false, codes}
use Rattle.clap.specs.Lexer.{usize_max}
use Rattle.clap.specs.Simple.{App, Shape, app_of, new_rule, new_shape}
use Rattle.clap.specs.Walk.{Rule, rule_of}
use Rattle.clap.specs.declared.builder.command.Command.TheViews.{out-Command}
use Rattle.clap.specs.declared.builder.action.ArgAction.TheVariants.{Append, SetTrue}
use Rattle.clap.specs.declared.builder.arg.Arg.{Arg}
use Rattle.clap.specs.declared.builder.command.Command.{Command}

-- ---- the kinds of arguments

-- one required word, recognized by its place
abbrev pub argument : List ℕ → Rule
argument id = record (new_rule id) { required = true }

-- one word or more, recognized by their place
abbrev pub arguments : List ℕ → Rule
arguments id = record (new_rule id) {
  required = true;
  action = Some Append;
  range = Some (record { start_inclusive = 1; end_inclusive = usize_max });
}

-- `--name WORD`, which may be left out
abbrev pub option : List ℕ → Rule
option name = record (new_rule name) { long = Some name; value_names = 1 }

-- `--name`, which may be left out
abbrev pub flag : List ℕ → Rule
flag name = record (new_rule name) { long = Some name; action = Some SetTrue }

-- ---- the commands

-- a command of this name with these arguments
abbrev pub command : List ℕ → List Rule → Shape
command name rules = record (new_shape name) { rules = rules }

abbrev pub populate_command : Shape
populate_command = command (codes "populate") (
    argument (codes "FILE") ∷ option (codes "warehouses") ∷ option (codes "items") ∷ option (codes "customers")
    ∷ option (codes "seed") ∷ option (codes "now") ∷ flag (codes "quiet") ∷ [])

abbrev pub script_command : Shape
script_command = command (codes "script") (
    argument (codes "DATA") ∷ arguments (codes "FILE") ∷ option (codes "requests") ∷ option (codes "seed") ∷ option (codes "mix")
    ∷ option (codes "home") ∷ option (codes "remote") ∷ option (codes "now") ∷ flag (codes "quiet") ∷ [])

abbrev pub check_command : Shape
check_command = command (codes "check") (argument (codes "DATA") ∷ flag (codes "fresh") ∷ flag (codes "quiet") ∷ [])

abbrev pub migrate_command : Shape
migrate_command = command (codes "migrate") (argument (codes "OLD") ∷ argument (codes "NEW") ∷ flag (codes "quiet") ∷ [])

abbrev pub run_command : Shape
run_command = command (codes "run") (
    argument (codes "DATA") ∷ arguments (codes "SCRIPT") ∷ option (codes "executors") ∷ option (codes "log-limit") ∷ option (codes "inbox") ∷ option (codes "tries")
    ∷ option (codes "moves") ∷ option (codes "log") ∷ option (codes "tables") ∷ flag (codes "summary") ∷ flag (codes "quiet") ∷ [])

abbrev pub replay_command : Shape
replay_command = command (codes "replay") (
    argument (codes "DATA") ∷ argument (codes "LOG") ∷ option (codes "tables") ∷ flag (codes "summary") ∷ flag (codes "quiet") ∷ [])

abbrev pub sim_command : Shape
sim_command = command (codes "sim") (
    argument (codes "DATA") ∷ argument (codes "SCHEDULE") ∷ option (codes "executors") ∷ option (codes "log-limit") ∷ option (codes "inbox") ∷ flag (codes "locks")
    ∷ option (codes "log") ∷ option (codes "picture") ∷ option (codes "tables") ∷ flag (codes "quiet") ∷ [])

-- the program without its commands: a command has to be named, and there are `--help` and `--version`
abbrev pub program_alone : Shape
program_alone = record (new_shape (codes "tpcc")) {
  has_version = true;
  disable_help_subcommand = true;
  arg_required_else_help = true;
  subcommand_required = true;
}

-- the program with its commands
unfoldable pub program : App
program = record {
  top = record program_alone { is_leaf = false };
  subs = populate_command ∷ script_command ∷ check_command ∷ migrate_command ∷ run_command ∷ replay_command ∷ sim_command ∷ [];
}

-- ---- what is built

-- clap reads the argument by this rule, at its own command only
pub record IsArgument (as_rule : Rule) (a : Arg) : Type 0 where
  pub rule : rule_of a ≡ as_rule
  pub local : a.global ≡ false

-- clap reads the command as this one, and no argument is global
pub record IsCommand (as_app : App) (c : Command) : Type 0 where
  pub app : app_of c ≡ as_app
  pub local : (out-Command c).has_globals ≡ false

-- a command without commands of its own
abbrev pub alone : Shape → App
alone shape = record { top = shape; subs = [] }
