-- The command that words say: in plain form, or else as clap reads them.
use Rattle.std.specs.Prelude.{◌≡◌, Bool, true, false, ◌||◌, List, [], ◌∷◌, codes, Option, Some, None, if◌then◌else◌}
use Rattle.std.specs.Option.{option_and_then}
use Rattle.std.specs.Str.{bytes_eq}
use Rattle.clap.specs.Words.{Text}
use Rattle.settings.specs.Commands.{PlainCommand, command_of as in_plain_form}
use Rattle.command_line.specs.Apps.{check_app, gen_app}
use Rattle.command_line.specs.Found.{found}
use Rattle.command_line.specs.PlainWords.{check_words, gen_words}

-- the command of the values that clap finds in the words behind `check`, and behind `gen`
abbrev pub check_of : List Text → Option PlainCommand
check_of words = option_and_then (λ rows. in_plain_form (check_words rows)) (found check_app words)

abbrev pub gen_of : List Text → Option PlainCommand
gen_of words = option_and_then (λ rows. in_plain_form (gen_words rows)) (found gen_app words)

abbrev pub by_clap : List Text → Option PlainCommand
by_clap [] = None
by_clap (command ∷ words) =
    if bytes_eq command (codes "check") then check_of words else (if bytes_eq command (codes "gen") then gen_of words else None)

abbrev pub or_by_clap : Option PlainCommand → List Text → Option PlainCommand
or_by_clap (Some command) words = Some command
or_by_clap None words = by_clap words

abbrev pub command_of : List Text → Option PlainCommand
command_of words = or_by_clap (in_plain_form words) words

-- the words begin with the name of a command
abbrev pub names_command : List Text → Bool
names_command [] = false
names_command (command ∷ words) = bytes_eq command (codes "check") || bytes_eq command (codes "gen")

-- clap reads the words: they are not in plain form
pub record IsForClap (words : List Text) : Type 0 where
  pub other : in_plain_form words ≡ None
  pub named : names_command words ≡ true
