-- Commands in plain form: `check`, pairs and two names; `gen`, pairs and a size.
use Rattle.std.specs.Prelude.{ℕ, ◌≤◌, ◌&&◌, List, [], ◌∷◌, codes, Option, Some, None, if◌then◌else◌}
use Rattle.std.specs.Option.{option_and_then, option_map}
use Rattle.std.specs.Str.{bytes_eq}
use Rattle.settings.specs.declared.command.Command.{Command}
use Rattle.settings.specs.declared.command.Command.TheVariants as commands
use Rattle.settings.specs.declared.command.Settings.{Settings}
use Rattle.multiplier.specs.declared.size.TheConstants.{LEAST_SIZE, MOST_SIZE}
use Rattle.settings.specs.Limits.{AreWithin, settings_of}
use Rattle.settings.specs.Numbers.{size_of}
use Rattle.settings.specs.Pairs.{nothing, pairs}
use Rattle.settings.specs.Words.{is_name}

-- a command: a check by the names of the netlist's and the specification's file, or the check of a multiplier by its size
pub data PlainCommand : Type 0 where
  check : Settings → List ℕ → List ℕ → PlainCommand
  gen : Settings → ℕ → PlainCommand

-- the limits of a command's numbers
abbrev pub IsWithinLimits : PlainCommand → Type 0
IsWithinLimits (check settings netlist spec) = AreWithin settings
IsWithinLimits (gen settings size) = AreWithin settings × (LEAST_SIZE ≤ size) × (size ≤ MOST_SIZE)

abbrev pub said : Command → PlainCommand
said (commands.Check settings netlist spec) = check settings netlist.now spec.now
said (commands.Gen settings size) = gen settings size

abbrev pub check_of : List ℕ → Settings → List ℕ → List ℕ → Option PlainCommand
check_of command settings netlist spec =
    if bytes_eq command (codes "check") && is_name netlist && is_name spec then Some (check settings netlist spec) else None

abbrev pub gen_of : List ℕ → Settings → List ℕ → Option PlainCommand
gen_of command settings size = if bytes_eq command (codes "gen") then option_map (gen settings) (size_of size) else None

-- the command, by its first word, its settings and its last words
abbrev pub command_by : List ℕ → Settings → List (List ℕ) → Option PlainCommand
command_by command settings (netlist ∷ spec ∷ []) = check_of command settings netlist spec
command_by command settings (size ∷ []) = gen_of command settings size
command_by command settings _ = None

-- the command that words say in plain form
abbrev pub command_of : List (List ℕ) → Option PlainCommand
command_of [] = None
command_of (command ∷ more) =
    option_and_then (λ front. option_and_then (λ settings. command_by command settings front.1) (settings_of front.0)) (pairs nothing more)
