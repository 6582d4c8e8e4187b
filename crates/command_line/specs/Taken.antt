-- Words that are taken: clap promises that want of memory alone can refuse them, and each value that it finds is one that plain form allows
-- in its place.
use Rattle.std.specs.Prelude.{◌≡◌, ◌⊎◌, ℕ, true, List, [], ◌∷◌, codes, Option, Some, None}
use Rattle.checks.specs.declared.Method.TheVariants.{Forward}
use Rattle.clap.specs.Words.{App, Row, Text, fault_of, first_of, matches_of}
use Rattle.settings.specs.Commands.{PlainCommand, check, gen, command_of as in_plain_form}
use Rattle.settings.specs.Limits.{is_within}
use Rattle.settings.specs.Numbers.{number_of, size_of}
use Rattle.settings.specs.Words.{is_name, kind_of, method_of}
use Rattle.settings.specs.declared.Settings.{Settings}
use Rattle.word_base.specs.declared.KindName.TheVariants.{StarBmd}
use Rattle.command_line.specs.Apps.{check_app, gen_app}
use Rattle.command_line.specs.Commands.{command_of}

-- what an option means: the usual where no value is found, and else a value that plain form has to allow
abbrev pub Means : {T : Type 0} → (Text → Option T) → T → Option Text → T → Type 0
Means read usual None meaning = meaning ≡ usual
Means read usual (Some value) meaning = read value ≡ Some meaning

pub record MeanOptions (rows : List Row) (settings : Settings) : Type 0 where
  pub kind : Means kind_of StarBmd (first_of (codes "kind") rows) settings.kind
  pub method : Means method_of Forward (first_of (codes "method") rows) settings.method
  pub workers : Means number_of 1 (first_of (codes "workers") rows) settings.workers
  pub cells : Means number_of 262144 (first_of (codes "cells") rows) settings.cells

-- the options mean these settings, which are within the limits
pub record HasSettings (rows : List Row) (settings : Settings) : Type 0 where
  pub options : MeanOptions rows settings
  pub within : is_within settings.workers settings.cells ≡ true

pub record HasName (rows : List Row) (place name : Text) : Type 0 where
  pub value : first_of place rows ≡ Some name
  pub allowed : is_name name ≡ true

pub record HasSize (rows : List Row) (size : ℕ) : Type 0 where
  pub text : Text
  pub value : first_of (codes "SIZE") rows ≡ Some text
  pub allowed : size_of text ≡ Some size

-- the values in matches, each read in its place, are those of the command
abbrev pub HasCommand : List Row → PlainCommand → Type 0
HasCommand rows (check settings netlist spec) =
    HasSettings rows settings × HasName rows (codes "NETLIST") netlist × HasName rows (codes "SPEC") spec
HasCommand rows (gen settings size) = HasSettings rows settings × HasSize rows size

abbrev pub name_of : PlainCommand → Text
name_of (check settings netlist spec) = codes "check"
name_of (gen settings size) = codes "gen"

abbrev pub app_for : PlainCommand → App
app_for (check settings netlist spec) = check_app
app_for (gen settings size) = gen_app

pub record IsTaken (words : List Text) (command : PlainCommand) : Type 0 where
  pub other : in_plain_form words ≡ None
  pub rest : List Text
  pub named : words ≡ name_of command ∷ rest
  -- clap's promise: where nothing is at fault, an error is want of memory
  pub promised : fault_of (app_for command) rest ≡ []
  pub values : HasCommand (matches_of (app_for command) rest) command

-- the laws, each the contract of a function of src/laws.rt: words that are taken are read, and words that are read are in plain form or taken
abbrev pub TakenWordsAreRead : Type 0
TakenWordsAreRead = (words : List Text) (command : PlainCommand) → IsTaken words command → command_of words ≡ Some command

abbrev pub ReadWordsAreTaken : Type 0
ReadWordsAreTaken = (words : List Text) (command : PlainCommand) → command_of words ≡ Some command
    → (in_plain_form words ≡ Some command) ⊎ IsTaken words command
