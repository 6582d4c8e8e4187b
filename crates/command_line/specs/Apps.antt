-- The two commands as clap reads them.
use Rattle.std.specs.Prelude.{codes, Some, true}
use Rattle.clap.specs.Simple.{on_top}
use Rattle.clap.specs.Words.{App, Rule, Text, new_app, new_rule, with_rule}

-- an option of one text, by its long name
abbrev pub option_rule : Text → Rule
option_rule name = record (new_rule name) { long = Some name }

-- a text that has to stand in its place
abbrev pub place_rule : Text → Rule
place_rule name = record (new_rule name) { required = true }

-- the words come without the command's name, and no word asks for help
abbrev pub bare_app : Text → App
bare_app name = on_top (λ s. record s { no_binary_name = true; disable_help_flag = true }) (new_app name)

abbrev pub with_options : App → App
with_options app = with_rule (with_rule (with_rule (with_rule app
    (option_rule (codes "kind"))) (option_rule (codes "method"))) (option_rule (codes "workers"))) (option_rule (codes "cells"))

unfoldable pub check_app : App
check_app = with_rule (with_rule (with_options (bare_app (codes "check"))) (place_rule (codes "NETLIST"))) (place_rule (codes "SPEC"))

unfoldable pub gen_app : App
gen_app = with_rule (with_options (bare_app (codes "gen"))) (place_rule (codes "SIZE"))
