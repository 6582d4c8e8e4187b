-- The values in matches, put into the words of plain form.
use Rattle.std.specs.Prelude.{List, [], ◌∷◌, ◌++◌, codes, Option, Some, None}
use Rattle.clap.specs.Words.{Row, Text, first_of}

-- an option and its value, where one is given
abbrev pub pair_of : Text → Option Text → List Text
pair_of option None = []
pair_of option (Some value) = option ∷ value ∷ []

abbrev pub word_of : Option Text → List Text
word_of None = []
word_of (Some value) = value ∷ []

abbrev pub pairs_of : List Row → List Text
pairs_of rows = pair_of (codes "--kind") (first_of (codes "kind") rows)
    ++ pair_of (codes "--method") (first_of (codes "method") rows)
    ++ pair_of (codes "--workers") (first_of (codes "workers") rows)
    ++ pair_of (codes "--cells") (first_of (codes "cells") rows)

abbrev pub check_words : List Row → List Text
check_words rows = (codes "check" ∷ pairs_of rows) ++ word_of (first_of (codes "NETLIST") rows) ++ word_of (first_of (codes "SPEC") rows)

abbrev pub gen_words : List Row → List Text
gen_words rows = (codes "gen" ∷ pairs_of rows) ++ word_of (first_of (codes "SIZE") rows)
