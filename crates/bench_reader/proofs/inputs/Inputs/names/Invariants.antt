use Rattle.std.proofs.Common.{◌≡◌, ◌++◌, map, filter_map, length}
use Rattle.bench_reader.specs.Symbols.{symbols}
use Rattle.bench_reader.specs.Views.{name_text}
use Rattle.bench_reader.proofs.inputs.Inputs.names.Given as goal

-- the names so far and those of the rest are those of the text
abbrev pub invariant-loop-symbol : goal.invariant-loop-symbol
invariant-loop-symbol l = map (λ name. name.now) l.found.items ++ filter_map name_text (symbols l.rest) ≡ filter_map name_text (symbols l.initial.rest)

abbrev pub decreases-loop-symbol : goal.decreases-loop-symbol
decreases-loop-symbol l = length l.rest
