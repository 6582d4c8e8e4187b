use Rattle.std.proofs.Common.{◌≡◌, ◌+◌, ◌≤◌, option_map, length}
use Rattle.bench_reader.specs.Forms.{names}
use Rattle.bench_reader.specs.Symbols.{symbols}
use Rattle.bench_reader.proofs.inputs.count_of.Given as goal

-- the names so far and those of the rest are as many as those of the text
abbrev pub invariant-loop-after : goal.invariant-loop-after
invariant-loop-after l =
    (option_map (λ others. l.count + length others) (names (symbols l.rest)) ≡ option_map length (names (symbols l.text)))
    × (l.count + length l.rest ≤ length l.text)

abbrev pub decreases-loop-after : goal.decreases-loop-after
decreases-loop-after l = length l.rest
