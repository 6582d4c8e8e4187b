use Rattle.std.proofs.Common.{◌≡◌, ◌++◌}
use Rattle.std.specs.List.{flat_map, range_with_len}
use Rattle.multiplier.specs.Adders.{adder}
use Rattle.multiplier.proofs.adders.push_adder_row.Given as goal

abbrev pub invariant-loop-column : goal.invariant-loop-column
invariant-loop-column l = l.made.items ≡ l.initial.made.items ++ flat_map (adder l.size l.row) (range_with_len 0 l.column)
