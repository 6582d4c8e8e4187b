use Rattle.std.proofs.Common.{◌≡◌, ◌++◌, map}
use Rattle.std.specs.List.{range_with_len}
use Rattle.multiplier.specs.Adders.{partial_product}
use Rattle.multiplier.proofs.adders.push_partial_row.Given as goal

abbrev pub invariant-loop-column : goal.invariant-loop-column
invariant-loop-column l = l.made.items ≡ l.initial.made.items ++ map (partial_product l.row) (range_with_len 0 l.column)
