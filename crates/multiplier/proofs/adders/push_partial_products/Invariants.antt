use Rattle.std.proofs.Common.{◌≡◌, ◌++◌}
use Rattle.std.specs.List.{flat_map, range_with_len}
use Rattle.multiplier.specs.Adders.{partial_row}
use Rattle.multiplier.proofs.adders.push_partial_products.Given as goal

abbrev pub invariant-loop-row : goal.invariant-loop-row
invariant-loop-row l = l.made.items ≡ l.initial.made.items ++ flat_map (partial_row l.size) (range_with_len 0 l.row)
