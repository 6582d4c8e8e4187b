use Rattle.std.proofs.Common.{◌+◌, arith}
use Rattle.multiplier.specs.Adders.{partial_row}
use Rattle.multiplier.proofs.Ranges.{flat_map-more}
use Rattle.multiplier.proofs.adders.push_partial_products.Goals as goal

pub loop-row-preserved : goal.loop-row-preserved
loop-row-preserved c =
    flat_map-more (partial_row c.args.size) 0 c.loop-row.row (c.loop-row.row + 1) c.loop-row.row _ _ _
    (omega arith) (omega arith) c.loop-row.invariant c.in_ok-push_partial_row.ensures
