use Rattle.std.proofs.Common.{◌+◌, arith}
use Rattle.multiplier.specs.Adders.{adder}
use Rattle.multiplier.proofs.Ranges.{flat_map-more}
use Rattle.multiplier.proofs.adders.push_adder_row.Goals as goal

pub loop-column-preserved : goal.loop-column-preserved
loop-column-preserved c =
    flat_map-more (adder c.args.size c.args.row) 0 c.loop-column.column (c.loop-column.column + 1) c.loop-column.column _ _ _
    (omega arith) (omega arith) c.loop-column.invariant c.in_ok-push_adder.ensures
