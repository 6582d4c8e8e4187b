use Rattle.std.proofs.Common.{◌+◌, ◌-◌, arith}
use Rattle.multiplier.specs.Adders.{adder_row}
use Rattle.multiplier.proofs.Ranges.{flat_map-more}
use Rattle.multiplier.proofs.adders.push_adders.Goals as goal

pub loop-row-preserved : goal.loop-row-preserved
loop-row-preserved c =
    let row = c.loop-row.row in
    flat_map-more (adder_row c.args.size) 1 (row - 1) (row + 1 - 1) row _ _ _
    (omega arith) (omega arith) c.loop-row.invariant c.in_ok-push_adder_row.ensures
