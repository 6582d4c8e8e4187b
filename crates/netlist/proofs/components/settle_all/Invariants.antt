use Rattle.std.proofs.Common.{length}
use Rattle.netlist.proofs.Kosaraju.{Settling}
use Rattle.netlist.proofs.components.settle_all.Given as goal

abbrev pub invariant-loop-net : goal.invariant-loop-net
invariant-loop-net l = Settling l.nets l.order.items l.settled.items l.alone.items

abbrev pub decreases-loop-net : goal.decreases-loop-net
decreases-loop-net l = length l.order.items
