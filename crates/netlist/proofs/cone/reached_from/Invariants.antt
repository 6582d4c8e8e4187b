use Rattle.std.proofs.Common.{◌+◌, not, count_by, length}
use Rattle.netlist.proofs.ConeWalks.{ConeWalk}
use Rattle.netlist.proofs.cone.reached_from.Given as goal

abbrev pub invariant-loop-net : goal.invariant-loop-net
invariant-loop-net l = ConeWalk l.nets l.from l.marks.items l.unvisited.items

-- each visit takes one from these, and a mark moves one
abbrev pub decreases-loop-net : goal.decreases-loop-net
decreases-loop-net l = length l.unvisited.items + count_by not l.marks.items
