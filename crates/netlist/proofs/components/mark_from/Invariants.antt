use Rattle.std.proofs.Common.{◌+◌, not, count_by, length}
use Rattle.netlist.proofs.Marking.{Walk, Listed, Led}
use Rattle.netlist.specs.Inside.Waiting.{list_at}
use Rattle.netlist.proofs.components.mark_from.Given as goal

abbrev pub invariant-loop-other : goal.invariant-loop-other
invariant-loop-other l = Walk (list_at l.lists) (Listed (list_at l.lists) l.fn.marks l.net) (Led (list_at l.lists) l.fn.marks l.net) (length l.fn.marks) l.marks l.unvisited.items

-- each visit takes one from these, and a mark moves one
abbrev pub decreases-loop-other : goal.decreases-loop-other
decreases-loop-other l = length l.unvisited.items + count_by not l.marks
