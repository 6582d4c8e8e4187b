use Rattle.netlist.proofs.components.off_cycles.Goals as goal

pub settle_all-requires-clause-counts : goal.settle_all-requires-clause-counts
settle_all-requires-clause-counts c = rw c.deref.ensures.value c.in_ok-readers.ensures.counts
