use Rattle.netlist.proofs.OrderedValues.{SettledTo}
use Rattle.netlist.proofs.values.settle.Given as goal

-- the inputs keep their bits, and each gate that has come has its value
abbrev pub invariant-loop-net : goal.invariant-loop-net
invariant-loop-net l = SettledTo l.nets l.order l.fn.values l.values l.net-index
