use Rattle.std.proofs.Common.{◌≡◌, take, filter}
use Rattle.circuits.specs.Cone.{is_in_cone}
use Rattle.netlist.proofs.cone.cone_of.Given as goal

abbrev pub invariant-loop-net : goal.invariant-loop-net
invariant-loop-net l = l.gates.items ≡ filter (is_in_cone l.nets l.from) (take l.net-index l.order)
