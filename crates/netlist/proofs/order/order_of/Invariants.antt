use Rattle.std.proofs.Common.{◌≡◌, ◌-◌, length, nat_cmp, slice_index}
use Rattle.std.specs.BTreeSet.{contains}
use Rattle.netlist.proofs.Kahn.{Kahn}
use Rattle.circuits.specs.Circuit.{net_count}
use Rattle.netlist.proofs.order.order_of.Given as goal

abbrev pub invariant-loop-net : goal.invariant-loop-net
invariant-loop-net l = record {
  kahn : Kahn l.nets l.order.items (slice_index l.waiting.items) (contains nat_cmp l.ready);
  waiting : length l.waiting.items ≡ net_count l.nets;
}

abbrev pub decreases-loop-net : goal.decreases-loop-net
decreases-loop-net l = length l.nets.gates - length l.order.items
