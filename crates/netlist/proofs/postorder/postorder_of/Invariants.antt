use Rattle.std.proofs.Common.{◌≡◌, ℕ, ◌<◌, true, []}
use Rattle.netlist.specs.Inside.Postorder.{IsWalk}
use Rattle.circuits.specs.Valuation.{bit_of}
use Rattle.netlist.proofs.postorder.postorder_of.Given as goal

abbrev pub invariant-loop-net : goal.invariant-loop-net
invariant-loop-net l = record {
  walk : IsWalk l.nets l.seen.items l.order.items [];
  each : (other : ℕ) → other < l.net → bit_of l.seen.items other ≡ true;
}
