use Rattle.std.proofs.Common.{◌≡◌, ℕ, true}
use Rattle.netlist.proofs.DepthFirst.{work}
use Rattle.netlist.specs.Inside.Postorder.{IsWalk}
use Rattle.circuits.specs.Valuation.{bit_of}
use Rattle.netlist.proofs.postorder.walk_from.Given as goal

abbrev pub invariant-loop-visit : goal.invariant-loop-visit
invariant-loop-visit l = record {
  walk : IsWalk l.nets l.seen l.order.items l.visits.items;
  seen : bit_of l.seen l.net ≡ true;
  kept : (other : ℕ) → bit_of l.fn.seen other ≡ true → bit_of l.seen other ≡ true;
}

abbrev pub decreases-loop-visit : goal.decreases-loop-visit
decreases-loop-visit l = work l.seen l.visits.items
