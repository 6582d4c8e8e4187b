use Rattle.std.proofs.Common.{◌≡◌, ℕ, ◌+◌, ◌<◌, not, ◌&&◌, ◌||◌, length, take, count_by}
use Rattle.circuits.specs.Order.{is_among}
use Rattle.circuits.specs.Valuation.{bit_of}
use Rattle.netlist.proofs.cone.mark_all.Given as goal

abbrev pub invariant-loop-net : goal.invariant-loop-net
invariant-loop-net l = record {
  marks : (net : ℕ) → net < length l.fn.marks → bit_of l.marks net ≡ (bit_of l.fn.marks net || is_among (take l.net-index l.nets) net);
  unvisited : (net : ℕ) → is_among l.unvisited.items net ≡ (is_among l.fn.unvisited.items net || (is_among (take l.net-index l.nets) net && not (bit_of l.fn.marks net)));
  work : length l.unvisited.items + count_by not l.marks ≡ length l.fn.unvisited.items + count_by not l.fn.marks;
}
