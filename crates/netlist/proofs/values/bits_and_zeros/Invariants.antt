use Rattle.std.proofs.Common.{◌≡◌, ℕ, ◌<◌, length}
use Rattle.circuits.specs.Valuation.{bit_of}
use Rattle.netlist.proofs.values.bits_and_zeros.Given as goal

abbrev pub invariant-loop-place : goal.invariant-loop-place
invariant-loop-place l = record {
  long : length l.values.items ≡ l.count;
  bits : (net : ℕ) → net < l.place → bit_of l.values.items net ≡ bit_of l.bits net;
}
