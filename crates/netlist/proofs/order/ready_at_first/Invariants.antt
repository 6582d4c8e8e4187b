use Rattle.std.proofs.Common.{◌≡◌, ◌==◌, ℕ, ◌&&◌, nat_le, nat_lt, nat_cmp, slice_index}
use Rattle.std.specs.BTreeSet.{contains}
use Rattle.circuits.specs.Circuit.{input_count}
use Rattle.netlist.proofs.order.ready_at_first.Given as goal

abbrev pub invariant-loop-net : goal.invariant-loop-net
invariant-loop-net l = (k : ℕ) → contains nat_cmp l.ready k ≡ (nat_le (input_count l.nets) k && nat_lt k l.net && slice_index l.waiting k == 0)
