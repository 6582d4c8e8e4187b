use Rattle.std.proofs.Common.{◌≡◌, ℕ, ◌<◌, [], length, slice_index}
use Rattle.netlist.specs.Inside.Waiting.{open_inputs}
use Rattle.netlist.proofs.order.waiting_of.Given as goal

abbrev pub invariant-loop-net : goal.invariant-loop-net
invariant-loop-net l = (length l.waiting.items ≡ l.net) × ((k : ℕ) → k < l.net → slice_index l.waiting.items k ≡ open_inputs l.nets [] k)
