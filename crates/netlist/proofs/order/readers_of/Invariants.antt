use Rattle.std.proofs.Common.{◌≡◌, ℕ, ◌<◌, nat_lt, length, if◌then◌else◌}
use Rattle.circuits.specs.Circuit.{net_count, fanin}
use Rattle.netlist.specs.Inside.Waiting.{count_of, list_at}
use Rattle.netlist.proofs.order.readers_of.Given as goal

abbrev pub invariant-loop-net : goal.invariant-loop-net
invariant-loop-net l = record {
  length : length l.readers.items ≡ net_count l.nets;
  counts : (net reader : ℕ) → net < net_count l.nets → count_of (list_at l.readers.items net) reader ≡ (if nat_lt reader l.net then count_of (fanin l.nets reader) net else 0);
}
