use Rattle.std.proofs.Common.{◌≡◌, ◌==◌, ℕ, ◌+◌, ◌&&◌, ◌||◌, nat_lt, nat_cmp, slice_index, take}
use Rattle.std.specs.BTreeSet.{contains}
use Rattle.netlist.specs.Inside.Waiting.{count_of}
use Rattle.netlist.proofs.order.release.Given as goal

abbrev pub invariant-loop-reader : goal.invariant-loop-reader
invariant-loop-reader l = record {
  waiting : (net : ℕ) → slice_index l.waiting net + count_of (take l.reader-index l.readers) net ≡ slice_index l.fn.waiting net;
  ready : (net : ℕ) → contains nat_cmp l.ready net ≡ (contains nat_cmp l.fn.ready net || (nat_lt 0 (count_of (take l.reader-index l.readers) net) && slice_index l.waiting net == 0));
}
