use Rattle.std.proofs.Common.{◌≡◌, ℕ, [], length}
use Rattle.netlist.specs.Inside.Waiting.{list_at}
use Rattle.netlist.proofs.order.empty_lists.Given as goal

abbrev pub invariant-loop : goal.invariant-loop
invariant-loop l = (length l.lists.items ≡ l.counter) × ((net : ℕ) → list_at l.lists.items net ≡ [])
