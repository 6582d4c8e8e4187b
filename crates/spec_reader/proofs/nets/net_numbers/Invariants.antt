use Rattle.std.proofs.Common.{◌≡◌, map, drop}
use Rattle.spec_reader.proofs.NetLemmas.{all_numbers, behind}
use Rattle.spec_reader.proofs.nets.net_numbers.Given as goal

abbrev pub invariant-loop-name : goal.invariant-loop-name
invariant-loop-name l = behind l.numbers.items (all_numbers l.netlist (drop l.name-index (map (λ name. name.now) l.names))) ≡ all_numbers l.netlist (map (λ name. name.now) l.names)
