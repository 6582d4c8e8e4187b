use Rattle.std.proofs.Common.{◌≡◌, map, take}
use Rattle.std.specs.HashMap.{get_by_text}
use Rattle.netlist.specs.Finish.{numbered_by}
use Rattle.netlist.specs.Inside.LookUp.{number_in}
use Rattle.netlist.specs.Inside.Kept.{net_gate_kept}
use Rattle.netlist.specs.Inside.Maker.{gate_kept}
use Rattle.netlist.proofs.finish.numbered_gates.Given as goal

abbrev pub invariant-loop-gate : goal.invariant-loop-gate
invariant-loop-gate l = map net_gate_kept l.numbered.items ≡ map (numbered_by (number_in l.inputs (get_by_text l.sources))) (map gate_kept (take l.gate-index l.gates))
