-- How a netlist keeps its circuit.
use Rattle.std.specs.Prelude.{ℕ, List, map, String, string_bytes}
use Rattle.std.specs.declared.alloc.Global.{Global}
use Rattle.circuits.specs.Circuit.{Circuit, Gate}
use Rattle.netlist.specs.declared.nets.NetGate.{NetGate}

abbrev pub net_gate_kept : NetGate → Gate
net_gate_kept gate = record { name = string_bytes gate.name; word = gate.word; inputs = gate.inputs.items }

abbrev pub circuit_kept : List (String Global) → List NetGate → List ℕ → Circuit
circuit_kept inputs gates outputs = record { inputs = map string_bytes inputs; gates = map net_gate_kept gates; outputs = outputs }
