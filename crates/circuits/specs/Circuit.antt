-- A combinational netlist as plain data. Nets are numbered with the inputs first, in order, and then the gates, in order.
use Rattle.std.specs.Prelude.{ℕ, ◌+◌, ◌-◌, ◌<◌, ◌≤◌, List, [], ◌++◌, map, length, nat_lt, if◌then◌else◌, slice_get, slice_index_or, Option, None}
use Rattle.std.specs.Option.{option_map_or}
use Rattle.std.specs.List.{range_with_len}
use Rattle.circuits.specs.declared.gate_word.GateWord.{GateWord}

-- a gate: the bytes of its net's name, what it computes, and the numbers of the nets that it reads
pub record Gate : Type 0 where
  pub name : List ℕ
  pub word : GateWord
  pub inputs : List ℕ

-- the names of the inputs, the gates, and the numbers of the nets that are outputs
pub record Circuit : Type 0 where
  pub inputs : List (List ℕ)
  pub gates : List Gate
  pub outputs : List ℕ

abbrev pub input_count : Circuit → ℕ
input_count c = length c.inputs

abbrev pub net_count : Circuit → ℕ
net_count c = length c.inputs + length c.gates

-- the net is a gate's, and no input
abbrev pub IsGate : Circuit → ℕ → Type 0
IsGate c net = (input_count c ≤ net) × (net < net_count c)

-- the nets of the gates, in order
abbrev pub gate_nets : Circuit → List ℕ
gate_nets c = range_with_len (input_count c) (length c.gates)

-- the gate of a net, and none for an input
abbrev pub gate_of : Circuit → ℕ → Option Gate
gate_of c net = if nat_lt net (input_count c) then None else slice_get c.gates (net - input_count c)

-- the nets that a net's gate reads, and none for an input
abbrev pub fanin : Circuit → ℕ → List ℕ
fanin c net = option_map_or (λ gate. gate.inputs) (gate_of c net) []

abbrev pub name_of : Circuit → ℕ → List ℕ
name_of c net = slice_index_or (c.inputs ++ map (λ gate. gate.name) c.gates) net []
