-- How a maker keeps its draft.
use Rattle.std.specs.Prelude.{◌≡◌, ℕ, ◌≤◌, Bool, List, map, length, All, Option, String, string_bytes}
use Rattle.std.specs.declared.alloc.Global.{Global}
use Rattle.netlist.specs.Draft.{Draft, GateLine, OutputLine, is_output}
use Rattle.circuits.specs.Limits.{AcceptsArity, IsShort}
use Rattle.circuits.specs.declared.limits.TheConstants.{MOST_INPUTS, MOST_GATES, MOST_FANIN}
use Rattle.netlist.specs.Inside.Source.{FindsNames}
use Rattle.netlist.specs.declared.draft.DraftGate.{DraftGate}
use Rattle.netlist.specs.declared.draft.DraftOutput.{DraftOutput}
use Rattle.netlist.specs.declared.source.Source.{Source}

-- what is kept of a gate, and of an output
abbrev pub gate_kept : DraftGate → GateLine
gate_kept gate = record { call = gate.call; name = string_bytes gate.name; word = gate.word; inputs = map string_bytes gate.inputs.items }

abbrev pub output_kept : DraftOutput → OutputLine
output_kept output = record { call = output.call; name = string_bytes output.name }

abbrev pub drafted : ℕ → List (String Global) → List DraftGate → List DraftOutput → Draft
drafted calls inputs gates outputs = record { calls = calls; inputs = map string_bytes inputs; gates = map gate_kept gates; outputs = map output_kept outputs }

pub record IsSizedLine (line : GateLine) : Type 0 where
  pub name : IsShort line.name
  pub arity : AcceptsArity line.word (length line.inputs)
  pub fanin : length line.inputs ≤ MOST_FANIN

-- a draft within the limits, with its names and its outputs where they are looked up
pub record IsKept (d : Draft) (found : List ℕ → Option Source) (is_named : List ℕ → Bool) : Type 0 where
  pub inputs : length d.inputs ≤ MOST_INPUTS
  pub gates : length d.gates ≤ MOST_GATES
  pub each_input : All IsShort d.inputs
  pub each_gate : All IsSizedLine d.gates
  pub sources : FindsNames d.inputs (map (λ line. line.name) d.gates) found
  pub outputs : (name : List ℕ) → is_named name ≡ is_output d name
