use Rattle.std.proofs.Common.{◌≡◌, ◌++◌, take}
use Rattle.std.specs.List.{flat_map}
use Rattle.std.specs.String.{string_bytes}
use Rattle.multiplier.specs.Texts.{gate_line}
use Rattle.multiplier.proofs.texts.push_gates.Given as goal

abbrev pub invariant-loop-gate : goal.invariant-loop-gate
invariant-loop-gate l = string_bytes l.text ≡ string_bytes l.initial.text ++ flat_map gate_line (take l.gate-index l.gates)
