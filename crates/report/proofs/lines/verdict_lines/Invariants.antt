use Rattle.std.proofs.Common.{◌≡◌, map, take}
use Rattle.std.specs.String.{string_bytes}
use Rattle.report.specs.Lines.{report}
use Rattle.circuits.specs.Circuit.{name_of}
use Rattle.report.proofs.lines.verdict_lines.Given as goal

abbrev pub invariant-loop-place : goal.invariant-loop-place
invariant-loop-place l = string_bytes l.text ≡ report (map (name_of l.netlist) l.order) (take l.place l.verdicts)
