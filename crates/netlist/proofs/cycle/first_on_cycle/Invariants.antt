use Rattle.std.proofs.Common.{◌≡◌, map, filter}
use Rattle.std.specs.List.{range_with_len}
use Rattle.circuits.specs.Circuit.{input_count}
use Rattle.netlist.specs.Finish.{least, call_of}
use Rattle.circuits.specs.Cone.{reaches_itself}
use Rattle.netlist.specs.Inside.Maker.{gate_kept}
use Rattle.netlist.proofs.cycle.first_on_cycle.Given as goal

abbrev pub invariant-loop-place : goal.invariant-loop-place
invariant-loop-place l = l.first ≡ least (map (call_of (input_count l.nets) (map gate_kept l.gates)) (filter (reaches_itself l.nets) (range_with_len (input_count l.nets) l.place)))
