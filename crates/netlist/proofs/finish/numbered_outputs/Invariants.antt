use Rattle.std.proofs.Common.{◌≡◌, map, take}
use Rattle.std.specs.HashMap.{get_by_text}
use Rattle.netlist.specs.Inside.LookUp.{number_in}
use Rattle.netlist.specs.Inside.Maker.{output_kept}
use Rattle.netlist.proofs.finish.numbered_outputs.Given as goal

abbrev pub invariant-loop-output : goal.invariant-loop-output
invariant-loop-output l = l.numbers.items ≡ map (λ line. number_in l.inputs (get_by_text l.sources) line.name) (map output_kept (take l.output-index l.outputs))
