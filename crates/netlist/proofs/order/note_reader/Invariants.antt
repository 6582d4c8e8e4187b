use Rattle.std.proofs.Common.{take}
use Rattle.netlist.specs.Inside.Waiting.{HasReader}
use Rattle.netlist.proofs.order.note_reader.Given as goal

abbrev pub invariant-loop-input : goal.invariant-loop-input
invariant-loop-input l = HasReader l.fn.readers l.readers l.reader (take l.input-index l.inputs)
