use Rattle.std.proofs.Common.{◌≡◌, map, take, string_bytes}
use Rattle.std.specs.HashMap.{get_by_text}
use Rattle.netlist.specs.Inside.LookUp.{number_in}
use Rattle.netlist.proofs.finish.numbers_of.Given as goal

abbrev pub invariant-loop-name : goal.invariant-loop-name
invariant-loop-name l = l.numbers.items ≡ map (number_in l.inputs (get_by_text l.sources)) (map string_bytes (take l.name-index l.names))
