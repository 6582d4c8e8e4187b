use Rattle.std.proofs.Common.{◌≡◌, drop}
use Rattle.spec_grammar.specs.Faults.{has_repetition}
use Rattle.spec_reader.proofs.nets.has_repetition.Given as goal

abbrev pub invariant-loop-at : goal.invariant-loop-at
invariant-loop-at l = has_repetition (drop l.at l.nets) ≡ has_repetition l.nets
