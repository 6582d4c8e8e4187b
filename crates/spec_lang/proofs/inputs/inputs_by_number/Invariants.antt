use Rattle.spec_lang.proofs.Placed.{ArePlaced}
use Rattle.spec_lang.proofs.inputs.inputs_by_number.Given as goal

abbrev pub invariant-loop-level : goal.invariant-loop-level
invariant-loop-level l = ArePlaced l.order l.at l.level l.inputs
